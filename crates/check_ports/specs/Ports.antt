-- The test of a port, by whether it is in use.
use Rattle.std.specs.Prelude.{ℕ, ◌+◌, ◌*◌, ◌≤◌, ◌<◌, ◌≡◌, Bool, true, false, ◌&&◌, not, ltb, eqb, List, length}
use Rattle.std.proofs.Common.{arith, sym}
use Rattle.std.proofs.Math.Bool.{and-true, and_assoc}
use borrow.Author.Tests.{lt-ltb, le-leb, lt-leb}
use Rattle.rules.specs.Table.{get}
use Rattle.numbers.specs.Loops.{get_any}
use Rattle.rules.specs.Plan.{root_of}
use Rattle.rules.specs.Machine.{Machine, Port, pipe, no_port, node_at_place, slot_at_place}
use Rattle.rules.specs.Ports.{is_nobody}
use Rattle.rules.specs.Check.{is_active, place_ok, read_by, reader_ok, shared_ok, bounded_ok, port_ok}

module _ (m : Machine) (x : ℕ) (y : Port) where
  pub port_unused : y.there ≡ false → port_ok m x y ≡ is_nobody y.reader
  unfolding port_ok
  port_unused e = rw e

  -- no port passes
  pub port_none : y ≡ no_port → port_ok m x y ≡ true
  unfolding port_ok
  port_none e = rw e

-- one in use: its reader, and then its place and what it holds
module _ (m : Machine) (x : ℕ) (y : Port) (t : y.there ≡ true) where
  pub port_misread : false ≡ reader_ok m x y.reader → false ≡ port_ok m x y
  unfolding port_ok
  port_misread r = rw (t, ← r)

  pub port_of_slot : x < 72 → true ≡ reader_ok m x y.reader → bounded_ok m x ≡ port_ok m x y
  unfolding port_ok
  port_of_slot h r = rw (t, ← r, lt-leb 72 x h)

  pub port_shared : 72 ≤ x → true ≡ reader_ok m x y.reader → shared_ok m x ≡ port_ok m x y
  unfolding port_ok
  port_shared h r = rw (t, ← r, le-leb 72 x h)

-- one of a slot, by its place
module _ (m : Machine) (k n : ℕ) (a : k < 3) (b : n < 24) where
  pub node_at : node_at_place (k * 24 + n) ≡ n
  node_at = omega arith

  pub place_at : (ltb n (length m.job.nodes) && is_active m k) ≡ place_ok m (k * 24 + n)
  place_at =
      let e : slot_at_place (k * 24 + n) ≡ k = omega arith in
      rw (node_at, e, lt-ltb (k * 24 + n) 72 (omega arith))

-- an inlet's port, whatever stands past the last
pub inlet_any : (is : List ℕ) (i : ℕ) → i < length is → get 0 is i ≡ get 456 is i
inlet_any is i h = get_any 0 456 is i h

-- one that an inlet reads
module _ (m : Machine) (x p i : ℕ) where
  pub slot_inlet : x < 72 → (ltb p 72 && read_by m x p i && not (eqb (node_at_place x) (root_of m.job))) ≡ reader_ok m x (pipe p i)
  slot_inlet h = rw (lt-leb 72 x h)

  pub share_inlet : 72 ≤ x → (ltb p 72 && read_by m x p i) ≡ reader_ok m x (pipe p i)
  share_inlet h = rw (le-leb 72 x h, and-true (ltb p 72 && read_by m x p i))

-- a shared one, by its leaf and its split; then what writes it and what it holds
module _ (a b c d e : Bool) where
  pub shared_not : a ≡ false → false ≡ (a && b && c && d && e)
  shared_not p = rw p

  pub shared_on : a ≡ true → b ≡ true → (c && (d && e)) ≡ (a && b && c && d && e)
  shared_on p q = rw (p, q) (sym (and_assoc c d e))
