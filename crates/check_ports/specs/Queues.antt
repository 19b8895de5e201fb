-- What a shared port may hold, and queues without batches.
use Rattle.std.specs.Prelude.{ℕ, ◌+◌, ◌-◌, ◌/◌, ◌≤◌, ◌<◌, ◌≡◌, Bool, true, false, ◌&&◌, ◌||◌, leb, ltb, length, get_or}
use Rattle.std.proofs.Common.{arith, true≢false, eq-eqb}
use Rattle.std.proofs.Math.Path.{refl}
use Rattle.std.proofs.lemmas.Bool.{false≢true}
use Rattle.std.proofs.Math.Bool.{and-true}
use mathlib.Core.List.{List, [], ◌∷◌}
use Rattle.rules.specs.Table.{is_empty, all}
use Rattle.rules.specs.Plan.{node_of}
use Rattle.rules.specs.Port.{Batch}
use Rattle.rules.specs.Machine.{Machine, port_at, queue_at}
use Rattle.rules.specs.Check.{whole_batch, queue_ok}
use Rattle.layout.specs.Numbers.{flag}
use Rattle.tables.specs.View.{share_from, view, Sized}
use Rattle.tables.specs.Queues.{share_loaded}

-- the whole segment or nothing is whole where the leaf has rows
share_whole : (m : Machine) (i : ℕ) (f : Bool)
    → (leb (length (share_from m.job i f)) 1 && all (whole_batch m (i / 16)) (share_from m.job i f))
    ≡ (is_empty (share_from m.job i f) || ltb 0 (node_of m.job (i / 16)).rows)
unfolding share_from all is_empty
share_whole m i true =
    let n = node_of m.job (i / 16) in
    rw (
      eq-eqb n.rows n.rows refl,
      eq-eqb n.segment n.segment refl,
      and-true (ltb 0 n.rows),
      and-true (ltb 0 n.rows),
      and-true (ltb 0 n.rows),
    )
share_whole m i false = refl

-- of port x
pub whole_is : (s : List ℕ) → Sized s → (x : ℕ) → 72 ≤ x → x < 456
    → (leb (length (queue_at (view s) x)) 1 && all (whole_batch (view s) ((x - 72) / 16)) (queue_at (view s) x))
    ≡ (is_empty (queue_at (view s) x) || ltb 0 (node_of (view s).job ((x - 72) / 16)).rows)
whole_is s z x l h =
    let e : 72 + (x - 72) ≡ x = omega arith in
    let q = share_loaded s z (x - 72) (omega arith) in
    let r = rw e at q in
    rw r (share_whole (view s) (x - 72) (flag (get_or s (17631 + (x - 72)) 0)))

module _ (m : Machine) (x : ℕ) where
  -- of an empty queue nothing is asked
  pub idle_ok : (q : List Batch) → is_empty q ≡ true → queue_ok m x q ≡ true
  unfolding is_empty queue_ok
  idle_ok [] e = refl
  idle_ok (b ∷ q) e = absurd (false≢true e)

  pub no_queue_ok : (q : List Batch) → q ≡ [] → queue_ok m x q ≡ true
  unfolding queue_ok
  no_queue_ok q e = rw e

  -- of another that its port is in use
  pub busy_ok : (q : List Batch) → is_empty q ≡ false → queue_ok m x q ≡ (port_at m x).there
  unfolding is_empty queue_ok
  busy_ok [] e = absurd (true≢false e)
  busy_ok (b ∷ q) e = refl
