-- A delivery, case by case.
use Rattle.std.specs.Prelude.{None, Option, Some}
use Rattle.std.specs.Prelude.{◌≡◌, refl, Bool, true, false, ℕ, ◌≤◌, ◌<◌, length, eqb}
use Rattle.std.proofs.Math.Option.{some}
use Rattle.std.proofs.Common.{le-leb}
use Rattle.std.proofs.lemmas.Bool.{lt-leb}
use Rattle.rules.specs.Table.{get}
use Rattle.rules.specs.Plan.{node_of}
use Rattle.rules.specs.Operators.{Source}
use Rattle.rules.specs.Machine.{Machine, Read, no_read, source_at, set_source, zeroed}
use Rattle.rules.specs.Wake.{make_runnable}
use Rattle.rules.specs.Scan.{Answer, says, refuses, Delivered, ok, brought, bring, delivered, faulted, delivering}
use Rattle.numbers.specs.Opt.{option_of}
use Rattle.laws.specs.Table.{clash}
use Rattle.laws.specs.Rows.{All-get}
use Rattle.order.specs.Ranged.{Ranged}

-- the bytes reach a pipeline
pub bring_some : (p : ℕ) (x y : Source) (m n k : Machine) → x ≡ source_at m p → y ≡ brought x → n ≡ set_source p y m → k ≡ make_runnable p n → k ≡ bring (some p) m
unfolding bring
bring_some p x y m n k e d q w = rw (w, q, d, e)

pub bring_none : (x : Option ℕ) (m : Machine) → x ≡ None → m ≡ bring (option_of x) m
unfolding bring
bring_none x m e = rw e

pub bring_one : (x : Option ℕ) (p w : ℕ) (m n : Machine) → x ≡ Some p → w ≡ p → n ≡ bring (some w) m → n ≡ bring (option_of x) m
bring_one x p w m n e d q = rw e (rw d at q)

-- the pipeline that waits for a read has its place
pub owner_bound : (i p : ℕ) (x : Read) (m : Machine) → Ranged m → i < length m.reads → x ≡ get no_read m.reads i → x.owner ≡ some p → p < 96
owner_bound i p x m r h e d = All-get (λ (r : Read). (q : ℕ) → r.owner ≡ some q → q < 96) no_read m.reads i r.lists.owners h p (rw e at d)

-- "a full table in a hand-made state", or not
pub faulted_yes : (m n : Machine) → m.fault ≡ true → n ≡ zeroed → ◌≡◌ {A = Answer Delivered} (refuses 14 n) (faulted m)
faulted_yes m n e z = rw z (by m.fault e)
  where
    by : (b : Bool) → b ≡ true → ◌≡◌ {A = Answer Delivered} (refuses 14 zeroed) (elim b [ true ↦ refuses 14 zeroed | false ↦ says ok m ])
    by true d = refl
    by false d = clash (cc)

pub faulted_no : (m : Machine) → m.fault ≡ false → says ok m ≡ faulted m
faulted_no m e = by m.fault e
  where
    by : (b : Bool) → b ≡ false → says ok m ≡ elim b [ true ↦ refuses 14 zeroed | false ↦ says ok m ]
    by true d = clash (cc)
    by false d = refl

-- 10: never made, or delivered
pub never_made : (r n : ℕ) (m : Machine) → length m.reads ≤ r → ◌≡◌ {A = Answer Delivered} (refuses 10 m) (delivering r n m)
unfolding delivering
never_made r n m h = rw (le-leb (length m.reads) r h)

pub was_delivered : (r n : ℕ) (x : Read) (m : Machine) → r < length m.reads → x ≡ get no_read m.reads r → x.delivered ≡ true →
    ◌≡◌ {A = Answer Delivered} (refuses 10 m) (delivering r n m)
unfolding delivering
was_delivered r n x m h e d = rw (lt-leb (length m.reads) r h, ← e, d)

-- 11
pub wrong_rows : (r n k : ℕ) (x : Read) (m : Machine) → r < length m.reads → x ≡ get no_read m.reads r → x.delivered ≡ false →
    k ≡ (node_of m.job x.leaf).rows → eqb k n ≡ false
    → ◌≡◌ {A = Answer Delivered} (refuses 11 m) (delivering r n m)
unfolding delivering
wrong_rows r n k x m h e d q w = let z : eqb (node_of m.job x.leaf).rows n ≡ false = rw (← q) w in rw (lt-leb (length m.reads) r h, ← e, d, z)

-- accepted
pub right_rows : (r n k : ℕ) (x : Read) (a : Answer Delivered) (m j : Machine) → r < length m.reads → x ≡ get no_read m.reads r →
    x.delivered ≡ false → k ≡ (node_of m.job x.leaf).rows → eqb k n ≡ true
    → j ≡ delivered r x m → a ≡ faulted j → a ≡ delivering r n m
unfolding delivering
right_rows r n k x a m j h e d q w u v =
    let z : eqb (node_of m.job x.leaf).rows n ≡ true = rw (← q) w in
    rw (v, u, lt-leb (length m.reads) r h, ← e, d, z)
