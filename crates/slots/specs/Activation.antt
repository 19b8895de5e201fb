-- A free slot and a next split: the split is lowered into the slot, or finished.
use Rattle.std.specs.Prelude.{◌≡◌, Bool, ℕ, suc, ◌+◌, ◌-◌, ◌*◌, ◌<◌, length}
use Rattle.std.proofs.Common.{sym, ◌∙◌, add-one, arith}
use Rattle.std.proofs.Math.Bool.{true, false}
use Rattle.std.proofs.Math.Option.{none, some}
use Rattle.rules.specs.Table.{put}
use Rattle.rules.specs.Plan.{root_of, keeps}
use Rattle.rules.specs.Machine.{Machine, slot, place, with_active, with_next}
use Rattle.rules.specs.Lower.{connect, lower_node}
use Rattle.rules.specs.Scan.{end_split, activate}
use Rattle.laws.specs.JobOk.{JobOk}
use Rattle.order.specs.Ranged.{Ranged}
use Rattle.order.specs.Ranging.{of_ranged, to_ranged}
use Rattle.order.specs.RangingCalls.{next_set}
use Rattle.order.specs.Lowers.{none_to}

-- the root of split t is in slot k, with all below it, and the slot reads it
abbrev pub lowered : ℕ → ℕ → Machine → Machine
lowered k t m = connect (place k (root_of m.job)) slot (lower_node (2 * length m.job.nodes) k t (root_of m.job) m)

-- and the slot has the split
abbrev pub placed : ℕ → ℕ → Machine → Machine
placed k t m = lowered k t (with_next (suc t) (with_active (put none m.active k (some t)) m))

pub lowered_is : (k t n x : ℕ) (m m₁ m₂ : Machine) → JobOk m.job → n ≡ root_of m.job → x ≡ place k n
    → ((f : ℕ) → n - 0 + (n - 0) < f → m₁ ≡ lower_node f k t n m) → m₂ ≡ connect x slot m₁ → m₂ ≡ lowered k t m
lowered_is k t n x m m₁ m₂ o a c d e =
    let l : m₁ ≡ lower_node (2 * length m.job.nodes) k t n m = d (2 * length m.job.nodes) (omega (arith, a, o.nodes_low)) in
    rw (e, l, c, a)

-- the job stays while the slot takes the split
pub placing_job : (k t : ℕ) (m m₁ m₂ : Machine) → JobOk m.job → m₁ ≡ with_active (put none m.active k (some t)) m → m₂ ≡ with_next (t + 1) m₁ →
    JobOk m₂.job
placing_job k t m m₁ m₂ o a b = rw (b, a) o

pub placed_is : (k t : ℕ) (m m₁ m₂ m₃ : Machine) → m₁ ≡ with_active (put none m.active k (some t)) m → m₂ ≡ with_next (t + 1) m₁ → m₃ ≡ lowered k t m₂ →
    m₃ ≡ placed k t m
placed_is k t m m₁ m₂ m₃ a b c = rw (c, b, a, add-one t)

pub skipped_is : (t : ℕ) (m m₁ m₂ : Machine) → m₁ ≡ with_next (t + 1) m → m₂ ≡ end_split t m₁ → m₂ ≡ end_split t (with_next (suc t) m)
skipped_is t m m₁ m₂ a c = rw (c, a, add-one t)

-- it is behind the next split, and the state in range
pub passed_ranged : (t : ℕ) (m m₁ : Machine) → Ranged m → t < length m.job.splits → m₁ ≡ with_next (t + 1) m → Ranged m₁
passed_ranged t m m₁ r h e = rw e (to_ranged (with_next (t + 1) m) (next_set ⊥ none_to m (t + 1) (omega arith) (of_ranged m r)))

-- The next split, which is t

pub next_low : (t : ℕ) (m : Machine) → t ≡ m.next → JobOk m.job → m.next < length m.job.splits → t < 16
next_low t m e o h = omega (arith, e, h, o.splits_high)

module _ (k t n : ℕ) (b : Bool) (m m' : Machine) (e : t ≡ m.next) (c : n ≡ root_of m.job) (d : b ≡ keeps m.job n t) where
  keeps_is : keeps m.job (root_of m.job) m.next ≡ b
  keeps_is = sym (rw (← e, ← c) d)

  pub activate_places : b ≡ true → m' ≡ placed k t m → m' ≡ activate k m
  unfolding activate
  activate_places i f = let w : keeps m.job (root_of m.job) m.next ≡ true = keeps_is ∙ i in rw (f, e, w, activate)

  pub activate_skips : b ≡ false → m' ≡ end_split t (with_next (suc t) m) → m' ≡ activate k m
  unfolding activate
  activate_skips i f = let w : keeps m.job (root_of m.job) m.next ≡ false = keeps_is ∙ i in rw (f, e, w, activate)
