-- The front batch of a queue.
use Rattle.std.specs.Prelude.{◌≡◌, refl, ◌≢◌, Bool, true, false, not, List, [], ◌∷◌, ℕ, ◌+◌, ◌-◌, ◌/◌, ◌≤◌, ◌<◌, length, drop, get_or, if◌then◌else◌, Result}
use Rattle.std.specs.Result.{result_unwrap_or}
use Rattle.std.proofs.Common.{sym, ap, ◌∙◌, true≢false, arith, eq-eqb, ne_eqb}
use Rattle.std.proofs.lemmas.Bool.{false≢true}
use Rattle.rules.specs.Table.{get, is_empty}
use Rattle.rules.specs.Job.{Job}
use Rattle.rules.specs.Port.{Batch, no_batch, behind, taken}
use Rattle.rules.specs.Operators.{end, final}
use Rattle.rules.specs.Machine.{Machine, queue_at, set_queue, fault_if}
use Rattle.rules.specs.Drive.{take_front}
use Rattle.layout.specs.Numbers.{flag}
use Rattle.batches.specs.declared.batch.Batch as code
use Rattle.batches.specs.Batch.{batch_of, fits, Behind}
use Rattle.tables.specs.View.{share_from, view, Sized}
use Rattle.tables.specs.Queues.{share_loaded}
use Rattle.table_ports.specs.Shares.{whole_batch}
use Rattle.source_steps.specs.Held.{unwrapped}

-- no batch
pub front_none : (x : ℕ) (q : List Batch) (m : Machine) → length q ≡ 0 → take_front x q m ≡ (end, fault_if true m)
unfolding take_front
front_none x [] m e = refl
front_none x (b ∷ q) m e = absurd (omega arith)

-- one at least
pub front_some : (x : ℕ) (q : List Batch) (m : Machine) → 0 < length q → take_front x q m ≡ (final (get no_batch q 0), set_queue x (drop 1 q) m)
unfolding take_front
front_some x [] m h = absurd (omega arith)
front_some x (b ∷ q) m h = refl

-- by a test of it
pub idle_length : (q : List Batch) (b : Bool) → b ≡ not (is_empty q) → b ≡ false → length q ≡ 0
unfolding is_empty
idle_length [] b e f = refl
idle_length (x ∷ q) b e f = absurd (true≢false (sym e ∙ f))

-- what a shared port holds
share_by : (j : Job) (i : ℕ) (f : Bool) → not (is_empty (share_from j i f)) ≡ true → share_from j i f ≡ whole_batch j (i / 16) ∷ []
unfolding share_from is_empty
share_by j i true e = refl
share_by j i false e = absurd (false≢true e)

pub share_whole : (s : List ℕ) (x : ℕ) (b : Bool) → Sized s → 72 ≤ x → x < 456 → b ≡ not (is_empty (queue_at (view s) x)) → b ≡ true →
    queue_at (view s) x ≡ whole_batch (view s).job ((x - 72) / 16) ∷ []
share_whole s x b z l h e f =
    let d : 72 + (x - 72) ≡ x = omega arith in
    let t = flag (get_or s (17631 + (x - 72)) 0) in
    let q : queue_at (view s) x ≡ share_from (view s).job (x - 72) t = rw d at (share_loaded s z (x - 72) (omega arith)) in
    q ∙ share_by (view s).job (x - 72) t (ap (λ (c : List Batch). not (is_empty c)) (sym q) ∙ sym e ∙ f)

-- and is taken whole
pub share_front : (m : Machine) (x : ℕ) (b : Batch) → queue_at m x ≡ b ∷ [] → take_front x (queue_at m x) m ≡ (final b, set_queue x [] m)
unfolding take_front
share_front m x b e = rw (e, take_front)

-- Rows of it

pub taken_all : (n : ℕ) (q : List Batch) (b : Batch) → 0 < length q → b ≡ get no_batch q 0 → b.rows ≡ n → drop 1 q ≡ taken n q
unfolding taken
taken_all n [] b h e f = absurd (omega arith)
taken_all n (c ∷ q) b h e f = let r : c.rows ≡ n = ap (λ (y : Batch). y.rows) (sym e) ∙ f in rw (eq-eqb c.rows n r, taken)

pub taken_some : (n : ℕ) (q : List Batch) (b : Batch) → 0 < length q → b ≡ get no_batch q 0 → (b.rows ≡ n → ⊥) → behind n b ∷ drop 1 q ≡ taken n q
unfolding taken
taken_some n [] b h e f = absurd (omega arith)
taken_some n (c ∷ q) b h e f =
    let r : c.rows ≢ n = λ t. f (ap (λ (y : Batch). y.rows) e ∙ t) in
    rw (ne_eqb c.rows n r, taken) (ap (λ (y : Batch). behind n y ∷ q) e)

-- what is left of it
pub left_is : (n : ℕ) (b c : code.Batch) (r : Result code.Batch code.Batch) (y f : Batch) → batch_of b ≡ f → fits n f ≡ true → Behind n b r
    → c ≡ result_unwrap_or r b → y ≡ batch_of c → y ≡ behind n f
left_is n b c r y f e h d u q =
    q ∙ ap batch_of (u ∙ unwrapped r b (d.ok ∙ ap (fits n) e ∙ h)) ∙ d.batch ∙ ap (λ (z : Batch). if fits n z then behind n z else z) e ∙ rw h
