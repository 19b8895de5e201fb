-- The test of a concat, and what it gives.
use Rattle.std.specs.Prelude.{◌≡◌, [], ◌∷◌, ℕ, suc, ◌-◌, min, length}
use Rattle.std.proofs.Common.{sym, ap, ◌∙◌, eq-eqb, ne_eqb}
use Rattle.rules.specs.Table.{get, up_from}
use Rattle.rules.specs.Operators.{SourceReady, Step, end, concat, concat_at, concat_ready}
use Rattle.rules.specs.Machine.{Machine, inlets_at, queue_at, shows, set_source}
use Rattle.rules.specs.Drive.{touch, test_concat, take_front, concat_step}

-- the test
module _ (m : Machine) (p i n at : ℕ) (c : n ≡ length (inlets_at m p)) (e : at ≡ concat_at (shows m p) (n - i) i) where
  pub test_ready : (r : SourceReady) → r ≡ concat_ready (shows m p) n at → r ≡ (test_concat p i m).0
  test_ready r q = q ∙ ap (concat_ready (shows m p) n) e ∙ ap (λ (k : ℕ). concat_ready (shows m p) k (concat_at (shows m p) (k - i) i)) c

  pub test_state : (m₁ m₂ : Machine) (k j : ℕ) → k ≡ at → j ≡ min (suc at) n → m₁ ≡ set_source p (concat k) m → m₂ ≡ touch p (up_from i (j - i)) m₁ →
      m₂ ≡ (test_concat p i m).1
  test_state m₁ m₂ k j a b d q = rw (q, d, b, a, e, c)

-- What it gives

-- past the last inlet
pub step_end : (m : Machine) (p i n : ℕ) → n ≡ length (inlets_at m p) → i ≡ n → (end, m) ≡ concat_step p i m
step_end m p i n c e = rw (eq-eqb i (length (inlets_at m p)) (e ∙ c), concat_step)

-- at an inlet, which is read
module _ (m m₁ : Machine) (p i n x : ℕ) (c : n ≡ length (inlets_at m p)) (h : i ≡ n → ⊥) (e : x ≡ get 0 (inlets_at m p) i) (q : m₁ ≡ touch p (i ∷ []) m) where
  step_is : take_front x (queue_at m₁ x) m₁ ≡ concat_step p i m
  step_is = rw (ne_eqb i (length (inlets_at m p)) (λ t. h (t ∙ sym c)), concat_step, q, e)

  pub step_front : (r : Step) → r ≡ (take_front x (queue_at m₁ x) m₁).0 → r ≡ (concat_step p i m).0
  step_front r t = t ∙ ap (λ (y : Step × Machine). y.0) step_is

  pub step_state : (m₂ : Machine) → m₂ ≡ (take_front x (queue_at m₁ x) m₁).1 → m₂ ≡ (concat_step p i m).1
  step_state m₂ t = t ∙ ap (λ (y : Step × Machine). y.1) step_is
