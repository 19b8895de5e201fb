-- A leaf: its stage, and its source or the port that it claimed.
use Rattle.std.specs.Prelude.{◌≡◌, Bool, true, false, List, [], ◌∷◌, ℕ, ◌%◌}
use Rattle.std.proofs.Common.{sym, ap, ◌∙◌}
use Rattle.std.proofs.Math.Option.{Option, none, some}
use Rattle.rules.specs.Job as rule
use Rattle.rules.specs.Plan.{node_of, kept, is_whole}
use Rattle.rules.specs.Operators.{segment, concat}
use Rattle.rules.specs.Machine.{Machine, place}
use Rattle.rules.specs.Pipelines.{lay}
use Rattle.rules.specs.Shares.{claim}
use Rattle.rules.specs.Lower.{stage_for, lower_leaf, lower_kind}

-- the stage by its test
module _ (m : Machine) (t n : ℕ) (x : rule.Node) (rs : List rule.Run) (b : Bool) (e : x ≡ node_of m.job n) (f : rs ≡ kept m.job n t)
    (g : b ≡ is_whole x.rows rs) where
  whole_is : b ≡ is_whole (node_of m.job n).rows (kept m.job n t)
  whole_is = g ∙ rw (e, f)

  pub stage_none : b ≡ true → none ≡ stage_for m n t
  stage_none h = let u : is_whole (node_of m.job n).rows (kept m.job n t) ≡ true = sym whole_is ∙ h in rw u

  pub stage_some : b ≡ false → some 0 ≡ stage_for m n t
  stage_some h = let u : is_whole (node_of m.job n).rows (kept m.job n t) ≡ false = sym whole_is ∙ h in rw u

pub leaf_own : (p t : ℕ) (o : Option ℕ) (m : Machine) → o ≡ none → lay p (segment false false 0) none [] m ≡ lower_leaf p t (o, m)
unfolding lower_leaf
leaf_own p t o m e = rw (e, lower_leaf)

pub leaf_claimed : (p t n x : ℕ) (o : Option ℕ) (m : Machine) → o ≡ some x → p % 24 ≡ n → lay p (concat 0) (stage_for m n t) (x ∷ []) m ≡ lower_leaf p t (o, m)
unfolding lower_leaf
leaf_claimed p t n x o m e h = rw (e, lower_leaf, ← h)

pub leaf_is : (k t n : ℕ) (o : Option ℕ) (m m₁ m₂ : Machine) → claim (place k n) n t m ≡ (o, m₁) → m₂ ≡ lower_leaf (place k n) t (o, m₁) →
    m₂ ≡ lower_kind rule.segment k t n m
leaf_is k t n o m m₁ m₂ e f = f ∙ ap (lower_leaf (place k n) t) (sym e)
