-- Leaves of one segment: what is said of the segment is said of each.
use Rattle.std.specs.Prelude.{◌≡◌, true, List, [], ◌∷◌, ℕ, length, eqb}
use Rattle.std.proofs.Common.{eqb-true}
use Rattle.rules.specs.Table.{has, up_from}
use Rattle.rules.specs.Job.{Job}
use Rattle.rules.specs.Plan.{node_of, is_leaf, leaves, leaves_of}
use Rattle.laws.specs.Table.{by_bool}
use Rattle.laws.specs.Rows.{All}
use Rattle.laws.specs.Rising.{has_head}
use Rattle.order.specs.KeptKids.{filter_has}

-- all members
pub all_has {ℓ} : (P : ℕ → Type ℓ) (xs : List ℕ) → ((x : ℕ) → has x xs ≡ true → P x) → All P xs
unfolding has
all_has P [] h = tt
all_has P (x ∷ xs) h = (h x (has_head x xs), all_has P xs (λ y e. h y (by_bool (eqb y x) (λ d. rw d) (λ d. rw d e))))

module _ (j : Job) (l g : ℕ) where
  -- a leaf of g's segment
  pub leaf_of : has l (leaves_of j g) ≡ true → (is_leaf j l ≡ true) × ((node_of j l).segment ≡ (node_of j g).segment)
  leaf_of h =
      let y = filter_has (λ i. eqb (node_of j i).segment (node_of j g).segment) (leaves j) l h in
      ((filter_has (is_leaf j) (up_from 0 (length j.nodes)) l y.0).1, eqb-true (node_of j l).segment (node_of j g).segment y.1)
