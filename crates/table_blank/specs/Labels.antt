-- The numbers of the nodes, behind the machine: what a store of them leaves.
use Rattle.std.specs.Prelude.{◌≡◌, refl, List, ℕ, length, take, drop}
use Rattle.std.proofs.Common.{sym, subst, arith}
use Rattle.layout.specs.Cut.{cut, splice, take_splice}
use Rattle.layout.specs.Stored.{Wrote, wrote}
use Rattle.tables.specs.View.{view, machine_len, state_len, Published}

-- t is s with these 24 numbers behind the machine, which stays, as does what lies past them
pub record Labelled (labels s t : List ℕ) : Type 0 where
  pub machine : view t ≡ view s
  pub front : take machine_len t ≡ take machine_len s
  pub own : take 24 (drop machine_len t) ≡ labels
  pub past : drop state_len t ≡ drop state_len s

module _ (labels s : List ℕ) (z : Published s) (l : length labels ≡ 24) where
  -- s with them
  abbrev after : List ℕ
  after = splice s machine_len 24 labels

  stays : Wrote 39327 39351 s after labels
  stays = wrote 39327 39351 s labels (omega arith) z l

  same_machine : view after ≡ view s
  unfolding view
  same_machine = simp stays.others

  numbers : take 24 (drop machine_len after) ≡ labels
  unfolding cut
  numbers = stays.own

  labels_stored : Labelled labels s after
  labels_stored = record {
    machine = same_machine;
    front = take_splice machine_len s machine_len 24 labels (omega arith) (omega (arith, z));
    own = numbers;
    past = stays.past state_len refl;
  }

-- as the part that was lent came back
pub labels_filled : (labels ys s : List ℕ) → Published s → length labels ≡ 24 → ys ≡ labels → Labelled labels s (splice s machine_len 24 ys)
labels_filled labels ys s z l e = subst (λ (r : List ℕ). Labelled labels s (splice s machine_len 24 r)) (sym e) (labels_stored labels s z l)
