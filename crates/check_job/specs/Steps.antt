-- One node comes: a leaf, or an inner node.
use Rattle.std.specs.Prelude.{◌≡◌, List, ℕ}
use Rattle.std.proofs.Math.Path.{refl}
use Rattle.std.proofs.Common.{ap, ◌∙◌}
use Rattle.std.proofs.Math.Bool.{true, false}
use Rattle.std.proofs.Math.Option.{Option, none, some}
use Rattle.rules.specs.Job.{Node, node_at}
use Rattle.stored.specs.Walk.{pops, whole, push, leaf_fits, join_fits, leaf_step, join_step}

-- node i, which is x, comes to a stack, and r is what comes of it
module _ (ns : List Node) (i : ℕ) (free : List ℕ) (x : Node) (e : x ≡ node_at ns i) (r : Option (List ℕ)) where
  -- a leaf that fits, or not
  pub leaf_more : leaf_fits ns i ≡ true → r ≡ push i (some free) → r ≡ leaf_step ns i free
  unfolding leaf_step
  leaf_more f o = rw (f, leaf_step) o

  pub leaf_other : leaf_fits ns i ≡ false → r ≡ none → r ≡ leaf_step ns i free
  unfolding leaf_step
  leaf_other f o = rw (f, leaf_step) o

  -- an inner node that fails without a look at its children
  pub join_unfit : join_fits ns i free ≡ false → r ≡ none → r ≡ join_step ns i free
  unfolding join_step
  join_unfit f o = rw (f, join_step) o

  module _ (f : join_fits ns i free ≡ true) where
    join_is : push i (pops ns i (whole x.kind x) free) ≡ join_step ns i free
    unfolding join_step
    join_is = rw (e, f, join_step) refl

    -- by what its children leave
    pub join_by : (rest : Option (List ℕ)) → rest ≡ pops ns i (whole x.kind x) free → r ≡ push i rest → r ≡ join_step ns i free
    join_by rest p o = o ∙ ap (push i) p ∙ join_is
