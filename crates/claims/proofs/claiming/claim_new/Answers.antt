-- `claims::claiming::claim_new` meets its contract.
use mathlib.Core.Path.{◌∙◌}
use Rattle.tables.specs.View.{view}
use Rattle.claims.specs.Built.{new_built}
use Rattle.claims.proofs.claiming.claim_new.Goals as goal

pub returns : goal.returns
returns c =
    record {
      s_value = new_built _ _ _ _ (view c.args.s.now) _ _ c.first_leaf.ensures.value c.unbuilt.ensures c.if-not-unbuilt.false
          (rw c.set_unbuilt.ensures.0 at c.build.ensures.s_value);
      s_unchanged = c.build.ensures.s_unchanged ∙ c.set_unbuilt.ensures.1;
    }
