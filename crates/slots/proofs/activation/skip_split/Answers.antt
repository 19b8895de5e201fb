-- `slots::activation::skip_split` meets its contract.
use mathlib.Core.Path.{◌∙◌}
use Rattle.tables.specs.View.{view}
use Rattle.slots.specs.Activation.{skipped_is, passed_ranged}
use Rattle.slots.proofs.activation.skip_split.Goals as goal

pub end_split-requires : goal.end_split-requires
end_split-requires c =
    record {
      ranged = passed_ranged c.args.t.at (view c.args.s.now) _ c.requires.ranged c.requires.t_in_bounds c.set_next.ensures.0;
    }

pub returns : goal.returns
returns c = (
  skipped_is c.args.t.at (view c.args.s.now) _ _ c.set_next.ensures.0 c.end_split.ensures.0,
  c.end_split.ensures.1 ∙ c.set_next.ensures.1,
)
