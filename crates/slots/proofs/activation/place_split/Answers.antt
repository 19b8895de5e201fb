-- `slots::activation::place_split` meets its contract.
use mathlib.Core.Path.{◌∙◌}
use Rattle.tables.specs.View.{view}
use Rattle.slots.specs.Activation.{placing_job, placed_is}
use Rattle.slots.proofs.activation.place_split.Goals as goal

pub lower_split-requires : goal.lower_split-requires
lower_split-requires c =
    record {
      job_ok = placing_job c.args.k.at c.args.t.at (view c.args.s.now) _ _ c.requires.job_ok c.store_active.ensures.0 c.set_next.ensures.0;
    }

pub returns : goal.returns
returns c = (
  placed_is c.args.k.at c.args.t.at (view c.args.s.now) _ _ _ c.store_active.ensures.0 c.set_next.ensures.0 c.lower_split.ensures.0,
  c.lower_split.ensures.1 ∙ c.set_next.ensures.1 ∙ c.store_active.ensures.1,
)
