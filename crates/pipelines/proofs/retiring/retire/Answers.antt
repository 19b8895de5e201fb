-- `pipelines::retiring::retire` meets its contract.
use mathlib.Core.Path.{refl, ◌∙◌}
use Rattle.tables.specs.View.{view}
use Rattle.pipelines.specs.Retiring.{retire_is}
use Rattle.pipelines.proofs.retiring.retire.Goals as goal

pub returns : goal.returns
returns c = (
  retire_is _ _ _ (view c.args.s.now) _ _ _ c.load_pipe-x.ensures refl c.drop_inlets.ensures.0 c.leave.ensures.0 c.free_number.ensures.0,
  c.free_number.ensures.1 ∙ c.leave.ensures.1 ∙ c.drop_inlets.ensures.1,
)
