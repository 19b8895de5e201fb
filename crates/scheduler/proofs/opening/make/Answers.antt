-- `scheduler::opening::make` meets its contract.
use mathlib.Core.Path.{ap, ◌∙◌}
use Rattle.scheduler.specs.Front.{view_whole, past_whole}
use Rattle.scheduler.specs.Opening.{marked}
use Rattle.scheduler.proofs.opening.make.Goals as goal

pub returns : goal.returns
returns c = (
  view_whole c.args.s.now c.mark_shared.new.s c.mark_shared.ensures.size ∙ c.mark_shared.ensures.marked.0 ∙ ap marked c.make_read.ensures.0,
  past_whole c.args.s.now c.mark_shared.new.s c.mark_shared.ensures.size,
)
