-- `pipelines::numbering::take_number` meets its contract.
use mathlib.Core.Path.{ap, ◌∙◌}
use Rattle.numbers.specs.Opt.{option_of}
use Rattle.tables.specs.View.{view}
use Rattle.pipelines.specs.Numbering.{take_new, take_freed}
use Rattle.pipelines.proofs.numbering.take_number.Goals as goal

pub returns-in-None : goal.returns-in-None
returns-in-None c =
    (c.next_number.ensures.0 ∙ take_new _ (view c.args.s.now) _ _ c.newest.ensures (ap option_of c.in-None.is), c.next_number.ensures.1)

pub returns-in-Some : goal.returns-in-Some
returns-in-Some c = (
  rw (c.pop.ensures.0, c.number.ensures.0) (take_freed _ (view c.args.s.now) _ _ _ c.newest.ensures (ap option_of c.in-Some.is)),
  c.pop.ensures.1 ∙ c.number.ensures.1,
)
