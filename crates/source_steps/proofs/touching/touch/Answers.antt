-- `source_steps::touching::touch` meets its contract: the numbers from i on, below i + 1, are i.
use Rattle.tables.specs.View.{view}
use Rattle.source_steps.specs.Touch.{touch_one}
use Rattle.source_steps.proofs.touching.touch.Goals as goal

pub returns : goal.returns
returns c =
    (touch_one (view c.args.s.now) _ c.args.p.at c.args.i c.touch_from.ensures.0, c.touch_from.ensures.1)
