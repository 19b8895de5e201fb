-- `check_pipes::plain::plain_ok` meets its contract.
use mathlib.Core.Path.{sym, ◌∙◌}
use Rattle.operator.specs.Pipeline.{pipeline_of}
use Rattle.tables.specs.View.{view}
use Rattle.check_pipes.specs.Plain.{plain_passes}
use Rattle.check_pipes.proofs.plain.plain_ok.Goals as goal

pub returns-then-is_alone : goal.returns-then-is_alone
returns-then-is_alone c = λ e.
    plain_passes (view c.args.s.now) c.args.p.at (pipeline_of c.args.x) (c.is_alone.ensures c.if-is_alone.true) (sym c.is_plain.ensures ∙ e)
