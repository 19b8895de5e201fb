-- `leaving::rising::lesser` meets its contract.
use mathlib.Core.Path.{ap}
use Rattle.rules.specs.Machine.{Pipeline}
use Rattle.tables.specs.View.{view}
use Rattle.leaving.specs.Rising.{better_second, better_first}
use Rattle.leaving.proofs.rising.lesser.Goals as goal

pub returns-then-y-x : goal.returns-then-y-x
returns-then-y-x c =
    better_second (view c.args.s.now).pipes c.args.b.at c.args.p.at _ _ (ap (λ (x : Pipeline). x.number) c.load_pipe-x.ensures)
    (ap (λ (x : Pipeline). x.number) c.load_pipe-y.ensures) c.if-y-x.true

pub returns-else-y-x : goal.returns-else-y-x
returns-else-y-x c =
    better_first (view c.args.s.now).pipes c.args.b.at c.args.p.at _ _ (ap (λ (x : Pipeline). x.number) c.load_pipe-x.ensures)
    (ap (λ (x : Pipeline). x.number) c.load_pipe-y.ensures) c.if-y-x.false
