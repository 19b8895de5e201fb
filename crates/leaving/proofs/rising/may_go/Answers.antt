-- `leaving::rising::may_go` meets its contract.
use Rattle.tables.specs.View.{view}
use Rattle.leaving.specs.Going.{may_shared}
use borrow.Author.Tests.{lt-ltb}
use Rattle.leaving.proofs.rising.may_go.Goals as goal

pub returns-then-p-lt72 : goal.returns-then-p-lt72
returns-then-p-lt72 c = rw (lt-ltb c.args.p.at 72 c.if-p-lt72.true)

pub returns-else-p-lt72 : goal.returns-else-p-lt72
returns-else-p-lt72 c =
    may_shared (view c.args.s.now) c.args.p.at c.is_unread.result c.if-p-lt72.false c.is_unread.ensures
