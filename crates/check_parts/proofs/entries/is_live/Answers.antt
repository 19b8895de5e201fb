-- `check_parts::entries::is_live` meets its contract.
use mathlib.Core.Path.{ap, sym}
use borrow.Author.Tests.{le-ltb}
use Rattle.rules.specs.Machine.{Pipeline}
use Rattle.tables.specs.Lengths.{pipe_past}
use borrow.Author.Rules.{rules}
use Rattle.check_parts.proofs.entries.is_live.Goals as goal

pub returns-else-p-lt96 : goal.returns-else-p-lt96
returns-else-p-lt96 c = rw (le-ltb c.args.p 96 (search rules)) (ap (λ (y : Pipeline). y.live) (sym (pipe_past c.args.s.now c.args.p (search rules))))
