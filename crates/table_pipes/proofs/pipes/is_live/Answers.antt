-- `table_pipes::pipes::is_live` meets its contract.
use mathlib.Core.Path.{sym, ap}
use Rattle.rules.specs.Machine.{Pipeline}
use Rattle.tables.specs.Loaded.{pipe_loaded}
use borrow.Author.Rules.{rules}
use Rattle.table_pipes.proofs.pipes.is_live.Goals as goal

pub returns : goal.returns
returns c =
    sym (ap (λ (y : Pipeline). y.live) (pipe_loaded c.args.s.now (search rules) c.args.p.at (search rules)))
