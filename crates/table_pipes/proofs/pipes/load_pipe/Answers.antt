-- `table_pipes::pipes::load_pipe` meets its contract.
use mathlib.Core.Path.{sym}
use borrow.Author.Rules.{rules}
use Rattle.tables.specs.Loaded.{pipe_loaded}
use Rattle.table_pipes.proofs.pipes.load_pipe.Goals as goal

pub returns : goal.returns
returns c =
    rw c.state_of.ensures (sym (pipe_loaded c.args.s.now (search rules) c.args.p.at (search rules)))
