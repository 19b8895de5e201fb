-- `table_pipes::pipes::store_pipe` meets its contract.
use mathlib.Core.Path.{ap}
use lib.ListN.{length}
use borrow.Author.Rules.{rules}
use Rattle.operator.specs.Pipeline.{pipeline_of}
use Rattle.tables.specs.Written.{pipe_written}
use Rattle.table_pipes.specs.Tags.{pipe_back}
use Rattle.table_pipes.proofs.pipes.store_pipe.Goals as goal

pub returns : goal.returns
returns c =
    let x = c.args.x in
    pipe_written c.args.s.now (search rules) c.args.p.at c.copy_from_slice.new.self (pipeline_of x) (search rules) (ap length c.copy_from_slice.ensures.after)
    (rw (c.copy_from_slice.ensures.after, c.from.ensures, c.state_tag.ensures, c.state_arg.ensures, c.from-2.ensures) (pipe_back x))
