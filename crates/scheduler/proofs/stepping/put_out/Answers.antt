-- `scheduler::stepping::put_out` meets its contract.
use Rattle.scheduler.specs.Step.{inner_puts}
use Rattle.table_queues.specs.Output.{output_of}
use Rattle.tables.specs.View.{view}
use Rattle.scheduler.proofs.stepping.put_out.Goals as goal

pub returns-clause-s_after : goal.returns-clause-s_after
returns-clause-s_after c =
    inner_puts (output_of c.first_output-o.result) (view c.args.s.now) (view c.pop_output.new.s) c.requires.outputs_nonzero c.first_output-o.ensures
    c.pop_output.ensures.0
