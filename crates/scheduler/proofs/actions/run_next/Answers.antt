-- `scheduler::actions::run_next` meets its contract.
use Rattle.scheduler.specs.Turns.{runs_now}
use Rattle.operator.specs.Pipeline.{pipeline_of}
use Rattle.tables.specs.View.{view}
use Rattle.scheduler.proofs.actions.run_next.Goals as goal

pub run-requires : goal.run-requires
run-requires c =
    let u = runs_now c.args.p.at (pipeline_of c.load_pipe-x.result) (pipeline_of c.with_queued.result) (view c.args.s.now) (view c.store_pipe.new.s)
    c.requires.ranged c.requires.quiet c.load_pipe-x.ensures (rw c.if-x.true) c.with_queued.ensures c.store_pipe.ensures.0 in record {
      runs = u.0;
      s_len_bound = u.1;
    }
