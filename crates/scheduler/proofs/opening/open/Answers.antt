-- `scheduler::opening::open` meets its contract.
use Rattle.scheduler.specs.Front.{opens_front}
use Rattle.scheduler.proofs.opening.open.Goals as goal

pub returns : goal.returns
returns c =
    let f = c.in-Some.ensures.cases in opens_front c.args.s.now c.in-Some.state.now _ f.enough f.same c.args.job.now c.open_in.result c.open_in.ensures
