-- `scheduler::stepping::step` meets its contract.
use Rattle.rules.specs.Scan as rule
use Rattle.scheduler.specs.Front.{turns_front}
use Rattle.scheduler.proofs.stepping.step.Goals as goal

pub returns : goal.returns
returns c =
    let f = c.in-Some.ensures.cases in turns_front c.args.s.now c.in-Some.state.now _ f.enough f.same rule.step c.step_in.result c.step_in.ensures
