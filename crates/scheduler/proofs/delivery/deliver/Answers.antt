-- `scheduler::delivery::deliver` meets its contract.
use Rattle.rules.specs.Scan as rule
use Rattle.scheduler.specs.Front.{turns_front}
use Rattle.scheduler.proofs.delivery.deliver.Goals as goal

pub returns : goal.returns
returns c =
    let f = c.in-Some.ensures.cases in
    turns_front c.args.s.now c.in-Some.state.now _ f.enough f.same (rule.deliver c.args.read c.args.rows) c.deliver_in.result c.deliver_in.ensures
