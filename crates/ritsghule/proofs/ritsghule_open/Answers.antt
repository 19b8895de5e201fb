-- `ritsghule::ritsghule_open` meets its contract.
use Rattle.ritsghule.specs.Laws.{opens_by}
use Rattle.ritsghule.proofs.ritsghule_open.Goals as goal

pub returns : goal.returns
returns c =
    opens_by c.args.job.now c.args.state.now c.open-x.new.s c.open-x.result c.args.run.now c.opened.result c.opened.new.run c.open-x.ensures
    (rw (← c.tell_verdict.ensures) c.opened.ensures.value) (rw (← c.tell_verdict.ensures) c.opened.ensures.run_after)
