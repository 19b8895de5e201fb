-- `ritsghule::ritsghule_step` meets its contract.
use Rattle.ritsghule.specs.Laws.{no_room, in_numbers}
use Rattle.rules.specs.Scan as rule
use Rattle.ritsghule.proofs.ritsghule_step.Goals as goal

pub returns-then-turn-lt-TURN_LEN : goal.returns-then-turn-lt-TURN_LEN
returns-then-turn-lt-TURN_LEN c = no_room rule.step c.args.state.now c.args.turn.now c.if-turn-lt-TURN_LEN.true

pub returns : goal.returns
returns c =
    in_numbers rule.step c.args.state.now c.args.turn.now c.step-x.new.s c.write.new.to c.step-x.result c.write.result c.if-turn-lt-TURN_LEN.false
    c.step-x.ensures
    (rw (← c.tell_turn.ensures) c.write.ensures.value) (rw (← c.tell_turn.ensures) c.write.ensures.to_after)
