-- `ritsghule::ritsghule_deliver` meets its contract.
use Rattle.ritsghule.specs.Laws.{no_room, in_numbers}
use Rattle.rules.specs.Scan as rule
use Rattle.ritsghule.proofs.ritsghule_deliver.Goals as goal

pub returns-then-turn-lt-TURN_LEN : goal.returns-then-turn-lt-TURN_LEN
returns-then-turn-lt-TURN_LEN c =
    no_room (rule.deliver c.args.read c.args.rows) c.args.state.now c.args.turn.now c.if-turn-lt-TURN_LEN.true

pub returns : goal.returns
returns c =
    in_numbers (rule.deliver c.args.read c.args.rows) c.args.state.now c.args.turn.now c.deliver-x.new.s c.write.new.to c.deliver-x.result
    c.write.result c.if-turn-lt-TURN_LEN.false c.deliver-x.ensures (rw (← c.tell_turn.ensures) c.write.ensures.value) (rw (← c.tell_turn.ensures) c.write.ensures.to_after)
