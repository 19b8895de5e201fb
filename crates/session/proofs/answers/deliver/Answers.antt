-- `session::answers::deliver` meets its contract.
use Rattle.session.specs.Answered.{deliver_answered}
use Rattle.session.proofs.answers.deliver.Goals as goal

pub returns : goal.returns
returns c =
    deliver_answered c.args.read c.args.rows c.args.state.now c.args.out.now c.args.w _ _ c.turn_line.result c.deliver-a.result c.deliver-a.ensures
    c.tell_turn.result c.tell_turn.ensures c.turn_line.ensures.result_after c.turn_line.ensures.x_len_bound
