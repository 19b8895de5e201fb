-- `session::answers::step` meets its contract.
use Rattle.session.specs.Answered.{step_answered}
use Rattle.session.proofs.answers.step.Goals as goal

pub returns : goal.returns
returns c =
    step_answered c.args.state.now c.args.out.now c.args.w _ _ c.turn_line.result c.step-a.result c.step-a.ensures
    c.tell_turn.result c.tell_turn.ensures c.turn_line.ensures.result_after c.turn_line.ensures.x_len_bound
