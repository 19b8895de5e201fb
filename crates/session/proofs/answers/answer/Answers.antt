-- `session::answers::answer` meets its contract.
use Rattle.session.specs.Answered.{bad_answered}
use Rattle.session.proofs.answers.answer.Goals as goal

pub returns-in-None : goal.returns-in-None
returns-in-None c =
    rw c.in-None.is (bad_answered c.args.state.now c.args.out.now c.args.w _ c.refused_line.result (rw c.number.ensures at c.refused_line.ensures))
