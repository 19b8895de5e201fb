-- `scheduler::stepping::step_in` meets its contract.
use Rattle.scheduler.specs.Calls.{finds, passes, step_refused, step_passed}
use borrow.Author.Rules.{rules}
use Rattle.scheduler.proofs.stepping.step_in.Goals as goal

pub returns-in-Err : goal.returns-in-Err
returns-in-Err c = step_refused c.args.s.now c.in-Err.r (finds c.args.s.now c.in-Err.r c.in-Err.ensures.value)

pub stepping_in-t-requires : goal.stepping_in-t-requires
stepping_in-t-requires c =
    let u = passes c.args.s.now c.in_default.ensures.value c.in_default.ensures.rows_fit in
    record { ranged = u.1 }

pub returns : goal.returns
returns c =
    let u = passes c.args.s.now c.in_default.ensures.value c.in_default.ensures.rows_fit in
    step_passed c.args.s.now c.stepping_in-t.new.s c.hand_back.new.s c.hand_back.result c.stepping_in-t.result (search rules) (search rules) u.0 u.2
    c.stepping_in-t.ensures.s_after c.stepping_in-t.ensures.zeroes c.stepping_in-t.ensures.s_unchanged c.hand_back.ensures.value c.hand_back.ensures.clears
