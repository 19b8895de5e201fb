-- `scheduler::delivery::deliver_in` meets its contract.
use Rattle.scheduler.specs.Calls.{finds, passes, deliver_refused, deliver_stopped, accepted_ranged, deliver_passed}
use Rattle.tables.specs.View.{view}
use borrow.Author.Rules.{rules}
use Rattle.scheduler.proofs.delivery.deliver_in.Goals as goal

pub returns-in-Err : goal.returns-in-Err
returns-in-Err c = deliver_refused c.args.read c.args.rows c.args.s.now c.in-Err.r (finds c.args.s.now c.in-Err.r c.in-Err.ensures.value)

pub delivering_in-requires : goal.delivering_in-requires
delivering_in-requires c =
    let u = passes c.args.s.now c.in_default.ensures.value c.in_default.ensures.rows_fit in
    record { ranged = u.1 }

pub returns-in-Err-delivering_in : goal.returns-in-Err-delivering_in
returns-in-Err-delivering_in c =
    let u = passes c.args.s.now c.in_default.ensures.value c.in_default.ensures.rows_fit in
    let e = c.in-Err-delivering_in.ensures in
    deliver_stopped c.args.read c.args.rows c.args.s.now c.delivering_in.new.s c.hand_back.new.s c.in-Err-delivering_in.r c.hand_back.result
    (search rules) (search rules) u.0 u.2 e.s_after e.delivering e.s_unchanged c.hand_back.ensures.value c.hand_back.ensures.clears

pub stepping_in-t-requires : goal.stepping_in-t-requires
stepping_in-t-requires c =
    let u = passes c.args.s.now c.in_default.ensures.value c.in_default.ensures.rows_fit in
    record { ranged = accepted_ranged c.args.read c.args.rows (view c.args.s.now) (view c.delivering_in.new.s) c.in-Ok.ensures.s_after u.1 }

pub returns-in-Ok : goal.returns-in-Ok
returns-in-Ok c =
    let u = passes c.args.s.now c.in_default.ensures.value c.in_default.ensures.rows_fit in
    let e = c.in-Ok.ensures in
    deliver_passed c.args.read c.args.rows c.args.s.now c.delivering_in.new.s c.stepping_in-t.new.s c.hand_back-in-Ok.new.s
    c.hand_back-in-Ok.result c.stepping_in-t.result (search rules) (search rules) u.0 u.2 e.s_after
    e.s_unchanged c.stepping_in-t.ensures.s_after c.stepping_in-t.ensures.zeroes c.stepping_in-t.ensures.s_unchanged
    c.hand_back-in-Ok.ensures.value c.hand_back-in-Ok.ensures.clears
