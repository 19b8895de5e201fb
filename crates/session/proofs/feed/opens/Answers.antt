-- `session::feed::opens` meets its contract.
use Rattle.session.specs.Feeding.{opens_ok, opens_refused}
use lib.ListN.{length-take}
use native.Mathlib.Omega.{arith}
use Rattle.session.proofs.feed.opens.Goals as goal

pub slice_bounds-open-end : goal.slice_bounds-open-end
slice_bounds-open-end c = simp length-take (omega arith)

pub returns-in-Ok : goal.returns-in-Ok
returns-in-Ok c =
    opens_ok c.args.input.now c.args.n c.args.state.now c.args.out.now c.args.w c.opened_line-written.result _ _ (rw c.in-Ok.is at c.open-o.ensures)
    c.tell_verdict.result (rw c.in-Ok.is at c.tell_verdict.ensures) c.opened_line-written.ensures

pub returns-in-Err : goal.returns-in-Err
returns-in-Err c =
    opens_refused c.args.input.now c.args.n c.args.state.now c.args.out.now c.args.w c.opened_line-written.result _ _ c.in-Err.field-0
    (rw c.in-Err.is at c.open-o.ensures) c.tell_verdict.result (rw c.in-Err.is at c.tell_verdict.ensures) c.opened_line-written.ensures
