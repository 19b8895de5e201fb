-- `scheduler::rest::all_free` meets its contract.
use Rattle.scheduler.specs.Rest.{not_free, all_here, all_next, all_none}
use Rattle.tables.specs.View.{view}
use mathlib.Core.Bool.{not}
use native.Mathlib.Omega.{arith}
use mathlib.Core.Path.{sym, ap, ◌∙◌}
use Rattle.scheduler.proofs.rest.all_free.Goals as goal

pub returns-then-is_active : goal.returns-then-is_active
returns-then-is_active c =
    let m = view c.args.s.now in
    let k = c.loop-k.k in
    sym (c.loop-k.invariant ∙ all_here m k m.job.slots (omega arith) (not_free m k c.is_active.result _ c.is_active.ensures (ap not c.if-is_active.true)))

pub loop-k-preserved : goal.loop-k-preserved
loop-k-preserved c =
    let m = view c.args.s.now in
    let k = c.loop-k.k in
    c.loop-k.invariant ∙ all_next m k m.job.slots (omega arith) (not_free m k c.is_active.result _ c.is_active.ensures (ap not c.if-is_active.false))

pub returns : goal.returns
returns c =
    let m = view c.args.s.now in
    sym (c.loop-k.invariant ∙ all_none m c.loop-k.k m.job.slots (omega arith))
