-- `kept::runs::kept_in` meets its contract.
use native.Mathlib.Omega.{arith}
use mathlib.Core.List.{append-nil}
use mathlib.Core.Path.{◌≡◌, sym, ◌∙◌}
use Prim.Native.Nat.{◌+◌, min}
use lib.ListN.{length, take, length-take}
use Rattle.rules.specs.Plan as plan
use Rattle.kept.specs.Kept.{runs_of, listed}
use Rattle.kept.proofs.KeptLaws.{flat_none, flat_more, flat_end, no_run, taken}
use Rattle.kept.proofs.runs.kept_in.Goals.{in-Some, in_default}
use Rattle.kept.proofs.runs.kept_in.Goals as goal

pub loop-r-init : goal.loop-r-init
loop-r-init c =
    record { sized = c.none-k.ensures.sized; few = omega (arith, c.none-k.ensures.count_value); is = flat_none _ _ _ c.none-k.ensures.count_value }

pub push-requires-clause-count_bound : goal.push-requires-clause-count_bound
push-requires-clause-count_bound c =
    let e : length (take c.min.result c.args.p.runs) ≡ min c.min.result (length c.args.p.runs) = length-take c.min.result c.args.p.runs in
    omega (arith, c.loop-r.invariant.few, c.loop-r-test.true, c.min.ensures)

pub loop-r-preserved : goal.loop-r-preserved
loop-r-preserved c =
    let g = plan.cut c.args.p.start c.args.lo (c.args.lo + c.args.rows) in
    let more = flat_more g (take c.min.result c.args.p.runs) c.loop-r.r-index (runs_of c.loop-r.k) no_run (listed c.cut.result) c.loop-r-test.true
    c.cut.ensures in
    elim c.match-cut.branch [
      | in-Some w ↦ record {
        sized = rw w.k-is w.push.ensures.sized_2;
        few = rw w.k-is (omega (arith, w.push.ensures.by_one, c.loop-r.invariant.few));
        is = rw (w.k-is, w.push.ensures.result_value) (c.loop-r.invariant.is ∙ rw w.in-Some.is at more);
      }
      | in_default w ↦ record {
        sized = rw w.k-is c.loop-r.invariant.sized;
        few = rw w.k-is (omega (arith, c.loop-r.invariant.few));
        is = rw w.k-is (c.loop-r.invariant.is ∙ rw (w.in_default.is, listed, append-nil (runs_of c.loop-r.k)) at more);
      }
    ]

pub returns-clause-result_value : goal.returns-clause-result_value
returns-clause-result_value c =
    let h : length c.args.p.runs ≡ 16 = (c.well_formed.1.1.0.1.1.1.1.1.0.1.0.1) in
    let g = plan.cut c.args.p.start c.args.lo (c.args.lo + c.args.rows) in
    rw (← taken c.args.p.runs c.args.p.count h, ← c.min.ensures)
    (sym (c.loop-r.invariant.is ∙ flat_end g (take c.min.result c.args.p.runs) c.loop-r.r-index (runs_of c.loop-r.k) c.loop-r-test.false))
