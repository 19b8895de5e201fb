-- `source_steps::source::test_source` meets its contract.
use mathlib.Core.Path.{◌∙◌, ap}
use Prim.Native.Nat.{ℕ}
use native.Mathlib.Omega.{arith}
use Rattle.order.specs.RangeTest.{source_at_lem}
use Rattle.tables.specs.View.{view}
use Rattle.source_steps.specs.Source.{source_is}
use Rattle.rules.specs.Drive.{test_concat}
use Rattle.source_steps.proofs.source.test_source.Goals as goal

pub test-requires-in-Concat : goal.test-requires-in-Concat
test-requires-in-Concat c =
    let e = source_is (view c.args.s.now) c.args.p.at c.load_source.result _ c.load_source.ensures c.in-Concat.is in let f = source_at_lem (view c.args.s.now)
    c.args.p.at _ c.requires.fits c.requires.live e in record {
      i_in_bounds = omega (arith, c.from.ensures, f.0);
      fits = c.requires.fits;
      live = c.requires.live;
    }

pub test-requires-in-Pack : goal.test-requires-in-Pack
test-requires-in-Pack c =
    let e = source_is (view c.args.s.now) c.args.p.at c.load_source.result _ c.load_source.ensures c.in-Pack.is in
    record { packing = record { fits = c.requires.fits; live = c.requires.live; source = e } }

pub returns-in-Segment : goal.returns-in-Segment
returns-in-Segment c =
    let e = source_is (view c.args.s.now) c.args.p.at c.load_source.result _ c.load_source.ensures c.in-Segment.is in
    record { result_value = rw e c.test.ensures.result_value; becomes = (rw e c.test.ensures.becomes.0, c.test.ensures.becomes.1) }

pub returns-in-Concat : goal.returns-in-Concat
returns-in-Concat c =
    let e = source_is (view c.args.s.now) c.args.p.at c.load_source.result _ c.load_source.ensures c.in-Concat.is in record {
      result_value = rw e (c.test-in-Concat.ensures.result_value ∙ ap (λ (i : ℕ). (test_concat c.args.p.at i (view c.args.s.now)).0) c.from.ensures);
      becomes = (
        rw e (c.test-in-Concat.ensures.becomes.0 ∙ ap (λ (i : ℕ). (test_concat c.args.p.at i (view c.args.s.now)).1) c.from.ensures),
        c.test-in-Concat.ensures.becomes.1,
      );
    }

pub returns-in-Pack : goal.returns-in-Pack
returns-in-Pack c =
    let e = source_is (view c.args.s.now) c.args.p.at c.load_source.result _ c.load_source.ensures c.in-Pack.is in
    record { result_value = rw e c.test-in-Pack.ensures.result_value; becomes = (rw e c.test-in-Pack.ensures.becomes.0, c.test-in-Pack.ensures.becomes.1) }
