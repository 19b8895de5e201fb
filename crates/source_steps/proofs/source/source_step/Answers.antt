-- `source_steps::source::source_step` meets its contract.
use mathlib.Core.Path.{◌∙◌, ap}
use Prim.Native.Nat.{ℕ}
use native.Mathlib.Omega.{arith}
use Rattle.order.specs.RangeTest.{source_at_lem}
use Rattle.tables.specs.View.{view}
use Rattle.source_steps.specs.Source.{source_is}
use Rattle.rules.specs.Drive.{concat_step}
use Rattle.source_steps.proofs.source.source_step.Goals as goal

pub step-requires-in-Concat : goal.step-requires-in-Concat
step-requires-in-Concat c =
    let e = source_is (view c.args.s.now) c.args.p.at c.load_source.result _ c.load_source.ensures c.in-Concat.is in let f = source_at_lem (view c.args.s.now)
    c.args.p.at _ c.requires.fits c.requires.live e in record {
      i_in_bounds = omega (arith, c.from.ensures, f.0);
      fits = c.requires.fits;
      live = c.requires.live;
    }

pub step-requires-in-Pack : goal.step-requires-in-Pack
step-requires-in-Pack c =
    let e = source_is (view c.args.s.now) c.args.p.at c.load_source.result _ c.load_source.ensures c.in-Pack.is in
    record { packing = record { fits = c.requires.fits; live = c.requires.live; source = e } }

pub returns-in-Segment : goal.returns-in-Segment
returns-in-Segment c =
    let e = source_is (view c.args.s.now) c.args.p.at c.load_source.result _ c.load_source.ensures c.in-Segment.is in
    record {
      result_value = rw e c.step.ensures.result_value;
      width_bound = c.step.ensures.width_bound;
      becomes = (rw e c.step.ensures.becomes.0, c.step.ensures.becomes.1);
    }

pub returns-in-Concat : goal.returns-in-Concat
returns-in-Concat c =
    let e = source_is (view c.args.s.now) c.args.p.at c.load_source.result _ c.load_source.ensures c.in-Concat.is in record {
      result_value = rw e (c.step-in-Concat.ensures.result_value ∙ ap (λ (i : ℕ). (concat_step c.args.p.at i (view c.args.s.now)).0) c.from.ensures);
      width_bound = c.step-in-Concat.ensures.width_bound;
      becomes = (
        rw e (c.step-in-Concat.ensures.becomes.0 ∙ ap (λ (i : ℕ). (concat_step c.args.p.at i (view c.args.s.now)).1) c.from.ensures),
        c.step-in-Concat.ensures.becomes.1,
      );
    }

pub returns-in-Pack : goal.returns-in-Pack
returns-in-Pack c =
    let e = source_is (view c.args.s.now) c.args.p.at c.load_source.result _ c.load_source.ensures c.in-Pack.is in
    record {
      result_value = rw e c.step-in-Pack.ensures.result_value;
      width_bound = c.step-in-Pack.ensures.width_bound;
      becomes = (rw e c.step-in-Pack.ensures.becomes.0, c.step-in-Pack.ensures.becomes.1);
    }
