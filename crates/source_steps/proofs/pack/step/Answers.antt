-- `source_steps::pack::step` meets its contract.
use native.Mathlib.Omega.{arith}
use mathlib.Core.Path.{sym, ap, refl, ◌∙◌}
use Rattle.rules.specs.Operators.{ended_count}
use Rattle.tables.specs.View.{view}
use Rattle.source_steps.specs.Inlets.{ports_bound}
use Rattle.source_steps.specs.Pack.{seen_of, step_ended, step_empty, step_rows}
use Rattle.source_steps.proofs.pack.step.Goals as goal

pub returns-then-ended_count-count : goal.returns-then-ended_count-count
returns-then-ended_count-count c =
    let e = step_ended (view c.args.s.now) c.args.p.at c.inlet_count-count.result c.ended_count.result
    (c.ended_count.ensures ∙ ap ended_count (seen_of (view c.args.s.now) c.args.p.at c.load_pack.result c.load_pack.ensures))
    c.inlet_count-count.ensures.value
    c.if-ended_count-count.true in record {
      result_value = rw (← e);
      width_bound = omega arith;
      becomes = (rw (← e), refl);
    }

pub any_empty-requires : goal.any_empty-requires
any_empty-requires c =
    record { all = ports_bound (view c.args.s.now) c.args.p.at c.requires.packing.fits c.requires.packing.live }

pub returns-then-any_empty : goal.returns-then-any_empty
returns-then-any_empty c =
    let e = step_empty (view c.args.s.now) c.args.p.at c.inlet_count-count.result c.ended_count.result
    (c.ended_count.ensures ∙ ap ended_count (seen_of (view c.args.s.now) c.args.p.at c.load_pack.result c.load_pack.ensures))
    c.inlet_count-count.ensures.value
    c.if-ended_count-count.false (sym c.any_empty.ensures ∙ c.if-any_empty.true) in record {
      result_value = rw (← e);
      width_bound = omega arith;
      becomes = (rw (← e) c.fault_if.ensures.0, c.fault_if.ensures.1);
    }

pub rows-requires : goal.rows-requires
rows-requires c =
    record { packing = c.requires.packing; p_value = sym c.any_empty.ensures ∙ c.if-any_empty.false }

pub returns : goal.returns
returns c =
    let e = step_rows (view c.args.s.now) c.args.p.at c.inlet_count-count.result c.ended_count.result
    (c.ended_count.ensures ∙ ap ended_count (seen_of (view c.args.s.now) c.args.p.at c.load_pack.result c.load_pack.ensures))
    c.inlet_count-count.ensures.value
    c.if-ended_count-count.false (sym c.any_empty.ensures ∙ c.if-any_empty.false) in record {
      result_value = rw (← e) c.rows.ensures.result_value;
      width_bound = c.rows.ensures.width_bound;
      becomes = (rw (← e) c.rows.ensures.becomes.0, c.rows.ensures.becomes.1);
    }
