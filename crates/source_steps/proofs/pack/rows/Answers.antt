-- `source_steps::pack::rows` meets its contract.
use borrow.Author.Rules.{rules}
use mathlib.Core.Path.{◌∙◌, ap}
use Rattle.rules.specs.Operators.{least}
use Rattle.pack_source.specs.Fronts.{fronts_of}
use Rattle.tables.specs.View.{view}
use Rattle.source_steps.specs.Touch.{touched_fits}
use Rattle.source_steps.specs.Noting.{inlets_few}
use Rattle.source_steps.specs.Pack.{filled, taking, rows_given, rows_state}
use Rattle.source_steps.proofs.pack.rows.Goals as goal

pub fronts_of-all-requires : goal.fronts_of-all-requires
fronts_of-all-requires c =
    record {
      p_len_bound = inlets_few c.args.s.now c.args.p.at (search rules) c.args.p.below c.requires.packing;
      all = filled (view c.args.s.now) c.args.p.at c.requires.packing c.requires.p_value;
    }

pub touch_from-requires : goal.touch_from-requires
touch_from-requires c =
    record {
      set_fits = touched_fits (view c.args.s.now) c.args.p.at c.inlet_count-count.result c.requires.packing.fits c.requires.packing.live
          c.inlet_count-count.ensures.value c.inlet_count-count.ensures.upper_bound;
      n_bound = c.inlet_count-count.ensures.upper_bound;
    }

pub take_each-requires : goal.take_each-requires
take_each-requires c =
    record {
      taking = taking (view c.args.s.now) c.args.p.at c.requires.packing c.requires.p_value c.least-n.result c.inlet_count-count.result _
          (c.least-n.ensures ∙ ap least c.fronts_of-all.ensures) c.inlet_count-count.ensures.value c.touch_from.ensures.0;
    }

pub returns : goal.returns
returns c =
    record {
      result_value = rows_given (view c.args.s.now) c.args.p.at c.requires.packing c.requires.p_value c.least-n.result (fronts_of c.fronts_of-all.result)
          c.side_by_side.result c.unwrap_or-joined.result c.none.result _ c.fronts_of-all.ensures c.least-n.ensures
          c.side_by_side.ensures c.unwrap_or-joined.ensures c.trimmed.ensures.result_value;
      width_bound = c.trimmed.ensures.width_bound;
      becomes = (
        rows_state (view c.args.s.now) c.args.p.at c.requires.packing c.requires.p_value c.least-n.result c.inlet_count-count.result
            (fronts_of c.fronts_of-all.result) (view c.touch_from.new.s) _ c.fronts_of-all.ensures c.least-n.ensures
            c.inlet_count-count.ensures.value c.touch_from.ensures.0 c.take_each.ensures.0,
        c.take_each.ensures.1 ∙ c.touch_from.ensures.1,
      );
    }
