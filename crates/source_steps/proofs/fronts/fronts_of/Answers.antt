-- `source_steps::fronts::fronts_of` meets its contract.
use borrow.Author.Rules.{rules}
use native.Mathlib.Omega.{arith}
use Rattle.rules.specs.Machine.{inlets_at}
use Rattle.rules.specs.Drive.{front_of}
use Rattle.tables.specs.View.{view}
use Rattle.source_steps.specs.Fronts.{fronts_more, filled_at}
use Rattle.source_steps.proofs.fronts.fronts_of.Goals as goal

pub invariant_of-batch_at : goal.invariant_of-batch_at
invariant_of-batch_at c =
    let f = filled_at (view c.args.s.now) c.args.p.at c.loop-i.i _ c.requires.all (omega (arith, c.inlet_count-n.ensures.value)) c.inlet.ensures in
    record { below = f.0 }

pub batch_at-requires : goal.batch_at-requires
batch_at-requires c =
    let f = filled_at (view c.args.s.now) c.args.p.at c.loop-i.i _ c.requires.all (omega (arith, c.inlet_count-n.ensures.value)) c.inlet.ensures in
    record { i_in_bounds = f.1 }

pub loop-i-preserved : goal.loop-i-preserved
loop-i-preserved c = (
  search rules,
  fronts_more (front_of (view c.args.s.now)) c.loop-i.batches (inlets_at (view c.args.s.now) c.args.p.at) c.loop-i.i _
      c.batch_at.result (omega (arith, c.loop-i.invariant.0, c.requires.p_len_bound, c.inlet_count-n.ensures.value))
      (omega (arith, c.inlet_count-n.ensures.value))
      c.inlet.ensures c.batch_at.ensures.result_value c.loop-i.invariant.1,
)
