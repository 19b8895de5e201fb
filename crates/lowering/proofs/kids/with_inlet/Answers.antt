-- `lowering::kids::with_inlet` meets its contract.
use mathlib.Core.Path.{refl}
use native.Mathlib.Omega.{arith}
use Rattle.lowering.specs.Kids.{inlet_more}
use Rattle.lowering.proofs.kids.with_inlet.Goals as goal

pub returns : goal.returns
returns c = record {
  result_value = inlet_more c.args.xs.ports c.args.xs.len c.args.x
      (omega (arith, c.well_formed.0.1.1.1.0.1.0.1, c.requires));
  len_value = refl;
}
