-- `leaving::ends::end_split` meets its contract.
use mathlib.Core.Path.{◌∙◌}
use native.Mathlib.Omega.{arith}
use Rattle.tables.specs.View.{view}
use Rattle.leaving.specs.Ends.{end_is, freed_ranged}
use Rattle.leaving.proofs.ends.end_split.Goals as goal

pub retire_rising-requires : goal.retire_rising-requires
retire_rising-requires c =
    record {
      k_bound = omega arith;
      ranged = freed_ranged c.args.t.at (view c.args.s.now) _ _ c.args.t.below c.requires.ranged c.set_finished.ensures.0 c.free_shares.ensures.0;
    }

pub returns : goal.returns
returns c = (
  end_is c.args.t.at (view c.args.s.now) _ _ _ c.set_finished.ensures.0 c.free_shares.ensures.0 c.retire_rising.ensures.0,
  c.retire_rising.ensures.1 ∙ c.free_shares.ensures.1 ∙ c.set_finished.ensures.1,
)
