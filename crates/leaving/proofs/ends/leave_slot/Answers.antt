-- `leaving::ends::leave_slot` meets its contract.
use mathlib.Core.Path.{◌∙◌}
use Rattle.tables.specs.View.{view}
use Rattle.leaving.specs.Ends.{emptied_ranged}
use Rattle.leaving.proofs.ends.leave_slot.Goals as goal

pub end_split-requires : goal.end_split-requires
end_split-requires c =
    record {
      ranged = emptied_ranged c.args.k.at (view c.args.s.now) _ c.args.k.below c.requires.ranged c.empty_slot.ensures.0;
    }

pub returns-clause-becomes : goal.returns-clause-becomes
returns-clause-becomes c =
    (rw (c.end_split.ensures.0, c.empty_slot.ensures.0), c.end_split.ensures.1 ∙ c.empty_slot.ensures.1)
