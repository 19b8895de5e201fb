-- `claims::claimants::leaf_count` meets its contract.
use borrow.Author.Rules.{rules}
use mathlib.Core.Path.{sym, ◌∙◌}
use Rattle.tables.specs.View.{view}
use Rattle.claims.specs.Leaves.{count_none}
use Rattle.claims.proofs.claimants.leaf_count.Goals as goal

pub returns : goal.returns
returns c =
    record { value = count_none (view c.args.s.now) c.args.l c.args.i.at (sym c.same_segment.ensures ∙ c.if-same_segment.false); upper_bound = search rules }
