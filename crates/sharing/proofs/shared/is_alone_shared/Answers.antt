-- `sharing::shared::is_alone_shared` meets its contract.
use borrow.Author.Rules.{rules}
use Rattle.tables.specs.View.{view}
use Rattle.check_job.specs.Alone.{leaf_alone}
use Rattle.sharing.specs.Found.{alone_shared}
use Rattle.sharing.proofs.shared.is_alone_shared.Goals as goal

pub returns : goal.returns
returns c =
    alone_shared (view c.args.s.now).job c.args.g c.overlap_count.result (leaf_alone (view c.args.s.now).job c.args.g (search rules) (search rules))
    (rw (← c.reach_in.ensures.start_value_2, ← c.reach_in.ensures.end_value_2) c.overlap_count.ensures.value)
