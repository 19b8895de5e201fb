-- `table_pipes::stages::store_stage` meets its contract.
use mathlib.Core.Path.{ap}
use lib.ListN.{length}
use borrow.Author.Rules.{rules}
use Rattle.tables.specs.Written.{stage_written}
use Rattle.table_pipes.specs.Stage.{stage_of, stage_back}
use Rattle.table_pipes.proofs.stages.store_stage.Goals as goal

pub returns : goal.returns
returns c =
    stage_written c.args.s.now (search rules) c.args.p.at c.copy_from_slice.new.self (stage_of c.args.x) (search rules) (ap length c.copy_from_slice.ensures.after)
    (rw (
      c.copy_from_slice.ensures.after,
      c.from.ensures,
      c.is_some.ensures,
      c.unwrap_or.ensures,
      c.from-2.ensures,
      c.from-3.ensures,
      c.is_some-2.ensures,
      c.unwrap_or-2.ensures,
      c.from-4.ensures,
    )
    (stage_back c.args.x))
