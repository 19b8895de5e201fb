-- `table_pipes::stages::load_stage` meets its contract.
use mathlib.Core.Path.{sym}
use borrow.Author.Rules.{rules}
use Rattle.tables.specs.Loaded.{stage_loaded}
use Rattle.table_pipes.proofs.stages.load_stage.Goals as goal

pub returns : goal.returns
returns c =
    rw (c.option.ensures, c.option-2.ensures)
    (sym (stage_loaded c.args.s.now (search rules) c.args.p.at (search rules)))
