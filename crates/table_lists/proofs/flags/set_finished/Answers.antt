-- `table_lists::flags::set_finished` meets its contract.
use borrow.Author.Rules.{rules}
use Rattle.tables.specs.Written.{finished_written}
use mathlib.Core.Path.{ap, ◌∙◌}
use Rattle.layout.specs.Numbers.{flag, flag_mark}
use Rattle.table_lists.proofs.flags.set_finished.Goals as goal

pub returns : goal.returns
returns c =
    rw (ap flag c.from.ensures ∙ flag_mark c.args.x) at (finished_written c.args.s.now (search rules) c.args.i.at c.from.result (search rules))
