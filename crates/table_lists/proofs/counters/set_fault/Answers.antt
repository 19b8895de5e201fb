-- `table_lists::counters::set_fault` meets its contract.
use borrow.Author.Rules.{rules}
use Rattle.tables.specs.Written.{fault_written}
use mathlib.Core.Path.{ap, ◌∙◌}
use Rattle.layout.specs.Numbers.{flag, flag_mark}
use Rattle.table_lists.proofs.counters.set_fault.Goals as goal

pub returns : goal.returns
returns c =
    rw (ap flag c.from.ensures ∙ flag_mark c.args.x) at (fault_written c.args.s.now (search rules) c.from.result)
