-- `lines::columns::column` meets its contract.
use Rattle.lines.specs.PageLaws.{puts_puts}
use Rattle.std.proofs.Common.{append_assoc}
use Rattle.lines.proofs.columns.column.Goals as goal

pub returns : goal.returns
returns c = rw (c.decimal.ensures, c.text-c.ensures, c.decimal-b.ensures, c.text-a.ensures) (simp (puts_puts, append_assoc))
