-- `lines::answers::refused_line` meets its contract.
use Rattle.lines.specs.PageLaws.{puts_puts}
use Rattle.std.proofs.Common.{append_assoc}
use Rattle.lines.proofs.answers.refused_line.Goals as goal

pub returns : goal.returns
returns c = rw (c.text.ensures, c.decimal-b.ensures, c.text-a.ensures, c.from.ensures) (simp (puts_puts, append_assoc))
