-- `check_parts::entries::port_of` meets its contract.
use mathlib.Core.Path.{sym}
use Rattle.tables.specs.Lengths.{port_past}
use borrow.Author.Rules.{rules}
use Rattle.check_parts.proofs.entries.port_of.Goals as goal

pub returns-then-x-ge456 : goal.returns-then-x-ge456
returns-then-x-ge456 c = sym (port_past c.args.s.now c.args.x (search rules))
