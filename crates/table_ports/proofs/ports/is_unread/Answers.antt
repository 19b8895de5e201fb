-- `table_ports::ports::is_unread` meets its contract.
use mathlib.Core.Path.{sym, ap, ◌∙◌}
use Rattle.rules.specs.Machine.{Port}
use Rattle.rules.specs.Ports.{is_nobody}
use Rattle.tables.specs.Loaded.{port_loaded}
use Rattle.table_ports.specs.Ports.{unread}
use borrow.Author.Rules.{rules}
use Rattle.table_ports.proofs.ports.is_unread.Goals as goal

pub returns : goal.returns
returns c =
    sym (ap (λ (y : Port). is_nobody y.reader) (port_loaded c.args.s.now (search rules) c.args.x.at (search rules)) ∙ unread _ _ _)
