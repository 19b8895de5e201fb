-- `table_ports::ports::is_used` meets its contract.
use mathlib.Core.Path.{sym, ap}
use Rattle.rules.specs.Machine.{Port}
use Rattle.tables.specs.Loaded.{port_loaded}
use borrow.Author.Rules.{rules}
use Rattle.table_ports.proofs.ports.is_used.Goals as goal

pub returns : goal.returns
returns c =
    sym (ap (λ (y : Port). y.there) (port_loaded c.args.s.now (search rules) c.args.x.at (search rules)))
