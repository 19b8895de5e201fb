-- `table_pipes::inlets::inlet_at` meets its contract.
use mathlib.Core.Path.{sym, ◌∙◌}
use native.Mathlib.Omega.{arith}
use borrow.Author.Rules.{rules}
use Rattle.table_pipes.specs.Inlets.{inlets_few, inlet_past, inlet_in}
use Rattle.table_pipes.proofs.inlets.inlet_at.Goals as goal

pub returns-then-s-a-gt23 : goal.returns-then-s-a-gt23
returns-then-s-a-gt23 c =
    inlet_past c.args.s.now (search rules) c.args.p.at (search rules) c.args.i (search rules) (search rules)

pub port_at-requires : goal.port_at-requires
port_at-requires c =
    record { a_in_bounds = search rules; i_bound = omega (arith, inlets_few c.args.s.now (search rules) c.args.p.at (search rules)) }

pub returns-else-s-a-gt23 : goal.returns-else-s-a-gt23
returns-else-s-a-gt23 c =
    c.port_at.ensures ∙ sym (inlet_in c.args.s.now (search rules) c.args.p.at (search rules) c.args.i (search rules) (search rules))
