-- `table_pipes::inlets::inlet_count` meets its contract.
use mathlib.Core.Path.{ap, sym}
use lib.ListN.{length}
use borrow.Author.Rules.{rules}
use Rattle.table_pipes.specs.Inlets.{inlets_past, inlets_count}
use Rattle.table_pipes.proofs.inlets.inlet_count.Goals as goal

pub returns-then-n-gt23 : goal.returns-then-n-gt23
returns-then-n-gt23 c =
    record { value = sym (ap length (inlets_past c.args.s.now (search rules) c.args.p.at (search rules) (search rules))); upper_bound = search rules }

pub returns-else-n-gt23 : goal.returns-else-n-gt23
returns-else-n-gt23 c =
    record {
      value = inlets_count c.args.s.now (search rules) c.args.p.at (search rules) c.from-n.result c.from-n.ensures (search rules);
      upper_bound = search rules;
    }
