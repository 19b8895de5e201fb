-- `table_pipes::inlets::load_inlets` meets its contract.
use borrow.Author.Rules.{rules}
use Rattle.rules.specs.Machine.{inlets_at}
use Rattle.tables.specs.View.{view}
use Rattle.table_pipes.specs.Inlets.{taken_more}
use Rattle.table_pipes.proofs.inlets.load_inlets.Goals as goal

pub loop-i-preserved : goal.loop-i-preserved
loop-i-preserved c =
    let m = inlets_at (view c.args.s.now) c.args.p.at in
    (search rules, taken_more c.loop-i.ports m c.loop-i.i c.inlet_at.result (search rules) (search rules) c.inlet_at.ensures c.loop-i.invariant.1)
