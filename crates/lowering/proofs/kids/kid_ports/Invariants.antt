-- `lowering::kids::kid_ports` meets its contract.
use Rattle.table_pipes.specs.Inlets.{inlets_of}
use Rattle.tables.specs.View.{view}
use Rattle.lowering.specs.Kids.{Listed}
use Rattle.lowering.proofs.kids.kid_ports.Given as goal

abbrev pub invariant-loop-c : goal.invariant-loop-c
invariant-loop-c l = Listed (view l.s).job l.k.at l.t l.n.at l.c l.xs.len (inlets_of l.xs)
