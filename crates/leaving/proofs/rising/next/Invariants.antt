-- `leaving::rising::next` meets its contract.
use Rattle.leaving.specs.Found.{place_of}
use Rattle.tables.specs.View.{view}
use Rattle.leaving.specs.Going.{Looking}
use Rattle.leaving.proofs.rising.next.Given as goal

abbrev pub invariant-loop-i : goal.invariant-loop-i
invariant-loop-i l = Looking (view l.s) l.k l.i (place_of l.best)
