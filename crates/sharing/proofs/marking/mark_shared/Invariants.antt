-- `sharing::marking::mark_shared` meets its contract.
use Rattle.sharing.specs.Marked.{Marked}
use Rattle.sharing.proofs.marking.mark_shared.Given as goal

abbrev pub invariant-loop-i : goal.invariant-loop-i
invariant-loop-i l = Marked l.initial.s l.s l.i
