-- `plan::place::starts` meets its contract. The invariant: the starts before i are found, and the sums are the offsets at i.
use Rattle.jobs.specs.Job.{front, node_of}
use Rattle.plan.proofs.StartLaws.{Started}
use Rattle.plan.proofs.place.starts.Given as goal

abbrev pub invariant-loop-i : goal.invariant-loop-i
invariant-loop-i l = Started (front node_of l.table l.count) l.i l.starts l.sums
