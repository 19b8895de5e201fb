-- `split_records::splits::read_faults` meets its contract. The invariant: no run before i is at fault, and `last` is where the one before i ends.
use Rattle.std.proofs.Common.{◌≡◌, ◌+◌, ◌*◌, ◌-◌}
use Rattle.rules.specs.Job as rule
use Rattle.records.specs.Read.{runs_at}
use Rattle.split_records.proofs.splits.read_faults.Given as goal

abbrev pub invariant-loop-i : goal.invariant-loop-i
invariant-loop-i l = rule.read_faults l.size 0 0 (runs_at l.b l.at l.n) ≡ rule.read_faults l.size l.i l.last (runs_at l.b (l.at + 8 * l.i) (l.n - l.i))
