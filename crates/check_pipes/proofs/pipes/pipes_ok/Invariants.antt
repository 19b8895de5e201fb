-- `check_pipes::pipes::pipes_ok` meets its contract: what is left to test has the same answer.
use mathlib.Core.Path.{◌≡◌}
use Prim.Native.Nat.{◌*◌}
use Rattle.rules.specs.Table.{each}
use Rattle.rules.specs.Check.{pipe_ok}
use Rattle.tables.specs.View.{view}
use Rattle.numbers.specs.Loops.{from}
use Rattle.check_pipes.proofs.pipes.pipes_ok.Given as goal

abbrev pub invariant-loop-k : goal.invariant-loop-k
invariant-loop-k l = each (pipe_ok (view l.s)) 0 (view l.s).pipes ≡ from (pipe_ok (view l.s)) (view l.s).pipes (l.k * 24)
