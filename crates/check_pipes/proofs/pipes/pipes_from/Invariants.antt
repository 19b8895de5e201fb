-- `check_pipes::pipes::pipes_from` meets its contract: what is left to test has the same answer.
use mathlib.Core.Path.{◌≡◌}
use Rattle.rules.specs.Check.{pipe_ok}
use Rattle.tables.specs.View.{view}
use Rattle.numbers.specs.Loops.{from}
use Rattle.check_pipes.proofs.pipes.pipes_from.Given as goal

abbrev pub invariant-loop-i : goal.invariant-loop-i
invariant-loop-i l = from (pipe_ok (view l.s)) (view l.s).pipes l.p ≡ from (pipe_ok (view l.s)) (view l.s).pipes l.i
