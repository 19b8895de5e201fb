-- `check_pipes::pipes::pipes_ok` meets its contract: what is left to test has the same answer.
use mathlib.Core.Path.{sym, ◌∙◌}
use Prim.Native.Nat.{◌*◌}
use native.Mathlib.Omega.{arith}
use Rattle.rules.specs.Check.{pipe_ok}
use Rattle.tables.specs.View.{view}
use Rattle.tables.specs.Lengths.{length_pipes}
use Rattle.numbers.specs.Loops.{each_none}
use Rattle.check_pipes.proofs.pipes.pipes_ok.Goals as goal

pub returns : goal.returns
returns c =
    let s = c.args.s.now in
    sym (c.loop-k.invariant ∙ each_none (pipe_ok (view s)) (view s).pipes (c.loop-k.k * 24) (omega (arith, length_pipes s)))
