-- `check_pipes::pipes::pipes_from` meets its contract: what is left to test has the same answer.
use mathlib.Core.Path.{sym, ◌∙◌}
use native.Mathlib.Omega.{arith}
use Rattle.rules.specs.Machine.{no_pipe}
use Rattle.rules.specs.Check.{pipe_ok}
use Rattle.tables.specs.View.{view}
use Rattle.tables.specs.Lengths.{length_pipes}
use Rattle.numbers.specs.Loops.{each_pass, each_fail}
use Rattle.check_pipes.proofs.pipes.pipes_from.Goals as goal

pub returns-then-not-pipe_in_order : goal.returns-then-not-pipe_in_order
returns-then-not-pipe_in_order c =
    let s = c.args.s.now in
    c.loop-i.invariant ∙ each_fail (pipe_ok (view s)) no_pipe (view s).pipes c.loop-i.i (omega (arith, length_pipes s))
    (sym (c.if-not-pipe_in_order.true) ∙ c.pipe_in_order.ensures)

pub loop-i-preserved : goal.loop-i-preserved
loop-i-preserved c =
    let s = c.args.s.now in
    c.loop-i.invariant ∙ each_pass (pipe_ok (view s)) no_pipe (view s).pipes c.loop-i.i (omega (arith, length_pipes s))
    (sym (c.if-not-pipe_in_order.false) ∙ c.pipe_in_order.ensures)
