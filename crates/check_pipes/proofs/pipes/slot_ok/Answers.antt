-- `check_pipes::pipes::slot_ok` meets its contract.
use mathlib.Core.Path.{sym}
use native.Mathlib.Omega.{arith}
use Rattle.rules.specs.Machine.{no_pipe, pipe_at}
use Rattle.rules.specs.Check.{pipe_ok}
use Rattle.tables.specs.View.{view}
use Rattle.tables.specs.Lengths.{length_pipes}
use Rattle.numbers.specs.Loops.{each_skip}
use Rattle.check_pipes.specs.Pipes.{pipe_gone}
use Rattle.check_pipes.proofs.pipes.slot_ok.Goals as goal

pub returns-then-blank_pipes : goal.returns-then-blank_pipes
returns-then-blank_pipes c =
    let s = c.args.s.now in
    rw c.if-blank_pipes.true (each_skip (pipe_ok (view s)) no_pipe (view s).pipes c.args.p 24 (omega (arith, length_pipes s))
    (λ k a b. sym (pipe_gone (view s) k (pipe_at (view s) k) (c.blank_pipes.ensures.no_pipes c.if-blank_pipes.true k a b))))
