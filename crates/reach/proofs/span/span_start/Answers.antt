-- `reach::span::span_start` meets its contract.
use borrow.Author.Rules.{rules}
use Prim.Native.Nat.{◌-◌}
use native.Mathlib.Omega.{arith}
use Rattle.tables.specs.View.{view}
use Rattle.reach.specs.Span.{start_more, start_last, start_none, start_all}
use Rattle.reach.proofs.span.span_start.Goals as goal

pub returns-then-n-eq0 : goal.returns-then-n-eq0
returns-then-n-eq0 c = start_none (view c.args.s.now).job.splits (omega (arith, c.split_count-n.ensures.value))

pub loop-k-init : goal.loop-k-init
loop-k-init c = (
  omega (arith, c.split_count-n.ensures.value),
  start_last (view c.args.s.now).job.splits _ c.split_start-least.result (omega (arith, c.split_count-n.ensures.value))
      c.split_start-least.ensures,
)

pub loop-k-preserved : goal.loop-k-preserved
loop-k-preserved c = (
  omega (arith, c.loop-k.invariant.0),
  start_more (view c.args.s.now).job.splits c.loop-k.k (c.loop-k.k - 1) _ c.loop-k.least c.split_start.result (omega arith)
      c.loop-k.invariant.0 c.split_start.ensures c.loop-k.invariant.1 c.min-least.ensures,
)

pub returns : goal.returns
returns c =
    start_all (view c.args.s.now).job.splits c.loop-k.k c.loop-k.least (search rules) c.loop-k.invariant.1
