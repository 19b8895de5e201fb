-- `reach::span::span_end` meets its contract.
use borrow.Author.Rules.{rules}
use Prim.Native.Nat.{◌-◌}
use native.Mathlib.Omega.{arith}
use Rattle.tables.specs.View.{view}
use Rattle.reach.specs.Span.{end_more, end_none, end_all}
use Rattle.reach.proofs.span.span_end.Goals as goal

pub loop-k-init : goal.loop-k-init
loop-k-init c =
    (omega (arith, c.split_count-n.ensures.value), end_none (view c.args.s.now).job.splits c.split_count-n.result c.split_count-n.ensures.value)

pub loop-k-preserved : goal.loop-k-preserved
loop-k-preserved c = (
  omega (arith, c.loop-k.invariant.0),
  end_more (view c.args.s.now).job.splits c.loop-k.k (c.loop-k.k - 1) _ c.loop-k.most c.split_end.result (omega arith)
      c.loop-k.invariant.0 c.split_end.ensures c.loop-k.invariant.1 c.max-most.ensures,
)

pub returns : goal.returns
returns c =
    end_all (view c.args.s.now).job.splits c.loop-k.k c.loop-k.most (search rules) c.loop-k.invariant.1
