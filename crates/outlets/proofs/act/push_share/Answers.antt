use borrow.Author.Rules.{rules}
use Rattle.outlets.specs.Close.{push_full, push_empty}
use Rattle.tables.specs.Queues.{length_queues}
use Rattle.tables.specs.View.{view}
use Rattle.table_ports.specs.Shares.{whole_batch}
use native.Mathlib.Omega.{arith}
use Prim.Native.Nat.{◌-◌, ◌/◌, ◌<◌}
use mathlib.Core.Path.{◌∙◌}
use Rattle.outlets.proofs.act.push_share.Goals as goal

pub returns-then-full : goal.returns-then-full
returns-then-full c =
    let h : c.args.x.at < 456 = search rules in
    let n = length_queues c.args.s.now (search rules) in (
      rw (c.set_fault.ensures.0, c.mark_port.ensures.0) (push_full (view c.args.s.now) c.args.x.at (whole_batch (view c.args.s.now).job ((c.args.x.at - 72) / 16))
          c.is_full-full.result (search rules) (omega (arith, n, h)) c.is_full-full.ensures c.if-full.true),
      c.set_fault.ensures.1 ∙ c.mark_port.ensures.1,
    )

pub returns : goal.returns
returns c = (
  rw (c.fill_share.ensures.0, c.mark_port.ensures.0) (push_empty (view c.args.s.now) c.args.x.at
      (whole_batch (view c.args.s.now).job ((c.args.x.at - 72) / 16)) c.is_full-full.result (search rules) c.is_full-full.ensures c.if-full.false),
  c.fill_share.ensures.1 ∙
      c.mark_port.ensures.1,
)
