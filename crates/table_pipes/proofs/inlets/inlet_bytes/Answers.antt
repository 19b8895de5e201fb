-- `table_pipes::inlets::inlet_bytes` meets its contract.
use mathlib.Core.Path.{◌≡◌, ap, ◌∙◌}
use lib.ListN.{length}
use borrow.Author.Rules.{rules}
use Rattle.table_pipes.specs.Inlets.{bytes_more, bytes_count, bytes_all}
use Rattle.table_pipes.proofs.inlets.inlet_bytes.Goals as goal

pub loop-i-preserved : goal.loop-i-preserved
loop-i-preserved c =
    let ys = c.copy_from_slice.new.self in
    let e = c.copy_from_slice.ensures.after ∙ c.to_le_bytes.ensures in (
      bytes_count c.loop-i.r ys c.loop-i.i (search rules) (search rules) (ap length e) ∙ c.loop-i.invariant.0,
      bytes_more c.loop-i.r c.args.x.ports ys c.loop-i.i (search rules) (search rules) (search rules) e (search rules) c.loop-i.invariant.1,
    )

pub returns : goal.returns
returns c =
    let e : c.loop-i.i ≡ c.args.x.len = search rules in
    bytes_all c.loop-i.r c.args.x.ports c.args.x.len (search rules) c.loop-i.invariant.0 (rw e at c.loop-i.invariant.1)
