-- `table_blank::outlines::store_outlines` meets its contract: the first i splits are written.
use Prim.Native.Nat.{◌+◌, ◌≤◌, ◌<◌}
use mathlib.Core.Path.{◌≡◌, refl}
use native.Mathlib.Omega.{arith}
use lib.ListN.{length}
use Rattle.rules.specs.Plan.{no_split}
use Rattle.jobs.specs.Job.{front}
use Rattle.jobs.proofs.Front.{front_none}
use Rattle.split_records.specs.Split.{outline_of, no_outline}
use Rattle.tables.specs.Decode.{split}
use Rattle.table_blank.specs.Filled.{front_next, filled_none, filled_more}
use borrow.Author.Rules.{rules}
use Rattle.table_blank.proofs.outlines.store_outlines.Goals as goal

pub loop-i-init : goal.loop-i-init
loop-i-init c = rw (front_none (outline_of c.args.b.now) _) (filled_none split 1135 137 16 _)

pub loop-i-preserved : goal.loop-i-preserved
loop-i-preserved c =
    let s = c.args.s.now in
    let splits = c.args.splits in
    let ys = c.put_outline.new.r in
    let h : c.loop-i.i < 16 = search rules in
    let g : length splits ≡ 16 = c.well_formed.1.1.0.1.0.1 in
    let z : 39327 ≤ length s = search rules in
    let n : length ys ≡ 137 = search rules in
    filled_more split 1135 137 16 s c.loop-i.s c.loop-i.i (front (outline_of c.args.b.now) splits c.loop-i.i)
    (front (outline_of c.args.b.now) splits (c.loop-i.i + 1)) ys
    no_split h (omega arith) refl n (front_next (outline_of c.args.b.now) splits c.loop-i.i no_outline (split ys)
    (omega (arith, g))
    c.put_outline.ensures) c.loop-i.invariant
