-- `lines::columns::columns` meets its contract: the columns still to be put come to the same as all.
use Rattle.batches.specs.Cells.{cells_whole}
use Rattle.lines.specs.Columns.{column_next, column_none}
use Rattle.lines.specs.Page.{page}
use lib.ListN.{length}
use native.Mathlib.Omega.{arith}
use mathlib.Core.Path.{◌≡◌, sym, ◌∙◌}
use borrow.Author.Rules.{rules}
use Rattle.lines.proofs.columns.columns.Goals as goal

pub loop-i-init : goal.loop-i-init
loop-i-init c = rw (cells_whole c.args.b.width c.args.b.segment c.args.b.first)

pub loop-i-preserved : goal.loop-i-preserved
loop-i-preserved c =
    let b = c.args.b in
    let k : length b.segment ≡ 4 = search rules in
    let l : length b.first ≡ 4 = search rules in
    column_next c.loop-i.i b.width b.segment b.first (page c.loop-i.out c.loop-i.done) _ (omega arith) (omega arith) (omega arith)
    c.column-done.ensures ∙ c.loop-i.invariant

pub returns : goal.returns
returns c =
    let b = c.args.b in
    let k : length b.segment ≡ 4 = search rules in
    sym (column_none c.loop-i.i b.width b.segment b.first (page c.loop-i.out c.loop-i.done) (omega arith)) ∙ c.loop-i.invariant
