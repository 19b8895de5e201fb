-- `check_ports::held::cells_ok` meets its contract.
use mathlib.Core.Path.{sym, ap, ◌∙◌}
use native.Mathlib.Omega.{arith}
use borrow.Author.Rules.{rules}
use Rattle.rules.specs.Table.{all}
use Rattle.rules.specs.Check.{cell_ok}
use Rattle.tables.specs.View.{view}
use Rattle.batches.specs.Cells.{cells_whole}
use Rattle.check_ports.specs.Batches.{cells_pass, cells_fail, cells_end}
use Rattle.check_ports.proofs.held.cells_ok.Goals as goal

pub returns-then-not-cell_ok : goal.returns-then-not-cell_ok
returns-then-not-cell_ok c =
    let b = c.args.b in
    let f = cell_ok (view c.args.s.now).job b.rows in
    sym (ap (all f) (sym (cells_whole b.width b.segment b.first)) ∙ c.loop-i.invariant
    ∙ cells_fail f c.loop-i.i b.width b.segment b.first (search rules) (search rules) (search rules) (search rules)
    (sym (c.if-not-cell_ok.true) ∙ c.cell_ok.ensures))

pub loop-i-preserved : goal.loop-i-preserved
loop-i-preserved c =
    let b = c.args.b in
    let f = cell_ok (view c.args.s.now).job b.rows in
    c.loop-i.invariant ∙ cells_pass f c.loop-i.i b.width b.segment b.first (search rules) (search rules) (search rules) (search rules)
    (sym (c.if-not-cell_ok.false) ∙ c.cell_ok.ensures)

pub returns : goal.returns
returns c =
    let b = c.args.b in
    let f = cell_ok (view c.args.s.now).job b.rows in
    sym (ap (all f) (sym (cells_whole b.width b.segment b.first)) ∙ c.loop-i.invariant
    ∙ cells_end f c.loop-i.i b.width b.segment b.first (search rules) (search rules) (search rules) (omega arith))
