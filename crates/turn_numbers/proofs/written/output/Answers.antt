-- `turn_numbers::written::output` meets its contract.
use Rattle.turn_numbers.specs.Columns.{output_is}
use lib.ListN.{length}
use mathlib.Core.Path.{◌≡◌}
use borrow.Author.Rules.{rules}
use Rattle.turn_numbers.proofs.written.output.Goals as goal

pub returns : goal.returns
returns c =
    let b = c.args.b in
    let k : length b.segment ≡ 4 = search rules in
    let l : length b.first ≡ 4 = search rules in
    output_is c.args.split _ b.rows b.width _ _ _ _ _
    _ _ _ _ b.segment b.first k l (search rules)
    c.columns.ensures
    c.at.ensures c.at-2.ensures
    c.at-3.ensures c.at-4.ensures c.at-5.ensures
    c.at-6.ensures c.at-7.ensures c.at-8.ensures
