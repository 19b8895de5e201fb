-- `pack_source::fronts::least_of` meets its contract.
use native.Mathlib.Omega.{arith}
use borrow.Author.Rules.{rules}
use Rattle.pack_source.specs.FrontsLaws.{rows_last, rows_more}
use Rattle.pack_source.proofs.fronts.least_of.Goals as goal

pub loop-k-init : goal.loop-k-init
loop-k-init c = rows_last c.args.n c.args.batches (search rules) (search rules) (search rules)

pub loop-k-preserved : goal.loop-k-preserved
loop-k-preserved c =
    rows_more c.args.n c.args.batches (search rules) (search rules) c.loop-k.k c.loop-k.rows _ (search rules) (omega arith)
    c.loop-k.invariant c.min-rows.ensures
