-- `check_lists::reads::reads_ok` meets its contract: what is left to test has the same answer.
use mathlib.Core.Path.{◌≡◌}
use lib.ListN.{drop}
use Rattle.rules.specs.Table.{all}
use Rattle.rules.specs.Check.{read_ok}
use Rattle.tables.specs.View.{view}
use Rattle.check_lists.proofs.reads.reads_ok.Given as goal

abbrev pub invariant-loop-k : goal.invariant-loop-k
invariant-loop-k l =
    all (read_ok (view l.s)) (view l.s).reads
    ≡ all (read_ok (view l.s)) (drop l.k (view l.s).reads)
