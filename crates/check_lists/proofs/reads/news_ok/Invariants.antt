-- `check_lists::reads::news_ok` meets its contract: what is left to test has the same answer.
use mathlib.Core.Path.{◌≡◌}
use lib.ListN.{drop}
use Rattle.rules.specs.Table.{all}
use lib.Dec.{ltb}
use lib.ListN.{length}
use Rattle.tables.specs.View.{view}
use Rattle.check_lists.proofs.reads.news_ok.Given as goal

abbrev pub invariant-loop-k : goal.invariant-loop-k
invariant-loop-k l =
    all (λ i. ltb i (length (view l.s).reads)) (view l.s).news
    ≡ all (λ i. ltb i (length (view l.s).reads)) (drop l.k (view l.s).news)
