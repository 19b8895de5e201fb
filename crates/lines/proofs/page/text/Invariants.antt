-- `lines::page::text` meets its contract: what is still to be put comes to the same as all.
use Rattle.lines.specs.Page.{page, puts}
use lib.ListN.{drop}
use mathlib.Core.Path.{◌≡◌}
use Rattle.lines.proofs.page.text.Given as goal

abbrev pub invariant-loop-x : goal.invariant-loop-x
invariant-loop-x l = puts (drop l.x-index l.b) (page l.out l.done) ≡ puts l.b (page l.initial.out l.initial.done)
