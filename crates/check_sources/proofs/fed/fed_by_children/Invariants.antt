-- `check_sources::fed::fed_by_children` meets its contract: what is left to test has the same answer.
use mathlib.Core.Path.{◌≡◌}
use lib.ListN.{drop}
use Rattle.rules.specs.Machine.{inlets_at}
use Rattle.rules.specs.Check.{fed_below}
use Rattle.tables.specs.View.{view}
use Rattle.check_sources.specs.Fed.{rising}
use Rattle.check_sources.proofs.fed.fed_by_children.Given as goal

abbrev pub invariant-loop-i : goal.invariant-loop-i
invariant-loop-i l = fed_below (view l.s) l.p.at (inlets_at (view l.s) l.p.at) ≡ rising (view l.s) l.p.at l.least (drop l.i (inlets_at (view l.s) l.p.at))
