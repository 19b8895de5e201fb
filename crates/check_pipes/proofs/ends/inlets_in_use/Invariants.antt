-- `check_pipes::ends::inlets_in_use` meets its contract: what is left to test has the same answer.
use mathlib.Core.Path.{◌≡◌}
use lib.ListN.{drop}
use Rattle.rules.specs.Machine.{inlets_at}
use Rattle.rules.specs.Check.{inlets_live}
use Rattle.tables.specs.View.{view}
use Rattle.check_pipes.proofs.ends.inlets_in_use.Given as goal

abbrev pub invariant-loop-i : goal.invariant-loop-i
invariant-loop-i l = inlets_live (view l.s) l.p.at 0 (inlets_at (view l.s) l.p.at) ≡ inlets_live (view l.s) l.p.at l.i (drop l.i (inlets_at (view l.s) l.p.at))
