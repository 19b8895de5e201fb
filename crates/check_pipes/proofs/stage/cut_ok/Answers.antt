-- `check_pipes::stage::cut_ok` meets its contract.
use mathlib.Core.Path.{sym}
use mathlib.Core.Bool.{or-true, or-false}
use Rattle.rules.specs.Table.{given}
use Rattle.rules.specs.Check.{is_shared}
use Rattle.tables.specs.View.{view}
use Rattle.check_pipes.proofs.stage.cut_ok.Goals as goal

pub returns-in-None : goal.returns-in-None
unfolding given
returns-in-None c = rw c.in-None.is (sym (or-true (is_shared (view c.args.s.now) c.args.p.at)))

pub returns-in-Some : goal.returns-in-Some
unfolding given
returns-in-Some c =
    rw (c.run_ok.ensures, c.from.ensures, c.in-Some.is, or-false (is_shared (view c.args.s.now) c.args.p.at))
