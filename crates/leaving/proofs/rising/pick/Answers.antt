-- `leaving::rising::pick` meets its contract.
use mathlib.Core.Path.{ap, ◌∙◌}
use mathlib.Core.Option.{none, some}
use Rattle.leaving.specs.Found.{place_of}
use Rattle.tables.specs.View.{view}
use Rattle.leaving.specs.Going.{picked_dead, picked_stays, picked_goes}
use Rattle.leaving.proofs.rising.pick.Goals as goal

pub returns-then-not-is_live : goal.returns-then-not-is_live
returns-then-not-is_live c =
    picked_dead (view c.args.s.now) c.args.p.at (place_of c.args.best) c.is_live.result c.is_live.result c.is_live.ensures
    (c.if-not-is_live.true)

pub returns-then-not-may_go : goal.returns-then-not-may_go
returns-then-not-may_go c =
    picked_stays (view c.args.s.now) c.args.p.at (place_of c.args.best) c.is_live.result c.may_go.result c.is_live.ensures c.may_go.ensures
    (c.if-not-may_go.true)

pub returns-in-None : goal.returns-in-None
returns-in-None c =
    picked_goes (view c.args.s.now) c.args.p.at (place_of c.args.best) c.is_live.result c.may_go.result c.is_live.ensures c.may_go.ensures
    (c.if-not-may_go.false) (c.if-not-is_live.false) none (ap place_of c.in-None.is)

pub returns-in-Some : goal.returns-in-Some
returns-in-Some c =
    c.lesser.ensures
    ∙ picked_goes (view c.args.s.now) c.args.p.at (place_of c.args.best) c.is_live.result c.may_go.result c.is_live.ensures c.may_go.ensures
    (c.if-not-may_go.false) (c.if-not-is_live.false) (some c.in-Some.b.at) (ap place_of c.in-Some.is)
