-- `check_sources::fed::fed_by_children` meets its contract: what is left to test has the same answer.
use mathlib.Core.Path.{sym, ◌∙◌}
use Prim.Native.Nat.{◌+◌, ◌<◌}
use lib.ListN.{drop}
use Rattle.rules.specs.Machine.{inlets_at}
use Rattle.tables.specs.View.{view}
use Rattle.check_sources.specs.Answers.{fails, goes_on}
use Rattle.check_sources.specs.Fed.{rising, fed_is, rising_first, rising_none, below_few}
use borrow.Author.Rules.{rules}
use Rattle.check_sources.proofs.fed.fed_by_children.Goals as goal

pub loop-i-init : goal.loop-i-init
loop-i-init c = fed_is _ _ _

pub returns-then-not-inlet_ok : goal.returns-then-not-inlet_ok
returns-then-not-inlet_ok c =
    let m = view c.args.s.now in
    let q = c.args.p.at in
    let l = inlets_at (view c.args.s.now) c.args.p.at in
    let k = c.loop-i.i in
    let x = c.inlet-x.result in
    let least = c.loop-i.least in
    fails _ _ (rising m q (x + 1) (drop (k + 1) l)) _ c.inlet_ok.ensures (rising_first m q least x l k (search rules) c.inlet-x.ensures)
    (c.if-not-inlet_ok.true)
    ∙ sym c.loop-i.invariant

pub overflow_add-least : goal.overflow_add-least
overflow_add-least c =
    let x = c.inlet-x.result in
    let h : x < 96 = below_few (view c.args.s.now) c.args.p.at c.loop-i.least x (search rules)
    (sym c.inlet_ok.ensures ∙ c.if-not-inlet_ok.false) in
    search rules

pub loop-i-preserved : goal.loop-i-preserved
loop-i-preserved c =
    let m = view c.args.s.now in
    let q = c.args.p.at in
    let l = inlets_at (view c.args.s.now) c.args.p.at in
    let k = c.loop-i.i in
    let x = c.inlet-x.result in
    let least = c.loop-i.least in
    c.loop-i.invariant
    ∙ goes_on _ _ (rising m q (x + 1) (drop (k + 1) l)) _ c.inlet_ok.ensures (rising_first m q least x l k (search rules) c.inlet-x.ensures)
    (c.if-not-inlet_ok.false)

pub returns : goal.returns
returns c =
    let m = view c.args.s.now in
    let p = c.args.p.at in
    rising_none m p c.loop-i.least (inlets_at m p) c.loop-i.i (search rules) ∙ sym c.loop-i.invariant
