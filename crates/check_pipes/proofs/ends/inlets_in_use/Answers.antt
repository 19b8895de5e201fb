-- `check_pipes::ends::inlets_in_use` meets its contract: what is left to test has the same answer.
use mathlib.Core.Path.{sym, ◌∙◌}
use Prim.Native.Nat.{◌+◌}
use lib.ListN.{drop}
use Rattle.rules.specs.Machine.{inlets_at}
use Rattle.rules.specs.Check.{inlets_live}
use Rattle.tables.specs.View.{view}
use Rattle.check_sources.specs.Answers.{fails, goes_on}
use Rattle.check_pipes.specs.Ends.{live_first, live_none}
use borrow.Author.Rules.{rules}
use Rattle.check_pipes.proofs.ends.inlets_in_use.Goals as goal

pub returns-then-not-inlet_live : goal.returns-then-not-inlet_live
returns-then-not-inlet_live c =
    let m = view c.args.s.now in let q = c.args.p.at in let l = (inlets_at (view c.args.s.now) c.args.p.at) in let k = c.loop-i.i in
    fails _ _ (inlets_live m q (k + 1) (drop (k + 1) l)) _ c.inlet_live.ensures (live_first m q l k (search rules))
    (c.if-not-inlet_live.true) ∙ sym c.loop-i.invariant

pub loop-i-preserved : goal.loop-i-preserved
loop-i-preserved c =
    let m = view c.args.s.now in let q = c.args.p.at in let l = (inlets_at (view c.args.s.now) c.args.p.at) in let k = c.loop-i.i in
    c.loop-i.invariant ∙ goes_on _ _ (inlets_live m q (k + 1) (drop (k + 1) l)) _ c.inlet_live.ensures (live_first m q l k (search rules))
    (c.if-not-inlet_live.false)

pub returns : goal.returns
returns c =
    live_none (view c.args.s.now) c.args.p.at (inlets_at (view c.args.s.now) c.args.p.at) c.loop-i.i (search rules) ∙ sym c.loop-i.invariant
