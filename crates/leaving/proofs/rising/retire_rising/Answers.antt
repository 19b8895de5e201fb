-- `leaving::rising::retire_rising` meets its contract.
use mathlib.Core.Path.{refl, ◌∙◌}
use borrow.Author.Rules.{rules}
use Rattle.tables.specs.View.{view}
use Rattle.leaving.specs.Found.{found, none_found}
use Rattle.leaving.specs.Going.{next_inlets, retiring_next, retiring_falls, retiring_end}
use Rattle.leaving.proofs.rising.retire_rising.Goals as goal

pub withdraw-requires : goal.withdraw-requires
withdraw-requires c =
    let d = found c.args.k (view c.args.s.now) (view c.loop-p.s) c.next.result c.loop-p.invariant.0 c.loop-p.invariant.1 c.next.ensures c.in-Some.p c.in-Some.is in record {
      sized = search rules;
      all = next_inlets c.args.k c.in-Some.p.at (view c.args.s.now) (view c.loop-p.s) c.requires.k_bound d;
    }

pub loop-p-smaller : goal.loop-p-smaller
loop-p-smaller c =
    let d = found c.args.k (view c.args.s.now) (view c.loop-p.s) c.next.result c.loop-p.invariant.0 c.loop-p.invariant.1 c.next.ensures c.in-Some.p c.in-Some.is in
    retiring_falls c.args.k c.in-Some.p.at (view c.args.s.now) (view c.loop-p.s) c.requires.k_bound d _ c.withdraw.ensures.0

pub loop-p-preserved : goal.loop-p-preserved
loop-p-preserved c =
    let d = found c.args.k (view c.args.s.now) (view c.loop-p.s) c.next.result c.loop-p.invariant.0 c.loop-p.invariant.1 c.next.ensures c.in-Some.p c.in-Some.is in
    let r = retiring_next c.args.k c.in-Some.p.at (view c.args.s.now) (view c.loop-p.s) c.requires.k_bound d _ _ c.withdraw.ensures.0 refl in
    (r.ranged, r.same, c.withdraw.ensures.1 ∙ c.loop-p.invariant.2)

pub returns : goal.returns
returns c =
    let d = none_found c.args.k (view c.args.s.now) (view c.loop-p.s) c.next.result c.loop-p.invariant.0 c.loop-p.invariant.1 c.next.ensures
    c.in_default.is in
    (retiring_end c.args.k (view c.args.s.now) (view c.loop-p.s) d, c.loop-p.invariant.2)
