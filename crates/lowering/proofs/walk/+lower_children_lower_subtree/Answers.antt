-- The cycle of calls {lower_children, lower_subtree} meets its contracts.
use Rattle.std.proofs.Common.{arith, refl, ap, ◌∙◌, suc, ◌+◌, ◌-◌, ℕ}
use Rattle.rules.specs.Job.{Node}
use Rattle.tables.specs.View.{view}
use Rattle.lowering.specs.Walk.{node_none, node_made, list_none, child_from, child_whole, rest_job, rest_whole, list_more, made_job, made_kind}
use Rattle.lowering.proofs.walk.+lower_children_lower_subtree.Goals as goal

pub lower_children-returns-in_default-clause-becomes : goal.lower_children-returns-in_default-clause-becomes
lower_children-returns-in_default-clause-becomes t c f h =
    (list_none _ _ _ _ _ (view c.args.s.now) c.requires.job_ok c.in_default.ensures.value (omega arith) f, refl)

pub lower_children-lower_subtree-requires : goal.lower_children-lower_subtree-requires
lower_children-lower_subtree-requires t c =
    let e = c.in-Some.ensures in
    let m = view c.args.s.now in
    let ok = c.requires.job_ok in
    let from = child_from c.args.k.at c.args.t.at c.args.i c.args.n.at _ m ok e.value e.upper_bound in (
      omega (arith, c.decreases, e.upper_bound, from),
      (
        from,
        (
          ok,
          child_whole c.args.k.at c.args.t.at c.args.i c.args.n.at _ m ok e.value e.upper_bound c.requires.whole,
        ),
      ),
    )

pub lower_children-lower_children-requires : goal.lower_children-lower_children-requires
lower_children-lower_children-requires t c =
    let e = c.in-Some.ensures in
    let m = view c.args.s.now in
    let ok = c.requires.job_ok in
    let from = child_from c.args.k.at c.args.t.at c.args.i c.args.n.at _ m ok e.value e.upper_bound in (
      omega (arith, c.decreases, e.upper_bound, from),
      (
        omega (arith, e.upper_bound),
        (
          rest_job c.args.k.at c.args.t.at c.args.i c.args.n.at _ m ok e.value _ e.upper_bound (λ f h. (c.lower_subtree.ensures.becomes f h).0),
          rest_whole c.args.k.at c.args.t.at c.args.i c.args.n.at _ m ok e.value _ e.upper_bound (λ f h. (c.lower_subtree.ensures.becomes f h).0),
        ),
      ),
    )

pub lower_children-returns-clause-becomes : goal.lower_children-returns-clause-becomes
lower_children-returns-clause-becomes t c f h =
    let e = c.in-Some.ensures in
    let x : ℕ = c.in-Some.c.at in
    let a = suc (x - c.args.i + (x - c.args.i)) in
    let b = c.args.n.at - (x + 1) + (c.args.n.at - (x + 1)) in (
      list_more c.args.k.at c.args.t.at c.args.i c.args.n.at _ (view c.args.s.now) c.requires.job_ok e.value _ e.upper_bound
          (λ g o. (c.lower_subtree.ensures.becomes g o).0) _ (λ g o. (c.lower_children.ensures.becomes g o).0) f h,
      (c.lower_children.ensures.becomes b (omega arith)).1 ∙ (c.lower_subtree.ensures.becomes a (omega arith)).1,
    )

pub lower_subtree-returns-then-not-keeps-clause-becomes : goal.lower_subtree-returns-then-not-keeps-clause-becomes
lower_subtree-returns-then-not-keeps-clause-becomes t c f h =
    (node_none _ _ c.args.i _ (view c.args.s.now) _ c.keeps.ensures c.if-not-keeps.true f h, refl)

pub lower_subtree-lower_children-requires : goal.lower_subtree-lower_children-requires
lower_subtree-lower_children-requires t c = (
  omega (arith, c.decreases),
  (c.requires.i_le_n, (c.requires.job_ok, λ x p e l h. c.requires.whole x p e l (omega arith))),
)

pub lower_subtree-lower_kind-requires-clause-job_ok :
    goal.lower_subtree-lower_kind-requires-clause-job_ok
lower_subtree-lower_kind-requires-clause-job_ok t c =
    made_job c.args.k.at c.args.t.at c.args.i c.args.n.at (view c.args.s.now) _ c.requires.job_ok (λ f h. (c.lower_children.ensures.becomes f h).0)

pub lower_subtree-lower_kind-requires-clause-kind_value :
    goal.lower_subtree-lower_kind-requires-clause-kind_value
lower_subtree-lower_kind-requires-clause-kind_value t c =
    made_kind c.args.k.at c.args.t.at c.args.i c.args.n.at (view c.args.s.now) _ _ c.load_node-x.ensures (λ f h. (c.lower_children.ensures.becomes f h).0)

pub lower_subtree-returns-clause-becomes : goal.lower_subtree-returns-clause-becomes
lower_subtree-returns-clause-becomes t c f h = (
  node_made c.args.k.at c.args.t.at c.args.i c.args.n.at (view c.args.s.now) _ _ _ _ c.keeps.ensures c.if-not-keeps.false
      (ap (λ (x : Node). x.kind) c.load_node-x.ensures) c.requires.i_le_n c.requires.whole (λ g o. (c.lower_children.ensures.becomes g o).0)
      c.lower_kind.ensures.0 f h,
  c.lower_kind.ensures.1 ∙ (c.lower_children.ensures.becomes (c.args.n.at - c.args.i + (c.args.n.at - c.args.i)) (omega arith)).1,
)
