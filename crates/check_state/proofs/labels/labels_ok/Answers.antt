-- `check_state::labels::labels_ok` meets its contract. The invariant: the numbers from the i-th on decide.
use mathlib.Core.Path.{refl, ap, sym, ◌∙◌}
use lib.ListN.{length}
use Rattle.rules.specs.Machine.{Machine}
use native.Mathlib.Omega.{arith}
use Rattle.check_state.specs.Labels.{labels_start, labels_end, labels_low, labels_high, labels_next}
use borrow.Author.Rules.{rules}
use Rattle.check_state.proofs.labels.labels_ok.Goals.{then-x-least-via-then-x-least, then-x-least-via-else-x-least+then-x-ge24}
use Rattle.check_state.proofs.labels.labels_ok.Goals as goal

pub loop-i-init : goal.loop-i-init
loop-i-init c = (
  omega arith,
  labels_start c.args.s.now c.node_count-n.result
      (c.node_count-n.ensures.value ∙ ap (λ (m : Machine). length m.job.nodes) c.machine.ensures.same_view),
)

pub returns-then-x-least : goal.returns-then-x-least
returns-then-x-least c =
    let s = c.args.s.now in
    let n = c.node_count-n.result in
    let i = c.loop-i.i in
    let t = c.loop-i-test.true in
    elim c.then-x-least.branch [
      | then-x-least-via-then-x-least w ↦ sym (c.loop-i.invariant.1 ∙ labels_low s n i c.loop-i.least _ t (search rules) refl w.if-x-least.true)
      | then-x-least-via-else-x-least+then-x-ge24 w ↦ sym (c.loop-i.invariant.1
          ∙ labels_high s n i c.loop-i.least _ t (search rules) refl w.if-x-least.false w.if-x-ge24.true)
    ]

pub loop-i-preserved : goal.loop-i-preserved
loop-i-preserved c = (
  search rules,
  c.loop-i.invariant.1 ∙ labels_next c.args.s.now c.node_count-n.result c.loop-i.i c.loop-i.least _ c.loop-i-test.true (search rules) refl
      (search rules)
      (search rules),
)

pub returns : goal.returns
returns c =
    sym (c.loop-i.invariant.1 ∙ labels_end c.args.s.now c.node_count-n.result c.loop-i.i c.loop-i.least c.loop-i-test.false)
