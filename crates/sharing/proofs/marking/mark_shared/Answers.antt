-- `sharing::marking::mark_shared` meets its contract.
use mathlib.Core.Path.{◌≡◌, ap, sym, ◌∙◌}
use Rattle.numbers.specs.Opt.{either_of}
use borrow.Author.Rules.{rules}
use Rattle.sharing.specs.Marked.{marked_start, marked_next, marked_all}
use Rattle.sharing.proofs.marking.mark_shared.Goals as goal
use Rattle.sharing.proofs.marking.mark_shared.Goals.{in-Ok, in-Err}

pub loop-i-init : goal.loop-i-init
loop-i-init c = marked_start c.args.s.now

pub shared_first-shared-requires-clause-distinct : goal.shared_first-shared-requires-clause-distinct
shared_first-shared-requires-clause-distinct c =
    let q : either_of c.job_ok.result ≡ c.match-job_ok.distinct = elim c.match-job_ok.branch [
      | in-Ok w ↦ ap either_of w.in-Ok.is ∙ sym w.distinct-is
      | in-Err w ↦ ap either_of w.in-Err.is ∙ sym w.distinct-is
    ] in
    λ e. rw c.loop-i.invariant.is (c.job_ok.ensures.distinct (q ∙ e))

pub loop-i-preserved : goal.loop-i-preserved
loop-i-preserved c =
    marked_next c.args.s.now c.loop-i.s c.set_unbuilt.new.s c.loop-i.i c.shared_first-shared.result c.loop-i.invariant c.loop-i-test.true (search rules)
    c.shared_first-shared.ensures c.set_unbuilt.ensures.0 c.set_unbuilt.ensures.1

pub returns-clause-marked : goal.returns-clause-marked
returns-clause-marked c =
    (marked_all c.args.s.now c.loop-i.s c.loop-i.i c.loop-i.invariant c.loop-i-test.false, c.loop-i.invariant.past)
