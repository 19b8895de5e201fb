-- `node_records::join::set_parents` meets its contract.
use mathlib.Core.Path.{sym, ◌∙◌}
use lib.ListN.{length-set}
use Rattle.node_records.proofs.KidLaws.{blank, parents_end, parents_more}
use Rattle.node_records.proofs.join.set_parents.Goals as goal

pub loop-c-preserved : goal.loop-c-preserved
loop-c-preserved c =
    record {
      size = simp length-set c.loop-c.invariant.size;
      is = c.loop-c.invariant.is ∙ parents_more c.loop-c.nodes c.args.kids.now c.loop-c.c-index c.loop-c-test.true
          (record { few = c.requires.kids.few; below = λ k h. rw c.loop-c.invariant.size (c.requires.kids.below k h) }) c.from.result c.from.ensures blank
          c.args.p c.requires.p_bound;
    }

pub returns-clause-value : goal.returns-clause-value
returns-clause-value c = sym (c.loop-c.invariant.is ∙ parents_end c.loop-c.nodes c.args.kids.now c.loop-c.c-index c.args.p _ c.loop-c-test.false)
