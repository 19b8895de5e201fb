use borrow.Author.Rules.{rules}
use Rattle.outlets.specs.Each.{push_nothing, own_push, push_swept}
use Rattle.tables.specs.View.{view}
use Rattle.batches.specs.Batch.{batch_of}
use mathlib.Core.Path.{◌∙◌, refl}
use Rattle.outlets.proofs.each.push_out.Goals as goal

pub returns-then-b-eq0 : goal.returns-then-b-eq0
returns-then-b-eq0 c =
    (push_nothing (view c.args.s.now) c.args.p.at (batch_of c.args.b) c.if-b-eq0.true, refl)

pub push_own-requires : goal.push_own-requires
push_own-requires c =
    record { width_bound = search rules; x_len_bound = c.requires.p_len_bound c.if-p-lt72.true }

pub returns-then-p-lt72 : goal.returns-then-p-lt72
returns-then-p-lt72 c =
    (c.push_own.ensures.0 ∙ own_push (view c.args.s.now) c.args.p.at (batch_of c.args.b) c.if-p-lt72.true c.if-b-eq0.false, c.push_own.ensures.1)

pub returns : goal.returns
returns c = (
  c.sweep.ensures.0 ∙ push_swept c.args.s.now (search rules) c.args.p.at c.if-p-lt72.false (batch_of c.args.b) (search rules) (search rules)
      c.requires.out_fits c.if-b-eq0.false,
  c.sweep.ensures.1,
)
