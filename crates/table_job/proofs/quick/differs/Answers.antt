-- `table_job::quick::differs` meets its contract.
use native.Mathlib.Omega.{arith}
use borrow.Author.Tests.{ne_eqb}
use Rattle.table_job.specs.Quick.{rows_differ, other_segment, no_segment, none_differ, none_other}
use Rattle.table_job.proofs.quick.differs.Goals as goal

pub returns-then-get_word-g : goal.returns-then-get_word-g
returns-then-get_word-g c =
    rw c.get_word-then-get_word-g.ensures (rows_differ c.args.r.now c.requires c.args.g c.args.n c.in-0.is
    (rw c.get_word.ensures at c.if-get_word-g.true))

pub returns-else-get_word-g : goal.returns-else-get_word-g
returns-else-get_word-g c =
    rw (ne_eqb c.get_word.result c.args.g c.if-get_word-g.false)
    (other_segment c.args.r.now c.requires c.args.g c.args.n c.in-0.is (rw c.get_word.ensures at c.if-get_word-g.false))

pub returns-in-1 : goal.returns-in-1
returns-in-1 c = no_segment c.args.r.now c.requires c.args.g c.args.n (omega arith) (omega arith)

pub returns-then-g-eq0 : goal.returns-then-g-eq0
returns-then-g-eq0 c = none_differ c.args.r.now c.requires c.args.g c.args.n (omega arith) c.if-g-eq0.true

pub returns-else-g-eq0 : goal.returns-else-g-eq0
returns-else-g-eq0 c =
    rw (ne_eqb c.args.g 0 c.if-g-eq0.false) (none_other c.args.r.now c.requires c.args.g c.args.n (omega arith) c.if-g-eq0.false)
