-- `table_job::node::kind_of` meets its contract.
use native.Mathlib.Omega.{arith}
use borrow.Author.Tests.{ne_eqb}
use Rattle.tables.specs.Decode.{kind_from}
use Rattle.table_job.proofs.node.kind_of.Goals as goal

pub returns-in-0 : goal.returns-in-0
unfolding kind_from
returns-in-0 c = rw c.in-0.is

pub returns-in-1 : goal.returns-in-1
unfolding kind_from
returns-in-1 c = rw c.in-1.is

pub returns-in_default : goal.returns-in_default
unfolding kind_from
returns-in_default c = rw (ne_eqb c.args.k 0 (omega arith), ne_eqb c.args.k 1 (omega arith))
