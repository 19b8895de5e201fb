-- `table_pipes::pipes::state_of` meets its contract: each tag picks its case.
use native.Mathlib.Omega.{arith}
use Rattle.table_pipes.specs.Tags.{state_else}
use Rattle.tables.specs.Decode.{state_from}
use Rattle.table_pipes.proofs.pipes.state_of.Goals as goal

pub returns-in-0 : goal.returns-in-0
unfolding state_from
returns-in-0 c = rw c.in-0.is

pub returns-in-1 : goal.returns-in-1
unfolding state_from
returns-in-1 c = rw c.in-1.is

pub returns-in-2 : goal.returns-in-2
unfolding state_from
returns-in-2 c = rw c.in-2.is

pub returns-in-3 : goal.returns-in-3
unfolding state_from
returns-in-3 c = rw c.in-3.is

pub returns-in_default : goal.returns-in_default
unfolding state_from
returns-in_default c = state_else c.args.tag _ (omega arith) (omega arith) (omega arith) (omega arith)
