-- `table_blank::node::kind_number` meets its contract.
use native.Mathlib.Omega.{arith}
use Rattle.tables.specs.Decode.{kind_from}
use Rattle.table_blank.proofs.node.kind_number.Goals as goal

pub returns-in-Segment : goal.returns-in-Segment
unfolding kind_from
returns-in-Segment c = record { result_value = rw c.in-Segment.is; upper_bound = omega arith }

pub returns-in-Concat : goal.returns-in-Concat
unfolding kind_from
returns-in-Concat c = record { result_value = rw c.in-Concat.is; upper_bound = omega arith }

pub returns-in-Pack : goal.returns-in-Pack
unfolding kind_from
returns-in-Pack c = record { result_value = rw c.in-Pack.is; upper_bound = omega arith }
