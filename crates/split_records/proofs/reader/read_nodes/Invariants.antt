-- `split_records::reader::read_nodes` meets its contract. The invariant: the rule's answer on all bytes is its answer on the draft
-- and the bytes from `at` on. The measure is the number of those.
use Prim.Native.Nat.{◌-◌}
use lib.ListN.{length}
use Rattle.node_records.specs.Draft.{Fine, reading_of}
use Rattle.split_records.specs.Reading.{Stands}
use Rattle.split_records.proofs.reader.read_nodes.Given as goal

abbrev pub invariant-loop-at : goal.invariant-loop-at
invariant-loop-at l = record { fine : Fine l.d; stands : Stands l.b (reading_of l.d) l.at }

abbrev pub decreases-loop-at : goal.decreases-loop-at
decreases-loop-at l = length l.b - l.at
