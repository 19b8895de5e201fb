-- `split_records::reader::read_records` meets its contract. The invariant: the reader is among the splits, and those so far stand
-- in the table. The measure is the number of bytes that are left.
use mathlib.Core.Path.{◌≡◌}
use Prim.Native.Nat.{◌-◌, ◌≤◌}
use lib.ListN.{length}
use Rattle.jobs.specs.Job.{front}
use Rattle.node_records.specs.Draft.{reading_with}
use Rattle.split_records.specs.Split.{outline_of, AllLie}
use Rattle.split_records.specs.Reading.{AtSplits}
use Rattle.split_records.proofs.reader.read_records.Given as goal

abbrev pub invariant-loop-at : goal.invariant-loop-at
invariant-loop-at l =
    record {
      size : length l.splits ≡ 16;
      few : l.split_count ≤ 16;
      lie : AllLie l.b l.splits l.split_count;
      among : AtSplits l.b (reading_with l.draft (front (outline_of l.b) l.splits l.split_count)) l.at;
    }

abbrev pub decreases-loop-at : goal.decreases-loop-at
decreases-loop-at l = length l.b - l.at
