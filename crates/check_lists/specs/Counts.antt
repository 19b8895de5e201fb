-- The front parts of the test of counts.
use Rattle.std.specs.Prelude.{Bool, ◌&&◌, leb, length}
use Rattle.rules.specs.Machine.{Machine}
use Rattle.rules.specs.Check.{split_count}

-- the next split, the pipeline numbers, the freed ones and the pipelines to run
abbrev pub number_counts : Machine → Bool
number_counts m = leb m.next (split_count m) && leb m.made 96 && leb (length m.freed) 96 && leb (length m.ready) 96

-- those, the reads and the new reads
abbrev pub read_counts : Machine → Bool
read_counts m = number_counts m && leb (length m.reads) 24 && leb (length m.news) 24
