-- The rules' value for the runs of a leaf.
use Rattle.std.specs.Prelude.{List, map, take}
use Rattle.rules.specs.Plan.{Piece, pieces_of}
use Rattle.jobs.specs.declared.Run.{Run}
use Rattle.jobs.specs.Job.{run_of}
use Rattle.segment_source.specs.declared.pieces.Pieces.{Pieces}

-- the first `len` runs, each with the leaf
abbrev pub pieces_in : Pieces → List Piece
pieces_in t = pieces_of t.leaf t.segment.0 (map run_of (take t.len t.runs))

-- what stands past the end of a table of runs
abbrev pub no_run : Run
no_run = record { start = 0; size = 0 }
