-- What the bytes of one record say. Every record of bytes says something; a kind or a count out of its range says what check 12 refuses.
use Rattle.std.specs.Prelude.{ℕ, ◌+◌, ◌*◌, Bool, false, List, [], ◌∷◌, eqb, leb, get_or, take, if◌then◌else◌}
use Rattle.std.proofs.Math.Option.{Option}
use Rattle.rules.specs.Job.{Kind, Node, no_node, Run, Split}
use Rattle.rules.specs.Job as job
use Rattle.rules.specs.Port.{Batch, no_batch, Seen, waiting, ready, ended}
use Rattle.rules.specs.Operators.{State, runnable, blocked, io, inlet, outlet, Source, segment, concat, pack}
use Rattle.rules.specs.Machine.{Pipeline, Stage, Reader, nobody, slot, pipe, Port, Read, Output}
use Rattle.jobs.specs.Job.{parent_of}
use Rattle.batches.specs.Cells.{cells_of}
use Rattle.layout.specs.Cut.{cut}
use Rattle.layout.specs.Records.{table}
use Rattle.layout.specs.Numbers.{byte, flag, option, half, word}

-- An enum is a tag and an argument.

unfoldable pub state_from : ℕ → ℕ → State
state_from tag i =
    if eqb tag 0 then runnable
    else if eqb tag 1 then blocked io
    else if eqb tag 2 then blocked (inlet i)
    else if eqb tag 3 then outlet
    else blocked (inlet 255)

unfoldable pub source_from : ℕ → ℕ → ℕ → ℕ → Source
source_from tag asked bytes n =
    if eqb tag 0 then segment (flag asked) (flag bytes) n
    else if eqb tag 1 then concat n
    else if eqb tag 2 then pack
    else segment false false 255

unfoldable pub reader_from : ℕ → ℕ → ℕ → Reader
reader_from tag p i =
    if eqb tag 0 then nobody
    else if eqb tag 1 then slot
    else if eqb tag 2 then pipe p i
    else pipe 255 255

-- Records

unfoldable pub pipeline : List ℕ → Pipeline
pipeline r = record { live = flag (byte r 0); state = state_from (byte r 1) (byte r 2); queued = flag (byte r 3); number = byte r 4 }

unfoldable pub source : List ℕ → Source
source r = source_from (byte r 0) (byte r 1) (byte r 2) (byte r 3)

unfoldable pub stage : List ℕ → Stage
stage r = record { cut = option (byte r 0) (byte r 1); continuing = flag (byte r 2); finishing = option (byte r 3) (byte r 4); more = flag (byte r 5) }

unfoldable pub port : List ℕ → Port
port r = record { there = flag (byte r 0); closed = flag (byte r 1); changed = flag (byte r 2); reader = reader_from (byte r 3) (byte r 4) (byte r 5) }

unfoldable pub read_record : List ℕ → Read
read_record r = record { leaf = byte r 0; owner = option (byte r 1) (byte r 2); delivered = flag (byte r 3) }

unfoldable pub active_split : List ℕ → Option ℕ
active_split r = option (byte r 0) (byte r 1)

-- a flag alone
unfoldable pub flag_record : List ℕ → Bool
flag_record r = flag (byte r 0)

-- how many, then ports of two bytes
unfoldable pub inlets : List ℕ → List ℕ
inlets r = if leb (byte r 0) 23 then take (byte r 0) (table half 2 23 (cut 1 47 r)) else 65535 ∷ []

-- what was seen of each inlet, up to the first byte that is none of the three
unfoldable pub seen_of : List ℕ → List Seen
seen_of [] = []
seen_of (b ∷ r) =
    if eqb b 1 then waiting ∷ seen_of r
    else if eqb b 2 then ready ∷ seen_of r
    else if eqb b 3 then ended ∷ seen_of r
    else []

-- the first n columns of nine numbers: the rows, the columns' segments, their first rows
unfoldable pub columns : ℕ → List ℕ → Batch
columns n w = record {
  rows = get_or w 0 0;
  cells = cells_of (take n (get_or w 1 0 ∷ get_or w 2 0 ∷ get_or w 3 0 ∷ get_or w 4 0 ∷ [])) (take n (get_or w 5 0 ∷ get_or w 6 0 ∷ get_or w 7 0 ∷ get_or w 8 0 ∷ []));
}

-- the number of columns, then the numbers
unfoldable pub batch : List ℕ → Batch
batch r = if leb (byte r 0) 4 then columns (byte r 0) (table word 4 9 (cut 1 37 r)) else no_batch

unfoldable pub output : List ℕ → Output
output r = record { split = byte r 0; batch = batch (cut 1 38 r) }

-- The job

unfoldable pub kind_from : ℕ → Kind
kind_from k = if eqb k 0 then job.segment else if eqb k 1 then job.concat else job.pack

-- the kind, the width and the parent, then the segment, the rows, and where row 0 is in two numbers
abbrev pub node_from : ℕ → ℕ → ℕ → List ℕ → Node
node_from kind width parent w = record {
  kind = kind_from kind;
  segment = get_or w 0 0;
  rows = get_or w 1 0;
  width = width;
  parent = parent_of parent;
  at = get_or w 2 0 + 4294967296 * get_or w 3 0;
}

unfoldable pub node : List ℕ → Node
node r = if leb (byte r 0) 2 then node_from (byte r 0) (byte r 1) (byte r 2) (table word 4 4 (cut 3 19 r)) else no_node

unfoldable pub run : List ℕ → Run
run r = let w = table word 4 2 r in record { start = get_or w 0 0; size = get_or w 1 0 }

-- the first n of a split's runs; a count past the table is one run without rows
abbrev pub runs_from : ℕ → List ℕ → List Run
runs_from n r = if leb n 16 then take n (table run 8 16 r) else record { start = 0; size = 0 } ∷ []

-- how many runs, the split's start and end, then the runs
unfoldable pub split : List ℕ → Split
split r = let w = table word 4 2 (cut 1 9 r) in record { start = get_or w 0 0; end = get_or w 1 0; runs = runs_from (byte r 0) (cut 9 137 r) }
