-- The theorem applied: to C1, to a job with a concat of one child, and to a job with a gap, a segment that two splits share, and two slots, with
-- the answers and the reads of its calls; and the bound is met.
use Rattle.std.specs.Prelude.{◌≡◌, refl, true, false, ℕ, zero, suc, ltb}
use mathlib.Core.List.{List, [], ◌∷◌, map, flat_map}
use Rattle.std.proofs.Math.Option.{none, some}
use Rattle.std.proofs.Common.{arith, ltb-true}
use Rattle.rules.specs.Table.{all}
use Rattle.rules.specs.Job.{Job, Node, Split, segment, concat, Bytes, accepted, parse, as_written}
use Rattle.rules.specs.Machine.{start}
use Rattle.rules.specs.Scan.{read, output, waits, done}
use Rattle.rules.specs.Session.{Call, ST, DL}
use Rattle.rules.specs.Demand.{Event, turn, delivery, Moment, moments, trace, events, most, done_within, Demand3}
use Rattle.rules.specs.Cases.{written, computing}
use Rattle.laws.specs.Table.{and_left, and_right}
use Rattle.order.specs.Theorem.{theorem}

-- numbers that are bytes
bytes_of : (l : List ℕ) → all (λ b. ltb b 256) l ≡ true → Bytes l
unfolding all
bytes_of [] e i = omega arith
bytes_of (b ∷ l) e zero = ltb-true b 256 (and_left (ltb b 256) (all (λ b. ltb b 256) l) e)
bytes_of (b ∷ l) e (suc i) = bytes_of l (and_right (ltb b 256) (all (λ b. ltb b 256) l) e) i

abbrev leaf : ℕ → ℕ → ℕ → ℕ → Node
leaf g n p r = record { kind = segment; segment = g; rows = n; width = 1; parent = some p; at = r }

abbrev concat_of : ℕ → ℕ → ℕ → Node
concat_of n p r = record { kind = concat; segment = 0; rows = n; width = 1; parent = some p; at = r }

abbrev root : ℕ → Node
root n = record { kind = concat; segment = 0; rows = n; width = 1; parent = none; at = 0 }

-- a split of the rows from a to b, with one run
abbrev split : ℕ → ℕ → ℕ → ℕ → Split
split a b r n = record { start = a; end = b; runs = record { start = r; size = n } ∷ [] }

-- C1: two segments joined

abbrev joined_bytes : List ℕ
joined_bytes = written (("SC", 1 ∷ []) ∷ ("SG", 1 ∷ 3 ∷ []) ∷ ("SG", 2 ∷ 2 ∷ []) ∷ ("CC", 2 ∷ []) ∷ ("SP", 0 ∷ 5 ∷ 1 ∷ 0 ∷ 5 ∷ []) ∷ [])

abbrev joined : Job
joined = record { slots = 1; nodes = leaf 1 3 2 0 ∷ leaf 2 2 2 3 ∷ root 5 ∷ []; splits = split 0 5 0 5 ∷ [] }

joined_opens : parse joined_bytes ≡ accepted joined
unfolding computing
joined_opens = refl

joined_written : as_written joined_bytes ≡ accepted joined
unfolding computing
joined_written = refl

joined_bytes_lem : all (λ b. ltb b 256) joined_bytes ≡ true
unfolding flat_map all
joined_bytes_lem = refl

pub c1_demanded : (calls : List Call) → Demand3 joined (start joined) calls
c1_demanded = theorem joined_bytes joined joined (bytes_of joined_bytes joined_bytes_lem) joined_opens joined_written

-- A concat of one child, which is read without it: the demand is of the job as it is written

abbrev lone_bytes : List ℕ
lone_bytes = written (("SC", 1 ∷ []) ∷ ("SG", 1 ∷ 1 ∷ []) ∷ ("CC", 1 ∷ []) ∷ ("SG", 2 ∷ 1 ∷ []) ∷ ("SG", 3 ∷ 1 ∷ []) ∷ ("CC", 2 ∷ []) ∷ ("CC", 2 ∷ [])
    ∷ ("SP", 0 ∷ 3 ∷ 1 ∷ 0 ∷ 3 ∷ []) ∷ [])

abbrev lone : Job
lone = record { slots = 1; nodes = leaf 1 1 4 0 ∷ leaf 2 1 3 1 ∷ leaf 3 1 3 2 ∷ concat_of 2 4 1 ∷ root 3 ∷ []; splits = split 0 3 0 3 ∷ [] }

abbrev lone_written : Job
lone_written = record {
  slots = 1;
  nodes = leaf 1 1 1 0 ∷ concat_of 1 5 0 ∷ leaf 2 1 4 1 ∷ leaf 3 1 4 2 ∷ concat_of 2 5 1 ∷ root 3 ∷ [];
  splits = split 0 3 0 3 ∷ [];
}

lone_opens : parse lone_bytes ≡ accepted lone
unfolding computing
lone_opens = refl

lone_written_lem : as_written lone_bytes ≡ accepted lone_written
unfolding computing
lone_written_lem = refl

lone_bytes_lem : all (λ b. ltb b 256) lone_bytes ≡ true
unfolding flat_map all
lone_bytes_lem = refl

pub lone_demanded : (calls : List Call) → Demand3 lone_written (start lone) calls
lone_demanded = theorem lone_bytes lone lone_written (bytes_of lone_bytes lone_bytes_lem) lone_opens lone_written_lem

-- A gap, a shared segment, two slots: nothing is kept of segment 8, and segment 7 stands above and below it

abbrev gap_bytes : List ℕ
gap_bytes = written (("SC", 2 ∷ []) ∷ ("SG", 7 ∷ 3 ∷ []) ∷ ("SG", 8 ∷ 2 ∷ []) ∷ ("SG", 7 ∷ 3 ∷ []) ∷ ("CC", 3 ∷ [])
    ∷ ("SP", 0 ∷ 5 ∷ 1 ∷ 0 ∷ 3 ∷ []) ∷ ("SP", 5 ∷ 8 ∷ 1 ∷ 1 ∷ 2 ∷ []) ∷ [])

abbrev gap : Job
gap = record { slots = 2; nodes = leaf 7 3 3 0 ∷ leaf 8 2 3 3 ∷ leaf 7 3 3 5 ∷ root 8 ∷ []; splits = split 0 5 0 3 ∷ split 5 8 1 2 ∷ [] }

gap_opens : parse gap_bytes ≡ accepted gap
unfolding computing
gap_opens = refl

gap_written : as_written gap_bytes ≡ accepted gap
unfolding computing
gap_written = refl

gap_bytes_lem : all (λ b. ltb b 256) gap_bytes ≡ true
unfolding flat_map all
gap_bytes_lem = refl

pub gap_demanded : (calls : List Call) → Demand3 gap (start gap) calls
gap_demanded = theorem gap_bytes gap gap (bytes_of gap_bytes gap_bytes_lem) gap_opens gap_written

abbrev gap_calls : List Call
gap_calls = ST ∷ ST ∷ DL 0 3 ∷ ST ∷ ST ∷ []

-- a moment without a new read
abbrev quiet : Event → Moment
quiet e = record { event = e; made = [] }

-- what the calls answer and which reads they make: one read for both splits, the rows of the gap never, and a delivery's turn behind it
pub gap_trace : trace gap_calls (start gap) ≡
    record { event = turn (read 0 7); made = record { segment = 7; split = none } ∷ [] }
    ∷ quiet (turn waits)
    ∷ quiet (delivery 0 3 none)
    ∷ quiet (turn (output 1 (record { rows = 2; cells = record { segment = 7; row = 1 } ∷ [] })))
    ∷ quiet (turn (output 0 (record { rows = 3; cells = record { segment = 7; row = 0 } ∷ [] })))
    ∷ quiet (turn done)
    ∷ []
unfolding computing moments trace
gap_trace = refl

-- The bound is met

-- one row of one segment: D = 1, K = 1
abbrev one : Job
one = record { slots = 1; nodes = record { kind = segment; segment = 1; rows = 1; width = 1; parent = none; at = 0 } ∷ []; splits = split 0 1 0 1 ∷ [] }

pub met : most one ≡ 4
unfolding computing
met = refl

-- four steps, one of them the delivery's, and not three
pub needed : map (λ n. done_within n (events (trace (ST ∷ ST ∷ DL 0 1 ∷ ST ∷ []) (start one)))) (3 ∷ 4 ∷ []) ≡ false ∷ true ∷ []
unfolding computing moments trace done_within
needed = refl
