-- Document 01, "Turns and refusals" and "Driver": opening, step and delivery, which document 02 (m) joins with a step. How a split ends is told
-- at length in document 02 (e), for every end.
use Rattle.std.specs.Prelude.{Bool, true, false, ◌||◌, not, List, [], ◌∷◌, ◌++◌, map, ℕ, zero, suc, ◌*◌, length, eqb, leb, ltb, if◌then◌else◌}
use Rattle.std.proofs.Math.Option.{Option, none, some}
use Rattle.rules.specs.Table.{get, put, filter, find, any, all, given, is_empty, up_from}
use Rattle.rules.specs.Job.{Outcome, refused_by, accepted, parse, max_nodes}
use Rattle.rules.specs.Plan.{node_of, root_of, keeps}
use Rattle.rules.specs.Port.{Batch}
use Rattle.rules.specs.Operators.{Source, segment, concat, pack}
use Rattle.rules.specs.Machine.{Machine, slot, Read, no_read, Output, place, share_port, slot_places, outlets, port_at, queue_at, pipe_at, source_at, live, set_pipe, set_source, set_queue, with_outputs, with_news, with_dirty, with_ready, with_reads, with_next, with_active, with_finished, zeroed, start}
use Rattle.rules.specs.Ports.{free_each}
use Rattle.rules.specs.Wake.{make_runnable, wake_writer, with_queued}
use Rattle.rules.specs.Pipelines.{by_number, retire_each}
use Rattle.rules.specs.Lower.{connect, lower_node}
use Rattle.rules.specs.Drive.{run, patience}
use Rattle.rules.specs.Check.{check}

-- Splits

-- a shared source without a reader; "a port that an unfinished split has not claimed counts as a reader"
abbrev pub is_unread : Machine → ℕ → Bool
is_unread m p = is_empty (outlets m p)

abbrev pub retire_unread : Machine → Machine
retire_unread m = retire_each (by_number m.pipes (filter (is_unread m) (up_from slot_places max_nodes))) m

abbrev pub split_ports : ℕ → List ℕ
split_ports s = map (λ l. share_port l s) (up_from 0 max_nodes)

-- "A finished split's ports are discarded.": "the split's ports, claimed or not, leave the outlets of shared sources and are freed by rising
-- number without a mark or a wake, and then, as at any split's end, each shared source with no reader left retires in the same way"
unfoldable pub end_split : ℕ → Machine → Machine
end_split s m = retire_unread (free_each (split_ports s) (with_finished (put false m.finished s true) m))

abbrev pub places_of : ℕ → List ℕ
places_of k = map (place k) (up_from 0 max_nodes)

-- the slot is free: "Its pipelines retire by rising number and leave the ready list, their reads lose their owner"; its ports go
unfoldable pub empty_slot : ℕ → Machine → Machine
empty_slot k m = let m' = free_each (places_of k) (retire_each (by_number m.pipes (places_of k)) m) in with_active (put none m'.active k none) m'

-- "the split leaves its slot": the one end of a split that has a slot
abbrev pub leave : ℕ → ℕ → Machine → Machine
leave k s m = end_split s (empty_slot k m)

abbrev pub is_free : Machine → ℕ → Bool
is_free m k = not (given (get none m.active k))

abbrev pub slots_of : Machine → List ℕ
slots_of m = up_from 0 m.job.slots

-- "a free slot and a next split": the split is lowered into the slot
unfoldable pub activate : ℕ → Machine → Machine
activate k m =
    let s = m.next in
    let root = root_of m.job in
    elim (keeps m.job root s) [
      | false ↦ end_split s (with_next (suc s) m)
      | true ↦ connect (place k root) slot (lower_node (2 * length m.job.nodes) k s root (with_next (suc s) (with_active (put none m.active k (some s)) m)))
    ]

abbrev pub output_of : ℕ → Batch → Output
output_of s b = record { split = s; batch = b }

-- "moves all batches of its port to the outputs, wakes the writer as an inlet that was read does, and ends the split if the port is closed"
unfoldable pub serve : ℕ → ℕ → ℕ → Machine → Machine
serve k s x m =
    let closed = (port_at m x).closed in
    let m' = wake_writer x (set_queue x [] (with_outputs (m.outputs ++ map (output_of s) (queue_at m x)) m)) in
    elim closed [ true ↦ leave k s m' | false ↦ m' ]

-- "A dirty slot's turn"
unfoldable pub advance : ℕ → Machine → Machine
advance k m = elim (get none m.active k) [ none ↦ m | some s ↦ serve k s (place k (root_of m.job)) m ]

-- the newest ready pipeline runs
unfoldable pub run_next : ℕ → List ℕ → Machine → Machine
run_next p ps m =
    let m' = with_ready ps m in
    elim (live m p) [ false ↦ m' | true ↦ run p (set_pipe p (with_queued false (pipe_at m p)) m') ]

-- Step

-- "A step answers Read (read number, segment), Output (split, rows, and for each column a segment and first row), Waiting or Done."
pub data Turn : Type 0 where
  read : ℕ → ℕ → Turn
  output : ℕ → Batch → Turn
  waits done : Turn

-- an answer with the state that it leaves: a turn, or a refusal by its number
pub data Answer (A : Type 0) : Type 0 where
  says : A → Machine → Answer A
  refuses : ℕ → Machine → Answer A

-- an inner action, after which the step starts over, or the step's answer
pub data Inner : Type 0 where
  more : Machine → Inner
  answers : Answer Turn → Inner

abbrev pub in_flight : Read → Bool
in_flight r = not r.delivered

-- "Else Done if no split is live, Waiting if a read is in flight, else 13."
abbrev pub at_rest : Machine → Answer Turn
at_rest m =
    if all (is_free m) (slots_of m) then says done m
    else if any in_flight m.reads then says waits m
    else refuses 13 zeroed

-- "the newest ready pipeline", or nothing is left to do
unfoldable pub from_ready : Machine → Inner
from_ready m = elim m.ready [ [] ↦ answers (at_rest m) | p ∷ ps ↦ more (run_next p ps m) ]

-- "a free slot and a next split"
unfoldable pub from_splits : Machine → Inner
from_splits m =
    elim (ltb m.next (length m.job.splits)) [
      | false ↦ from_ready m
      | true ↦ elim (find (is_free m) (slots_of m)) [ none ↦ from_ready m | some k ↦ more (activate k m) ]
    ]

-- "the newest dirty slot"
unfoldable pub from_dirty : Machine → Inner
from_dirty m = elim m.dirty [ [] ↦ from_splits m | k ∷ ks ↦ more (advance k (with_dirty ks m)) ]

abbrev pub segment_of : Machine → ℕ → ℕ
segment_of m r = (node_of m.job (get no_read m.reads r).leaf).segment

-- "a new read"
unfoldable pub from_reads : Machine → Inner
from_reads m = elim m.news [ [] ↦ from_dirty m | r ∷ rs ↦ answers (says (read r (segment_of m r)) (with_news rs m)) ]

-- "A step tries, and starts over after each inner action: an output held; a new read; the newest dirty slot; a free slot and a next
-- split; the newest ready pipeline."
unfoldable pub inner : Machine → Inner
inner m =
    elim m.outputs [ [] ↦ from_reads m | o ∷ os ↦ answers (says (output o.split o.batch) (with_outputs os m)) ]

-- "state all zero" after 14
unfoldable pub stepping : ℕ → Machine → Answer Turn
stepping zero m = refuses 14 zeroed
stepping (suc f) m =
    elim (inner m) [ answers a ↦ a | more m' ↦ elim m'.fault [ true ↦ refuses 14 zeroed | false ↦ stepping f m' ] ]

-- Delivery

abbrev pub brought : Source → Source
brought (segment asked bytes e) = segment asked true e
brought (concat i) = concat i
brought pack = pack

-- the bytes reach the pipeline that waits for them
unfoldable pub bring : Option ℕ → Machine → Machine
bring none m = m
bring (some p) m = make_runnable p (set_source p (brought (source_at m p)) m)

abbrev pub delivered : ℕ → Read → Machine → Machine
delivered r x m = bring x.owner (with_reads (put no_read m.reads r (record { leaf = x.leaf; owner = none; delivered = true })) m)

pub data Delivered : Type 0 where
  ok : Delivered

-- "a full table in a hand-made state"
abbrev pub faulted : Machine → Answer Delivered
faulted m = elim m.fault [ true ↦ refuses 14 zeroed | false ↦ says ok m ]

-- "read not in flight: never made, or delivered"; "row count is not the segment's"
unfoldable pub delivering : ℕ → ℕ → Machine → Answer Delivered
delivering r n m =
    let x = get no_read m.reads r in
    if leb (length m.reads) r || x.delivered then refuses 10 m
    else if not (eqb (node_of m.job x.leaf).rows n) then refuses 11 m
    else faulted (delivered r x m)

-- The public calls, on a state of sufficient length (check 1 is on bytes).

-- "Opening checks 1, then records in sequence, each in rising number"
unfoldable pub «open» : List ℕ → Outcome Machine
«open» bytes = elim (parse bytes) [ refused_by n ↦ refused_by n | accepted j ↦ accepted (start j) ]

-- "Step and delivery check 1, then 12"
unfoldable pub step : Machine → Answer Turn
step m = elim (check m) [ false ↦ refuses 12 m | true ↦ stepping patience m ]

-- "a delivery that is accepted goes on with a step and returns its turn; a refused one takes no step"
abbrev pub go_on : Answer Delivered → Answer Turn
go_on (says ok m) = step m
go_on (refuses n m) = refuses n m

-- "a delivery goes on to 10, then 11"
unfoldable pub deliver : ℕ → ℕ → Machine → Answer Turn
deliver r n m = elim (check m) [ false ↦ refuses 12 m | true ↦ go_on (delivering r n m) ]
