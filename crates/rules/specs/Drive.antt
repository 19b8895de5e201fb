-- Document 01, "Driver": one run of a pipeline.
use Rattle.std.specs.Prelude.{Bool, true, false, ◌&&◌, not, List, [], ◌∷◌, ◌++◌, map, reverse, ℕ, zero, suc, ◌-◌, min, ◌^◌, length, eqb, leb, if◌then◌else◌}
use Rattle.std.proofs.Math.Option.{none, some, get_or}
use Rattle.rules.specs.Table.{get, put, any, is_empty, is_some, given, up_from}
use Rattle.rules.specs.Plan.{first_leaf}
use Rattle.rules.specs.InletSet.{insert_all}
use Rattle.rules.specs.Port.{Batch, no_batch, taken, Seen}
use Rattle.rules.specs.Operators.{Blocked, io, inlet, blocked, outlet, SourceReady, go, stays, Step, end, more, final, Source, segment, concat, pack, bytes_came, segment_ready, emit, concat_at, concat_ready, noted, ended_count, pack_fault, pack_ready, least, side_by_side}
use Rattle.rules.specs.Machine.{Machine, Stage, max_reads, node_at_place, source_at, stage_at, inlets_at, queue_at, pieces_at, outlets, shows, set_source, set_stage, set_touched, set_changed, set_waits, set_seen, set_queue, with_reads, with_news, fault_if}
use Rattle.rules.specs.Ports.{push_out, close_each}
use Rattle.rules.specs.Wake.{make_runnable, set_state, any_full, pass_marks, wake_writers}
use Rattle.rules.specs.Pipelines.{retire}

-- The source's test

-- "a segment source requests its read": the next number, a new read
unfoldable pub ask : ℕ → Machine → Machine
ask p m =
    elim (leb max_reads (length m.reads)) [
      | true ↦ fault_if true m
      | false ↦
          with_news (m.news ++ length m.reads ∷ [])
          (with_reads (m.reads ++ record { leaf = first_leaf m.job (node_at_place p); owner = some p; delivered = false } ∷ []) m)
    ]

abbrev pub touch : ℕ → List ℕ → Machine → Machine
touch p is m = set_touched p (insert_all is (get [] m.touched p)) m

-- a pack looks at an inlet
abbrev pub observe : ℕ → ℕ → Machine → Machine
observe p i m =
    let s = shows m p i in
    touch p (i ∷ []) (set_seen p (put Seen.waiting (get [] m.seen p) i s) (set_waits p (noted s i (get [] m.waits p)) m))

-- "A pack observes changed inlets newest first"
unfoldable pub observe_all : ℕ → List ℕ → Machine → Machine
observe_all p [] m = m
observe_all p (i ∷ is) m = observe_all p is (observe p i m)

abbrev pub test_pack : ℕ → Machine → SourceReady × Machine
test_pack p m =
    let m' = observe_all p (get [] m.changed p) m in
    (pack_ready (get [] m'.waits p), fault_if (pack_fault (get [] m'.seen p) (get [] m'.waits p)) m')

-- the inlets from i to j that a concat of n looked at
abbrev pub looked : ℕ → ℕ → ℕ → List ℕ
looked n i j = up_from i (min (suc j) n - i)

abbrev pub test_concat : ℕ → ℕ → Machine → SourceReady × Machine
test_concat p i m =
    let n = length (inlets_at m p) in
    let j = concat_at (shows m p) (n - i) i in
    (concat_ready (shows m p) n j, touch p (looked n i j) (set_source p (concat j) m))

abbrev pub test_segment : ℕ → Bool → Bool → ℕ → Machine → SourceReady × Machine
test_segment p asked bytes e m =
    (segment_ready asked bytes e, elim asked [ true ↦ m | false ↦ ask p (set_source p (segment true bytes e) m) ])

abbrev pub test_source : ℕ → Source → Machine → SourceReady × Machine
test_source p (segment asked bytes e) m = test_segment p asked bytes e m
test_source p (concat i) m = test_concat p i m
test_source p pack m = test_pack p m

-- What the source gives

abbrev pub is_end : Step → Bool
is_end end = true
is_end (more b) = false
is_end (final b) = false

abbrev pub is_more : Step → Bool
is_more end = false
is_more (more b) = true
is_more (final b) = false

-- "once delivered it emits": an error of `drive` where its bytes have not come. Only a source that was not tested is run so.
abbrev pub segment_step : ℕ → Bool → Bool → ℕ → Machine → Step × Machine
segment_step p asked bytes e m =
    let s = emit (pieces_at m p) e in
    elim (bytes_came bytes e) [
      | false ↦ (end, fault_if true m)
      | true ↦ (s, set_source p (if is_end s then segment asked bytes e else segment asked false (suc e)) m)
    ]

-- the front batch of a queue is taken; none is there only where the source was not tested
unfoldable pub take_front : ℕ → List Batch → Machine → Step × Machine
take_front x [] m = (end, fault_if true m)
take_front x (b ∷ bs) m = (final b, set_queue x bs m)

abbrev pub concat_step : ℕ → ℕ → Machine → Step × Machine
concat_step p i m =
    elim (eqb i (length (inlets_at m p))) [
      | true ↦ (end, m)
      | false ↦ let x = get 0 (inlets_at m p) i in take_front x (queue_at m x) (touch p (i ∷ []) m)
    ]

-- n rows are taken of each inlet from i on, which is then looked at
unfoldable pub take_each : ℕ → ℕ → ℕ → List ℕ → Machine → Machine
take_each p n i [] m = m
take_each p n i (x ∷ xs) m = take_each p n (suc i) xs (observe p i (set_queue x (taken n (queue_at m x)) m))

abbrev pub front_of : Machine → ℕ → Batch
front_of m x = get no_batch (queue_at m x) 0

-- the rows of the least front are taken of every inlet, and the columns joined in sequence
abbrev pub pack_rows : ℕ → List ℕ → Machine → Step × Machine
pack_rows p xs m =
    let bs = map (front_of m) xs in
    (final (side_by_side (least bs) bs), take_each p (least bs) 0 xs (touch p (up_from 0 (length xs)) m))

abbrev pub pack_step : ℕ → List ℕ → Machine → Step × Machine
pack_step p xs m =
    elim (eqb (ended_count (get [] m.seen p)) (length xs)) [
      | true ↦ (end, m)
      | false ↦ elim (any (λ x. is_empty (queue_at m x)) xs) [ true ↦ (end, fault_if true m) | false ↦ pack_rows p xs m ]
    ]

abbrev pub source_step : ℕ → Source → Machine → Step × Machine
source_step p (segment asked bytes e) m = segment_step p asked bytes e m
source_step p (concat i) m = concat_step p i m
source_step p pack m = pack_step p (inlets_at m p) m

-- One round

-- the stage's next run, as `emit`; "the newest continuing stage" is the one stage
abbrev pub stage_step : ℕ → ℕ → Machine → Step × Machine
stage_step p at m =
    let s = emit (pieces_at m p) at in
    let x = stage_at m p in
    (s, set_stage p (record { cut = some (if is_end s then at else suc at); continuing = is_more s; finishing = x.finishing; more = x.more }) m)

unfoldable pub give_out : ℕ → Step × Machine → Machine
give_out p r = elim r.0 [ end ↦ r.1 | more b ↦ push_out p b r.1 | final b ↦ push_out p b r.1 ]

-- a batch of the source goes through the stage, if there is one
unfoldable pub source_out : ℕ → Batch → Machine → Machine
source_out p b m = elim (stage_at m p).cut [ none ↦ push_out p b m | some at ↦ give_out p (stage_step p 0 m) ]

abbrev pub said_more : ℕ → Bool → Machine → Machine
said_more p b m = let x = stage_at m p in set_stage p (record { cut = x.cut; continuing = x.continuing; finishing = x.finishing; more = b }) m

abbrev pub finished_stages : ℕ → ℕ → Machine → Machine
finished_stages p n m =
    let x = stage_at m p in
    set_stage p (record { cut = x.cut; continuing = x.continuing; finishing = some n; more = x.more }) m

-- the source gives, and what it gives goes on
unfoldable pub compute : ℕ → Machine → Machine
compute p m =
    let r = source_step p (source_at m p) m in
    let m' = said_more p (is_more r.0) r.1 in
    elim r.0 [ end ↦ finished_stages p 0 m' | more b ↦ source_out p b m' | final b ↦ source_out p b m' ]

-- "Blocked, Outlet, Done"
pub data Why : Type 0 where
  is_blocked : Blocked → Why
  at_outlet done : Why

pub data Round : Type 0 where
  again : Machine → Round
  stop : Why → Machine → Round

unfoldable pub after_test : ℕ → SourceReady × Machine → Round
after_test p r =
    let m = set_changed p [] r.1 in
    elim r.0 [ go ↦ again (compute p m) | stays b ↦ stop (is_blocked b) m ]

-- "Source ended …, all stages finished, none continuing"
abbrev pub is_over : Stage → Bool
is_over x = is_some (if given x.cut then 1 else 0) x.finishing && not x.continuing

-- "Else the newest continuing stage; else the next finishing stage; else the source, tested first unless it last said More."
abbrev pub advance_stage : ℕ → Stage → Machine → Round
advance_stage p x m =
    elim x.continuing [
      | true ↦ again (give_out p (stage_step p (get_or x.cut 0) m))
      | false ↦
          elim x.finishing [
            | some n ↦ again (finished_stages p (suc n) m)
            | none ↦ elim x.more [ true ↦ again (compute p m) | false ↦ after_test p (test_source p (source_at m p) m) ]
          ]
    ]

-- "close every outlet, Done, full or not", or "Any outlet full: Outlet", or else a stage or the source goes on
unfoldable pub round : ℕ → Machine → Round
round p m =
    elim (is_over (stage_at m p)) [
      | true ↦ stop done (close_each (outlets m p) m)
      | false ↦ elim (any_full m p) [ true ↦ stop at_outlet m | false ↦ advance_stage p (stage_at m p) m ]
    ]

-- "One run of a pipeline repeats this round until one of three answers leaves it", or a cause of 14 comes up
unfoldable pub drive : ℕ → ℕ → Machine → Round
drive zero p m = again m
drive (suc f) p m =
    elim (round p m) [ stop w m' ↦ stop w m' | again m' ↦ elim m'.fault [ true ↦ again m' | false ↦ drive f p m' ] ]

-- After a run

abbrev pub has_bytes : Source → Bool
has_bytes (segment asked bytes e) = bytes
has_bytes (concat i) = false
has_bytes pack = false

-- "Blocked on IO with delivered bytes unused, it is queued again."
unfoldable pub set_stopped : ℕ → Why → Machine → Machine
set_stopped p (is_blocked io) m = elim (has_bytes (source_at m p)) [ true ↦ make_runnable p m | false ↦ set_state p (blocked io) m ]
set_stopped p (is_blocked (inlet i)) m = set_state p (blocked (inlet i)) m
set_stopped p at_outlet m = set_state p outlet m
set_stopped p done m = m

abbrev pub touched_ports : ℕ → Machine → List ℕ
touched_ports p m = map (get 0 (inlets_at m p)) (reverse (get [] m.touched p))

-- "After a run readers are woken first, by outlet, then writers in `InletSet` order."
abbrev pub wake_neighbours : ℕ → Machine → Machine
wake_neighbours p m = set_touched p [] (wake_writers (touched_ports p m) (pass_marks (outlets m p) m))

abbrev pub retire_if : Why → ℕ → Machine → Machine
retire_if (is_blocked b) p m = m
retire_if at_outlet p m = m
retire_if done p m = retire p m

abbrev pub settle : ℕ → Why → Machine → Machine
settle p w m = retire_if w p (wake_neighbours p (set_stopped p w m))

-- More rounds than any run or step takes: it is proved that they never run out.
abbrev pub patience : ℕ
patience = 2 ^ 100

unfoldable pub run : ℕ → Machine → Machine
run p m = elim (drive patience p m) [ stop w m' ↦ settle p w m' | again m' ↦ fault_if true m' ]
