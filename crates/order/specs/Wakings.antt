-- What waking does to the measure: no load comes, and every pipeline that is woken was paid for.
use Rattle.std.specs.Prelude.{◌≡◌, refl, true, ◌&&◌, not, List, [], ◌∷◌, reverse, ℕ, suc, ◌+◌, ◌*◌, ◌<◌, ◌≤◌, length, leb}
use Rattle.std.proofs.Common.{sym, ◌∙◌, arith, leb-false}
use Rattle.std.proofs.lemmas.List.{length-map, length-reverse}
use Rattle.std.proofs.lemmas.Bool.{not-true}
use Rattle.rules.specs.Table.{get, put, has}
use Rattle.rules.specs.InletSet.{insert}
use Rattle.rules.specs.Operators.{runnable}
use Rattle.rules.specs.Machine.{Machine, Pipeline, Reader, nobody, slot, pipe, no_pipe, places, port_places, slot_places, slot_at_place, is_share_port, pipe_at, port_at, inlets_at, live, outlets, set_pipe, set_port, set_changed}
use Rattle.rules.specs.Wake.{with_state, with_queued, set_state, enqueue, make_runnable, is_on, at_outlet, wake_reader, any_full, wake_writer, wake_writers, mark_dirty, unmarked, tell, pass_mark, pass_marks}
use Rattle.rules.specs.Drive.{touched_ports, wake_neighbours}
use Rattle.laws.specs.Table.{by_bool, by_eq, same, other, and_left, and_right}
use Rattle.laws.specs.Rows.{All}
use Rattle.order.specs.Inv.{Live, bit}
use Rattle.order.specs.Measure.{load, wake, run_count, pipes_fewer, state_raise, outlet_left, touched_change, mark_taken}

-- no more load, at most c more to wake, no new pipeline; touched sets and pipelines as they were
abbrev pub Near : ℕ → Machine → Machine → Type 0
Near c m m' = (load m' ≤ load m) × (wake m' ≤ wake m + c) × (m'.job ≡ m.job) × (m'.next ≡ m.next) × ((q : ℕ) → Live m'.pipes q → Live m.pipes q)

abbrev pub Woken : ℕ → Machine → Machine → Type 0
Woken c m m' = Near c m m' × (m'.touched ≡ m.touched) × ((q : ℕ) → Live m.pipes q → Live m'.pipes q)

-- one after the other
pub near_then : (c d e : ℕ) (m k n : Machine) → Near c m k → Near d k n → c + d ≤ e → Near e m n
near_then c d e m k n a b h = (omega (arith, a.0, b.0), omega (arith, a.1, b.1, h), b.2 ∙ a.2, b.3 ∙ a.3, λ q l. a.4 q (b.4 q l))

pub woken_then : (c d e : ℕ) (m k n : Machine) → Woken c m k → Woken d k n → c + d ≤ e → Woken e m n
woken_then c d e m k n a b h = (near_then c d e m k n a.0 b.0 h, b.1 ∙ a.1, λ q l. b.2 q (a.2 q l))

pub woken_none : (c : ℕ) (m : Machine) → Woken c m m
woken_none c m = ((omega arith, omega arith, refl, refl, λ q l. l), refl, λ q l. l)

-- Pipelines

-- a pipeline in another state, which lives as before
pub set_pipe_lem : (c p : ℕ) (v : Pipeline) (m : Machine) → v.live ≡ (pipe_at m p).live → 24 * bit (at_outlet v.state) ≤ 24 * bit (at_outlet (pipe_at m p).state) + c → Woken c m (set_pipe p v m)
set_pipe_lem c p v m l h =
    let back : (q : ℕ) → Live (put no_pipe m.pipes p v) q → Live m.pipes q = λ q i. by_eq q p (λ e. rw e (sym l ∙ (rw (e, same) at i))) (λ d. rw other at i) in
    let on : (q : ℕ) → Live m.pipes q → Live (put no_pipe m.pipes p v) q = λ q i. by_eq q p (λ e. rw (e, same) (l ∙ (rw e at i))) (λ d. rw other i) in
    let a = pipes_fewer (run_count m) m.pipes (put no_pipe m.pipes p v) m.sources m.stages back in
    let b = state_raise m.pipes m.touched p v c (λ e. sym l ∙ e) h in
    ((omega (arith, a), omega (arith, b), refl, refl, back), refl, on)

-- the same with another bound
pub woken_by : (c d : ℕ) (m n : Machine) → Woken c m n → wake n ≤ wake m + d → Woken d m n
woken_by c d m n t h = ((t.0.0, h, t.0.2, t.0.3, t.0.4), t.1, t.2)

-- a place on the ready stack
enqueue_woken : (p : ℕ) (m : Machine) → Woken 25 m (enqueue p m)
enqueue_woken p m =
    let v = with_queued true (pipe_at m p) in
    let k : Machine = set_pipe p v m in
    let t = set_pipe_lem 0 p v m refl (omega arith) in
    by_bool (leb places (length m.ready))
    (λ e. rw (e, enqueue) (woken_none 25 m))
    (λ e. rw (e, enqueue) ((t.0.0, omega (arith, t.0.1), refl, refl, t.0.4), refl, t.2))

module _ (p : ℕ) (m : Machine) where
  -- the pipeline is runnable
  abbrev freed : Machine
  freed = set_state p runnable m

  freed_woken : Woken 0 m freed
  freed_woken = set_pipe_lem 0 p (with_state runnable (pipe_at m p)) m refl (omega arith)

  -- from there on
  run_from : (c : ℕ) → wake freed + 25 ≤ wake m + c → Woken c m (make_runnable p m)
  unfolding make_runnable
  run_from c h = by_bool (pipe_at m p).queued
      (λ e. rw (e, make_runnable) (woken_by 0 c m freed freed_woken (omega (arith, h))))
      (λ e.
      let t = enqueue_woken p freed in
      rw (e, make_runnable) (woken_by 25 c m (enqueue p freed) (woken_then 0 25 25 m freed (enqueue p freed) freed_woken t (omega arith)) (omega (arith, t.0.1, h))))

  -- any pipeline
  pub run_any : Woken 25 m (make_runnable p m)
  run_any = run_from 25 (omega (arith, freed_woken.0.1))

  -- a pipeline that was stopped at its outlet
  pub run_outlet : p < places → Live m.pipes p → at_outlet (pipe_at m p).state ≡ true → Woken 1 m (make_runnable p m)
  run_outlet low is o =
      let t = outlet_left m.pipes m.touched p (with_state runnable (pipe_at m p)) low is o refl in
      run_from 1 (omega (arith, t))

-- Readers and writers

-- a reader that is told
reader_woken : (p i : ℕ) (m : Machine) → Woken 25 m (wake_reader p i m)
unfolding wake_reader
reader_woken p i m =
    let k : Machine = set_changed p (insert i (get [] m.changed p)) m in
    by_bool (live m p)
    (λ e. by_bool (is_on (pipe_at m p).state i) (λ d. rw (e, wake_reader, d) (run_any p k)) (λ d. rw (e, wake_reader, d) (woken_none 25 m)))
    (λ e. rw (e, wake_reader) (woken_none 25 m))

-- a writer that is woken was at its outlet
pub writer_woken : (x : ℕ) (m : Machine) → Woken 1 m (wake_writer x m)
unfolding wake_writer
writer_woken x m = by_bool (not (is_share_port x) && live m x && at_outlet (pipe_at m x).state && not (any_full m x))
    (λ e.
    let a : not (is_share_port x) ≡ true = search (and_left, and_right) in
    let b : live m x ≡ true = search (and_left, and_right) in
    let c : at_outlet (pipe_at m x).state ≡ true = search (and_left, and_right) in
    let l = leb-false slot_places x (not-true (is_share_port x) a) in
    rw (e, wake_writer) (run_outlet x m (omega arith) b c))
    (λ e. rw (e, wake_writer) (woken_none 1 m))

-- one for each port
pub writers_woken : (xs : List ℕ) (m : Machine) → Woken (length xs) m (wake_writers xs m)
unfolding wake_writers
writers_woken [] m = woken_none 0 m
writers_woken (x ∷ xs) m =
    woken_then 1 (length xs) (suc (length xs)) m (wake_writer x m) (wake_writers xs (wake_writer x m)) (writer_woken x m) (writers_woken xs (wake_writer x m)) (omega arith)

-- Marks

-- a slot that becomes dirty
dirty_woken : (k : ℕ) (m : Machine) → Woken 400 m (mark_dirty k m)
dirty_woken k m = by_bool (has k m.dirty) (λ e. rw e (woken_none 400 m)) (λ e. rw e ((omega arith, omega arith, refl, refl, λ q l. l), refl, λ q l. l))

-- whoever reads
tell_woken : (r : Reader) (x : ℕ) (m : Machine) → Woken 400 m (tell r x m)
unfolding tell
tell_woken nobody x m = woken_none 400 m
tell_woken slot x m = dirty_woken (slot_at_place x) m
tell_woken (pipe p i) x m = let t = reader_woken p i m in woken_by 25 400 m (wake_reader p i m) t (omega (arith, t.0.1))

-- a mark is worth more than whom it wakes
mark_woken : (x : ℕ) (m : Machine) → x < port_places → Woken 0 m (pass_mark x m)
unfolding pass_mark
mark_woken x m h =
    let v = unmarked (port_at m x) in
    let k : Machine = set_port x v m in
    by_bool (port_at m x).changed
    (λ e.
    let a = mark_taken m.ports x v h e refl in
    let t = tell_woken (port_at m x).reader x k in
    rw (e, pass_mark) (woken_by 400 0 m (tell (port_at m x).reader x k) ((t.0.0, omega (arith, t.0.1, a), t.0.2, t.0.3, t.0.4), t.1, t.2) (omega (arith, t.0.1, a))))
    (λ e. rw (e, pass_mark) (woken_none 0 m))

-- so are all marks
pub marks_woken : (xs : List ℕ) (m : Machine) → All (λ x. x < port_places) xs → Woken 0 m (pass_marks xs m)
unfolding pass_marks
marks_woken [] m h = woken_none 0 m
marks_woken (x ∷ xs) m h =
    woken_then 0 0 0 m (pass_mark x m) (pass_marks xs (pass_mark x m)) (mark_woken x m h.0) (marks_woken xs (pass_mark x m) h.1) (omega arith)

-- after a run
pub neighbours_near : (p : ℕ) (m : Machine) → p < places → Live m.pipes p → All (λ x. x < port_places) (outlets m p)
    → Near 0 m (wake_neighbours p m) × Live (wake_neighbours p m).pipes p
neighbours_near p m low is h =
    let xs = touched_ports p m in
    let k : Machine = pass_marks (outlets m p) m in
    let n : Machine = wake_writers xs k in
    let t = woken_then 0 (length xs) (length xs) m k n (marks_woken (outlets m p) m h) (writers_woken xs k) (omega arith) in
    let l : length xs ≡ length (get [] m.touched p) = length-map (reverse (get [] m.touched p)) (get 0 (inlets_at m p)) ∙ length-reverse (get [] m.touched p) in
    let d : length (get [] n.touched p) ≡ length (get [] m.touched p) = rw t.1 in
    let c = touched_change n.pipes n.touched p [] low (t.2 p is) in
    ((t.0.0, omega (arith, t.0.1, l, d, c), t.0.2, t.0.3, t.0.4), t.2 p is)
