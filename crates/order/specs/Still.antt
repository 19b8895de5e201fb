-- What a step does to the job and the reads: nothing, but that a run may ask for one read, and a pipeline that goes gives up its own.
use Rattle.std.specs.Prelude.{◌≡◌, refl, Bool, true, false, ◌||◌, ◌&&◌, not, List, [], ◌∷◌, map, ℕ, suc, length, eqb, leb}
use Rattle.std.proofs.Common.{◌∙◌}
use Rattle.rules.specs.Table.{any, is_empty, up_from, get}
use Rattle.rules.specs.Port.{taken, Batch}
use Rattle.rules.specs.Operators.{ended_count, least, runnable, Step, end, more, final, Source, segment, concat, pack, bytes_came}
use Rattle.rules.specs.Machine.{set_changed, set_port, set_queue, Machine, Reader, nobody, slot, pipe, is_share_port, places, live, pipe_at, port_at, queue_at, stage_at, source_at, inlets_at, outlets}
use Rattle.rules.specs.Ports.{push_to, push_each, push_out, is_nobody, close_to, close_each, drop_inlet, drop_each}
use Rattle.rules.specs.InletSet.{insert}
use Rattle.rules.specs.Drive.{observe, observe_all, take_each, take_front, give_out, stage_step, source_out, source_step, touch, front_of, compute, said_more, is_more, finished_stages}
use Rattle.rules.specs.Wake.{set_state, unmarked, enqueue, make_runnable, is_on, wake_reader, at_outlet, any_full, wake_writer, wake_writers, tell, pass_mark, pass_marks}
use Rattle.laws.specs.Table.{by_bool, by_option}

-- the job, the reads, those not told and the outputs are the same
pub record Still (m m' : Machine) : Type 0 where
  pub job : m'.job ≡ m.job
  pub reads : m'.reads ≡ m.reads
  pub news : m'.news ≡ m.news
  pub outputs : m'.outputs ≡ m.outputs

pub still_same : (m : Machine) → Still m m
still_same m = record { job = refl; reads = refl; news = refl; outputs = refl }

pub still_then : {a b c : Machine} → Still a b → Still b c → Still a c
still_then p q = record { job = q.job ∙ p.job; reads = q.reads ∙ p.reads; news = q.news ∙ p.news; outputs = q.outputs ∙ p.outputs }

-- of either branch
pub still_if : (b : Bool) (m x y : Machine) → Still m x → Still m y → Still m (elim b [ true ↦ x | false ↦ y ])
still_if true m x y p q = p
still_if false m x y p q = q

-- Ports

pub pushes_still : (b : Batch) (xs : List ℕ) (m : Machine) → Still m (push_each b xs m)
unfolding push_each
pushes_still b [] m = still_same m
pushes_still b (x ∷ xs) m = let s = pushes_still b xs (push_to b x m) in record { job = s.job; reads = s.reads; news = s.news; outputs = s.outputs }

pub push_still : (p : ℕ) (b : Batch) (m : Machine) → Still m (push_out p b m)
push_still p b m = still_if (eqb b.rows 0) m m (push_each b (outlets m p) m) (still_same m) (pushes_still b (outlets m p) m)

close_still : (x : ℕ) (m : Machine) → Still m (close_to x m)
close_still x m = still_if (is_nobody (port_at m x).reader && not (is_share_port x)) m _ _ (record { job = refl; reads = refl; news = refl; outputs = refl }) (record { job = refl; reads = refl; news = refl; outputs = refl })

pub closes_still : (xs : List ℕ) (m : Machine) → Still m (close_each xs m)
unfolding close_each
closes_still [] m = still_same m
closes_still (x ∷ xs) m = still_then (close_still x m) (closes_still xs (close_to x m))

drop_still : (x : ℕ) (m : Machine) → Still m (drop_inlet x m)
drop_still x m = still_if ((port_at m x).closed || is_share_port x) m _ _ (record { job = refl; reads = refl; news = refl; outputs = refl }) (record { job = refl; reads = refl; news = refl; outputs = refl })

pub drops_still : (xs : List ℕ) (m : Machine) → Still m (drop_each xs m)
unfolding drop_each
drops_still [] m = still_same m
drops_still (x ∷ xs) m = still_then (drop_still x m) (drops_still xs (drop_inlet x m))

-- Waking

enqueue_still : (p : ℕ) (m : Machine) → Still m (enqueue p m)
enqueue_still p m = still_if (leb places (length m.ready)) m _ _ (record { job = refl; reads = refl; news = refl; outputs = refl }) (record { job = refl; reads = refl; news = refl; outputs = refl })

pub runnable_still : (p : ℕ) (m : Machine) → Still m (make_runnable p m)
unfolding make_runnable
runnable_still p m = still_if (pipe_at m p).queued m (set_state p runnable m) (enqueue p (set_state p runnable m))
    (record { job = refl; reads = refl; news = refl; outputs = refl })
    (let s = enqueue_still p (set_state p runnable m) in record { job = s.job; reads = s.reads; news = s.news; outputs = s.outputs })

reader_still : (p i : ℕ) (m : Machine) → Still m (wake_reader p i m)
unfolding wake_reader
reader_still p i m =
    let m' = set_changed p (insert i (get [] m.changed p)) m in
    let s = runnable_still p m' in
    by_bool (live m p)
    (λ e. rw (e, wake_reader) (still_if (is_on (pipe_at m p).state i) m (make_runnable p m') m' (record { job = s.job; reads = s.reads; news = s.news; outputs = s.outputs }) (record { job = refl; reads = refl; news = refl; outputs = refl })))
    (λ e. rw (e, wake_reader) (still_same m))

pub writer_still : (x : ℕ) (m : Machine) → Still m (wake_writer x m)
unfolding wake_writer
writer_still x m = still_if (not (is_share_port x) && live m x && at_outlet (pipe_at m x).state && not (any_full m x)) m (make_runnable x m) m (runnable_still x m) (still_same m)

pub writers_still : (xs : List ℕ) (m : Machine) → Still m (wake_writers xs m)
unfolding wake_writers
writers_still [] m = still_same m
writers_still (x ∷ xs) m = still_then (writer_still x m) (writers_still xs (wake_writer x m))

tell_still : (r : Reader) (x : ℕ) (m : Machine) → Still m (tell r x m)
unfolding tell
tell_still nobody x m = still_same m
tell_still slot x m = record { job = refl; reads = refl; news = refl; outputs = refl }
tell_still (pipe p i) x m = reader_still p i m

pass_still : (x : ℕ) (m : Machine) → Still m (pass_mark x m)
unfolding pass_mark
pass_still x m =
    let m' = set_port x (unmarked (port_at m x)) m in
    let s = tell_still (port_at m x).reader x m' in
    by_bool (port_at m x).changed
    (λ e. rw (e, pass_mark) (record { job = s.job; reads = s.reads; news = s.news; outputs = s.outputs }))
    (λ e. rw (e, pass_mark) (still_same m))

pub passes_still : (xs : List ℕ) (m : Machine) → Still m (pass_marks xs m)
unfolding pass_marks
passes_still [] m = still_same m
passes_still (x ∷ xs) m = still_then (pass_still x m) (passes_still xs (pass_mark x m))

-- Sources and stages

pub observe_still : (p : ℕ) (is : List ℕ) (m : Machine) → Still m (observe_all p is m)
unfolding observe_all
observe_still p [] m = still_same m
observe_still p (i ∷ is) m = let s = observe_still p is (observe p i m) in record { job = s.job; reads = s.reads; news = s.news; outputs = s.outputs }

takes_still : (p n i : ℕ) (xs : List ℕ) (m : Machine) → Still m (take_each p n i xs m)
unfolding take_each
takes_still p n i [] m = still_same m
takes_still p n i (x ∷ xs) m =
    let s = takes_still p n (suc i) xs (observe p i (set_queue x (taken n (queue_at m x)) m)) in
    record { job = s.job; reads = s.reads; news = s.news; outputs = s.outputs }

pub give_still : (p : ℕ) (r : Step × Machine) → Still r.1 (give_out p r)
unfolding give_out
give_still p r = by r.0 refl
  where
    by : (s : Step) → r.0 ≡ s → Still r.1 (give_out p r)
    by end e = rw (e, give_out) (still_same r.1)
    by (more b) e = rw (e, give_out) (push_still p b r.1)
    by (final b) e = rw (e, give_out) (push_still p b r.1)

out_still : (p : ℕ) (b : Batch) (m : Machine) → Still m (source_out p b m)
unfolding source_out
out_still p b m = by_option (stage_at m p).cut
    (λ e. rw (e, source_out) (push_still p b m))
    (λ i e. rw (e, source_out) (let s = give_still p (stage_step p 0 m) in record { job = s.job; reads = s.reads; news = s.news; outputs = s.outputs }))

front_still : (x : ℕ) (q : List Batch) (m : Machine) → Still m (take_front x q m).1
unfolding take_front
front_still x [] m = record { job = refl; reads = refl; news = refl; outputs = refl }
front_still x (b ∷ bs) m = record { job = refl; reads = refl; news = refl; outputs = refl }

pair_if : {A : Type 0} (b : Bool) (m : Machine) (x y : A × Machine) → Still m x.1 → Still m y.1 → Still m (elim b as (λ t. A × Machine) [ true ↦ x | false ↦ y ]).1
pair_if true m x y p q = p
pair_if false m x y p q = q

-- what a source gives
step_still : (p : ℕ) (s : Source) (m : Machine) → Still m (source_step p s m).1
step_still p (segment a b e) m = pair_if (bytes_came b e) m _ _ (record { job = refl; reads = refl; news = refl; outputs = refl })
    (record { job = refl; reads = refl; news = refl; outputs = refl })
step_still p (concat i) m = pair_if (eqb i (length (inlets_at m p))) m _ _ (still_same m)
    (let x = get 0 (inlets_at m p) i in let s = front_still x (queue_at m x) (touch p (i ∷ []) m) in record { job = s.job; reads = s.reads; news = s.news; outputs = s.outputs })
step_still p pack m = pair_if (eqb (ended_count (get [] m.seen p)) (length (inlets_at m p))) m _ _ (still_same m)
    (pair_if (any (λ x. is_empty (queue_at m x)) (inlets_at m p)) m _ _ (record { job = refl; reads = refl; news = refl; outputs = refl })
    (let xs = inlets_at m p in let n = least (map (front_of m) xs) in let s = takes_still p n 0 xs (touch p (up_from 0 (length xs)) m) in record { job = s.job; reads = s.reads; news = s.news; outputs = s.outputs }))

-- what it gave goes on
gave_still : (p : ℕ) (m : Machine) (r : Step × Machine) → Still m r.1
    → Still m (let m' = said_more p (is_more r.0) r.1 in elim r.0 [ end ↦ finished_stages p 0 m' | more b ↦ source_out p b m' | final b ↦ source_out p b m' ])
gave_still p m (end, n) s = record { job = s.job; reads = s.reads; news = s.news; outputs = s.outputs }
gave_still p m (more b, n) s = let t = out_still p b (said_more p true n) in record { job = t.job ∙ s.job; reads = t.reads ∙ s.reads; news = t.news ∙ s.news; outputs = t.outputs ∙ s.outputs }
gave_still p m (final b, n) s = let t = out_still p b (said_more p false n) in record { job = t.job ∙ s.job; reads = t.reads ∙ s.reads; news = t.news ∙ s.news; outputs = t.outputs ∙ s.outputs }

pub compute_still : (p : ℕ) (m : Machine) → Still m (compute p m)
unfolding compute
compute_still p m = gave_still p m (source_step p (source_at m p) m) (step_still p (source_at m p) m)
