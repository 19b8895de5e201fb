-- Waking keeps `Fits`.
use Rattle.std.specs.Prelude.{◌≡◌, refl, ◌≢◌, ◌⊎◌, true, ◌&&◌, not, List, [], ◌∷◌, ℕ, ◌<◌, ◌≤◌, length, leb, if◌then◌else◌}
use Rattle.std.proofs.Common.{sym, ◌∙◌, inl, inr, arith, leb-false}
use Rattle.rules.specs.Table.{get, put, has}
use Rattle.rules.specs.InletSet.{InletSet, insert, insert_all}
use Rattle.rules.specs.Operators.{State, runnable}
use Rattle.rules.specs.Machine.{Machine, Pipeline, Reader, nobody, slot, pipe, Port, slot_at_place, slot_places, places, port_places, no_port, is_share_port, pipe_at, port_at, inlets_at, live, set_port, set_pipe, set_changed}
use Rattle.rules.specs.Wake.{with_state, with_queued, set_state, enqueue, make_runnable, is_on, at_outlet, any_full, wake_reader, wake_writer, wake_writers, mark_dirty, unmarked, tell, pass_mark, pass_marks}
use Rattle.rules.specs.Drive.{touch}
use Rattle.laws.specs.Table.{by_bool, by_eq, clash, same, other, and_left, and_right}
use Rattle.laws.specs.Rows.{All}
use Rattle.laws.specs.Rising.{has_nil}
use Rattle.order.specs.Inv.{Live, There, pipe_of, port_of, reader_of}
use Rattle.order.specs.Base.{at_below}
use Rattle.order.specs.Sets.{insert_unique, insert_other}
use Rattle.order.specs.RangeParts.{SetFits, StateFits, PortFits, Fits}
use Rattle.order.specs.RangeMoves.{bound, set_pipe_lem, set_touched_lem, set_changed_lem, set_port_lem, with_ready_lem, with_dirty_lem}
use Rattle.order.specs.Views.{live_put}

-- Sets

pub none_set : (n : ℕ) → SetFits n []
none_set n = (tt, λ i e. clash (cc (has_nil i)))

pub insert_fits : (n i : ℕ) (s : InletSet) → i < n → SetFits n s → SetFits n (insert i s)
insert_fits n i s h f = (insert_unique i s f.0, λ k q. by_eq k i (λ d. rw d h) (λ d. f.1 k (sym (insert_other i k s d) ∙ q)))

pub insert_all_lem : (n : ℕ) (is : List ℕ) (s : InletSet) → All (λ i. i < n) is → SetFits n s → SetFits n (insert_all is s)
unfolding insert_all
insert_all_lem n [] s h f = f
insert_all_lem n (i ∷ is) s h f = insert_all_lem n is (insert i s) h.1 (insert_fits n i s h.0 f)

-- inlets are read
pub touch_fits : (m : Machine) (p : ℕ) (is : List ℕ) → Fits m → Live m.pipes p → All (λ i. i < length (inlets_at m p)) is → Fits (touch p is m)
touch_fits m p is f l h =
    set_touched_lem m p (insert_all is (get [] m.touched p)) f l (insert_all_lem (length (inlets_at m p)) is (get [] m.touched p) h (f.pipes p l).touched)

-- States

pub set_state_lem : (m : Machine) (p : ℕ) (s : State) → Fits m → Live m.pipes p → StateFits p (length (inlets_at m p)) s → Fits (set_state p s m)
set_state_lem m p s f l h = set_pipe_lem m p (with_state s (pipe_at m p)) f l l refl h

-- who lives, and which ports are in use, is as before
pub record Woken (m m' : Machine) : Type 0 where
  pub live : (q : ℕ) → (pipe_of m'.pipes q).live ≡ (pipe_of m.pipes q).live
  pub there : (x : ℕ) → (port_of m'.ports x).there ≡ (port_of m.ports x).there

pub woken_live : (m m' : Machine) (p : ℕ) → Woken m m' → Live m.pipes p → Live m'.pipes p
woken_live m m' p w l = w.live p ∙ l

pub woken_then : (m m' n : Machine) → Woken m m' → Woken m' n → Woken m n
woken_then m m' n w v = record { live = λ q. v.live q ∙ w.live q; there = λ x. v.there x ∙ w.there x }

pub woken_none : (m : Machine) → Woken m m
woken_none m = record { live = λ q. refl; there = λ x. refl }

pub woken_pipe : (m : Machine) (p : ℕ) (v : Pipeline) → v.live ≡ (pipe_at m p).live → Woken m (set_pipe p v m)
woken_pipe m p v e = record { live = λ q. live_put m.pipes p q v e; there = λ x. refl }

-- "it is queued again"

queue_fits : (m : Machine) (p : ℕ) → Fits m → Live m.pipes p → Fits (enqueue p m)
queue_fits m p f l = by_bool (leb places (length m.ready))
    (λ e. rw (e, enqueue) f)
    (λ e. rw (e, enqueue)
    (let v = with_queued true (pipe_at m p) in
    with_ready_lem (set_pipe p v m) (p ∷ m.ready) (set_pipe_lem m p v f l l refl (f.pipes p l).state) (leb-false places (length m.ready) e, (bound m p f l, f.ready.1))))

queue_woken : (m : Machine) (p : ℕ) → Woken m (enqueue p m)
queue_woken m p = by_bool (leb places (length m.ready))
    (λ e. rw (e, enqueue) (record { live = λ q. refl; there = λ x. refl }))
    (λ e. rw (e, enqueue) (record { live = λ q. live_put m.pipes p q (with_queued true (pipe_at m p)) refl; there = λ x. refl }))

pub runnable_woken : (m : Machine) (p : ℕ) → Woken m (make_runnable p m)
unfolding make_runnable
runnable_woken m p =
    let w = woken_pipe m p (with_state runnable (pipe_at m p)) refl in
    by_bool (pipe_at m p).queued
    (λ e. rw (e, make_runnable) w)
    (λ e. rw (e, make_runnable) (woken_then m (set_state p runnable m) (enqueue p (set_state p runnable m)) w (queue_woken (set_state p runnable m) p)))

pub runnable_fits : (m : Machine) (p : ℕ) → Fits m → Live m.pipes p → Fits (make_runnable p m)
unfolding make_runnable
runnable_fits m p f l =
    let g = set_state_lem m p runnable f l tt in
    by_bool (pipe_at m p).queued
    (λ e. rw (e, make_runnable) g)
    (λ e. rw (e, make_runnable) (queue_fits (set_state p runnable m) p g (woken_live m (set_state p runnable m) p (woken_pipe m p (with_state runnable (pipe_at m p)) refl) l)))

-- Readers

pub reader_fits : (m : Machine) (p i : ℕ) → Fits m → i < length (inlets_at m p) → Fits (wake_reader p i m)
unfolding wake_reader
reader_fits m p i f h =
    let v = insert i (get [] m.changed p) in
    by_bool (live m p)
    (λ l. let g = set_changed_lem m p v f l (insert_fits (length (inlets_at m p)) i (get [] m.changed p) h (f.pipes p l).changed) in
    by_bool (is_on (pipe_at m p).state i) (λ e. rw (l, wake_reader, e) (runnable_fits (set_changed p v m) p g l)) (λ e. rw (l, wake_reader, e) g))
    (λ l. rw (l, wake_reader) f)

reader_woken : (m : Machine) (p i : ℕ) → Woken m (wake_reader p i m)
unfolding wake_reader
reader_woken m p i =
    let v = insert i (get [] m.changed p) in
    let w : Woken m (set_changed p v m) = record { live = λ q. refl; there = λ x. refl } in
    by_bool (live m p)
    (λ l. by_bool (is_on (pipe_at m p).state i)
    (λ e. rw (l, wake_reader, e) (woken_then m (set_changed p v m) (make_runnable p (set_changed p v m)) w (runnable_woken (set_changed p v m) p)))
    (λ e. rw (l, wake_reader, e) w))
    (λ l. rw (l, wake_reader) (woken_none m))

-- Writers

pub writer_fits : (m : Machine) (x : ℕ) → Fits m → Fits (wake_writer x m)
unfolding wake_writer
writer_fits m x f =
    let a = not (is_share_port x) in
    let b = at_outlet (pipe_at m x).state in
    let c = not (any_full m x) in
    by_bool (a && live m x && b && c)
    (λ e. rw (e, wake_writer) (runnable_fits m x f (and_right a (live m x) (and_left (a && live m x) b (and_left (a && live m x && b) c e)))))
    (λ e. rw (e, wake_writer) f)

pub writer_woken : (m : Machine) (x : ℕ) → Woken m (wake_writer x m)
unfolding wake_writer
writer_woken m x =
    by_bool (not (is_share_port x) && live m x && at_outlet (pipe_at m x).state && not (any_full m x)) (λ e. rw (e, wake_writer) (runnable_woken m x)) (λ e. rw (e, wake_writer) (woken_none m))

pub writers_fits : (xs : List ℕ) (m : Machine) → Fits m → Fits (wake_writers xs m)
unfolding wake_writers
writers_fits [] m f = f
writers_fits (x ∷ xs) m f = writers_fits xs (wake_writer x m) (writer_fits m x f)

pub writers_woken : (xs : List ℕ) (m : Machine) → Woken m (wake_writers xs m)
unfolding wake_writers
writers_woken [] m = woken_none m
writers_woken (x ∷ xs) m = woken_then m (wake_writer x m) (wake_writers xs (wake_writer x m)) (writer_woken m x) (writers_woken xs (wake_writer x m))

-- Marks

-- a slot below the job's slots is dirty
dirty_fits : (m : Machine) (k : ℕ) → Fits m → k < m.job.slots → length m.dirty < 3 → Fits (mark_dirty k m)
dirty_fits m k f h s = with_dirty_lem m (if has k m.dirty then m.dirty else k ∷ m.dirty) f
    (by_bool (has k m.dirty) (λ e. rw e f.dirty) (λ e. rw e (s, (h, f.dirty.1))))

-- who is told of a port: a reader in range, or nobody
abbrev pub Heard : Machine → ℕ → Reader → Type 0
Heard m x r = PortFits m.job m.active m.pipes m.inlets x r ⊎ (r ≡ nobody)

tell_fits : (r : Reader) (x : ℕ) (m : Machine) → Fits m → Heard m x r → (r ≡ slot → length m.dirty < 3) → Fits (tell r x m)
unfolding tell
tell_fits nobody x m f h s = f
tell_fits slot x m f (inl h) s =
    let w = (h.place h.reader.0).1 h.reader.0 in
    dirty_fits m (slot_at_place x) f (f.still.active (slot_at_place x) w.0 w.1).0 (s refl)
tell_fits slot x m f (inr e) s = clash (cc)
tell_fits (pipe p i) x m f (inl h) s = reader_fits m p i f (at_below (inlets_at m p) i x h.reader.2)
tell_fits (pipe p i) x m f (inr e) s = clash (cc)

tell_woken : (r : Reader) (x : ℕ) (m : Machine) → Woken m (tell r x m)
unfolding tell
tell_woken nobody x m = woken_none m
tell_woken slot x m = record { live = λ q. refl; there = λ y. refl }
tell_woken (pipe p i) x m = reader_woken m p i

there_put : (O : List Port) (x y : ℕ) (v : Port) → v.there ≡ (port_of O x).there → (port_of (put no_port O x v) y).there ≡ (port_of O y).there
there_put O x y v e = by_eq y x (λ d. rw (d, same) e) (λ d. rw other)

-- a port written with its reader as it was
pub port_fits : (m : Machine) (x : ℕ) (v : Port) → Fits m → x < port_places → v.there ≡ (port_at m x).there → v.reader ≡ (port_at m x).reader → Fits (set_port x v m)
port_fits m x v f b t r =
    set_port_lem m x v f b (λ e. rw r (f.ports.ports x (sym t ∙ e))) (rw (t, r) (f.ports.vacant x))

pub port_woken : (m : Machine) (x : ℕ) (v : Port) → v.there ≡ (port_at m x).there → Woken m (set_port x v m)
port_woken m x v t = record { live = λ q. refl; there = λ y. there_put m.ports x y v t }

pub pass_fits : (m : Machine) (x : ℕ) → Fits m → x < port_places → Heard m x (reader_of m.ports x) → (reader_of m.ports x ≡ slot → length m.dirty < 3) → Fits (pass_mark x m)
unfolding pass_mark
pass_fits m x f b h s = by_bool (port_at m x).changed
    (λ e. rw (e, pass_mark)
    (tell_fits (port_at m x).reader x (set_port x (unmarked (port_at m x)) m) (port_fits m x (unmarked (port_at m x)) f b refl refl) h s))
    (λ e. rw (e, pass_mark) f)

pub pass_woken : (m : Machine) (x : ℕ) → Woken m (pass_mark x m)
unfolding pass_mark
pass_woken m x = by_bool (port_at m x).changed
    (λ e. rw (e, pass_mark)
    (let m' = set_port x (unmarked (port_at m x)) m in
    woken_then m m' (tell (port_at m x).reader x m') (port_woken m x (unmarked (port_at m x)) refl) (tell_woken (port_at m x).reader x m')))
    (λ e. rw (e, pass_mark) (woken_none m))

-- no slot reads a shared port
not_slot : (m : Machine) (x : ℕ) (r : Reader) → slot_places ≤ x → PortFits m.job m.active m.pipes m.inlets x r → r ≢ slot
not_slot m x nobody h f e = clash (cc)
not_slot m x slot h f e = omega (arith, f.reader.0)
not_slot m x (pipe p i) h f e = clash (cc)

-- marks of shared ports
pub shares_pass : (xs : List ℕ) (m : Machine) → Fits m → All (λ x. (slot_places ≤ x) × There m.ports x) xs → Fits (pass_marks xs m)
unfolding pass_marks
shares_pass [] m f h = f
shares_pass (x ∷ xs) m f h =
    let g = f.ports.ports x h.0.1 in
    shares_pass xs (pass_mark x m) (pass_fits m x f g.bound (inl g) (λ e. absurd (not_slot m x (reader_of m.ports x) h.0.0 g e))) (again xs h.1)
  where
    again : (ys : List ℕ) → All (λ y. (slot_places ≤ y) × There m.ports y) ys → All (λ y. (slot_places ≤ y) × There (pass_mark x m).ports y) ys
    again [] a = tt
    again (y ∷ ys) a = ((a.0.0, (pass_woken m x).there y ∙ a.0.1), again ys a.1)

pub passes_woken : (xs : List ℕ) (m : Machine) → Woken m (pass_marks xs m)
unfolding pass_marks
passes_woken [] m = woken_none m
passes_woken (x ∷ xs) m = woken_then m (pass_mark x m) (pass_marks xs (pass_mark x m)) (pass_woken m x) (passes_woken xs (pass_mark x m))
