-- What follows a run keeps `Fits`: the state it stops in, waking, retiring.
use Rattle.std.specs.Prelude.{◌≡◌, refl, ◌⊎◌, [], ℕ, ◌<◌, ◌≤◌, length, leb, ltb}
use Rattle.std.proofs.Common.{◌∙◌, inl, inr, arith, ltb-true, ltb-false}
use Rattle.rules.specs.Operators.{io, inlet, blocked, outlet, runnable}
use Rattle.rules.specs.Machine.{Machine, nobody, slot_places, places, pipe_at, source_at, inlets_at, outlets}
use Rattle.rules.specs.Wake.{with_state, set_state, enqueue, make_runnable, pass_marks, wake_writers}
use Rattle.rules.specs.Drive.{Why, is_blocked, at_outlet, done, has_bytes, set_stopped, touched_ports, wake_neighbours, retire_if, settle}
use Rattle.laws.specs.Table.{by_bool}
use Rattle.order.specs.Inv.{Live, There, reader_of}
use Rattle.order.specs.Outlets.{outlets_slot, outlets_among, outlets_there, outlet_share}
use Rattle.order.specs.RangeParts.{Fits}
use Rattle.order.specs.RangeMoves.{set_touched_lem}
use Rattle.order.specs.RangeWake.{none_set, set_state_lem, Woken, woken_live, woken_then, woken_none, woken_pipe, runnable_fits, runnable_woken, Heard, pass_fits, shares_pass, passes_woken, writers_fits, writers_woken}
use Rattle.order.specs.RangeRetire.{retire_fits}
use Rattle.order.specs.RangeRound.{WhyFits}
use Rattle.order.specs.Among.{all_among}

-- The state

pub stopped_fits : (m : Machine) (p : ℕ) (w : Why) → Fits m → Live m.pipes p → WhyFits m p w → Fits (set_stopped p w m)
unfolding set_stopped
stopped_fits m p (is_blocked io) f l h = by_bool (has_bytes (source_at m p)) (λ e. rw (e, set_stopped) (runnable_fits m p f l)) (λ e. rw (e, set_stopped) (set_state_lem m p (blocked io) f l tt))
stopped_fits m p (is_blocked (inlet i)) f l h = set_state_lem m p (blocked (inlet i)) f l h
stopped_fits m p at_outlet f l h = set_state_lem m p outlet f l h
stopped_fits m p done f l h = f

pub stopped_woken : (m : Machine) (p : ℕ) (w : Why) → Woken m (set_stopped p w m)
unfolding set_stopped
stopped_woken m p (is_blocked io) =
    by_bool (has_bytes (source_at m p)) (λ e. rw (e, set_stopped) (runnable_woken m p)) (λ e. rw (e, set_stopped) (woken_pipe m p (with_state (blocked io) (pipe_at m p)) refl))
stopped_woken m p (is_blocked (inlet i)) = woken_pipe m p (with_state (blocked (inlet i)) (pipe_at m p)) refl
stopped_woken m p at_outlet = woken_pipe m p (with_state outlet (pipe_at m p)) refl
stopped_woken m p done = woken_none m

runnable_dirty : (m : Machine) (p : ℕ) → (make_runnable p m).dirty ≡ m.dirty
unfolding make_runnable
runnable_dirty m p =
    let m' = set_state p runnable m in
    by_bool (pipe_at m p).queued (λ e. rw (e, make_runnable)) (λ e. by_bool (leb places (length m.ready)) (λ d. rw (e, make_runnable, d, enqueue)) (λ d. rw (e, make_runnable, d, enqueue)))

pub stopped_dirty : (m : Machine) (p : ℕ) (w : Why) → (set_stopped p w m).dirty ≡ m.dirty
unfolding set_stopped
stopped_dirty m p (is_blocked io) = by_bool (has_bytes (source_at m p)) (λ e. rw (e, set_stopped) (runnable_dirty m p)) (λ e. rw (e, set_stopped))
stopped_dirty m p (is_blocked (inlet i)) = refl
stopped_dirty m p at_outlet = refl
stopped_dirty m p done = refl

-- Neighbours

heard : (m : Machine) (p : ℕ) → Fits m → Live m.pipes p → p < slot_places → Heard m p (reader_of m.ports p)
heard m p f l h = told (f.ports.vacant p)
  where
    told : There m.ports p ⊎ (reader_of m.ports p ≡ nobody) → Heard m p (reader_of m.ports p)
    told (inl t) = inl (f.ports.ports p t)
    told (inr e) = inr e

-- marks of a pipeline's ports are passed on; at most one slot becomes dirty
marks_fits : (m : Machine) (p : ℕ) → Fits m → Live m.pipes p → length m.dirty < 3 → Fits (pass_marks (outlets m p) m)
unfolding pass_marks
marks_fits m p f l d = by_bool (ltb p slot_places)
    (λ e. let h = ltb-true p slot_places e in rw (outlets_slot m p h) (pass_fits m p f (omega arith) (heard m p f l h) (λ _. d)))
    (λ e. let h = ltb-false p slot_places e in
    shares_pass (outlets m p) m f
    (all_among (λ x. (slot_places ≤ x) × There m.ports x) (outlets m p) (λ x a. (outlet_share m.job p x h (outlets_among m p x a), outlets_there m p x h a))))

pub neighbours_woken : (m : Machine) (p : ℕ) → Woken m (wake_neighbours p m)
neighbours_woken m p =
    let n = pass_marks (outlets m p) m in
    let w = woken_then m n (wake_writers (touched_ports p m) n) (passes_woken (outlets m p) m) (writers_woken (touched_ports p m) n) in
    record { live = w.live; there = w.there }

pub neighbours_fits : (m : Machine) (p : ℕ) → Fits m → Live m.pipes p → length m.dirty < 3 → Fits (wake_neighbours p m)
neighbours_fits m p f l d =
    let n = pass_marks (outlets m p) m in
    let k = wake_writers (touched_ports p m) n in
    set_touched_lem k p [] (writers_fits (touched_ports p m) n (marks_fits m p f l d)) ((neighbours_woken m p).live p ∙ l) (none_set (length (inlets_at k p)))

-- The whole

retired : (m : Machine) (p : ℕ) (w : Why) → Fits m → Live m.pipes p → Fits (retire_if w p m)
retired m p (is_blocked b) f l = f
retired m p at_outlet f l = f
retired m p done f l = retire_fits m p f l

pub settle_fits : (m : Machine) (p : ℕ) (w : Why) → Fits m → Live m.pipes p → WhyFits m p w → length m.dirty < 3 → Fits (settle p w m)
settle_fits m p w f l h d =
    let n = set_stopped p w m in
    let k : Live n.pipes p = woken_live m n p (stopped_woken m p w) l in
    let z : length n.dirty < 3 = rw (stopped_dirty m p w) d in
    retired (wake_neighbours p n) p w (neighbours_fits n p (stopped_fits m p w f l h) k z) (woken_live n (wake_neighbours p n) p (neighbours_woken n p) k)
