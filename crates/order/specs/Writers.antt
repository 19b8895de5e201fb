-- Waking the writers of inlets that were read; and all neighbours, as the touched inlets are forgotten.
use Rattle.std.specs.Prelude.{◌≡◌, refl, ◌≢◌, Bool, false, ◌&&◌, ℕ, ◌<◌}
use Rattle.std.proofs.Common.{ap, ◌∙◌, lt-ltb}
use Rattle.std.proofs.Math.Logic.{inl, inr}
use Rattle.std.proofs.Math.Bool.{true, not}
use mathlib.Core.List.{List, [], ◌∷◌}
use Rattle.std.proofs.lemmas.Bool.{lt-leb}
use Rattle.rules.specs.Table.{get, has, any}
use Rattle.rules.specs.Plan.{Row}
use Rattle.rules.specs.InletSet.{InletSet, insert}
use Rattle.rules.specs.Port.{is_full, capacity}
use Rattle.rules.specs.Operators.{outlet}
use Rattle.rules.specs.Machine.{Machine, Reader, nobody, slot, pipe, slot_places, is_share_port, pipe_at, port_at, queue_at, live, set_port, set_touched, set_changed}
use Rattle.rules.specs.Wake.{make_runnable, is_on, at_outlet, wake_reader, any_full, wake_writer, wake_writers, unmarked, tell, pass_mark, pass_marks}
use Rattle.laws.specs.Table.{by_bool, by_eq, clash, and_left, and_right}
use Rattle.order.specs.Inv.{Live, state_of}
use Rattle.order.specs.State.{no}
use Rattle.order.specs.Runnable.{runnable_touched}
use Rattle.order.specs.Marks.{has_cons, freer}
use Rattle.order.specs.Wakes.{Waking, at_outlet_lem, wake_ok}

-- a writer is woken
abbrev wakes : ℕ → Machine → Bool
wakes x m = not (is_share_port x) && live m x && at_outlet (pipe_at m x).state && not (any_full m x)

-- one that stops at its outlet is woken if there is place
wakes_is : (x : ℕ) (m : Machine) → x < slot_places → Live m.pipes x → state_of m.pipes x ≡ outlet → is_full capacity (queue_at m x) ≡ false → wakes x m ≡ true
unfolding any
wakes_is x m h l s e = rw (lt-leb slot_places x h, lt-ltb x slot_places h, l, s, e, lt-leb slot_places x h)

module _ (m₀ : Machine) (me : ℕ) (who «open» loud busy : ℕ → Type 0) (out : ℕ → List Row) (told : ℕ) where
  -- the writer of a port is told that there may be place
  pub writer_ok : (freed freed' : ℕ → Type 0) (x : ℕ) (m : Machine) → ((q : ℕ) → q ≢ x → freed q → freed' q)
      → Waking m₀ me who «open» loud freed busy out told m → Waking m₀ me who «open» loud freed' busy out told (wake_writer x m)
  unfolding wake_writer
  writer_ok freed freed' x m f v = by_bool (wakes x m)
      (λ t. let b = not (is_share_port x) && live m x in
      let c = at_outlet (pipe_at m x).state in
      let a : b && c ≡ true = and_left (b && c) (not (any_full m x)) t in
      let l : Live m.pipes x = and_right (not (is_share_port x)) (live m x) (and_left b c a) in
      let s : state_of m.pipes x ≡ outlet = at_outlet_lem (pipe_at m x).state (and_right b c a) in
      let w = wake_ok m₀ me who «open» loud freed busy out told x m v l (rw s) (rw s) in
      rw (t, wake_writer) (record {
        inv = freer me who «open» loud freed busy out told (make_runnable x m) w.0.inv freed' (λ q l s h e. inr (f q (λ i. clash (cc (s, w.1, i))) e));
        held = w.0.held;
        kept = w.0.kept;
      }))
      (λ t. rw (t, wake_writer) (record {
        inv = freer me who «open» loud freed busy out told m v.inv freed'
            (λ q l s h e. by_eq q x
            (λ i. by_bool (is_full capacity (queue_at m q)) (λ c. inl c) (λ c. clash (cc (t, wakes_is x m (rw i at h) (rw i at l) (rw i at s) (rw i at c)))))
            (λ n. inr (f q n e)));
        held = v.held;
        kept = v.kept;
      }))

  -- the writers of all inlets that were read
  pub writers_ok : (xs : List ℕ) (m : Machine) → Waking m₀ me who «open» loud (λ q. has q xs ≡ true) busy out told m → Waking m₀ me who «open» loud no busy out told (wake_writers xs m)
  unfolding wake_writers has
  writers_ok [] m v = record { inv = freer me who «open» loud (λ q. has q [] ≡ true) busy out told m v.inv no (λ q l s h e. clash (cc)); held = v.held; kept = v.kept }
  writers_ok (x ∷ xs) m v = writers_ok xs (wake_writer x m) (writer_ok (λ q. has q (x ∷ xs) ≡ true) (λ q. has q xs ≡ true) x m (λ q n l. has_cons q x xs l n) v)

-- Waking does not look at touched inlets

-- of readers
reader_touched : (p i q : ℕ) (s : InletSet) (m : Machine) → wake_reader p i (set_touched q s m) ≡ set_touched q s (wake_reader p i m)
unfolding wake_reader
reader_touched p i q s m = by_bool (live m p)
    (λ l. by_bool (is_on (pipe_at m p).state i) (λ e. rw (l, wake_reader, e) (runnable_touched p q s (set_changed p (insert i (get [] m.changed p)) m))) (λ e. rw (l, wake_reader, e)))
    (λ l. rw (l, wake_reader))

tell_touched : (r : Reader) (x q : ℕ) (s : InletSet) (m : Machine) → tell r x (set_touched q s m) ≡ set_touched q s (tell r x m)
unfolding tell
tell_touched nobody x q s m = refl
tell_touched slot x q s m = refl
tell_touched (pipe p i) x q s m = reader_touched p i q s m

pass_touched : (x q : ℕ) (s : InletSet) (m : Machine) → pass_mark x (set_touched q s m) ≡ set_touched q s (pass_mark x m)
unfolding pass_mark
pass_touched x q s m = by_bool (port_at m x).changed
    (λ c. rw (c, pass_mark) (tell_touched (port_at m x).reader x q s (set_port x (unmarked (port_at m x)) m)))
    (λ c. rw (c, pass_mark))

pub passes_touched : (xs : List ℕ) (q : ℕ) (s : InletSet) (m : Machine) → pass_marks xs (set_touched q s m) ≡ set_touched q s (pass_marks xs m)
unfolding pass_marks
passes_touched [] q s m = refl
passes_touched (x ∷ xs) q s m = ap (pass_marks xs) (pass_touched x q s m) ∙ passes_touched xs q s (pass_mark x m)

-- and of writers
writer_touched : (x q : ℕ) (s : InletSet) (m : Machine) → wake_writer x (set_touched q s m) ≡ set_touched q s (wake_writer x m)
unfolding wake_writer
writer_touched x q s m = by_bool (wakes x m) (λ t. rw (t, wake_writer) (runnable_touched x q s m)) (λ t. rw (t, wake_writer))

pub writers_touched : (xs : List ℕ) (q : ℕ) (s : InletSet) (m : Machine) → wake_writers xs (set_touched q s m) ≡ set_touched q s (wake_writers xs m)
unfolding wake_writers
writers_touched [] q s m = refl
writers_touched (x ∷ xs) q s m = ap (wake_writers xs) (writer_touched x q s m) ∙ writers_touched xs q s (wake_writer x m)
