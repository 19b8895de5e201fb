-- What the events of a session say, by the reads that were told: tests of the past are tests of these.
use Rattle.std.specs.Prelude.{◌≡◌, Bool, true, false, ◌&&◌, ◌||◌, not, length, eqb}
use Rattle.std.proofs.Math.Path.{refl, ap}
use Rattle.std.proofs.Common.{sym, ◌∙◌, arith}
use Rattle.std.proofs.Math.Bool.{or-false}
use mathlib.Core.List.{List, [], ◌∷◌, ◌++◌, map, flat_map, append_assoc, append-nil, map-append}
use Prim.Native.Nat.{ℕ, zero, suc, ◌+◌, ◌<◌, ◌≤◌}
use Rattle.rules.specs.Table.{any, up_from}
use Rattle.rules.specs.Scan.{read, output, waits, done}
use Rattle.rules.specs.Demand.{Event, turn, refusal, delivery, Moment, events, made_in, read_count, is_read_of, is_delivered, came_in, is_open_read, in_flight, has_brought, brought, rows_in, put_out}
use Rattle.laws.specs.Table.{by_eq}
use Rattle.order.specs.Leaves.{or_inl, or_inr}
use Rattle.order.specs.Each.{or_none}

-- Tests of lists

or_assoc : (a b c : Bool) → (a || b) || c ≡ a || (b || c)
or_assoc true b c = refl
or_assoc false b c = refl

module _ {A : Type 0} where
  pub any_append : (f : A → Bool) (xs ys : List A) → any f (xs ++ ys) ≡ any f xs || any f ys
  unfolding any
  any_append f [] ys = refl
  any_append f (x ∷ xs) ys = rw (any_append f xs ys) (sym (or_assoc (f x) (any f xs) (any f ys)))

module _ {A : Type 0} (k : ℕ → A) (f : A → Bool) where
  pub any_upto : (i n r : ℕ) → i ≤ r → r < i + n → f (k r) ≡ true → any f (map k (up_from i n)) ≡ true
  unfolding any up_from
  any_upto i zero r h g e = absurd (omega arith)
  any_upto i (suc n) r h g e = by_eq r i (λ q. or_inl (f (k i)) (any f (map k (up_from (suc i) n))) (rw (← q) e))
      (λ q. or_inr (f (k i)) (any f (map k (up_from (suc i) n))) (any_upto (suc i) n r (omega arith) (omega arith) e))

  pub none_upto : (i n : ℕ) → ((r : ℕ) → i ≤ r → r < i + n → f (k r) ≡ false) → any f (map k (up_from i n)) ≡ false
  unfolding any up_from
  none_upto i zero h = refl
  none_upto i (suc n) h = or_none (f (k i)) (any f (map k (up_from (suc i) n))) (h i (omega arith) (omega arith)) (none_upto (suc i) n (λ r g e. h r (omega arith) (omega arith)))

module _ {A B : Type 0} (f : A → List B) where
  flat_append : (xs ys : List A) → flat_map f (xs ++ ys) ≡ flat_map f xs ++ flat_map f ys
  unfolding flat_map
  flat_append [] ys = refl
  flat_append (x ∷ xs) ys = rw (flat_append xs ys) (sym (append_assoc (f x) (flat_map f xs) (flat_map f ys)))

  flat_one : (x : A) → flat_map f (x ∷ []) ≡ f x
  unfolding flat_map
  flat_one x = append-nil (f x)

-- Reads told

abbrev pub telling : Event → List (ℕ × ℕ)
telling (turn (read r g)) = (r, g) ∷ []
telling (turn (output s b)) = []
telling (turn waits) = []
telling (turn done) = []
telling (refusal n) = []
telling (delivery r n a) = []

abbrev pub told_reads : List Event → List (ℕ × ℕ)
told_reads [] = []
told_reads (e ∷ es) = telling e ++ told_reads es

pub told_append : (es fs : List Event) → told_reads (es ++ fs) ≡ told_reads es ++ told_reads fs
told_append [] fs = refl
told_append (e ∷ es) fs = rw (told_append es fs) (sym (append_assoc (telling e) (told_reads es) (told_reads fs)))

-- a test that only Read turns pass
pub any_told : (f : Event → Bool) (h : ℕ × ℕ → Bool) → ((e : Event) → f e ≡ any h (telling e)) → (es : List Event) → any f es ≡ any h (told_reads es)
unfolding any
any_told f h a [] = refl
any_told f h a (e ∷ es) = rw (a e, any_told f h a es) (sym (any_append h (telling e) (told_reads es)))

-- Read turns by number
pub count_told : (es : List Event) → read_count es ≡ length (told_reads es)
unfolding read_count
count_told [] = refl
count_told (turn (read r g) ∷ es) = ap suc (count_told es)
count_told (turn (output s b) ∷ es) = count_told es
count_told (turn waits ∷ es) = count_told es
count_told (turn done ∷ es) = count_told es
count_told (refusal n ∷ es) = count_told es
count_told (delivery r n a ∷ es) = count_told es

of_told : (g : ℕ) (e : Event) → is_read_of g e ≡ any (λ (q : ℕ × ℕ). eqb q.1 g) (telling e)
unfolding any is_read_of
of_told g (turn (read q h)) = sym (or-false (eqb h g))
of_told g (turn (output s b)) = refl
of_told g (turn waits) = refl
of_told g (turn done) = refl
of_told g (refusal n) = refl
of_told g (delivery q n a) = refl

open_told : (past : List Event) (e : Event) → is_open_read past e ≡ any (λ (q : ℕ × ℕ). not (came_in past q.0)) (telling e)
unfolding any is_open_read
open_told past (turn (read q h)) = sym (or-false (not (came_in past q)))
open_told past (turn (output s b)) = refl
open_told past (turn waits) = refl
open_told past (turn done) = refl
open_told past (refusal n) = refl
open_told past (delivery q n a) = refl

brought_told : (past : List Event) (g : ℕ) (e : Event) → has_brought past g e ≡ any (λ (q : ℕ × ℕ). eqb q.1 g && came_in past q.0) (telling e)
unfolding any
brought_told past g (turn (read q h)) = sym (or-false (eqb h g && came_in past q))
brought_told past g (turn (output s b)) = refl
brought_told past g (turn waits) = refl
brought_told past g (turn done) = refl
brought_told past g (refusal n) = refl
brought_told past g (delivery q n a) = refl

module _ (past : List Event) where
  pub segments_are : (g : ℕ) → any (is_read_of g) past ≡ any (λ (q : ℕ × ℕ). eqb q.1 g) (told_reads past)
  segments_are g = any_told (is_read_of g) (λ (q : ℕ × ℕ). eqb q.1 g) (of_told g) past

  pub flights_are : in_flight past ≡ any (λ (q : ℕ × ℕ). not (came_in past q.0)) (told_reads past)
  flights_are = any_told (is_open_read past) (λ (q : ℕ × ℕ). not (came_in past q.0)) (open_told past) past

  pub brought_are : (g : ℕ) → brought past g ≡ any (λ (q : ℕ × ℕ). eqb q.1 g && came_in past q.0) (told_reads past)
  brought_are g = any_told (has_brought past g) (λ (q : ℕ × ℕ). eqb q.1 g && came_in past q.0) (brought_told past g) past

  -- one more event
  pub came_more : (e : Event) (r : ℕ) → came_in (past ++ e ∷ []) r ≡ came_in past r || is_delivered r e
  unfolding any
  came_more e r = any_append (is_delivered r) past (e ∷ []) ∙ ap (λ b. came_in past r || b) (or-false (is_delivered r e))

  pub put_more : (e : Event) (s : ℕ) → put_out s (past ++ e ∷ []) ≡ put_out s past ++ rows_in s e
  put_more e s = flat_append (rows_in s) past (e ∷ []) ∙ ap (λ x. put_out s past ++ x) (flat_one (rows_in s) e)

-- one more call

module _ (past : List Moment) (x : Moment) where
  pub events_more : events (past ++ x ∷ []) ≡ events past ++ x.event ∷ []
  events_more = map-append (λ (y : Moment). y.event) past (x ∷ [])

  pub made_more : made_in (past ++ x ∷ []) ≡ made_in past ++ x.made
  made_more = flat_append (λ (y : Moment). y.made) past (x ∷ []) ∙ ap (λ l. made_in past ++ l) (flat_one (λ (y : Moment). y.made) x)
