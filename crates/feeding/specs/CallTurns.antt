-- A turn among the calls, and one within a split that is skipped.
use Rattle.std.specs.Prelude.{◌≡◌, refl, false, ◌&&◌, ℕ, zero, suc, ◌+◌, ◌-◌, ◌≤◌, ◌<◌, length, drop, leb, ltb}
use Rattle.std.proofs.Math.Path.{sym}
use Rattle.std.proofs.Common.{ap, ◌∙◌, arith, drop_at}
use mathlib.Core.List.{List, [], ◌∷◌, ◌++◌, append-nil, append_assoc}
use Rattle.std.proofs.Math.Option.{Option, none, some}
use Rattle.std.proofs.Math.ListN.{length-append}
use Rattle.std.proofs.Math.Seq.{drop-length}
use borrow.Author.Tests.{ltb-true, ltb-false, leb-true, leb-false, lt-ltb, le-ltb}
use Rattle.laws.specs.Table.{by_bool, by_option, clash}
use Rattle.rules.specs.Job.{is_mark, word}
use Rattle.rules.specs.Machine.{Machine}
use Rattle.rules.specs.Session as rule
use Rattle.call_records.specs.Taken.{call_takes}
use Rattle.call_records.specs.Calls.{wanted_at}
use Rattle.turn.specs.Told.{ToldVerdict as Verdict}
use Rattle.feeding.specs.declared.Coming.{Coming}
use Rattle.feeding.specs.declared.Coming.TheVariants.{More, Full, Ended}
use Rattle.feeding.specs.declared.Phase.TheVariants as phase
use Rattle.feeding.specs.Tasks.{skip_on, skip_task, may_come, called, call_task}
use Rattle.feeding.specs.Turned.{does}
use Rattle.feeding.specs.Ahead.{Fits, Says}
use Rattle.feeding.specs.Fuel.{call_less, calls_enough}

-- A split that is skipped

later : (n : ℕ) (xs ys : List ℕ) → length xs < n → ltb (length (xs ++ ys)) n ≡ ltb (length ys) (n - length xs)
later n xs ys h =
    by_bool (ltb (length ys) (n - length xs))
    (λ e. rw e (lt-ltb (length (xs ++ ys)) n (simp length-append (let k = ltb-true (length ys) (n - length xs) e in omega arith))))
    (λ e. rw e (le-ltb (length (xs ++ ys)) n (simp length-append (let k = ltb-false (length ys) (n - length xs) e in omega arith))))

module _ (n : ℕ) (b a : Verdict) (m : Machine) (xs ys : List ℕ) where
  skip_on_lem : (c : Coming) → Fits c xs ys → length xs < n → Says (phase.Skip n b a) m xs ys (does none (phase.Skip n b a) m xs (skip_on c (n - length xs) b a))
  unfolding does
  skip_on_lem More f h = rw (drop-length xs, later n xs ys h)
  skip_on_lem Full f h = rw (drop-length xs, later n xs ys h)
  skip_on_lem Ended f h = rw (f, append-nil xs, lt-ltb (length xs) n h) (sym (append-nil _))

  pub skip_says : (c : Coming) → Fits c xs ys → Says (phase.Skip n b a) m xs ys (does none (phase.Skip n b a) m xs (skip_task n b a c xs))
  unfolding does skip_task
  skip_says c f =
      by_bool (leb n (length xs))
      (λ e. rw (e, skip_task, le-ltb (length (xs ++ ys)) n (simp length-append (let k = leb-true n (length xs) e in omega arith))) (sym (append-nil _)))
      (λ e. rw (e, skip_task) (skip_on_lem c f (leb-false n (length xs) e)))

-- Calls

-- eight bytes are a delivery's fields
eight : (xs : List ℕ) → 8 ≤ length xs → rule.delivery_fields xs ≡ none → ⊥
unfolding word
eight [] h e = absurd (omega arith)
eight (a ∷ []) h e = absurd (omega arith)
eight (a ∷ b ∷ []) h e = absurd (omega arith)
eight (a ∷ b ∷ c ∷ []) h e = absurd (omega arith)
eight (a ∷ b ∷ c ∷ d ∷ []) h e = absurd (omega arith)
eight (a ∷ b ∷ c ∷ d ∷ i ∷ []) h e = absurd (omega arith)
eight (a ∷ b ∷ c ∷ d ∷ i ∷ j ∷ []) h e = absurd (omega arith)
eight (a ∷ b ∷ c ∷ d ∷ i ∷ j ∷ k ∷ []) h e = absurd (omega arith)
eight (a ∷ b ∷ c ∷ d ∷ i ∷ j ∷ k ∷ l ∷ xs) h e = clash (cc)

-- where the bytes are there that tell what call it is, no call stays none
stays_none : (xs ys : List ℕ) → wanted_at xs ≤ length xs → rule.next_call xs ≡ none → rule.next_call (xs ++ ys) ≡ none
unfolding rule.next_call
stays_none [] ys h e = absurd (omega arith)
stays_none (a ∷ []) ys h e = absurd (omega arith)
stays_none (a ∷ b ∷ xs) ys h e =
    by_bool (is_mark a b (83, 84)) (λ s. clash (cc (rw s at e)))
    (λ s. by_bool (is_mark a b (68, 76)) (λ d. absurd (eight xs (let k = rw d at h in omega arith) (rw (s, d) at e))) (λ d. rw (s, d)))

-- the calls of bytes by the first of them
calls_bad : (f : ℕ) (xs : List ℕ) (m : Machine) → 0 < length xs → length xs ≤ f → rule.next_call xs ≡ none → rule.calls f xs m ≡ rule.ended (rule.no_line 2)
unfolding rule.calls
calls_bad zero xs m h g e = absurd (omega arith)
calls_bad (suc f) [] m h g e = absurd (omega arith)
calls_bad (suc f) (b ∷ bs) m h g e = rw (rule.calls, e)

calls_good : (f : ℕ) (xs : List ℕ) (m : Machine) (c : rule.Call) (rest : List ℕ) → length xs ≤ f → rule.next_call xs ≡ some (c, rest)
    → rule.calls f xs m ≡ (rule.answer c m).0 ++ rule.calls (length rest) rest (rule.answer c m).1
unfolding rule.calls rule.next_call
calls_good f [] m c rest h e = clash (cc)
calls_good zero (b ∷ bs) m c rest h e = absurd (omega arith)
calls_good (suc f) (b ∷ bs) m c rest h e =
    rw (rule.calls, e) (ap (λ (t : List ℕ). (rule.answer c m).0 ++ t)
    (calls_enough f (length rest) (rule.answer c m).1 rest (let l = call_less (b ∷ bs) c rest e in omega arith) (omega arith)))

module _ (m : Machine) (xs ys : List ℕ) where
  -- a call that is there
  good_says : (c : rule.Call) (rest : List ℕ) → rule.next_call xs ≡ some (c, rest)
      → rule.calls (length (xs ++ ys)) (xs ++ ys) m
      ≡ (rule.answer c m).0 ++ rule.calls (length (drop (length xs - length rest) xs ++ ys)) (drop (length xs - length rest) xs ++ ys) (rule.answer c m).1
  good_says c rest o =
      let t = call_takes xs c rest o in
      let l : length xs ≡ length t.front + length rest = ap length t.is ∙ length-append t.front rest in
      let w : length xs - length rest ≡ length t.front = omega (arith, l) in
      let d : drop (length xs - length rest) xs ≡ rest =
      ap (λ (k : ℕ). drop k xs) w ∙ ap (drop (length t.front)) t.is ∙ drop_at t.front rest (length t.front) refl in
      let n : ◌≡◌ {A = Option (rule.Call × List ℕ)} (rule.next_call (xs ++ ys)) (some (c, rest ++ ys)) =
      ap (λ (k : List ℕ). rule.next_call (k ++ ys)) t.is ∙ ap rule.next_call (append_assoc t.front rest ys) ∙ t.any (rest ++ ys) in
      rw d (calls_good (length (xs ++ ys)) (xs ++ ys) m c (rest ++ ys) (omega arith) n)

  called_says : (c : rule.Call) (rest : List ℕ) → ◌≡◌ {A = Option (rule.Call × List ℕ)} (rule.next_call xs) (some (c, rest))
      → Says phase.Calls m xs ys (does none phase.Calls m xs (called xs (some (c, rest))))
  unfolding does
  called_says rule.ST rest o = good_says rule.ST rest o
  called_says (rule.DL r n) rest o = good_says (rule.DL r n) rest o

  -- none that is there
  bad_says : 0 < length xs → rule.next_call (xs ++ ys) ≡ none → Says phase.Calls m xs ys (does none phase.Calls m xs (called xs none))
  unfolding does
  bad_says h o = calls_bad (length (xs ++ ys)) (xs ++ ys) m (simp length-append (omega arith)) (omega arith) o ∙ sym (append-nil _)

  told : (c : Coming) → Fits c xs ys → may_come c && ltb (length xs) (wanted_at xs) ≡ false → rule.next_call xs ≡ none → rule.next_call (xs ++ ys) ≡ none
  told More f h o = stays_none xs ys (ltb-false (length xs) (wanted_at xs) h) o
  told Full f h o = stays_none xs ys (ltb-false (length xs) (wanted_at xs) h) o
  told Ended f h o = rw (f, append-nil xs) o

  some_says : (c : Coming) → Fits c xs ys → 0 < length xs → may_come c && ltb (length xs) (wanted_at xs) ≡ false
      → Says phase.Calls m xs ys (does none phase.Calls m xs (called xs (rule.next_call xs)))
  some_says c f h w =
      by_option (rule.next_call xs) (λ o. rw o (bad_says h (told c f w o))) (λ r o. rw o (called_says r.0 r.1 o))

none_says : (m : Machine) (ys : List ℕ) (c : Coming) → Fits c [] ys → Says phase.Calls m [] ys (does none phase.Calls m [] (call_task c []))
unfolding does call_task rule.calls
none_says m ys More f = refl
none_says m ys Full f = refl
none_says m ys Ended f = rw f

pub calls_says : (m : Machine) (xs ys : List ℕ) (c : Coming) → Fits c xs ys → Says phase.Calls m xs ys (does none phase.Calls m xs (call_task c xs))
unfolding does call_task
calls_says m [] ys c f = none_says m ys c f
calls_says m (x ∷ xs) ys c f =
    by_bool (may_come c && ltb (length (x ∷ xs)) (wanted_at (x ∷ xs)))
    (λ w. rw (call_task, w)) (λ w. rw (call_task, w) (some_says m (x ∷ xs) ys c f (omega arith) w))
