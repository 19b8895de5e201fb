-- Demand 3 for a host, who sees answers and no reads made: a delivery is accepted just when a Read turn before it told its number, no accepted
-- delivery has named that number, and the row count is that of the segment that the Read turn named. It follows of the demand's sentences alone.
use Rattle.std.specs.Prelude.{◌≡◌, refl, Bool, true, false, ◌&&◌, not, ℕ, suc, ◌+◌, ◌<◌, ◌≤◌, length, eqb, ltb, if◌then◌else◌}
use Rattle.std.proofs.Common.{sym, ap, ◌∙◌, arith, length-append, eq-eqb, ne_eqb, ltb-true, ltb-false}
use Rattle.std.proofs.Math.Bool.{or-false}
use mathlib.Core.List.{List, [], ◌∷◌, ◌++◌, map, flat_map, append-nil, map-append}
use Rattle.std.proofs.Math.Option.{Option, none, some}
use Rattle.rules.specs.Table.{get, any, up_from}
use Rattle.rules.specs.Job.{Job}
use Rattle.rules.specs.Machine.{Machine}
use Rattle.rules.specs.Scan.{read, output, waits, done}
use Rattle.rules.specs.Session.{Call}
use Rattle.rules.specs.Demand.{Event, turn, refusal, delivery, Request, no_request, Moment, trace, events, made_in, read_count, came_in}
use Rattle.rules.specs.Demand.{Each, Along, has_rows, verdict, RightlyTaken, InTurn, AllTold, Demand3}
use Rattle.laws.specs.Table.{by_bool, by_eq, by_list, get_front}
use Rattle.laws.specs.Again.{up_more}
use Rattle.laws.specs.Spots.{up_same}
use Rattle.order.specs.Lists.{up_length}
use Rattle.order.specs.Totals.{length-map}
use Rattle.order.specs.Told.{any_told, any_upto, none_upto, telling, told_reads, told_append, count_told, events_more, made_more}

-- a Read turn with this number
abbrev pub is_read_number : ℕ → Event → Bool
is_read_number r (turn (read q g)) = eqb q r
is_read_number r (turn (output s b)) = false
is_read_number r (turn waits) = false
is_read_number r (turn done) = false
is_read_number r (refusal k) = false
is_read_number r (delivery q n a) = false

-- and its segment has n rows
abbrev pub is_read_with_rows : Job → ℕ → ℕ → Event → Bool
is_read_with_rows j r n (turn (read q g)) = eqb q r && has_rows j g n
is_read_with_rows j r n (turn (output s b)) = false
is_read_with_rows j r n (turn waits) = false
is_read_with_rows j r n (turn done) = false
is_read_with_rows j r n (refusal k) = false
is_read_with_rows j r n (delivery q k a) = false

-- the answer to a delivery by what was answered before it
abbrev pub verdict_by_turns : Job → List Event → ℕ → ℕ → Option ℕ
verdict_by_turns j past r n =
    if not (any (is_read_number r) past && not (came_in past r)) then some 10
    else if any (is_read_with_rows j r n) past then none
    else some 11

abbrev pub TakenByTurns : Job → Each
TakenByTurns j past (turn t) new = Unit {0}
TakenByTurns j past (refusal n) new = Unit {0}
TakenByTurns j past (delivery r n a) new = a ≡ verdict_by_turns j (events past) r n

-- Tests of Read turns are tests of the reads told

number_told : (r : ℕ) (e : Event) → is_read_number r e ≡ any (λ (q : ℕ × ℕ). eqb q.0 r) (telling e)
unfolding any
number_told r (turn (read q g)) = sym (or-false (eqb q r))
number_told r (turn (output s b)) = refl
number_told r (turn waits) = refl
number_told r (turn done) = refl
number_told r (refusal n) = refl
number_told r (delivery q n a) = refl

rows_told : (j : Job) (r n : ℕ) (e : Event) → is_read_with_rows j r n e ≡ any (λ (q : ℕ × ℕ). eqb q.0 r && has_rows j q.1 n) (telling e)
unfolding any
rows_told j r n (turn (read q g)) = sym (or-false (eqb q r && has_rows j g n))
rows_told j r n (turn (output s b)) = refl
rows_told j r n (turn waits) = refl
rows_told j r n (turn done) = refl
rows_told j r n (refusal k) = refl
rows_told j r n (delivery q k a) = refl

-- The reads told are the reads made

abbrev tell_of : List Request → ℕ → ℕ × ℕ
tell_of l i = (i, (get no_request l i).segment)

abbrev AsMade : List Moment → Type 0
AsMade past = told_reads (events past) ≡ map (tell_of (made_in past)) (up_from 0 (length (made_in past)))

module _ (past : List Moment) (v : AsMade past) where
  abbrev made : List Request
  made = made_in past

  told_length : length (told_reads (events past)) ≡ length made
  told_length = ap length v ∙ length-map (tell_of made) (up_from 0 (length made)) ∙ up_length 0 (length made)

  read_count_lem : read_count (events past) ≡ length made
  read_count_lem = count_told (events past) ∙ told_length

  -- the list that a call with event e and new reads leaves
  told_after : (e : Event) (new : List Request) → told_reads (events (past ++ record { event = e; made = new } ∷ [])) ≡ told_reads (events past) ++ telling e
  told_after e new =
      ap told_reads (events_more past (record { event = e; made = new })) ∙ told_append (events past) (e ∷ [])
      ∙ ap (λ (l : List (ℕ × ℕ)). told_reads (events past) ++ l) (append-nil (telling e))

  -- as many reads are new as are told
  new_length : (e : Event) (new : List Request) → AllTold past e new → length (telling e) ≡ length new
  new_length e new a =
      let c : length (told_reads (events past) ++ telling e) ≡ length (made ++ new) =
      ap length (sym (told_append (events past) (e ∷ []) ∙ ap (λ (l : List (ℕ × ℕ)). told_reads (events past) ++ l) (append-nil (telling e))))
      ∙ sym (count_told (events past ++ e ∷ [])) ∙ a in
      omega (arith, c, told_length, length-append (told_reads (events past)) (telling e), length-append made new)

  -- a call that tells nothing
  quiet : (e : Event) (new : List Request) → telling e ≡ [] → AllTold past e new → AsMade (past ++ record { event = e; made = new } ∷ [])
  quiet e new t a = by_list new
      (λ d.
      let m : made_in (past ++ record { event = e; made = new } ∷ []) ≡ made =
      made_more past (record { event = e; made = new }) ∙ ap (λ (l : List Request). made ++ l) d ∙ append-nil made in
      let s : told_reads (events past) ++ telling e ≡ told_reads (events past) =
      ap (λ (l : List (ℕ × ℕ)). told_reads (events past) ++ l) t ∙ append-nil (told_reads (events past)) in
      told_after e new ∙ s ∙ v ∙ ap (λ (l : List Request). map (tell_of l) (up_from 0 (length l))) (sym m))
      (λ x xs d. let z : 0 ≡ suc (length xs) = sym (ap length t) ∙ new_length e new a ∙ ap length d in absurd (omega arith))

  -- a Read turn
  tells : (r g : ℕ) (new : List Request) → InTurn past (turn (read r g)) new → AllTold past (turn (read r g)) new
      → AsMade (past ++ record { event = turn (read r g); made = new } ∷ [])
  tells r g new i a =
      let n = length made in
      let one : 1 ≡ length new = new_length (turn (read r g)) new a in
      let l = made ++ new in
      let long : length l ≡ suc n = length-append made new ∙ omega (arith, one) in
      let at : r ≡ n = i.0 ∙ read_count_lem in
      let z : 0 + n ≡ n = omega arith in
      told_after (turn (read r g)) new
      ∙ ap (λ (t : List (ℕ × ℕ)). t ++ (r, g) ∷ [])
      (v ∙ up_same (tell_of made) (tell_of l) 0 n (λ p b h. ap (λ (q : Request). (p, q.segment)) (sym (get_front no_request made new p (omega arith)))))
      ∙ rw (i.2, at) (sym (ap (map (tell_of l)) (up_more 0 n) ∙ map-append (tell_of l) (up_from 0 n) ((0 + n) ∷ [])
      ∙ ap (λ (k : ℕ). map (tell_of l) (up_from 0 n) ++ tell_of l k ∷ []) z))
      ∙ ap (λ (k : ℕ). map (tell_of l) (up_from 0 k)) (sym long)
      ∙ ap (λ (k : List Request). map (tell_of k) (up_from 0 (length k))) (sym (made_more past _))

  as_made : (e : Event) (new : List Request) → InTurn past e new → AllTold past e new → AsMade (past ++ record { event = e; made = new } ∷ [])
  as_made (turn (read r g)) new i a = tells r g new i a
  as_made (turn (output s b)) new i a = quiet (turn (output s b)) new refl a
  as_made (turn waits) new i a = quiet (turn waits) new refl a
  as_made (turn done) new i a = quiet (turn done) new refl a
  as_made (refusal n) new i a = quiet (refusal n) new refl a
  as_made (delivery r n b) new i a = quiet (delivery r n b) new refl a

  -- so the two verdicts are one
  verdicts_alike : (j : Job) (r n : ℕ) → verdict j past r n ≡ verdict_by_turns j (events past) r n
  verdicts_alike j r n =
      let been = events past in
      let told = told_reads been in
      let is_r : ℕ × ℕ → Bool = λ q. eqb q.0 r in
      let is_n : ℕ × ℕ → Bool = λ q. eqb q.0 r && has_rows j q.1 n in
      let a : any (is_read_number r) been ≡ any is_r (map (tell_of made) (up_from 0 (length made))) = any_told (is_read_number r) is_r (number_told r) been
      ∙ ap (any is_r) v in
      let b : any (is_read_with_rows j r n) been ≡ any is_n (map (tell_of made) (up_from 0 (length made))) = any_told (is_read_with_rows j r n) is_n
      (rows_told j r n) been ∙ ap (any is_n) v in
      by_bool (ltb r (length made))
      (λ e.
      let h : r < length made = ltb-true r (length made) e in
      let c : any (is_read_number r) been ≡ true = a ∙ any_upto (tell_of made) is_r 0 (length made) r (omega arith) (omega arith) (eq-eqb r r refl) in
      let d : any (is_read_with_rows j r n) been ≡ has_rows j (get no_request made r).segment n =
      b ∙ by_bool (has_rows j (get no_request made r).segment n)
      (λ t. any_upto (tell_of made) is_n 0 (length made) r (omega arith) (omega arith) (rw (eq-eqb r r refl) t) ∙ sym t)
      (λ t. none_upto (tell_of made) is_n 0 (length made) (λ q x y. by_eq q r (λ i. rw (i, eq-eqb r r refl) t) (λ i. rw (ne_eqb q r i))) ∙ sym t) in
      rw (e, c, d))
      (λ e.
      let h : length made ≤ r = ltb-false r (length made) e in
      let c : any (is_read_number r) been ≡ false = a ∙ none_upto (tell_of made) is_r 0 (length made) (λ q x y. ne_eqb q r (λ i. absurd (omega arith))) in
      rw (e, c))

  taken : (j : Job) (e : Event) (new : List Request) → RightlyTaken j past e new → TakenByTurns j past e new
  taken j (turn t) new h = tt
  taken j (refusal n) new h = tt
  taken j (delivery r n a) new h = h ∙ verdicts_alike j r n

along_host : (j : Job) (past xs : List Moment) → AsMade past → Along (RightlyTaken j) past xs → Along InTurn past xs → Along AllTold past xs
    → Along (TakenByTurns j) past xs
along_host j past [] v d i a = tt
along_host j past (x ∷ xs) v d i a =
    (taken past v j x.event x.made d.0, along_host j (past ++ x ∷ []) xs (as_made past v x.event x.made i.0 a.0) d.1 i.1 a.1)

pub by_turns : (j : Job) (m : Machine) (calls : List Call) → Demand3 j m calls → Along (TakenByTurns j) [] (trace calls m)
unfolding up_from flat_map
by_turns j m calls d = along_host j [] (trace calls m) refl d.deliveries d.tells d.told
