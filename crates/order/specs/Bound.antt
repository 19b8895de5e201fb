-- The bound of demand 3: where every Waiting is served, a Done is among the first 2 D + K + 1 steps.
use Rattle.std.specs.Prelude.{◌≡◌, Bool, ◌&&◌, List, [], ◌∷◌, ◌++◌, map, length, eqb}
use Rattle.std.proofs.Math.Path.{refl, ap}
use Rattle.std.proofs.Common.{sym, ◌∙◌, subst, append-nil, length-append, eq-eqb, ne_eqb, ltb-true}
use Rattle.std.proofs.Math.Bool.{true, false, not}
use Rattle.std.proofs.Math.Option.{none, some}
use Prim.Native.Nat.{ℕ, zero, suc, ◌+◌, ◌-◌, ◌*◌, ◌<◌, ◌≤◌}
use native.Mathlib.Omega.{arith}
use Rattle.std.proofs.Math.Dec.{ltb}
use Rattle.std.proofs.lemmas.Bool.{not-true}
use Rattle.rules.specs.Table.{any, up_from}
use Rattle.rules.specs.Job.{Job}
use Rattle.rules.specs.Plan.{Row, kept_rows, segment_count, row_count}
use Rattle.rules.specs.Port.{Batch}
use Rattle.rules.specs.Machine.{Machine, start}
use Rattle.rules.specs.Scan.{read, output, waits, done}
use Rattle.rules.specs.Session.{Call}
use Rattle.rules.specs.Demand.{Event, turn, refusal, delivery, trace, Request, Moment, moment, events, made_in, is_delivered, came_in, in_flight, rows_in, put_out}
use Rattle.rules.specs.Demand.{verdict, Front, step_count, served, done_within, most}
use Rattle.laws.specs.Table.{by_bool, clash, and_left, and_right}
use Rattle.laws.specs.Rows.{batch_length}
use Rattle.laws.specs.JobOk.{JobOk}
use Rattle.laws.specs.Spots.{get_numbers}
use Rattle.order.specs.Inv.{bit, read_at}
use Rattle.order.specs.Leaves.{or_inr}
use Rattle.order.specs.Each.{any_some}
use Rattle.order.specs.Told.{telling, told_reads, told_append, flights_are, came_more, put_more, events_more}
use Rattle.order.specs.Seen.{seg_of, StepOk, front_of_lem, Seen, told_count, told_made}
use Rattle.order.specs.Totals.{count_upto, count_most, count_less, count_same, count_more, total_from, total_grows, total_more, length-map, rows_most, segments_most}
use Rattle.order.specs.Trace.{or_off, newly, Fair, EventOk, reads_grow, throughout, start_is, start_seen}
use Rattle.order.specs.Lists.{up_length}
use Rattle.order.specs.Tally.{bit_most}

-- reads told, reads delivered, rows put out
abbrev told : List Event → ℕ
told past = length (told_reads past)

-- of so many reads
abbrev came_count : List Event → ℕ → ℕ
came_count past made = count_upto (came_in past) made

abbrev out_rows : Job → List Event → ℕ
out_rows j past = total_from (λ s. length (put_out s past)) 0 j.splits

-- one more event

told_more : (past : List Event) (e : Event) → told (past ++ e ∷ []) ≡ told past + length (telling e)
told_more past e = ap length (told_append past (e ∷ [])) ∙ length-append (told_reads past) (telling e ++ []) ∙ ap (λ x. told past + length x) (append-nil (telling e))

put_length : (past : List Event) (e : Event) (s : ℕ) → length (put_out s (past ++ e ∷ [])) ≡ length (put_out s past) + length (rows_in s e)
put_length past e s = ap length (put_more past e s) ∙ length-append (put_out s past) (rows_in s e)

rows_grow : (j : Job) (past : List Event) (e : Event) → out_rows j past ≤ out_rows j (past ++ e ∷ [])
rows_grow j past e = total_grows (λ s. length (put_out s past)) (λ s. length (put_out s (past ++ e ∷ []))) 0 j.splits (λ s. omega (arith, put_length past e s))

rows_here : (t : ℕ) (b : Batch) → length (rows_in t (turn (output t b))) ≡ b.rows
unfolding rows_in
rows_here t b = rw (eq-eqb t t refl) (batch_length b)

-- an output puts out at least one row
rows_output : (j : Job) (past : List Event) (t : ℕ) (b : Batch) → t < length j.splits → 0 < b.rows → out_rows j past < out_rows j (past ++ turn (output t b) ∷ [])
rows_output j past t b h i = total_more (λ s. length (put_out s past)) (λ s. length (put_out s (past ++ turn (output t b) ∷ []))) 0 t j.splits
    (λ s. omega (arith, put_length past (turn (output t b)) s)) (omega arith) (omega arith)
    (omega (arith, put_length past (turn (output t b)) t, rows_here t b))

-- an event that delivers nothing
came_same : (past : List Event) (e : Event) → ((r : ℕ) → is_delivered r e ≡ false) → (n : ℕ) → count_upto (came_in (past ++ e ∷ [])) n ≡ count_upto (came_in past) n
came_same past e h n = count_same (came_in (past ++ e ∷ [])) (came_in past) n (λ r a. came_more past e r ∙ or_off (came_in past r) (is_delivered r e) (h r))

front_length : (a b : List Row) → Front a b → length a ≤ length b
front_length a b f = omega (arith, length-append a f.rest, ap length f.is)

-- what an accepted delivery's verdict says
verdict_none : (j : Job) (past : List Moment) (r n : ℕ) → none ≡ verdict j past r n → ltb r (length (made_in past)) && not (came_in (events past) r) ≡ true
verdict_none j past r n e = by_bool (ltb r (length (made_in past)) && not (came_in (events past) r)) (λ h. h) (λ h. clash (cc (rw h at e)))

-- reads that have not come count for nothing
count_further : (f : ℕ → Bool) (n k : ℕ) → ((r : ℕ) → n ≤ r → f r ≡ false) → count_upto f (k + n) ≡ count_upto f n
count_further f n zero h = let z : 0 + n ≡ n = omega arith in rw z
count_further f n (suc k) h = let z : suc k + n ≡ suc (k + n) = omega arith in rw (z, h (k + n) (omega arith))
    (let ih : count_upto f (k + n) ≡ count_upto f n = count_further f n k h in omega arith)

-- what n steps more are more than enough for, of reads told, made and delivered: a Waiting may be due
abbrev Owes : Job → List Event → ℕ → Bool → ℕ → Type 0
Owes j past made due n = (came_count past made + bit due ≤ made)
    × (2 * segment_count j + row_count j < n + told past + out_rows j past + (came_count past made + bit due))

abbrev Ends : Job → List Event → ℕ → List Event → Type 0
Ends j past made es = (due : Bool) (n : ℕ) → Owes j past made due n → served due es ≡ true → n ≤ step_count es → done_within n es ≡ true

due_none : (due : Bool) (b : Bool) → not due && b ≡ true → (due ≡ false) × (b ≡ true)
due_none true b e = clash (cc)
due_none false b e = (refl, e)

module _ (j : Job) (Good : Machine → Type 0) (past : List Moment) (m : Machine) (v : Seen j Good past m) where
  abbrev been : List Event
  been = events past

  abbrev made : ℕ
  made = length m.reads

  -- reads made are at most D, and those told at most those made
  made_most : made ≤ segment_count j
  made_most = segments_most j (λ r. (read_at m.reads r).leaf) (length m.reads) (λ r h. rw v.job at (v.rests.reads.leaf r h))
      (λ r q h k. v.rests.reads.once r q h k)

  told_most : told been ≤ made
  told_most = rw (told_count j Good past m v) (told_made j Good past m v)

  -- rows put out are at most K
  out_most : out_rows j been ≤ row_count j
  out_most = rows_most j (λ s. length (put_out s been))
      (λ s. front_length (put_out s been) (kept_rows j s) (rw v.job at (front_of_lem (λ t. put_out t been) v.told m v.rests s)))

  -- at a Waiting fewer reads were delivered than made
  flight_less : in_flight been ≡ true → came_count been made < made
  flight_less e =
      let tell : ℕ → ℕ × ℕ = λ r. (r, seg_of m r) in
      let h : ℕ × ℕ → Bool = λ q. not (came_in been q.0) in
      let a : any h (map tell (up_from 0 v.told)) ≡ true = rw v.tells at (sym (flights_are been) ∙ e) in
      let s = any_some h (0, 0) (map tell (up_from 0 v.told)) a in
      let n : length (map tell (up_from 0 v.told)) ≡ v.told = length-map tell (up_from 0 v.told) ∙ up_length 0 v.told in
      let b : s.0 < v.told = rw n at s.1 in
      let z : 0 + s.0 ≡ s.0 = omega arith in
      let f : not (came_in been s.0) ≡ true = rw (get_numbers tell (0, 0) 0 v.told s.0 b, z) at s.2 in
      count_less (came_in been) made s.0 (omega (arith, b, told_made j Good past m v)) (not-true (came_in been s.0) f)

  -- there are steps left
  some_left : (due : Bool) → Owes j been made due 0 → ⊥
  some_left due o = omega (arith, o.0, o.1, told_most, made_most, out_most)

  -- one more event: `later` is how many reads there are after it
  module _ (later : ℕ) (g : made ≤ later) where
    -- an event that delivers nothing: no new read has come
    quiet_count : (e : Event) → ((r : ℕ) → is_delivered r e ≡ false) → came_count (been ++ e ∷ []) later ≡ came_count been made
    quiet_count e h =
        let z : (later - made) + made ≡ later = omega arith in
        came_same been e h later ∙ rw z at (count_further (came_in been) made (later - made) v.none)

    quiet_told : (e : Event) → telling e ≡ [] → told (been ++ e ∷ []) ≡ told been
    quiet_told e t = told_more been e ∙ rw t (omega arith)

    ends_read : (r i : ℕ) (es : List Event) → Ends j (been ++ turn (read r i) ∷ []) later es → Ends j been made (turn (read r i) ∷ es)
    unfolding served done_within step_count is_delivered
    ends_read r i es ih due zero o s h = absurd (some_left due o)
    ends_read r i es ih due (suc n) o s h =
        let d = due_none due (served false es) s in
        let b : bit due ≡ 0 = ap bit d.0 in
        let e = turn (read r i) in
        let c : came_count (been ++ e ∷ []) later ≡ came_count been made = quiet_count e (λ q. refl) in
        ih false n (omega (arith, o.0, c), omega (arith, o.1, told_more been e, c, rows_grow j been e)) d.1 (omega (arith, h))

    ends_output : (t : ℕ) (w : Batch) (es : List Event) → t < length j.splits → 0 < w.rows → Ends j (been ++ turn (output t w) ∷ []) later es
        → Ends j been made (turn (output t w) ∷ es)
    unfolding served done_within step_count is_delivered
    ends_output t w es a c ih due zero o s h = absurd (some_left due o)
    ends_output t w es a c ih due (suc n) o s h =
        let d = due_none due (served false es) s in
        let b : bit due ≡ 0 = ap bit d.0 in
        let e = turn (output t w) in
        let y : came_count (been ++ e ∷ []) later ≡ came_count been made = quiet_count e (λ q. refl) in
        ih false n (omega (arith, o.0, y), omega (arith, o.1, quiet_told e refl, y, rows_output j been t w a c)) d.1 (omega (arith, h))

    ends_waits : (es : List Event) → in_flight been ≡ true → Ends j (been ++ turn waits ∷ []) later es → Ends j been made (turn waits ∷ es)
    unfolding served done_within step_count is_delivered
    ends_waits es f ih due zero o s h = absurd (some_left due o)
    ends_waits es f ih due (suc n) o s h =
        let d = due_none due (served true es) s in
        let b : bit due ≡ 0 = ap bit d.0 in
        let e = turn waits in
        let y : came_count (been ++ e ∷ []) later ≡ came_count been made = quiet_count e (λ q. refl) in
        ih true n (omega (arith, flight_less f, y), omega (arith, o.1, quiet_told e refl, y, rows_grow j been e)) d.1 (omega (arith, h))

    ends_done : (es : List Event) → Ends j been made (turn done ∷ es)
    unfolding done_within
    ends_done es due zero o s h = absurd (some_left due o)
    ends_done es due (suc n) o s h = refl

    ends_refused : (r k c : ℕ) (es : List Event) → Ends j (been ++ delivery r k (some c) ∷ []) later es → Ends j been made (delivery r k (some c) ∷ es)
    unfolding served done_within step_count is_delivered
    ends_refused r k c es ih due zero o s h = absurd (some_left due o)
    ends_refused r k c es ih due (suc n) o s h =
        let e = delivery r k (some c) in
        let y : came_count (been ++ e ∷ []) later ≡ came_count been made = quiet_count e (λ q. refl) in
        ih due (suc n) (omega (arith, o.0, y), omega (arith, o.1, quiet_told e refl, y, rows_grow j been e)) s (omega (arith, h))

    -- an accepted delivery is one more
    accepted_more : (r n : ℕ) → none ≡ verdict j past r n → came_count (been ++ delivery r n none ∷ []) later ≡ suc (came_count been made)
    unfolding is_delivered
    accepted_more r n e =
        let h : ltb r (length (made_in past)) && not (came_in been r) ≡ true = verdict_none j past r n e in
        let b : r < made = rw v.size at (ltb-true r (length (made_in past)) (and_left (ltb r (length (made_in past))) (not (came_in been r)) h)) in
        let z : (later - made) + made ≡ later = omega arith in
        count_more (came_in been) (came_in (been ++ delivery r n none ∷ [])) later r (omega arith)
        (not-true (came_in been r) (and_right (ltb r (length (made_in past))) (not (came_in been r)) h))
        (came_more been (delivery r n none) r ∙ or_inr (came_in been r) (eqb r r) (eq-eqb r r refl))
        (λ q i. came_more been (delivery r n none) q ∙ or_off (came_in been q) (eqb r q) (ne_eqb r q (λ x. i (sym x))))
        ∙ ap suc (rw z at (count_further (came_in been) made (later - made) v.none))

    ends_accepted : (r k : ℕ) (es : List Event) → none ≡ verdict j past r k → Ends j (been ++ delivery r k none ∷ []) later es
        → Ends j been made (delivery r k none ∷ es)
    unfolding served done_within step_count
    ends_accepted r k es a ih due zero o s h = absurd (some_left due o)
    ends_accepted r k es a ih due (suc n) o s h =
        let e = delivery r k none in
        let c : came_count (been ++ e ∷ []) later ≤ later = count_most (came_in (been ++ e ∷ [])) later in
        ih false (suc n) (omega (arith, c), omega (arith, o.1, bit_most due, quiet_told e refl, accepted_more r k a, rows_grow j been e)) s
        (omega (arith, h))

    ends_event : (e : Event) (new : List Request) (es : List Event) → Fair j past e new → Ends j (been ++ e ∷ []) later es → Ends j been made (e ∷ es)
    ends_event (turn (read r i)) new es f ih = ends_read r i es ih
    ends_event (turn (output t w)) new es f ih = ends_output t w es (ltb-true t (length j.splits) f.5.0) (ltb-true 0 w.rows f.5.1) ih
    ends_event (turn waits) new es f ih = ends_waits es f.5 ih
    ends_event (turn done) new es f ih = ends_done es
    ends_event (refusal n) new es f ih = absurd f.0
    ends_event (delivery r k none) new es f ih = ends_accepted r k es f.1 ih
    ends_event (delivery r k (some c)) new es f ih = ends_refused r k c es ih

none_left : (n : ℕ) → n ≤ step_count [] → n ≡ 0
unfolding step_count
none_left n h = omega arith

-- one more moment
ends_more : (j : Job) (Good : Machine → Type 0) (past : List Moment) (m : Machine) (v : Seen j Good past m) (e : Event) (m' : Machine) (xs : List Moment)
    → EventOk j Good past m v (e, m') → Ends j (events (past ++ moment e m m' ∷ [])) (length m'.reads) (events xs)
    → Ends j (events past) (length m.reads) (e ∷ events xs)
ends_more j Good past m v e m' xs u h =
    ends_event j Good past m v (length m'.reads) (reads_grow j Good past m v e m' u.1) e (newly m m') (events xs) u.0
    (subst (λ (l : List Event). Ends j l (length m'.reads) (events xs)) (events_more past (moment e m m')) h)

-- from any state between calls
pub ends : (j : Job) (Good : Machine → Type 0) → StepOk Good → (cs : List Call) (past : List Moment) (m : Machine) → Seen j Good past m
    → Ends j (events past) (length m.reads) (events (trace cs m))
ends j Good k = throughout j Good k (λ past m xs. Ends j (events past) (length m.reads) (events xs))
    (λ past m v due n o s h. absurd (some_left j Good past m v due (rw (none_left n h) at o))) (ends_more j Good)

-- "a list with 2D + K + 1 steps or more has a Done among its first 2D + K + 1 steps"
pub bound_ok : (j : Job) (Good : Machine → Type 0) → JobOk j → Good (start j) → StepOk Good → (cs : List Call)
    → served false (events (trace cs (start j))) ≡ true → most j ≤ step_count (events (trace cs (start j)))
    → done_within (most j) (events (trace cs (start j))) ≡ true
bound_ok j Good ok g k cs s h = let e : length (start j).reads ≡ 0 = ap length (start_is j).1 in
    ends j Good k cs [] (start j) (start_seen j Good ok g) false (most j) (rw e (omega arith, omega arith)) s h
