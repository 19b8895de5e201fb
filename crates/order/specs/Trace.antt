-- Demand 3 along a session, but for its bound: every event is as it should be, by induction on the calls, moment by moment.
use Rattle.std.specs.Prelude.{◌≡◌, ◌≢◌, Bool, ◌||◌, not, ℕ, zero, suc, ◌+◌, ◌-◌, ◌<◌, ◌≤◌, eqb, ltb}
use Rattle.std.proofs.Math.Path.{refl, sym, ap}
use Rattle.std.proofs.Common.{◌∙◌, subst, inl, inr, length-append}
use Rattle.std.proofs.Math.Bool.{true, false}
use mathlib.Core.List.{List, [], ◌∷◌, ◌++◌, map, flat_map, append-nil, map-append}
use Rattle.std.proofs.Math.Option.{none, some}
use native.Mathlib.Omega.{arith}
use Rattle.std.proofs.Math.ListN.{length}
use borrow.Author.Tests.{not-true, eq-eqb, ne_eqb, lt-ltb, ltb-true, ltb-false}
use Rattle.rules.specs.Table.{get, any, up_from}
use Rattle.rules.specs.Job.{Job}
use Rattle.rules.specs.Plan.{Cell, Row, node_of, kept_rows}
use Rattle.rules.specs.Machine.{Machine, Read, no_read, blank as empty, start}
use Rattle.rules.specs.Scan.{Turn, read, output, waits, done, Answer, says, refuses, Delivered, ok, in_flight as flying, output_of, delivering}
use Rattle.rules.specs.Scan.{step, go_on, deliver}
use Rattle.rules.specs.Check.{check}
use Rattle.rules.specs.Session.{Call, ST, DL}
use Rattle.rules.specs.Demand.{Event, turn, delivery, stepped, delivered, moments, trace, Request, request_of, requests_from, no_request, Moment, moment}
use Rattle.rules.specs.Demand.{events, made_in, read_count, has_segment, is_delivered, came_in, in_flight, rows_in, put_out, Each, Along, NotRefused, verdict}
use Rattle.rules.specs.Demand.{RightlyTaken, again, all_new, MadeOnce, InTurn, AllTold, RightTurn, Front, FrontPart, AllOut}
use Rattle.laws.specs.Table.{by_bool, by_eq, clash, put_length, get_front, get_last, and_both}
use Rattle.laws.specs.JobOk.{JobOk}
use Rattle.laws.specs.Again.{up_more}
use Rattle.laws.specs.Spots.{up_same, get_numbers}
use Rattle.order.specs.Start.{start_ok}
use Rattle.order.specs.Inv.{read_at, AllCame}
use Rattle.order.specs.State.{Rests}
use Rattle.order.specs.Leaves.{either, or_inr, first_same}
use Rattle.order.specs.Turns.{out_with, rests_out}
use Rattle.order.specs.Deliver.{DeliverOk, arrived, delivering_ok, default_in, same_in, other_in}
use Rattle.order.specs.Lists.{up_length}
use Rattle.order.specs.Totals.{length-map}
use Rattle.order.specs.Each.{any_none, any_some}
use Rattle.order.specs.Told.{telling, told_reads, told_append, count_told, came_more, put_more, events_more, made_more}
use Rattle.order.specs.Seen.{Apart, seg_of, Grows, TurnOk, StepAnswer, StepOk, front_of_lem, has_segment_lem, Seen, told_count, told_made, not_read, all_brought, flies_past, rows_right, rows_wrong}

-- Numbers in sequence

-- the sentences but for the bound
abbrev pub Fair : Job → Each
Fair j past e new =
    NotRefused past e new × RightlyTaken j past e new × MadeOnce j past e new × InTurn past e new × AllTold past e new × RightTurn j past e new
    × FrontPart j past e new × AllOut j past e new

seg_same : (m m' : Machine) (r : ℕ) → m'.job ≡ m.job → (read_at m'.reads r).leaf ≡ (read_at m.reads r).leaf → seg_of m' r ≡ seg_of m r
seg_same m m' r e f = ap (λ i. (node_of i (read_at m'.reads r).leaf).segment) e ∙ ap (λ l. (node_of m.job l).segment) f

pub or_off : (a b : Bool) → b ≡ false → a || b ≡ a
or_off true b e = refl
or_off false b e = e

-- reads, one of them delivered
module _ (r : ℕ) (R : List Read) (h : r < length R) where
  abbrev came : Read
  came = record { leaf = (get no_read R r).leaf; owner = none; delivered = true }

  abbrev blank : Read
  blank = record { leaf = 0; owner = none; delivered = true }

  arrived_length : length (arrived r R) ≡ length R
  arrived_length = put_length no_read R r came h

  arrived_here : read_at (arrived r R) r ≡ came
  arrived_here = same_in no_read blank R r came h

  arrived_other : (q : ℕ) → q ≢ r → read_at (arrived r R) q ≡ read_at R q
  arrived_other q n = other_in no_read blank R r q came h n

  arrived_leaf : (q : ℕ) → (read_at (arrived r R) q).leaf ≡ (read_at R q).leaf
  arrived_leaf q = by_eq q r (λ i. rw (i, arrived_here) (ap (λ (x : Read). x.leaf) (default_in no_read blank R r h))) (λ n. ap (λ (x : Read). x.leaf) (arrived_other q n))

-- the first half of a delivery as an event
abbrev taken : ℕ → ℕ → Answer Delivered → Event × Machine
taken r n (says a m) = (delivery r n none, m)
taken r n (refuses k m) = (delivery r n (some k), m)

deliver_is : (r n : ℕ) (m : Machine) → check m ≡ true → deliver r n m ≡ go_on (delivering r n m)
unfolding deliver
deliver_is r n m e = rw (e, deliver)

-- Reads made: none of a segment of which there was one

get_behind : {A : Type 0} (d : A) (xs ys : List A) (i : ℕ) → get d (xs ++ ys) (length xs + i) ≡ get d ys i
get_behind d [] ys i = let z : 0 + i ≡ i = omega arith in rw z
get_behind d (x ∷ xs) ys i = let z : suc (length xs) + i ≡ suc (length xs + i) = omega arith in rw z (get_behind d xs ys i)

abbrev seg_at : List Request → ℕ → ℕ
seg_at l i = (get no_request l i).segment

all_new_lem : (j : Job) (f : ℕ → Request) (n k : ℕ) (before : List Request) → length before ≡ n → ((i : ℕ) → i < n → seg_at before i ≡ (f i).segment)
    → ((q r : ℕ) → q < r → r < n + k → (f q).segment ≢ (f r).segment) → all_new j before (map f (up_from n k)) ≡ true
unfolding all_new up_from
all_new_lem j f n zero before e h d = refl
all_new_lem j f n (suc k) before e h d = and_both (not (any (again j (f n)) before)) (all_new j (before ++ f n ∷ []) (map f (up_from (suc n) k)))
    (ap not (any_none (again j (f n)) no_request before (λ i b. let c : i < n = rw e at b in ne_eqb (seg_at before i) (f n).segment
    (λ q. d i n c (omega arith) (sym (h i c) ∙ q)))))
    (all_new_lem j f (suc n) k (before ++ f n ∷ []) (length-append before (f n ∷ []) ∙ rw e (omega arith))
    (λ i b. by_eq i n (λ q. rw (q, ← e) (ap (λ (x : Request). x.segment) (get_last no_request before (f (length before)))))
    (λ q. let c : i < n = omega arith in ap (λ (x : Request). x.segment) (get_front no_request before (f n ∷ []) i (rw e c)) ∙ h i c))
    (λ q r b c. d q r b (omega arith)))

module _ (m m' : Machine) where
  -- the reads that a call made
  abbrev pub newly : List Request
  newly = requests_from (length m.reads) m'

  request_seg : (r : ℕ) → r < length m'.reads → (request_of m' r).segment ≡ seg_of m' r
  request_seg r h = ap (λ (x : Read). (node_of m'.job x.leaf).segment)
      (default_in no_read (record { leaf = 0; owner = none; delivered = true }) m'.reads r h)

  new_length : length m.reads ≤ length m'.reads → length m.reads + length newly ≡ length m'.reads
  new_length h = rw (
    length-map (request_of m') (up_from (length m.reads) (length m'.reads - length m.reads)),
    up_length (length m.reads)
        (length m'.reads - length m.reads),
  ) (omega arith)

  new_at : (l : List Request) → length l ≡ length m.reads → (r : ℕ) → length m.reads ≤ r → r < length m'.reads → seg_at (l ++ newly) r ≡ seg_of m' r
  new_at l e r h k =
      let n = length m.reads in
      let i = r - n in
      let a : length l + i ≡ r = omega arith in
      let b : n + i ≡ r = omega arith in
      let c : get no_request (l ++ newly) r ≡ get no_request newly i = rw a at (get_behind no_request l newly i) in
      let d : get no_request newly i ≡ request_of m' r = rw b at (get_numbers (request_of m') no_request n (length m'.reads - n) i (omega arith)) in
      ap (λ (x : Request). x.segment) (c ∙ d) ∙ request_seg r k

module _ (j : Job) (Good : Machine → Type 0) (past : List Moment) (m : Machine) (v : Seen j Good past m) where
  abbrev been : List Event
  been = events past

  abbrev pub then : Event → Machine → List Moment
  then e m' = past ++ moment e m m' ∷ []

  -- reads made so far and by this call
  made_at : (m' : Machine) → Grows m m' → (r : ℕ) → r < length m'.reads → seg_at (made_in past ++ newly m m') r ≡ seg_of m' r
  made_at m' w r h = by_bool (ltb r (length m.reads))
      (λ e. let b : r < length m.reads = ltb-true r (length m.reads) e in
      ap (λ (x : Request). x.segment) (get_front no_request (made_in past) (newly m m') r (rw v.size b)) ∙ v.makes r b
      ∙ sym (seg_same m m' r w.job (w.leaf r b)))
      (λ e. new_at m m' (made_in past) v.size r (ltb-false r (length m.reads) e) h)

  -- a read has the segment of no other
  other_segment : (told : ℕ) (out : ℕ → List Row) (m' : Machine) → Rests out told m' → (q r : ℕ) → q < length m'.reads → r < length m'.reads
      → q ≢ r → seg_of m' q ≢ seg_of m' r
  other_segment told out m' b q r h k n s =
      let lq = b.reads.leaf q h in
      let lr = b.reads.leaf r k in
      n (b.reads.once q r h k (sym lq.1 ∙ first_same m'.job (read_at m'.reads q).leaf (read_at m'.reads r).leaf lq.0 s ∙ lr.1))

  once_made : (told : ℕ) (out : ℕ → List Row) (m' : Machine) → Grows m m' → Rests out told m' → all_new j (made_in past) (newly m m') ≡ true
  once_made told out m' w b = all_new_lem j (request_of m') (length m.reads) (length m'.reads - length m.reads) (made_in past) v.size
      (λ i h. let k : i < length m'.reads = omega (arith, h, w.size) in v.makes i h ∙ sym (seg_same m m' i w.job (w.leaf i h))
      ∙ sym (request_seg m m' i k))
      (λ q r h k e. let b' : r < length m'.reads = omega (arith, k, w.size) in let a : q < length m'.reads = omega arith in
      other_segment told out m' b q r a b' (λ i. absurd (omega arith)) (sym (request_seg m m' q a) ∙ e ∙ request_seg m m' r b'))

  -- an event after which the reads are known
  seen_next : (e : Event) (m' : Machine) (told' : ℕ) → m'.job ≡ m.job → length m.reads ≤ length m'.reads
      → ((r : ℕ) → r < length m.reads → (read_at m'.reads r).leaf ≡ (read_at m.reads r).leaf)
      → told_reads been ++ telling e ≡ map (λ r. (r, seg_of m' r)) (up_from 0 told')
      → ((r : ℕ) → r < length m'.reads → came_in been r || is_delivered r e ≡ (read_at m'.reads r).delivered)
      → ((r : ℕ) → length m'.reads ≤ r → is_delivered r e ≡ false) → told' ≡ length m'.reads → Good m' → Apart m'
      → Rests (λ s. put_out s been ++ rows_in s e) told' m'
      → Seen j Good (then e m') m'
  seen_next e m' told' jj len leaf t c n all good a b =
      let ev = events_more past (moment e m m') in
      record {
        told = told';
        job = jj ∙ v.job;
        rests = rests_out (λ s. put_out s been ++ rows_in s e) (λ s. put_out s (events (then e m'))) told' m'
            (λ s. sym (put_more been e s) ∙ ap (put_out s) (sym ev)) b;
        all = all;
        apart = a;
        good = good;
        tells = rw ev (told_append been (e ∷ []) ∙ ap (λ x. told_reads been ++ x) (append-nil (telling e)) ∙ t);
        size = ap length (made_more past (moment e m m')) ∙ length-append (made_in past) (newly m m') ∙ rw v.size (new_length m m' len);
        makes = λ r h. ap (λ l. seg_at l r) (made_more past (moment e m m')) ∙ at r h;
        comes = λ r h. rw ev (came_more been e r ∙ c r h);
        none = λ r h. rw ev (came_more been e r ∙ rw (v.none r (omega (arith, len, h)), n r h));
      }
    where
      at : (r : ℕ) → r < length m'.reads → seg_at (made_in past ++ newly m m') r ≡ seg_of m' r
      at r h = by_bool (ltb r (length m.reads))
          (λ e. let b : r < length m.reads = ltb-true r (length m.reads) e in
          ap (λ (x : Request). x.segment) (get_front no_request (made_in past) (newly m m') r (rw v.size b)) ∙ v.makes r b
          ∙ sym (seg_same m m' r jj (leaf r b)))
          (λ e. new_at m m' (made_in past) v.size r (ltb-false r (length m.reads) e) h)

  -- reads only come on
  pub reads_grow : (e : Event) (m' : Machine) → Seen j Good (then e m') m' → length m.reads ≤ length m'.reads
  reads_grow e m' w = omega (arith, v.size, w.size, ap length (made_more past (moment e m m')), length-append (made_in past) (newly m m'))

  -- what was told before
  told_same : (m' : Machine) → m'.job ≡ m.job → ((r : ℕ) → r < length m.reads → (read_at m'.reads r).leaf ≡ (read_at m.reads r).leaf)
      → told_reads been ≡ map (λ r. (r, seg_of m' r)) (up_from 0 v.told)
  told_same m' jj leaf = v.tells ∙ up_same (λ r. (r, seg_of m r)) (λ r. (r, seg_of m' r)) 0 v.told
      (λ r a h. ap (λ g. (r, g)) (sym (seg_same m m' r jj (leaf r (omega (arith, h, told_made j Good past m v))))))

  -- what a state between calls says of the rows put out
  fronts : (e : Event) (m' : Machine) → Seen j Good (then e m') m' → FrontPart j past e (newly m m')
  fronts e m' w s =
      subst (λ (l : List Event). Front (put_out s l) (kept_rows j s)) (events_more past (moment e m m'))
      (subst (λ (i : Job). Front (put_out s (events (then e m'))) (kept_rows i s)) w.job
      (front_of_lem (λ t. put_out t (events (then e m'))) w.told m' w.rests s))

  -- and of the reads told
  all_now : (e : Event) (m' : Machine) → Seen j Good (then e m') m' → AllTold past e (newly m m')
  all_now e m' w =
      ap read_count (sym (events_more past (moment e m m'))) ∙ count_told (events (then e m')) ∙ told_count j Good (then e m') m' w ∙ w.all ∙ sym w.size
      ∙ ap length (made_more past (moment e m m'))

  -- a turn: nothing is delivered
  turn_seen : (e : Event) (m' : Machine) (told' : ℕ) → Grows m m' → ((r : ℕ) → is_delivered r e ≡ false)
      → told_reads been ++ telling e ≡ map (λ r. (r, seg_of m' r)) (up_from 0 told')
      → told' ≡ length m'.reads → Good m' → Apart m' → Rests (λ s. put_out s been ++ rows_in s e) told' m' → Seen j Good (then e m') m'
  turn_seen e m' told' g n t all good a b = seen_next e m' told' g.job g.size g.leaf t
      (λ r h. or_off (came_in been r) (is_delivered r e) (n r) ∙ by_bool (ltb r (length m.reads))
      (λ x. let k : r < length m.reads = ltb-true r (length m.reads) x in v.comes r k ∙ sym (g.delivered r k))
      (λ x. let k : length m.reads ≤ r = ltb-false r (length m.reads) x in v.none r k ∙ sym (g.fresh r k h)))
      (λ r h. n r) all good a b

  -- a turn that tells no read
  quiet_ok : (e : Event) (m' : Machine) → telling e ≡ [] → ((r : ℕ) → is_delivered r e ≡ false) → Grows m m' → v.told ≡ length m'.reads → Good m'
      → Apart m' → Rests (λ s. put_out s been ++ rows_in s e) v.told m'
      → Seen j Good (then e m') m'
  quiet_ok e m' t n g all good a b = turn_seen e m' v.told g n
      (ap (λ x. told_reads been ++ x) t ∙ append-nil (told_reads been) ∙ told_same m' g.job g.leaf) all good a b

  -- no rows
  rows_none : (told : ℕ) (e : Event) (m' : Machine) → ((s : ℕ) → rows_in s e ≡ []) → Rests (λ s. put_out s been) told m'
      → Rests (λ s. put_out s been ++ rows_in s e) told m'
  rows_none told e m' n b = rests_out (λ s. put_out s been) (λ s. put_out s been ++ rows_in s e) told m'
      (λ s. sym (ap (λ x. put_out s been ++ x) (n s) ∙ append-nil (put_out s been))) b

  -- an event is as it should be, and what is seen by then
  abbrev pub EventOk : Event × Machine → Type 0
  EventOk x = Fair j past x.0 (newly m x.1) × Seen j Good (then x.0 x.1) x.1

  -- a read is told
  one_more : (r g : ℕ) (m' : Machine) → Grows m m' → r ≡ v.told → g ≡ seg_of m' r
      → told_reads been ++ (r, g) ∷ [] ≡ map (λ q. (q, seg_of m' q)) (up_from 0 (suc v.told))
  one_more r g m' w e f =
      let tell : ℕ → ℕ × ℕ = λ q. (q, seg_of m' q) in
      let z : 0 + v.told ≡ v.told = omega arith in
      ap (λ x. x ++ (r, g) ∷ []) (told_same m' w.job w.leaf)
      ∙ rw (f, e) (sym (ap (map tell) (up_more 0 v.told) ∙ map-append tell (up_from 0 v.told) ((0 + v.told) ∷ [])
      ∙ ap (λ i. map tell (up_from 0 v.told) ++ (i, seg_of m' i) ∷ []) z))

  read_seen : (r g : ℕ) (m' : Machine) → Grows m m' → r ≡ v.told → g ≡ seg_of m' r → suc v.told ≡ length m'.reads → Good m' → Apart m'
      → Rests (λ s. put_out s been) (suc v.told) m'
      → Seen j Good (then (turn (read r g)) m') m'
  unfolding rows_in is_delivered
  read_seen r g m' w e f all good a b = turn_seen (turn (read r g)) m' (suc v.told) w (λ q. refl) (one_more r g m' w e f) all good a
      (rows_none (suc v.told) (turn (read r g)) m' (λ s. refl) b)

  -- what has come by now had come before the turn
  came_back : (m' : Machine) → Grows m m' → (cs : List Cell) → AllCame m'.job m'.reads cs → AllCame m.job m.reads cs
  came_back m' w [] a = tt
  came_back m' w (c ∷ cs) ((r, h, d, e), a) = by_bool (ltb r (length m.reads))
      (λ x. let k : r < length m.reads = ltb-true r (length m.reads) x in
      ((r, k, sym (w.delivered r k) ∙ d, sym (seg_same m m' r w.job (w.leaf r k)) ∙ e), came_back m' w cs a))
      (λ x. clash (cc (d, w.fresh r (ltb-false r (length m.reads) x) h)))

  still_flies : (m' : Machine) → Grows m m' → v.told ≡ length m'.reads → any flying m'.reads ≡ true → in_flight been ≡ true
  still_flies m' w len h =
      let r = any_some flying (record { leaf = 0; owner = none; delivered = true }) m'.reads h in
      let k : r.0 < v.told = rw (← len) at r.1 in
      let b : r.0 < length m.reads = omega (arith, k, told_made j Good past m v) in
      flies_past j Good past m v r.0 k (sym (w.delivered r.0 b) ∙ not-true (read_at m'.reads r.0).delivered r.2)

  -- the numbers of Read turns
  in_sequence : (r g : ℕ) (m' : Machine) → Grows m m' → r ≡ v.told → r < length m'.reads → g ≡ seg_of m' r → InTurn past (turn (read r g)) (newly m m')
  in_sequence r g m' w e h f = (
    e ∙ sym (count_told been ∙ told_count j Good past m v),
    lt-ltb r (length (made_in past ++ newly m m')) (rw (length-append (made_in past) (newly m m'), v.size, new_length m m' w.size) h),
    f ∙ sym (made_at m' w r h),
  )

  -- the segment of a read is one of the job
  names_segment : (r g : ℕ) (m' : Machine) → Grows m m' → Rests (λ s. put_out s been) (suc v.told) m' → r < length m'.reads → g ≡ seg_of m' r
      → has_segment j g ≡ true
  names_segment r g m' w b h f =
      rw (f, w.job ∙ v.job) (has_segment_lem j (read_at m'.reads r).leaf (rw (w.job ∙ v.job) at (b.reads.leaf r h).0))

  -- a turn of a step
  turn_ok : (t : Turn) (m' : Machine) → Grows m m' → TurnOk (λ s. put_out s been) v.told m t m' → Apart m' → Good m' → EventOk (turn t, m')
  unfolding rows_in is_delivered
  turn_ok (read r g) m' w (e, all, f, b) a good =
      let h : r < length m'.reads = omega arith in
      let n = read_seen r g m' w e f all good a b in
      let new : (q : ℕ) → q < v.told → seg_of m q ≢ g = λ q k s. let c : q < length m.reads = omega (arith, k, told_made j Good past m v) in
      other_segment (suc v.told) (λ s. put_out s been) m' b q r (omega (arith, c, w.size)) h (λ i. absurd (omega arith))
      (seg_same m m' q w.job (w.leaf q c) ∙ s ∙ f) in (
        (
          tt,
          tt,
          once_made (suc v.told) (λ s. put_out s been) m' w b,
          in_sequence r g m' w e h f,
          all_now (turn (read r g)) m' n,
          (names_segment r g m' w b h f, not_read j Good past m v g new),
          fronts (turn (read r g)) m' n,
          tt,
        ),
        n,
      )
  turn_ok (output s b) m' w (len, h, i, c, k) a good =
      let n : Seen j Good (then (turn (output s b)) m') m' = quiet_ok (turn (output s b)) m' refl (λ r. refl) w len good a k in
      let l : length m.reads ≡ v.told = omega (arith, len, told_made j Good past m v, w.size) in (
        (
          tt,
          tt,
          once_made v.told (out_with (λ s. put_out s been) (output_of s b)) m' w k,
          tt,
          all_now (turn (output s b)) m' n,
          (
            lt-ltb s (length j.splits) (rw v.job at h),
            lt-ltb 0 b.rows i,
            all_brought j Good past m v l b.cells
                (came_back m' w b.cells c),
          ),
          fronts (turn (output s b)) m' n,
          tt,
        ),
        n,
      )
  turn_ok waits m' w (len, h, b) a good =
      let n : Seen j Good (then (turn waits) m') m' = quiet_ok (turn waits) m' refl (λ r. refl) w len good a
      (rows_none v.told (turn waits) m' (λ s. refl) b) in
      ((tt, tt, once_made v.told (λ s. put_out s been) m' w b, tt, all_now (turn waits) m' n, still_flies m' w len h, fronts (turn waits) m' n, tt), n)
  turn_ok done m' w (len, h, b) a good =
      let n : Seen j Good (then (turn done) m') m' = quiet_ok (turn done) m' refl (λ r. refl) w len good a
      (rows_none v.told (turn done) m' (λ s. refl) b) in
      ((tt, tt, once_made v.told (λ s. put_out s been) m' w b, tt, all_now (turn done) m' n, tt, fronts (turn done) m' n, λ s. rw v.job at (h s)), n)

  -- Deliveries

  module _ (r n : ℕ) where
    -- no read is made
    none_made : (m' : Machine) → length m'.reads ≡ length m.reads → newly m m' ≡ []
    unfolding up_from
    none_made m' e = let z : length m'.reads - length m.reads ≡ 0 = omega arith in rw z

    made_none : (m' : Machine) → length m'.reads ≡ length m.reads → all_new j (made_in past) (newly m m') ≡ true
    unfolding all_new
    made_none m' e = rw (none_made m' e)

    -- one that is refused changes nothing
    refused_ok : (k : ℕ) → some k ≡ verdict j past r n → EventOk (delivery r n (some k), m)
    unfolding rows_in is_delivered
    refused_ok k e =
        let w : Seen j Good (then (delivery r n (some k)) m) m = seen_next (delivery r n (some k)) m v.told refl (omega arith) (λ q h. refl)
        (append-nil (told_reads been) ∙ v.tells)
        (λ q h. or_off (came_in been q) false refl ∙ v.comes q h) (λ q h. refl) v.all v.good v.apart
        (rows_none v.told (delivery r n (some k)) m (λ s. refl) v.rests) in
        ((tt, e, made_none m refl, tt, all_now (delivery r n (some k)) m w, tt, fronts (delivery r n (some k)) m w, tt), w)

    accepted_ok : (m' : Machine) → r < length m.reads → m'.job ≡ m.job → m'.reads ≡ arrived r m.reads → Apart m'
        → Rests (λ s. put_out s been) v.told m' → Good m' → none ≡ verdict j past r n
        → EventOk (delivery r n none, m')
    unfolding rows_in is_delivered
    accepted_ok m' h jj rr a b good e =
        let len : length m'.reads ≡ length m.reads = ap length rr ∙ arrived_length r m.reads h in
        let leaf : (q : ℕ) → q < length m.reads → (read_at m'.reads q).leaf ≡ (read_at m.reads q).leaf = λ q k. ap (λ R. (read_at R q).leaf) rr
        ∙ arrived_leaf r m.reads h q in
        let w : Seen j Good (then (delivery r n none) m') m' = seen_next (delivery r n none) m' v.told jj (omega arith) leaf
        (append-nil (told_reads been) ∙ told_same m' jj leaf)
        (λ q k. by_eq q r
        (λ i. rw (rr, i, arrived_here r m.reads h, eq-eqb r r refl) (or_inr (came_in been r) true refl))
        (λ i. or_off (came_in been q) (eqb r q) (ne_eqb r q (λ x. i (sym x))) ∙ v.comes q (rw len at k)
        ∙ sym (ap (λ R. (read_at R q).delivered) rr ∙ ap (λ (x : Read). x.delivered) (arrived_other r m.reads h q i))))
        (λ q k. ne_eqb r q (λ x. absurd (omega arith))) (v.all ∙ sym len) good a (rows_none v.told (delivery r n none) m' (λ s. refl) b) in
        ((tt, e, made_none m' len, tt, all_now (delivery r n none) m' w, tt, fronts (delivery r n none) m' w, tt), w)

    -- the verdict
    abbrev Flying : Type 0
    Flying = (r < length m.reads) × ((get no_read m.reads r).delivered ≡ false)

    read_is : r < length m.reads → get no_read m.reads r ≡ read_at m.reads r
    read_is h = default_in no_read (record { leaf = 0; owner = none; delivered = true }) m.reads r h

    came_is : r < length m.reads → came_in been r ≡ (get no_read m.reads r).delivered
    came_is h = v.comes r h ∙ sym (ap (λ (x : Read). x.delivered) (read_is h))

    is_made : r < length m.reads → ltb r (length (made_in past)) ≡ true
    is_made h = rw v.size (lt-ltb r (length m.reads) h)

    rows_is : r < length m.reads → (node_of m.job (get no_read m.reads r).leaf).rows ≡ (node_of j (read_at m.reads r).leaf).rows
    rows_is h = ap (λ i. (node_of i (get no_read m.reads r).leaf).rows) v.job ∙ ap (λ (x : Read). (node_of j x.leaf).rows) (read_is h)

    is_right : Flying → (node_of m.job (get no_read m.reads r).leaf).rows ≡ n → none ≡ verdict j past r n
    is_right f e = rw (is_made f.0, came_is f.0 ∙ f.1, rows_right j Good past m v r n f.0 (sym (rows_is f.0) ∙ e))

    is_wrong : Flying → (node_of m.job (get no_read m.reads r).leaf).rows ≢ n → some 11 ≡ verdict j past r n
    is_wrong f e = rw (is_made f.0, came_is f.0 ∙ f.1, rows_wrong j Good past m v r n f.0 (λ q. e (rows_is f.0 ∙ q)))

    is_unknown : (Flying → ⊥) → some 10 ≡ verdict j past r n
    is_unknown f = by_bool (ltb r (length m.reads))
        (λ h. let b : r < length m.reads = ltb-true r (length m.reads) h in
        by_bool (get no_read m.reads r).delivered (λ d. rw (is_made b, came_is b ∙ d)) (λ d. absurd (f (b, d))))
        (λ h. let z : ltb r (length (made_in past)) ≡ false = rw v.size h in rw z)

    abbrev out : ℕ → List Row
    out s = put_out s been

    -- whether it is taken
    pub take_event : StepOk Good → (a : Answer Delivered) → delivering r n m ≡ a → DeliverOk out v.told m v.rests r n a → EventOk (taken r n a)
    take_event k (says ok m') e (f, h, b, jj, rr, oo, nn) =
        accepted_ok m' f.0 jj rr (either v.apart (λ x. inl (oo ∙ x)) (λ x. inr (nn ∙ x))) b
        (k.brings out v.told m m' r n v.rests v.good e) (is_right f h)
    take_event k (refuses c m') e (q, i) =
        rw q (either i (λ g. rw g.0 (refused_ok 10 (is_unknown g.1))) (λ g. rw g.0 (refused_ok 11 (is_wrong g.1 g.2))))

  step_answer : StepOk Good → StepAnswer Good (λ s. put_out s been) v.told m (step m)
  step_answer k = k.steps (λ s. put_out s been) v.told m v.rests v.all v.apart v.good

-- Calls: what holds at the end, and of a list with one moment more before it if it holds of the list, holds of the moments of all calls

module _ (j : Job) (Good : Machine → Type 0) (k : StepOk Good) (R : List Moment → Machine → List Moment → Type 0)
    (last : (past : List Moment) (m : Machine) → Seen j Good past m → R past m [])
    (more : (past : List Moment) (m : Machine) (v : Seen j Good past m) (e : Event) (m' : Machine) (xs : List Moment) → EventOk j Good past m v (e, m')
    → R (past ++ moment e m m' ∷ []) m' xs → R past m (moment e m m' ∷ xs)) where
  abbrev StepsTo : (past : List Moment) (m : Machine) → Seen j Good past m → Answer Turn → Type 0
  StepsTo past m v a = StepAnswer Good (λ s. put_out s (events past)) v.told m a

  -- one call before the calls that are left
  module _ (cs : List Call) (on : (past : List Moment) (m : Machine) → Seen j Good past m → R past m (trace cs m)) where
    one_turn : (past : List Moment) (m : Machine) (v : Seen j Good past m) (t : Turn) (m' : Machine) → StepsTo past m v (says t m')
        → R past m (moment (turn t) m m' ∷ trace cs m')
    one_turn past m v t m' (w, h, a, good) =
        let u = turn_ok j Good past m v t m' w h a good in more past m v (turn t) m' (trace cs m') u (on _ m' u.1)

    module _ (past : List Moment) (m : Machine) (v : Seen j Good past m) where
      one_step : (a : Answer Turn) → StepsTo past m v a → R past m ((stepped m a).0 ++ trace cs (stepped m a).1)
      one_step (says t m') w = one_turn past m v t m' w
      one_step (refuses c m') w = absurd w

      module _ (r n : ℕ) where
        abbrev Delivers : Answer Turn → Type 0
        Delivers a = R past m ((delivered r n m a).0 ++ trace cs (delivered r n m a).1)

        -- an accepted delivery makes no read, so that those of its step are the call's
        two_moments : (t : Turn) (m₁ m₂ : Machine) → length m₁.reads ≡ length m.reads
            → R past m (moment (delivery r n none) m m₁ ∷ moment (turn t) m₁ m₂ ∷ trace cs m₂) → Delivers (says t m₂)
        two_moments t m₁ m₂ e h = rw (none_made j Good past m v r n m₁ e, e) at h

        -- it goes on with a step
        step_behind : (m₁ : Machine) → length m₁.reads ≡ length m.reads → (u : EventOk j Good past m v (delivery r n none, m₁)) (a : Answer Turn)
            → StepsTo _ m₁ u.1 a → Delivers a
        step_behind m₁ e u (says t m₂) w = two_moments t m₁ m₂ e (more past m v (delivery r n none) m₁ _ u (one_turn _ m₁ u.1 t m₂ w))
        step_behind m₁ e u (refuses c m₂) w = absurd w

        one_delivery : (a : Answer Delivered) → delivering r n m ≡ a → DeliverOk (λ s. put_out s (events past)) v.told m v.rests r n a
            → Delivers (go_on a)
        one_delivery (says ok m₁) e d =
            let u = take_event j Good past m v r n k (says ok m₁) e d in
            let z : length m₁.reads ≡ length m.reads = ap length d.4 ∙ arrived_length r m.reads d.0.0 in
            step_behind m₁ z u (step m₁) (step_answer j Good _ m₁ u.1 k)
        one_delivery (refuses c m') e d =
            let u = take_event j Good past m v r n k (refuses c m') e d in more past m v (delivery r n (some c)) m' (trace cs m') u (on _ m' u.1)

  pub throughout : (cs : List Call) (past : List Moment) (m : Machine) → Seen j Good past m → R past m (trace cs m)
  unfolding trace moments
  throughout [] past m v = last past m v
  throughout (ST ∷ cs) past m v = one_step cs (throughout cs) past m v (step m) (step_answer j Good past m v k)
  throughout (DL r n ∷ cs) past m v =
      rw (deliver_is r n m (k.checks (λ s. put_out s (events past)) v.told m v.rests v.good))
      (one_delivery cs (throughout cs) past m v r n (delivering r n m) refl (delivering_ok (λ s. put_out s (events past)) v.told m v.rests r n))

-- every moment of a session
pub along : (j : Job) (Good : Machine → Type 0) → StepOk Good → (cs : List Call) (past : List Moment) (m : Machine) → Seen j Good past m
    → Along (Fair j) past (trace cs m)
along j Good k = throughout j Good k (λ past m xs. Along (Fair j) past xs) (λ past m v. tt) (λ past m v e m' xs u h. (u.0, h))

-- The start

pub start_is : (j : Job) → ((start j).job ≡ j) × ((start j).reads ≡ []) × ((start j).outputs ≡ [])
unfolding start empty
start_is j = (refl, refl, refl)

pub start_seen : (j : Job) (Good : Machine → Type 0) → JobOk j → Good (start j) → Seen j Good [] (start j)
unfolding any up_from flat_map
start_seen j Good k g =
    let e : (start j).reads ≡ [] = (start_is j).1 in
    record {
      job = (start_is j).0;
      told = 0;
      rests = rests_out (λ s. []) (λ s. put_out s []) 0 (start j) (λ s. refl) (start_ok j k);
      all = rw e;
      apart = inl (start_is j).2;
      good = g;
      tells = refl;
      size = rw e;
      makes = λ r h. absurd (let b : r < 0 = rw e at h in omega arith);
      comes = λ r h. absurd (let b : r < 0 = rw e at h in omega arith);
      none = λ r h. refl;
    }

pub along_map : (P Q : Each) → ((past : List Moment) (e : Event) (new : List Request) → P past e new → Q past e new) → (past xs : List Moment)
    → Along P past xs → Along Q past xs
along_map P Q f past [] a = tt
along_map P Q f past (x ∷ xs) a = (f past x.event x.made a.0, along_map P Q f (past ++ x ∷ []) xs a.1)

-- every sentence of demand 3 but the bound, of every list of calls
module _ (j : Job) (Good : Machine → Type 0) (ok : JobOk j) (g : Good (start j)) (k : StepOk Good) (cs : List Call) where
  pub all_fair : Along (Fair j) [] (trace cs (start j))
  all_fair = along j Good k cs [] (start j) (start_seen j Good ok g)

  pub not_refused : Along NotRefused [] (trace cs (start j))
  not_refused = along_map (Fair j) NotRefused (λ past e new f. f.0) [] (trace cs (start j)) all_fair

  pub rightly_taken : Along (RightlyTaken j) [] (trace cs (start j))
  rightly_taken = along_map (Fair j) (RightlyTaken j) (λ past e new f. f.1) [] (trace cs (start j)) all_fair

  pub made_once : Along (MadeOnce j) [] (trace cs (start j))
  made_once = along_map (Fair j) (MadeOnce j) (λ past e new f. f.2) [] (trace cs (start j)) all_fair

  pub in_turn : Along InTurn [] (trace cs (start j))
  in_turn = along_map (Fair j) InTurn (λ past e new f. f.3) [] (trace cs (start j)) all_fair

  pub all_told : Along AllTold [] (trace cs (start j))
  all_told = along_map (Fair j) AllTold (λ past e new f. f.4) [] (trace cs (start j)) all_fair

  pub right_turns : Along (RightTurn j) [] (trace cs (start j))
  right_turns = along_map (Fair j) (RightTurn j) (λ past e new f. f.5) [] (trace cs (start j)) all_fair

  pub front_parts : Along (FrontPart j) [] (trace cs (start j))
  front_parts = along_map (Fair j) (FrontPart j) (λ past e new f. f.6) [] (trace cs (start j)) all_fair

  pub all_outs : Along (AllOut j) [] (trace cs (start j))
  all_outs = along_map (Fair j) (AllOut j) (λ past e new f. f.7) [] (trace cs (start j)) all_fair
