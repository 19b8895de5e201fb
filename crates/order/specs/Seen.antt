-- What a session has seen: its past against the reads and outputs of the machine between two calls.
use Rattle.std.specs.Prelude.{◌≡◌, ◌≢◌, ◌⊎◌, Bool, true, false, ◌&&◌, not, ℕ, zero, suc, ◌<◌, ◌≤◌, length, eqb, ltb}
use Rattle.std.proofs.Math.Path.{refl}
use Rattle.std.proofs.Common.{sym, ap, ◌∙◌, inl, inr, arith, eqb-true, eq-eqb, ne_eqb, ltb-true, ltb-false}
use mathlib.Core.List.{List, [], ◌∷◌, ◌++◌, map, append_assoc}
use Rattle.std.proofs.Math.Option.{Option, none, some}
use Rattle.rules.specs.Table.{get, any, all as every, up_from, is_some}
use Rattle.rules.specs.Job.{Job, Node, no_node, is_segment}
use Rattle.rules.specs.Plan.{Cell, Row, node_of, root_of, kept_rows, is_leaf}
use Rattle.rules.specs.Machine.{Machine, place}
use Rattle.rules.specs.Scan.{Turn, read, output, waits, done, Answer, says, refuses, ok, in_flight as flying, output_of, step, delivering}
use Rattle.rules.specs.Check.{check}
use Rattle.rules.specs.Demand.{Event, no_request, Moment, events, made_in, is_read_of, came_in, in_flight, brought, put_out, has_segment, has_rows, Front}
use Rattle.laws.specs.Table.{by_bool, by_eq, clash, and_left, and_right, and_both}
use Rattle.laws.specs.JobOk.{JobOk}
use Rattle.laws.specs.Kids.{is_some_lem}
use Rattle.order.specs.Inv.{read_at, split_in, held_rows, AllCame, Came}
use Rattle.order.specs.State.{Rests}
use Rattle.order.specs.Leaves.{either, leaf_below, leaf_kind}
use Rattle.order.specs.Turns.{out_with, left_nil}
use Rattle.order.specs.Lists.{up_length}
use Rattle.order.specs.Totals.{length-map}
use Rattle.order.specs.Each.{any_here, any_none}
use Rattle.order.specs.Told.{any_upto, none_upto, told_reads, segments_are, flights_are, brought_are}

-- Between two calls outputs and new reads are not held at once
abbrev pub Apart : Machine → Type 0
Apart m = (m.outputs ≡ []) ⊎ (m.news ≡ [])

-- the segment of a read
abbrev pub seg_of : Machine → ℕ → ℕ
seg_of m r = (node_of m.job (read_at m.reads r).leaf).segment

-- reads only come on, and none that is delivered: the job and the reads that were there are the same
pub record Grows (m m' : Machine) : Type 0 where
  pub job : m'.job ≡ m.job
  pub size : length m.reads ≤ length m'.reads
  pub leaf : (r : ℕ) → r < length m.reads → (read_at m'.reads r).leaf ≡ (read_at m.reads r).leaf
  pub delivered : (r : ℕ) → r < length m.reads → (read_at m'.reads r).delivered ≡ (read_at m.reads r).delivered
  pub fresh : (r : ℕ) → length m.reads ≤ r → r < length m'.reads → (read_at m'.reads r).delivered ≡ false

-- what holds of a turn and the state that it leaves; `told` reads were told before it
abbrev pub TurnOk : (ℕ → List Row) → ℕ → Machine → Turn → Machine → Type 0
TurnOk out told m (read r g) m' = (r ≡ told) × (suc told ≡ length m'.reads) × (g ≡ seg_of m' r) × Rests out (suc told) m'
TurnOk out told m (output s b) m' =
    (told ≡ length m'.reads) × (s < length m.job.splits) × (0 < b.rows) × AllCame m'.job m'.reads b.cells
    × Rests (out_with out (output_of s b)) told m'
TurnOk out told m waits m' = (told ≡ length m'.reads) × (any flying m'.reads ≡ true) × Rests out told m'
TurnOk out told m done m' = (told ≡ length m'.reads) × ((s : ℕ) → out s ≡ kept_rows m.job s) × Rests out told m'

-- `Good`: what check 12 asks besides
abbrev pub StepAnswer : (Machine → Type 0) → (ℕ → List Row) → ℕ → Machine → Answer Turn → Type 0
StepAnswer Good out told m (says t m') = Grows m m' × TurnOk out told m t m' × Apart m' × Good m'
StepAnswer Good out told m (refuses n m') = ⊥

-- what is asked of step and delivery
pub record StepOk (Good : Machine → Type 0) : Type 0 where
  pub checks : (out : ℕ → List Row) (told : ℕ) (m : Machine) → Rests out told m → Good m → check m ≡ true
  pub steps : (out : ℕ → List Row) (told : ℕ) (m : Machine) → Rests out told m → told ≡ length m.reads → Apart m → Good m
      → StepAnswer Good out told m (step m)
  pub brings : (out : ℕ → List Row) (told : ℕ) (m m' : Machine) (r n : ℕ) → Rests out told m → Good m → delivering r n m ≡ says ok m' → Good m'

-- A split's rows put out are a front part of its kept rows

not_some : (s : ℕ) (o : Option ℕ) → is_some s o ≡ false → o ≢ some s
unfolding is_some
not_some s none e d = clash (cc)
not_some s (some x) e d = clash (cc (eq-eqb s s refl))

slot_or_none : (A : List (Option ℕ)) (s n : ℕ) → ((k : ℕ) × (split_in A k ≡ some s)) ⊎ ((k : ℕ) → k < n → split_in A k ≢ some s)
slot_or_none A s zero = inr (λ k h. absurd (omega arith))
slot_or_none A s (suc n) = by_bool (is_some s (split_in A n)) (λ e. inl (n, is_some_lem s (split_in A n) e)) (λ e. either (slot_or_none A s n) (λ a. inl a)
    (λ f. inr (λ k h d. by_eq k n (λ q. not_some s (split_in A n) e (rw q at d)) (λ q. f k (omega arith) d))))

pub front_of_lem : (out : ℕ → List Row) (told : ℕ) (m : Machine) → Rests out told m → (s : ℕ) → Front (out s) (kept_rows m.job s)
front_of_lem out told m v s = either (slot_or_none m.active s m.job.slots)
    (λ a. record {
      rest = held_rows s m.outputs ++ v.F (place a.0 (root_of m.job));
      is = sym (append_assoc (out s) (held_rows s m.outputs) (v.F (place a.0 (root_of m.job)))) ∙ v.splits.active a.0 s a.1;
    })
    (λ n. by_bool (ltb s m.next)
    (λ h. record { rest = held_rows s m.outputs; is = v.splits.over s (ltb-true s m.next h) (λ k e. n k (v.slots.active k s e).0 e) })
    (λ h. record { rest = kept_rows m.job s; is = rw (left_nil (out s) (held_rows s m.outputs) (v.splits.later s (ltb-false s m.next h))) }))

-- The row count of a segment

module _ (j : Job) where
  abbrev with_rows : ℕ → ℕ → Node → Bool
  with_rows g n x = is_segment x.kind && eqb x.segment g && eqb x.rows n

  pub has_segment_lem : (l : ℕ) → is_leaf j l ≡ true → has_segment j (node_of j l).segment ≡ true
  has_segment_lem l e = any_here (λ (x : Node). is_segment x.kind && eqb x.segment (node_of j l).segment) no_node j.nodes l (leaf_below j l e)
      (rw (leaf_kind j l e) (eq-eqb (node_of j l).segment (node_of j l).segment refl))

  pub has_rows_lem : (l n : ℕ) → is_leaf j l ≡ true → (node_of j l).rows ≡ n → has_rows j (node_of j l).segment n ≡ true
  has_rows_lem l n e h = any_here (with_rows (node_of j l).segment n) no_node j.nodes l (leaf_below j l e)
      (rw (leaf_kind j l e, eq-eqb (node_of j l).segment (node_of j l).segment refl) (eq-eqb (node_of j l).rows n h))

  pub lacks_rows : JobOk j → (l n : ℕ) → is_leaf j l ≡ true → (node_of j l).rows ≢ n → has_rows j (node_of j l).segment n ≡ false
  lacks_rows k l n e h = any_none (with_rows (node_of j l).segment n) no_node j.nodes (λ i b.
      by_bool (with_rows (node_of j l).segment n (node_of j i)) (λ t.
      let u = is_segment (node_of j i).kind && eqb (node_of j i).segment (node_of j l).segment in
      let f : u ≡ true = and_left u (eqb (node_of j i).rows n) t in
      let g : (node_of j i).segment ≡ (node_of j l).segment = eqb-true (node_of j i).segment (node_of j l).segment (and_right (is_segment (node_of j i).kind) (eqb (node_of j i).segment (node_of j l).segment) f) in
      absurd (h (sym (k.one_count i l b (leaf_below j l e) (and_left (is_segment (node_of j i).kind) (eqb (node_of j i).segment (node_of j l).segment) f) (leaf_kind j l e) g)
      ∙ eqb-true (node_of j i).rows n (and_right u (eqb (node_of j i).rows n) t))))
      (λ t. t))

pub record Seen (j : Job) (Good : Machine → Type 0) (past : List Moment) (m : Machine) : Type 0 where
  pub told : ℕ
  pub job : m.job ≡ j
  pub rests : Rests (λ s. put_out s (events past)) told m
  pub all : told ≡ length m.reads
  pub apart : Apart m
  pub good : Good m
  -- the reads told, in sequence
  pub tells : told_reads (events past) ≡ map (λ r. (r, seg_of m r)) (up_from 0 told)
  -- the reads made, and those delivered
  pub size : length (made_in past) ≡ length m.reads
  pub makes : (r : ℕ) → r < length m.reads → (get no_request (made_in past) r).segment ≡ seg_of m r
  pub comes : (r : ℕ) → r < length m.reads → came_in (events past) r ≡ (read_at m.reads r).delivered
  pub none : (r : ℕ) → length m.reads ≤ r → came_in (events past) r ≡ false

module _ (j : Job) (Good : Machine → Type 0) (past : List Moment) (m : Machine) (v : Seen j Good past m) where
  abbrev tell : ℕ → ℕ × ℕ
  tell r = (r, seg_of m r)

  abbrev been : List Event
  been = events past

  told_true : (h : ℕ × ℕ → Bool) (r : ℕ) → r < v.told → h (tell r) ≡ true → any h (told_reads been) ≡ true
  told_true h r b e = rw v.tells (any_upto tell h 0 v.told r (omega arith) (omega arith) e)

  told_false : (h : ℕ × ℕ → Bool) → ((r : ℕ) → r < v.told → h (tell r) ≡ false) → any h (told_reads been) ≡ false
  told_false h f = rw v.tells (none_upto tell h 0 v.told (λ r a b. f r (omega arith)))

  -- as many Read turns as reads were told, which were made
  pub told_count : length (told_reads been) ≡ v.told
  told_count = ap length v.tells ∙ length-map tell (up_from 0 v.told) ∙ up_length 0 v.told

  pub told_made : v.told ≤ length m.reads
  told_made = v.rests.tells.0

  -- a segment that no read told has
  pub not_read : (g : ℕ) → ((r : ℕ) → r < v.told → seg_of m r ≢ g) → any (is_read_of g) been ≡ false
  not_read g f = segments_are been g ∙ told_false (λ (q : ℕ × ℕ). eqb q.1 g) (λ r b. ne_eqb (seg_of m r) g (f r b))

  -- where all reads made were told, a segment that has come was brought
  pub came_brought : length m.reads ≡ v.told → (g : ℕ) → Came m.job m.reads g → brought been g ≡ true
  came_brought k g c = brought_are been g ∙ told_true (λ (q : ℕ × ℕ). eqb q.1 g && came_in been q.0) c.0 (rw k at c.1)
      (and_both (eqb (seg_of m c.0) g) (came_in been c.0) (eq-eqb (seg_of m c.0) g c.3) (v.comes c.0 c.1 ∙ c.2))

  pub all_brought : length m.reads ≡ v.told → (cs : List Cell) → AllCame m.job m.reads cs
      → every (λ (c : Cell). brought been c.segment) cs ≡ true
  unfolding every
  all_brought k [] a = refl
  all_brought k (c ∷ cs) a = and_both (brought been c.segment) (every (λ (d : Cell). brought been d.segment) cs)
      (came_brought k c.segment a.0) (all_brought k cs a.1)

  -- a read told and in flight
  pub flies_past : (r : ℕ) → r < v.told → (read_at m.reads r).delivered ≡ false → in_flight been ≡ true
  flies_past r h e = let b : r < length m.reads = omega (arith, told_made) in
      flights_are been ∙ told_true (λ (q : ℕ × ℕ). not (came_in been q.0)) r h (rw (v.comes r b ∙ e))

  -- the row count of a read's segment
  abbrev leaf_of : ℕ → ℕ
  leaf_of r = (read_at m.reads r).leaf

  leaf_is : (r : ℕ) → r < length m.reads → is_leaf j (leaf_of r) ≡ true
  leaf_is r h = rw v.job at (v.rests.reads.leaf r h).0

  made_is : (r : ℕ) → r < length m.reads → (get no_request (made_in past) r).segment ≡ (node_of j (leaf_of r)).segment
  made_is r h = v.makes r h ∙ ap (λ i. (node_of i (leaf_of r)).segment) v.job

  pub rows_right : (r n : ℕ) → r < length m.reads → (node_of j (leaf_of r)).rows ≡ n → has_rows j (get no_request (made_in past) r).segment n ≡ true
  rows_right r n h e = ap (λ g. has_rows j g n) (made_is r h) ∙ has_rows_lem j (leaf_of r) n (leaf_is r h) e

  pub rows_wrong : (r n : ℕ) → r < length m.reads → (node_of j (leaf_of r)).rows ≢ n → has_rows j (get no_request (made_in past) r).segment n ≡ false
  rows_wrong r n h e = ap (λ g. has_rows j g n) (made_is r h) ∙ lacks_rows j (rw v.job at v.rests.job) (leaf_of r) n (leaf_is r h) e
