-- Document 01, "Demand 3 in full", sentence by sentence, as one record over an accepted job and any list of calls, with document 02 (m) on a
-- delivery's turn; and demand 2 of an implementation. What is said of a job is said of it as it is written, joins of one child and all, which the
-- machine leaves out (02 (k)). Nothing is proved here.
use Rattle.std.specs.Prelude.{◌≡◌, Bool, true, false, ◌&&◌, not, ℕ, zero, suc, ◌+◌, ◌-◌, ◌*◌, ◌≤◌, length, eqb, ltb, if◌then◌else◌}
use mathlib.Core.List.{List, [], ◌∷◌, ◌++◌, map, flat_map}
use Rattle.std.proofs.Math.Option.{Option, none, some}
use Rattle.rules.specs.Table.{get, any, all, up_from}
use Rattle.rules.specs.Job.{Job, Node, Outcome, refused_by, accepted, Bytes, parse, as_written, is_segment}
use Rattle.rules.specs.Plan.{Cell, Row, node_of, kept_rows, segment_count, row_count}
use Rattle.rules.specs.Port.{batch_rows}
use Rattle.rules.specs.Machine.{Machine, no_read, slot_places, slot_at_place, start}
use Rattle.rules.specs.Scan.{Turn, read, output, waits, done, Answer, says, refuses, «open», step, deliver}
use Rattle.rules.specs.Session.{Call, ST, DL}

-- Calls and what they answered

-- a step's turn, a step's refusal, or a delivery of a read and row count with the number of its refusal, if it was refused
pub data Event : Type 0 where
  turn : Turn → Event
  refusal : ℕ → Event
  delivery : ℕ → ℕ → Option ℕ → Event

-- A read made: its segment, and the split for which it was made, that of the slot whose pipeline asked; a shared source asks for no one split.
pub record Request : Type 0 where
  pub segment : ℕ
  pub split : Option ℕ

abbrev pub for_split : Machine → Option ℕ → Option ℕ
for_split m none = none
for_split m (some p) = if ltb p slot_places then get none m.active (slot_at_place p) else none

abbrev pub request_of : Machine → ℕ → Request
request_of m r = let x = get no_read m.reads r in record { segment = (node_of m.job x.leaf).segment; split = for_split m x.owner }

-- the reads of a state from number n on
abbrev pub requests_from : ℕ → Machine → List Request
requests_from n m = map (request_of m) (up_from n (length m.reads - n))

-- A step or a delivery: its event, and the reads made. "A delivery may precede its Read turn", so that what may be delivered goes by these.
pub record Moment : Type 0 where
  pub event : Event
  pub made : List Request

-- the moment of an event between two states
abbrev pub moment : Event → Machine → Machine → Moment
moment e m m' = record { event = e; made = requests_from (length m.reads) m' }

-- a step on state m with its answer, and the state left
abbrev pub stepped : Machine → Answer Turn → List Moment × Machine
stepped m (says t m') = (moment (turn t) m m' ∷ [], m')
stepped m (refuses k m') = (moment (refusal k) m m' ∷ [], m')

-- "Demand 3 counts a delivery's turn as a step that comes after that delivery."; that step makes the reads. A call that is refused, were it by
-- its step, is a refused delivery, and of those the sentence below allows 10 and 11 alone.
abbrev pub delivered : ℕ → ℕ → Machine → Answer Turn → List Moment × Machine
delivered r n m (says t m') = (record { event = delivery r n none; made = [] } ∷ moment (turn t) m m' ∷ [], m')
delivered r n m (refuses k m') = (moment (delivery r n (some k)) m m' ∷ [], m')

-- a call's moments, and the state that it leaves
unfoldable pub moments : Call → Machine → List Moment × Machine
moments ST m = stepped m (step m)
moments (DL r n) m = delivered r n m (deliver r n m)

-- "The first call gets the state that opening left, and every turn is … the one that this document's rules give."
unfoldable pub trace : List Call → Machine → List Moment
trace [] m = []
trace (c ∷ cs) m = (moments c m).0 ++ trace cs (moments c m).1

-- the state that the last of the calls leaves
unfoldable pub after : List Call → Machine → Machine
after [] m = m
after (c ∷ cs) m = after cs (moments c m).1

abbrev pub events : List Moment → List Event
events past = map (λ (x : Moment). x.event) past

-- the reads made, by read number
abbrev pub made_in : List Moment → List Request
made_in past = flat_map (λ (x : Moment). x.made) past

-- What has been by an event: `past` is what came before it, the oldest first

-- how many Read turns there are
unfoldable pub read_count : List Event → ℕ
read_count [] = 0
read_count (turn (read r g) ∷ es) = suc (read_count es)
read_count (turn (output s b) ∷ es) = read_count es
read_count (turn waits ∷ es) = read_count es
read_count (turn done ∷ es) = read_count es
read_count (refusal n ∷ es) = read_count es
read_count (delivery r n a ∷ es) = read_count es

-- a Read turn of this segment
unfoldable pub is_read_of : ℕ → Event → Bool
is_read_of g (turn (read q h)) = eqb h g
is_read_of g (turn (output s b)) = false
is_read_of g (turn waits) = false
is_read_of g (turn done) = false
is_read_of g (refusal k) = false
is_read_of g (delivery q n a) = false

-- an accepted delivery of this read
unfoldable pub is_delivered : ℕ → Event → Bool
is_delivered r (turn t) = false
is_delivered r (refusal k) = false
is_delivered r (delivery q n none) = eqb q r
is_delivered r (delivery q n (some k)) = false

abbrev pub came_in : List Event → ℕ → Bool
came_in past r = any (is_delivered r) past

-- a Read turn whose number no accepted delivery has named by then
unfoldable pub is_open_read : List Event → Event → Bool
is_open_read past (turn (read r g)) = not (came_in past r)
is_open_read past (turn (output s b)) = false
is_open_read past (turn waits) = false
is_open_read past (turn done) = false
is_open_read past (refusal k) = false
is_open_read past (delivery r n a) = false

-- "A read is in flight at a Waiting when a Read turn before it has a number that no accepted delivery had named by then."
abbrev pub in_flight : List Event → Bool
in_flight past = any (is_open_read past) past

-- a Read turn of this segment whose number an accepted delivery has named by then
abbrev pub has_brought : List Event → ℕ → Event → Bool
has_brought past g (turn (read r h)) = eqb h g && came_in past r
has_brought past g (turn (output s b)) = false
has_brought past g (turn waits) = false
has_brought past g (turn done) = false
has_brought past g (refusal k) = false
has_brought past g (delivery r n a) = false

-- "segments that an accepted delivery before it has brought"
abbrev pub brought : List Event → ℕ → Bool
brought past g = any (has_brought past g) past

-- "A split's rows put out are those of its Output turns, in the order of the turns."
unfoldable pub rows_in : ℕ → Event → List Row
rows_in s (turn (read r g)) = []
rows_in s (turn (output t b)) = if eqb t s then batch_rows b else []
rows_in s (turn waits) = []
rows_in s (turn done) = []
rows_in s (refusal k) = []
rows_in s (delivery r n a) = []

abbrev pub put_out : ℕ → List Event → List Row
put_out s past = flat_map (rows_in s) past

-- The sentences, each of an event and the reads made with it, and of what came before it

abbrev pub Each : Type 1
Each = List Moment → Event → List Request → Type 0

-- one of them of every moment of a list
abbrev pub Along : Each → List Moment → List Moment → Type 0
Along P past [] = Unit {0}
Along P past (x ∷ xs) = P past x.event x.made × Along P (past ++ x ∷ []) xs

-- no step is refused
abbrev pub NotRefused : Each
NotRefused past (turn t) new = Unit {0}
NotRefused past (refusal n) new = ⊥
NotRefused past (delivery r n a) new = Unit {0}

-- the row count of a segment's `SG` records is n
abbrev pub has_rows : Job → ℕ → ℕ → Bool
has_rows j g n = any (λ (x : Node). is_segment x.kind && eqb x.segment g && eqb x.rows n) j.nodes

abbrev pub no_request : Request
no_request = record { segment = 0; split = none }

-- "a delivery [is accepted] when it names a read made and not yet delivered, with its segment's row count"; else 10, then 11
abbrev pub verdict : Job → List Moment → ℕ → ℕ → Option ℕ
verdict j past r n =
    if not (ltb r (length (made_in past)) && not (came_in (events past) r)) then some 10
    else if has_rows j (get no_request (made_in past) r).segment n then none
    else some 11

abbrev pub RightlyTaken : Job → Each
RightlyTaken j past (turn t) new = Unit {0}
RightlyTaken j past (refusal n) new = Unit {0}
RightlyTaken j past (delivery r n a) new = a ≡ verdict j past r n

-- a read that must not be made after the other: of the same segment
abbrev pub again : Job → Request → Request → Bool
again j q p = eqb p.segment q.segment

-- none of the new reads is one that must not be made after one before it
unfoldable pub all_new : Job → List Request → List Request → Bool
all_new j before [] = true
all_new j before (q ∷ qs) = not (any (again j q) before) && all_new j (before ++ q ∷ []) qs

-- "no segment is read twice": of the reads made
abbrev pub MadeOnce : Job → Each
MadeOnce j past e new = all_new j (made_in past) new ≡ true

-- Read turns tell the reads made, in sequence: each the next number, with that read's segment
abbrev pub InTurn : Each
InTurn past (turn (read r g)) new = (r ≡ read_count (events past)) × (ltb r (length (made_in past ++ new)) ≡ true)
    × (g ≡ (get no_request (made_in past ++ new) r).segment)
InTurn past (turn (output s b)) new = Unit {0}
InTurn past (turn waits) new = Unit {0}
InTurn past (turn done) new = Unit {0}
InTurn past (refusal n) new = Unit {0}
InTurn past (delivery r n a) new = Unit {0}

-- by the end of every call the Read turns have told all reads made: here the call that makes a read is the one that tells it
abbrev pub AllTold : Each
AllTold past e new = read_count (events past ++ e ∷ []) ≡ length (made_in past ++ new)

-- an `SG` record names this segment
abbrev pub has_segment : Job → ℕ → Bool
has_segment j g = any (λ (x : Node). is_segment x.kind && eqb x.segment g) j.nodes

-- a Read turn names a segment of the job, and "No two Read turns name one segment."; "An Output names a split of the job, has at least one
-- row, and names only segments that an accepted delivery before it has brought."; at a Waiting a read is in flight
abbrev pub RightTurn : Job → Each
RightTurn j past (turn (read r g)) new = (has_segment j g ≡ true) × (any (is_read_of g) (events past) ≡ false)
RightTurn j past (turn (output s b)) new =
    (ltb s (length j.splits) ≡ true) × (ltb 0 b.rows ≡ true) × (all (λ (c : Cell). brought (events past) c.segment) b.cells ≡ true)
RightTurn j past (turn waits) new = in_flight (events past) ≡ true
RightTurn j past (turn done) new = Unit {0}
RightTurn j past (refusal n) new = Unit {0}
RightTurn j past (delivery r n a) new = Unit {0}

-- the first list is a front part of the second
pub record Front (a b : List Row) : Type 0 where
  pub rest : List Row
  pub is : a ++ rest ≡ b

-- "After every call, for each split, the rows put out are a front part of the kept rows"
abbrev pub FrontPart : Job → Each
FrontPart j past e new = (s : ℕ) → Front (put_out s (events past ++ e ∷ [])) (kept_rows j s)

-- "after a Done the two lists are equal"
abbrev pub AllOut : Job → Each
AllOut j past (turn (read r g)) new = Unit {0}
AllOut j past (turn (output s b)) new = Unit {0}
AllOut j past (turn waits) new = Unit {0}
AllOut j past (turn done) new = (s : ℕ) → put_out s (events past) ≡ kept_rows j s
AllOut j past (refusal n) new = Unit {0}
AllOut j past (delivery r n a) new = Unit {0}

-- The bound

abbrev pub is_step : Event → ℕ
is_step (turn t) = 1
is_step (refusal n) = 1
is_step (delivery r n a) = 0

unfoldable pub step_count : List Event → ℕ
step_count [] = 0
step_count (e ∷ es) = is_step e + step_count es

-- "a delivery is accepted between each Waiting and the next step"; the first argument: a Waiting has come, and no delivery since
unfoldable pub served : Bool → List Event → Bool
served due [] = true
served due (turn (read r g) ∷ es) = not due && served false es
served due (turn (output s b) ∷ es) = not due && served false es
served due (turn waits ∷ es) = not due && served true es
served due (turn done ∷ es) = not due && served false es
served due (refusal n ∷ es) = not due && served false es
served due (delivery r n none ∷ es) = served false es
served due (delivery r n (some k) ∷ es) = served due es

-- a Done among the first n steps
unfoldable pub done_within : ℕ → List Event → Bool
done_within n [] = false
done_within zero (e ∷ es) = false
done_within (suc n) (turn (read r g) ∷ es) = done_within n es
done_within (suc n) (turn (output s b) ∷ es) = done_within n es
done_within (suc n) (turn waits ∷ es) = done_within n es
done_within (suc n) (turn done ∷ es) = true
done_within (suc n) (refusal k ∷ es) = done_within n es
done_within (suc n) (delivery r k a ∷ es) = done_within (suc n) es

-- 2D + K + 1
abbrev pub most : Job → ℕ
most j = 2 * segment_count j + row_count j + 1

-- "It is a single claim about the whole list of steps and deliveries, not one for each call.": of the job as it is written, and of the moments
-- from the state that opening left
pub record Demand3 (j : Job) (m : Machine) (calls : List Call) : Type 0 where
  pub steps : Along NotRefused [] (trace calls m)
  pub deliveries : Along (RightlyTaken j) [] (trace calls m)
  pub requests : Along (MadeOnce j) [] (trace calls m)
  pub tells : Along InTurn [] (trace calls m)
  pub told : Along AllTold [] (trace calls m)
  pub turns : Along (RightTurn j) [] (trace calls m)
  pub fronts : Along (FrontPart j) [] (trace calls m)
  pub ends : Along (AllOut j) [] (trace calls m)
  pub bound : served false (events (trace calls m)) ≡ true → most j ≤ step_count (events (trace calls m)) → done_within (most j) (events (trace calls m)) ≡ true

-- The claim: every accepted job, and every list of calls.
abbrev pub Demanded : Type 0
Demanded = (bytes : List ℕ) (j w : Job) → Bytes bytes → parse bytes ≡ accepted j → as_written bytes ≡ accepted w → (calls : List Call)
    → Demand3 w (start j) calls

-- Demand 2, of an implementation whose states `view` reads as the rules' machine: its turns are the rules', as equations.

-- an answer as the rules give it: the state beside it. A call's refusal is a number alone.
abbrev pub seen_as : {State : Type 0} → (State → Machine) → Outcome Turn × State → Answer Turn
seen_as view (r, s) = elim r [ accepted t ↦ says t (view s) | refused_by n ↦ refuses n.number (view s) ]

pub record Demand2 {State : Type 0} (view : State → Machine) (begin : List ℕ → State → Outcome State) (next : State → Outcome Turn × State)
    (bring : ℕ → ℕ → State → Outcome Turn × State) : Type 0 where
  pub opening : (bytes : List ℕ) (s : State) → «open» bytes ≡ elim (begin bytes s) [ refused_by n ↦ refused_by n | accepted t ↦ accepted (view t) ]
  pub stepping : (s : State) → step (view s) ≡ seen_as view (next s)
  pub delivering : (r n : ℕ) (s : State) → deliver r n (view s) ≡ seen_as view (bring r n s)
