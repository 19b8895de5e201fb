-- Demand 3 of the public functions: every job that `open` accepts into any lent state of sufficient length, and every list of calls on
-- the bytes as the last one left them. A call's moments are its answer, a delivery's turn behind the delivery, and the reads that it made.
use Rattle.std.specs.Prelude.{◌≡◌, refl, ◌⊎◌, Bool, true, false, ◌&&◌, not, List, [], ◌∷◌, ◌++◌, ℕ, length, ltb, if◌then◌else◌, Ok}
use Rattle.std.proofs.Common.{sym, ap, ◌∙◌, inl, inr}
use Rattle.std.proofs.Math.Option.{Option, none, some}
use Rattle.rules.specs.Table.{get}
use Rattle.rules.specs.Job.{Job, Outcome, refused_by, accepted, Bytes, parse, as_written}
use Rattle.rules.specs.Machine.{Machine, start}
use Rattle.rules.specs.Scan as rule
use Rattle.rules.specs.Session.{Call, ST, DL}
use Rattle.rules.specs.Demand.{Event, turn, refusal, delivery, Request, no_request, Moment, stepped, delivered, moments, trace, after, events, made_in}
use Rattle.rules.specs.Demand.{Each, Along, NotRefused, RightlyTaken, has_rows, came_in, Demand3}
use Rattle.laws.specs.Table.{clash}
use Rattle.laws.specs.Lone.{lone_written_lem}
use Rattle.order.specs.Theorem.{theorem}
use Rattle.tables.specs.View.{view, Published}
use Rattle.tables.specs.Lent.{lent_fault}
use Rattle.turn.specs.Told.{Answer as Turn}
use Rattle.turn.specs.declared.Turn.TheVariants as code
use Rattle.scheduler.specs.Answers.{turn_of, Steps, Delivers, Opens}
use Rattle.scheduler.specs.Calls.{turns_ready}

-- A list of calls, the first on the bytes s and each other on those that the one before it left, gave these moments, and the last left u.
abbrev pub Ran : List Call → List ℕ → List Moment → List ℕ → Type 0
Ran [] s xs u = (xs ≡ []) × (u ≡ s)
Ran (ST ∷ cs) s xs u =
    (r : Turn) × (t : List ℕ) × (ys : List Moment) × Steps s r t × (xs ≡ (stepped (view s) (turn_of r (view t))).0 ++ ys) × Ran cs t ys u
Ran (DL i n ∷ cs) s xs u =
    (r : Turn) × (t : List ℕ) × (ys : List Moment) × Delivers i n s r t × (xs ≡ (delivered i n (view s) (turn_of r (view t))).0 ++ ys) × Ran cs t ys u

-- Each call's moments and state are the rule's

stepped_state : (x : Turn) (m n : Machine) → (stepped m (turn_of x n)).1 ≡ n
stepped_state (code.Read r g) m n = refl
stepped_state (code.Output s b) m n = refl
stepped_state code.Waiting m n = refl
stepped_state code.Done m n = refl
stepped_state (code.Refused q) m n = refl

delivered_state : (i k : ℕ) (x : Turn) (m n : Machine) → (delivered i k m (turn_of x n)).1 ≡ n
delivered_state i k (code.Read r g) m n = refl
delivered_state i k (code.Output s b) m n = refl
delivered_state i k code.Waiting m n = refl
delivered_state i k code.Done m n = refl
delivered_state i k (code.Refused q) m n = refl

step_by : (m : Machine) (a : rule.Answer rule.Turn) → a ≡ rule.step m → moments ST m ≡ stepped m a
unfolding moments
step_by m a e = ap (stepped m) (sym e)

deliver_by : (i k : ℕ) (m : Machine) (a : rule.Answer rule.Turn) → a ≡ rule.deliver i k m → moments (DL i k) m ≡ delivered i k m a
unfolding moments
deliver_by i k m a e = ap (delivered i k m) (sym e)

-- the moments and the last state that the rules give
abbrev Gives : List Call → Machine → List Moment → Machine → Type 0
Gives cs m xs n = (xs ≡ trace cs m) × (n ≡ after cs m)

gives_next : (c : Call) (cs : List Call) (m n : Machine) (p : List Moment × Machine) (xs ys : List Moment) (u : Machine) → moments c m ≡ p → p.1 ≡ n
    → xs ≡ p.0 ++ ys → Gives cs n ys u → Gives (c ∷ cs) m xs u
unfolding trace after
gives_next c cs m n p xs ys u q w x g = (x ∙ rw (q, w, g.0), rw (q, w) g.1)

ran_is : (cs : List Call) (s : List ℕ) (xs : List Moment) (u : List ℕ) → lent_fault s ≡ none → Ran cs s xs u → Gives cs (view s) xs (view u)
unfolding trace after
ran_is [] s xs u z (x, e) = (x, rw e)
ran_is (ST ∷ cs) s xs u z (r, t, ys, k, x, more) =
    let l = turns_ready rule.step s t r k z in
    let a = turn_of r (view t) in
    gives_next ST cs (view s) (view t) (stepped (view s) a) xs ys (view u) (step_by (view s) a (k.is z))
    (stepped_state r (view s) (view t)) x (ran_is cs t ys u l more)
ran_is (DL i n ∷ cs) s xs u z (r, t, ys, k, x, more) =
    let l = turns_ready (rule.deliver i n) s t r k z in
    let a = turn_of r (view t) in
    gives_next (DL i n) cs (view s) (view t) (delivered i n (view s) a) xs ys (view u) (deliver_by i n (view s) a (k.is z))
    (delivered_state i n r (view s) (view t)) x (ran_is cs t ys u l more)

-- the moments are the rules'
pub trace_is : (cs : List Call) (s : List ℕ) (xs : List Moment) (u : List ℕ) → lent_fault s ≡ none → Ran cs s xs u → xs ≡ trace cs (view s)
trace_is cs s xs u z r = (ran_is cs s xs u z r).0

-- and so are the bytes left
pub after_is : (cs : List Call) (s : List ℕ) (xs : List Moment) (u : List ℕ) → lent_fault s ≡ none → Ran cs s xs u → view u ≡ after cs (view s)
after_is cs s xs u z r = (ran_is cs s xs u z r).1

-- The job that was opened

opened_by : (o : Outcome Job) (m : Machine) → elim o [ refused_by n ↦ refused_by n | accepted j ↦ accepted (start j) ] ≡ accepted m
    → (j : Job) × (o ≡ accepted j) × (m ≡ start j)
opened_by (refused_by n) m e = clash (cc)
opened_by (accepted j) m e = let d : start j ≡ m = cc in (j, refl, sym d)

pub opened_job : (job s t : List ℕ) → Published s → Opens job s (Ok tt) t → (j : Job) × (parse job ≡ accepted j) × (view t ≡ start j)
unfolding rule.«open»
opened_job job s t z o = opened_by (parse job) (view t) (o.is z)

-- Demand 3: the moments are the rules' list, of which `Demand3` says every sentence for the job as it is written, and the bytes that the last call left
-- are the rules' state
pub record Demanded (job : List ℕ) (cs : List Call) (xs : List Moment) (u : List ℕ) : Type 0 where
  pub stored : Job
  pub accepts : parse job ≡ accepted stored
  pub written : Job
  pub reads : as_written job ≡ accepted written
  pub moments : xs ≡ trace cs (start stored)
  pub bytes : view u ≡ after cs (start stored)
  pub holds : Demand3 written (start stored) cs

pub demand : (job s t : List ℕ) → Bytes job → Published s → Opens job s (Ok tt) t → (cs : List Call) (xs : List Moment) (u : List ℕ) → Ran cs t xs u
    → Demanded job cs xs u
demand job s t b z o cs xs u r =
    let q = opened_job job s t z o in
    let w = lone_written_lem job q.0 b q.1 in
    let l = o.ready refl in
    let v = q.2 in
    record {
      stored = q.0;
      accepts = q.1;
      written = w.0;
      reads = w.1;
      moments = rw v at (trace_is cs t xs u l r);
      bytes = rw v at (after_is cs t xs u l r);
      holds = theorem job q.0 w.0 b q.1 w.1 cs;
    }

-- "never give 12, 13 or 14": no step is refused, and a delivery only by 10 or 11
abbrev pub Allowed : Each
Allowed past (turn t) new = Unit {0}
Allowed past (refusal n) new = ⊥
Allowed past (delivery r n none) new = Unit {0}
Allowed past (delivery r n (some k)) new = (k ≡ 10) ⊎ (k ≡ 11)

verdict_by : (b c : Bool) (k : ℕ) → ◌≡◌ {A = Option ℕ} (some k) (if not b then some 10 else if c then none else some 11) → (k ≡ 10) ⊎ (k ≡ 11)
verdict_by true true k e = clash (cc)
verdict_by true false k e = inr cc
verdict_by false c k e = inl cc

allowed : (j : Job) (past : List Moment) (e : Event) (new : List Request) → NotRefused past e new → RightlyTaken j past e new → Allowed past e new
allowed j past (turn t) new n r = tt
allowed j past (refusal k) new n r = n
allowed j past (delivery i n none) new k r = tt
allowed j past (delivery i n (some c)) new k r =
    verdict_by (ltb i (length (made_in past)) && not (came_in (events past) i)) (has_rows j (get no_request (made_in past) i).segment n) c r

all_allowed : (j : Job) (past xs : List Moment) → Along NotRefused past xs → Along (RightlyTaken j) past xs → Along Allowed past xs
all_allowed j past [] n r = tt
all_allowed j past (x ∷ xs) n r = (allowed j past x.event x.made n.0 r.0, all_allowed j (past ++ x ∷ []) xs n.1 r.1)

pub never_refused : (job s t : List ℕ) → Bytes job → Published s → Opens job s (Ok tt) t → (cs : List Call) (xs : List Moment) (u : List ℕ) → Ran cs t xs u
    → Along Allowed [] xs
never_refused job s t b z o cs xs u r =
    let d = demand job s t b z o cs xs u r in
    let e = d.moments in
    rw e (all_allowed d.written [] (trace cs (start d.stored)) d.holds.steps d.holds.deliveries)
