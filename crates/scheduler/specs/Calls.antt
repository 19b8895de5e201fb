-- From check 12's answer to a call's promise.
use Rattle.std.specs.Prelude.{◌≡◌, refl, Bool, true, false, List, map, ℕ, ◌≤◌, ◌<◌, take, drop, replicate, leb, ltb, Ok, Err}
use Rattle.std.proofs.Common.{sym, ◌∙◌, inl, inr, arith, take-add, take-take, drop-drop, le-leb, leb-true}
use Rattle.std.proofs.Math.Path.{ap}
use Rattle.std.proofs.Math.Option.{Option, none, some}
use Rattle.std.proofs.Math.ListN.{length}
use Rattle.std.proofs.lemmas.List.{replicate-append-replicate}
use Rattle.std.proofs.Math.Seq.{length-take-le}
use Rattle.std.proofs.lemmas.Bool.{lt-leb}
use Rattle.rules.specs.Table.{up_from}
use Rattle.rules.specs.Job.{Job, Bytes, refused_by, accepted, parse, labels}
use Rattle.rules.specs.Machine.{Machine, shared_first, with_unbuilt, blank}
use Rattle.rules.specs.Check.{check, labels_from, labels_ok}
use Rattle.rules.specs.Drive.{patience}
use Rattle.rules.specs.Scan as rule
use Rattle.laws.specs.Table.{by_bool, by_option, clash}
use Rattle.laws.specs.Accepted.{labels_pass}
use Rattle.order.specs.Ranged.{Ranged}
use Rattle.order.specs.RangeAction.{delivering_ranged}
use Rattle.order.specs.CheckKept.{delivering_checked}
use Rattle.order.specs.JobKept.{KeepsJob, step_job, deliver_job}
use Rattle.check_job.specs.Walk.{RowsFit}
use Rattle.check_state.specs.Checked.{checked}
use Rattle.jobs.specs.Refusal.{Verdict, number_of, refusal_of}
use Rattle.jobs.specs.declared.refusal.Refusal.{Refusal}
use Rattle.jobs.specs.declared.refusal.Refusal.TheVariants.{
  StateTooShort,
  Malformed,
  PastLimit,
  NotATree,
  Unequal,
  TwoRowCounts,
  TooManyRows,
  BadRange,
  NotInFlight,
  WrongRows,
  OutOfOrder,
  Stuck,
  Failed,
  EmptyRun,
  RunBeforeEnd,
  RunPastSplit,
}
use Rattle.plan.specs.Parse.{job_from as job_of, labels_of, Fits}
use Rattle.plan.specs.declared.Parsed.{Parsed}
use Rattle.tables.specs.View.{view, job_from, machine_len, state_len, Published, labels_at}
use Rattle.tables.specs.Lent.{lent_fault, fault_short, fault_none, none_published, none_passes}
use Rattle.table_blank.specs.Zeros.{cut_zeros}
use Rattle.table_blank.specs.Labels.{Labelled}
use Rattle.turn.specs.Told.{Answer as Turn}
use Rattle.turn.specs.declared.Turn.TheVariants as turn
use Rattle.scheduler.specs.Opening.{marked, opens_start, opens_not, opens_numbers}
use Rattle.scheduler.specs.Answers.{turn_of, NoMachine, AllZero, Zeroes, Fails, Leaves, Delivering}
use Rattle.scheduler.specs.Answers.{is_last, Clears, Turns, Steps, Delivers, Opens}
use Rattle.scheduler.specs.Sizes.{in_range}

-- What the check says of bytes

pub data Finds (s : List ℕ) (q : Refusal) : Type 0 where
  lent : lent_fault s ≡ some (number_of q) → Finds s q
  bad : lent_fault s ≡ none → check (view s) ≡ false → number_of q ≡ 12 → Finds s q

-- the number of a fault
fault_number : (s : List ℕ) (n : ℕ) → lent_fault s ≡ some n → (0 < n) × (n ≤ 12)
fault_number s n e = by_bool (ltb (length s) state_len)
    (λ d. let k : 1 ≡ n = cc (rw d at e) in (omega arith, omega arith))
    (λ d. by_bool (labels_ok (labels_at s)) (λ l. clash (cc (rw (d, l) at e))) (λ l. let k : 12 ≡ n = cc (rw (d, l) at e) in (omega arith, omega arith)))

-- the table's numbers begin with 1
positive : (q : Refusal) → 0 < number_of q
positive StateTooShort = omega arith
positive Malformed = omega arith
positive PastLimit = omega arith
positive NotATree = omega arith
positive Unequal = omega arith
positive TwoRowCounts = omega arith
positive TooManyRows = omega arith
positive BadRange = omega arith
positive NotInFlight = omega arith
positive WrongRows = omega arith
positive OutOfOrder = omega arith
positive Stuck = omega arith
positive Failed = omega arith
positive (EmptyRun i) = omega arith
positive (RunBeforeEnd i) = omega arith
positive (RunPastSplit i) = omega arith

pub finds : (s : List ℕ) (q : Refusal) → number_of q ≡ checked s → Finds s q
unfolding checked
finds s q e = by_option (lent_fault s)
    (λ o. by_bool (check (view s))
    (λ c. let z : number_of q ≡ 0 = e ∙ rw (checked, o, c) in absurd (omega (arith, positive q)))
    (λ c. bad o c (e ∙ rw (checked, o, c))))
    (λ k o. lent (o ∙ ap (λ (i : ℕ). some i) (sym (e ∙ rw (checked, o)))))

-- a state that passes has no fault, and is in range
pub passes : (s : List ℕ) → 0 ≡ checked s → RowsFit (view s).job.nodes → (lent_fault s ≡ none) × Ranged (view s) × (check (view s) ≡ true)
unfolding checked
passes s e f = by_option (lent_fault s)
    (λ o. by_bool (check (view s))
    (λ c. (o, in_range s f c, c))
    (λ c. let z : 0 ≡ 12 = e ∙ rw (checked, o, c) in absurd (omega arith)))
    (λ k o. let z : 0 ≡ k = e ∙ rw (checked, o) in let b = fault_number s k o in absurd (omega (arith, b.0)))

-- Steps and deliveries, by what the rules answer

same_refusal : (q p : Refusal) → turn.Refused q ≡ turn.Refused p → q ≡ p
same_refusal q p e = cc

same_fault : (n k : ℕ) → ◌≡◌ {A = Option ℕ} (some n) (some k) → n ≡ k
same_fault n k e = cc

zero_turn : (x : Turn) (t : List ℕ) (q : Refusal) → x ≡ turn.Refused q → Zeroes x t → (13 ≤ number_of q) × NoMachine t
zero_turn x t q e h = rw e at h

-- the machine and the numbers behind it
all_zero : (s t : List ℕ) → NoMachine s → Labelled (replicate 24 0) s t → AllZero t
all_zero s t z h = take-add machine_len 24 t ∙ rw (h.front, z, h.own) (replicate-append-replicate {A = ℕ} machine_len 24 0)

-- the job that an answer leaves
kept_job : (j : Job) (x : Turn) (m : Machine) → is_last x ≡ false → ((q : Refusal) → x ≡ turn.Refused q → 13 ≤ number_of q) → KeepsJob j (turn_of x m)
    → m.job ≡ j
kept_job j (turn.Read r g) m l z h = h
kept_job j (turn.Output s b) m l z h = h
kept_job j turn.Waiting m l z h = h
kept_job j turn.Done m l z h = h
kept_job j (turn.Refused q) m l z h = clash (cc (le-leb 13 (number_of q) (z q refl)))

labels_stay : (s t : List ℕ) → (view t).job ≡ (view s).job → drop machine_len t ≡ drop machine_len s → labels_at t ≡ labels_at s
unfolding labels_at
labels_stay s t j d = rw (j, d)

-- so does what lies past them
past_state : (s t : List ℕ) → drop machine_len t ≡ drop machine_len s → drop state_len t ≡ drop state_len s
past_state s t d = sym (drop-drop 24 machine_len t) ∙ ap (drop 24) d ∙ drop-drop 24 machine_len s

clears_not : (b : Bool) (s t : List ℕ) → b ≡ false → Clears b s t → t ≡ s
clears_not b s t e h = rw e at h

clears_all : (b : Bool) (s t : List ℕ) → b ≡ true → Clears b s t → Labelled (replicate 24 0) s t
clears_all b s t e h = rw e at h

-- both leave the machine, and what lies past the numbers
clears_past : (b : Bool) (s t : List ℕ) → Clears b s t → (view t ≡ view s) × (drop state_len t ≡ drop state_len s)
clears_past true s t h = (h.machine, h.past)
clears_past false s t h = (ap view h, ap (drop state_len) h)

pub cleared : (b : Bool) (s t : List ℕ) → b ≡ true → Labelled (replicate 24 0) s t → Clears b s t
cleared b s t e h = rw e h

pub not_cleared : (b : Bool) (s : List ℕ) → b ≡ false → Clears b s s
not_cleared b s e = rw e refl

module _ (rules : Machine → rule.Answer rule.Turn) (s t : List ℕ) (r : Turn) (q : Refusal) (x : r ≡ turn.Refused q) where
  -- a refusal that leaves the bytes
  turns_kept : t ≡ s → number_of q ≤ 12 → ((m : ℕ) → lent_fault s ≡ some m → number_of q ≡ m)
      → (lent_fault s ≡ none → rules (view s) ≡ rule.refuses (number_of q) (view s)) → Turns rules s r t
  turns_kept k high f e = record {
    lent = λ m g. ((q, x, f m g), k);
    is = λ g. rw (x, e g, k);
    size = ap length k;
    past = ap (drop state_len) k;
    kept = λ _ _ _. k;
    zero = λ p w h. let y = ap number_of (same_refusal q p (sym x ∙ w)) in absurd (omega (arith, h, y, high));
    labels = λ _. ap labels_at k;
    number = λ p _. positive p;
  }

  -- a state that the check refuses
  turns_checked : (check (view s) ≡ false → rules (view s) ≡ rule.refuses 12 (view s)) → Finds s q → t ≡ s → Turns rules s r t
  turns_checked f (lent d) k =
      turns_kept k (fault_number s (number_of q) d).1 (λ m g. same_fault (number_of q) m (sym d ∙ g)) (λ g. clash (cc (d, g)))
  turns_checked f (bad l c d) k = turns_kept k (omega (arith, d)) (λ m g. clash (cc (l, g))) (λ _. f c ∙ ap (λ (i : ℕ). rule.refuses i (view s)) (sym d))

module _ (rules : Machine → rule.Answer rule.Turn) (s t : List ℕ) (r : Turn) where
  -- a state in order: u is what the answer leaves, and t what is handed back. A refusal is 13 or 14.
  turns_passed : (u : List ℕ) → KeepsJob (view s).job (rules (view s)) → length u ≡ length s → length t ≡ length u → lent_fault s ≡ none
      → turn_of r (view u) ≡ rules (view s) → Zeroes r u → drop machine_len u ≡ drop machine_len s → Clears (is_last r) u t → Turns rules s r t
  turns_passed u j l w f e k d c =
      let high : (q : Refusal) → r ≡ turn.Refused q → 13 ≤ number_of q = λ q x. (zero_turn r u q x k).0 in
      let p = clears_past (is_last r) u t c in
      record {
        lent = λ n g. clash (cc (g, f));
        is = λ _. rw p.0 e;
        size = w ∙ l;
        past = p.1 ∙ past_state s u d;
        kept = λ q x m. absurd (omega (arith, m, high q x));
        zero = λ q x m. all_zero u t (zero_turn r u q x k).1 (clears_all (is_last r) u t (ap is_last x ∙ le-leb 13 (number_of q) m) c);
        labels = λ i. ap labels_at (clears_not (is_last r) u t i c)
            ∙ labels_stay s u (kept_job (view s).job r (view u) i high (rw (← e) at j)) d;
        number = λ q _. positive q;
      }

  -- a delivery that is refused
  turns_stopped : (q : Refusal) (u : List ℕ) → KeepsJob (view s).job (rules (view s)) → length u ≡ length s → length t ≡ length u → lent_fault s ≡ none
      → r ≡ turn.Refused q → rules (view s) ≡ rule.refuses (number_of q) (view u) → drop machine_len u ≡ drop machine_len s → Clears (is_last r) u t
      → Leaves (number_of q) s u → Turns rules s r t
  turns_stopped q u j l w f x e d c (inl y) =
      let i : is_last r ≡ false = ap is_last x ∙ lt-leb 13 (number_of q) (omega (arith, y.1)) in
      turns_kept rules s t r q x (clears_not (is_last r) u t i c ∙ y.2) y.1 (λ m g. clash (cc (g, f)))
      (λ _. e ∙ ap (λ (k : List ℕ). rule.refuses (number_of q) (view k)) y.2)
  turns_stopped q u j l w f x e d c (inr y) = turns_passed u j l w f (rw (x, e)) (rw x y) d c

-- bytes that are too few
pub turns_short : (rules : Machine → rule.Answer rule.Turn) (s : List ℕ) → length s < state_len → Turns rules s (turn.Refused StateTooShort) s
turns_short rules s h =
    let f = fault_short s h in
    turns_kept rules s s (turn.Refused StateTooShort) StateTooShort refl refl (omega arith) (λ m g. same_fault 1 m (sym f ∙ g)) (λ g. clash (cc (f, g)))

-- Steps

pub step_not : (m : Machine) → check m ≡ false → rule.step m ≡ rule.refuses 12 m
unfolding rule.step
step_not m c = rw (c, rule.step)

step_is : (m : Machine) → check m ≡ true → rule.step m ≡ rule.stepping patience m
unfolding rule.step
step_is m c = rw (c, rule.step)

pub step_refused : (s : List ℕ) (q : Refusal) → Finds s q → Steps s (turn.Refused q) s
step_refused s q f = turns_checked rule.step s s (turn.Refused q) q refl (step_not (view s)) f refl

pub step_passed : (s u t : List ℕ) (r a : Turn) → length u ≡ length s → length t ≡ length u → lent_fault s ≡ none → check (view s) ≡ true
    → turn_of a (view u) ≡ rule.stepping patience (view s) → Zeroes a u → drop machine_len u ≡ drop machine_len s → r ≡ a
    → Clears (is_last a) u t → Steps s r t
step_passed s u t r a l w f c e k d q h =
    rw q (turns_passed rule.step s t a u (step_job (view s)) l w f (e ∙ sym (step_is (view s) c)) k d h)

-- Deliveries

module _ (read rows : ℕ) where
  pub deliver_not : (m : Machine) → check m ≡ false → rule.deliver read rows m ≡ rule.refuses 12 m
  unfolding rule.deliver
  deliver_not m c = rw (c, rule.deliver)

  deliver_is : (m : Machine) → check m ≡ true → rule.deliver read rows m ≡ rule.go_on (rule.delivering read rows m)
  unfolding rule.deliver
  deliver_is m c = rw (c, rule.deliver)

  -- a state that the check refuses
  pub deliver_refused : (s : List ℕ) (q : Refusal) → Finds s q → Delivers read rows s (turn.Refused q) s
  deliver_refused s q f = turns_checked (rule.deliver read rows) s s (turn.Refused q) q refl (deliver_not (view s)) f refl

  -- a delivery that is refused takes no step
  pub deliver_stopped : (s u t : List ℕ) (q : Refusal) (r : Turn) → length u ≡ length s → length t ≡ length u → lent_fault s ≡ none
      → check (view s) ≡ true → rule.refuses (number_of q) (view u) ≡ rule.delivering read rows (view s) → Leaves (number_of q) s u
      → drop machine_len u ≡ drop machine_len s → r ≡ turn.Refused q → Clears (leb 13 (number_of q)) u t → Delivers read rows s r t
  deliver_stopped s u t q r l x f c e k p i h =
      rw i (turns_stopped (rule.deliver read rows) s t (turn.Refused q) q u (deliver_job read rows (view s)) l x f refl
      (deliver_is (view s) c ∙ ap rule.go_on (sym e)) p h k)

  -- one that is accepted leaves a state in range and in order
  module _ (m m' : Machine) (accepts : rule.says rule.ok m' ≡ rule.delivering read rows m) where
    pub accepted_ranged : Ranged m → Ranged m'
    accepted_ranged g = rw (sym accepts) at (delivering_ranged read rows m g)

    -- so that its step is one without the check
    accepted_steps : check m ≡ true → rule.deliver read rows m ≡ rule.stepping patience m'
    accepted_steps c = deliver_is m c ∙ ap rule.go_on (sym accepts) ∙ step_is m' (delivering_checked m m' read rows c (sym accepts))

  pub deliver_passed : (s u v t : List ℕ) (r a : Turn) → length v ≡ length s → length t ≡ length v → lent_fault s ≡ none
      → check (view s) ≡ true → rule.says rule.ok (view u) ≡ rule.delivering read rows (view s) → drop machine_len u ≡ drop machine_len s
      → turn_of a (view v) ≡ rule.stepping patience (view u) → Zeroes a v → drop machine_len v ≡ drop machine_len u → r ≡ a
      → Clears (is_last a) v t → Delivers read rows s r t
  deliver_passed s u v t r a l x f c e p g k q i h =
      rw i (turns_passed (rule.deliver read rows) s t a v (deliver_job read rows (view s)) l x f
      (g ∙ sym (accepted_steps (view s) (view u) e c)) k (q ∙ p) h)

-- a refusal of a delivery that failed in the middle left no machine
pub fails_zero : (s : List ℕ) (r : Verdict) (t : List ℕ) → Fails r t → Delivering s r t
fails_zero s (Ok u) t h = tt
fails_zero s (Err q) t h = inr h

-- Bytes without a fault stay so

pub no_machine : (t : List ℕ) → AllZero t → labels_ok (labels_at t) ≡ true
unfolding labels_at labels_from view job_from
no_machine t z = rw (cut_zeros state_len t z 0 3 (omega arith) (omega arith)) refl

pub turns_ready : (rules : Machine → rule.Answer rule.Turn) (s t : List ℕ) (r : Turn) → Turns rules s r t → lent_fault s ≡ none → lent_fault t ≡ none
turns_ready rules s t r h f = by r refl
  where
    long : Published t
    long = omega (arith, none_published s f, h.size)

    stay : is_last r ≡ false → lent_fault t ≡ none
    stay e = fault_none t long (rw (h.labels e) (none_passes s f))

    by : (x : Turn) → r ≡ x → lent_fault t ≡ none
    by (turn.Read i g) e = stay (rw e)
    by (turn.Output i b) e = stay (rw e)
    by turn.Waiting e = stay (rw e)
    by turn.Done e = stay (rw e)
    by (turn.Refused q) e =
        by_bool (leb 13 (number_of q)) (λ b. fault_none t long (no_machine t (h.zero q e (leb-true 13 (number_of q) b)))) (λ b. stay (rw (e, b)))

-- Opening

pub open_short : (job s : List ℕ) → length s < state_len → Opens job s (Err StateTooShort) s
open_short job s h = record {
  short = λ _. (refl, refl);
  is = λ z. absurd (omega (arith, h, z));
  size = refl;
  past = refl;
  kept = λ _ _. refl;
  labels = λ e. clash (cc);
  ready = λ e. clash (cc);
  numbers = (omega arith, omega arith);
}

pub open_refused : (job s : List ℕ) (q : Refusal) → Published s → refused_by (refusal_of q) ≡ parse job → Opens job s (Err q) s
open_refused job s q z e = record {
  short = λ h. absurd (omega (arith, h, z));
  is = λ _. opens_not job q e;
  size = refl;
  past = refl;
  kept = λ _ _. refl;
  labels = λ d. clash (cc);
  ready = λ d. clash (cc);
  numbers = opens_numbers job q e;
}

-- u is the state with the job that was read, and t with the numbers of its nodes too
module _ (job u t : List ℕ) (p : Parsed) (m : Machine) (y : Bytes job) (e : accepted (job_of job p) ≡ parse job) (f : Fits job p)
    (q : labels_of p ≡ labels job) (b : m ≡ blank (job_of job p)) (v : view u ≡ marked m)
    (h : Labelled p.labels u t) where
  passed_labels : (length (labels job) ≡ length (job_of job p).nodes) × (labels_ok (labels job) ≡ true)
  passed_labels = labels_pass job (job_of job p) y (sym e)

  as_many : length (view t).job.nodes ≡ p.node_count
  unfolding blank
  as_many = rw (h.machine, v, b)
      (sym passed_labels.0 ∙ ap length (sym q) ∙ length-take-le p.node_count p.labels (omega (arith, f.label_table, f.nodes_fit)))

  numbers_stored : labels_at t ≡ labels job
  unfolding labels_at
  numbers_stored = rw as_many (sym (take-take p.node_count 24 (drop machine_len t) f.nodes_fit) ∙ ap (take p.node_count) h.own ∙ q)

  pub open_ok : (s : List ℕ) → length u ≡ length s → length t ≡ length u → Published s → drop machine_len u ≡ drop machine_len s → Opens job s (Ok tt) t
  open_ok s l w z d = record {
    short = λ x. absurd (omega (arith, x, z));
    is = λ _. opens_start (job_of job p) job m (view t) e b (h.machine ∙ v);
    size = w ∙ l;
    past = h.past ∙ past_state s u d;
    kept = λ x d. clash (cc);
    labels = λ _. numbers_stored;
    ready = λ _. fault_none t (omega (arith, z, l, w)) (rw numbers_stored passed_labels.1);
    numbers = tt;
  }
