-- A whole session.
use Rattle.std.specs.Prelude.{◌≡◌, refl, Ok, Err, List, ℕ, ◌-◌, ◌≤◌, ◌<◌, min, length, take, drop, ltb, leb, if◌then◌else◌}
use Rattle.std.proofs.Common.{ap, ◌∙◌, arith, ltb-true, ltb-false, le-ltb}
use Rattle.laws.specs.Table.{by_bool, clash}
use Rattle.rules.specs.Job as rules
use Rattle.rules.specs.Job.{Outcome, refused_by, accepted}
use Rattle.rules.specs.Machine.{Machine}
use Rattle.rules.specs.Scan.{«open»}
use Rattle.rules.specs.Session as rule
use Rattle.tables.specs.View.{view, state_len, Published}
use Rattle.session.specs.Answering.{calls_leave}
use Rattle.scheduler.specs.Answers.{Opens}
use Rattle.jobs.specs.Refusal.{Verdict, refusal_of}
use Rattle.jobs.specs.declared.refusal.Refusal.{Refusal}
use Rattle.jobs.specs.declared.refusal.Refusal.TheVariants.{StateTooShort}
use Rattle.lines.specs.declared.page.Written.{Written}
use Rattle.lines.specs.Lines.{opened_text}
use Rattle.turn.specs.Told.{ToldVerdict, verdict_told, says_telling}

-- what is printed for an input on a state of n bytes
abbrev pub session_on : ℕ → List ℕ → List ℕ
session_on n input = if ltb n state_len then rule.ended (rule.no_line 1) else rule.session input

-- a text in lent bytes o, which become p, as far as it fits; what is behind stays
pub record Prints (text o : List ℕ) (r : Written) (p : List ℕ) : Type 0 where
  pub len : r.len ≡ min (length text) (length o)
  pub front : take r.len p ≡ take r.len text
  pub rest : drop r.len p ≡ drop r.len o
  pub whole : r.whole ≡ leb (length text) (length o)

-- where the job of an input ends
abbrev pub job_end : List ℕ → ℕ
job_end input = length input - rule.behind_job (length input) input

-- a session from state s to state t: a refused opening leaves it as it is, and else the calls change it
pub record Leaves (input s t : List ℕ) : Type 0 where
  pub short : length s < state_len → t ≡ s
  pub kept : (r : rules.Refusal) → «open» (take (job_end input) input) ≡ refused_by r → t ≡ s
  pub is : Published s → (m : Machine) → «open» (take (job_end input) input) ≡ accepted m
      → view t ≡ calls_leave (length (drop (job_end input) input)) (drop (job_end input) input) m
  pub past : drop state_len t ≡ drop state_len s

-- what opens has room
opens_sized : (job s t : List ℕ) → Opens job s (Ok tt) t → state_len ≤ length s
opens_sized job s t h =
    by_bool (ltb (length s) state_len)
    (λ b. let x = (h.short (ltb-true (length s) state_len b)).0 in clash (cc))
    (λ b. ltb-false (length s) state_len b)

-- a session that opens
pub session_opens : (input : List ℕ) (n : ℕ) (s t : List ℕ) → n ≡ length input - rule.behind_job (length input) input → Opens (take n input) s (Ok tt) t
    → rule.opened (accepted (view t)) (drop n input) ≡ session_on (length s) input
unfolding rule.session
session_opens input n s t e h =
    let k : state_len ≤ length s = opens_sized (take n input) s t h in
    rw (le-ltb (length s) state_len k, ← e, h.is k)

same_refusal : (q p : Refusal) → ◌≡◌ {A = Verdict} (Err q) (Err p) → q ≡ p
same_refusal q p e = cc

-- the line of a refusal as it is told is the refusal's
pub told_line : (q : Refusal) (k : ToldVerdict) → k ≡ verdict_told (Err q) → opened_text k ≡ rule.ended (rule.refusal_line (refusal_of q))
told_line q k e = ap opened_text e ∙ ap (λ (r : rules.Refusal). rule.ended (rule.refusal_line r)) (says_telling (refusal_of q))

-- a session that is refused
pub session_refused : (input : List ℕ) (n : ℕ) (s t : List ℕ) (q : Refusal) → n ≡ length input - rule.behind_job (length input) input
    → Opens (take n input) s (Err q) t → rule.ended (rule.refusal_line (refusal_of q)) ≡ session_on (length s) input
unfolding rule.session rule.opened
session_refused input n s t q e h =
    by_bool (ltb (length s) state_len)
    (λ b. let x = same_refusal q StateTooShort (h.short (ltb-true (length s) state_len b)).0 in rw (b, x))
    (λ b. rw (b, ← e, h.is (ltb-false (length s) state_len b)))

never : {P : Type 0} (o : Outcome Machine) (n : rules.Refusal) (m : Machine) → o ≡ refused_by n → o ≡ accepted m → P
never o n m e f = clash (cc)

same : (o : Outcome Machine) (m n : Machine) → o ≡ accepted m → o ≡ accepted n → m ≡ n
same o m n e f = cc

-- from s by the opening to t, and by the calls to u
pub leaves_opened : (input : List ℕ) (n : ℕ) (s t u : List ℕ) → n ≡ job_end input → Opens (take n input) s (Ok tt) t
    → view u ≡ calls_leave (length (drop n input)) (drop n input) (view t) → drop state_len u ≡ drop state_len t → Leaves input s u
leaves_opened input n s t u e h l p =
    let k : state_len ≤ length s = opens_sized (take n input) s t h in
    let o : «open» (take n input) ≡ accepted (view t) = h.is k in
    record {
      short = λ z. absurd (omega arith);
      kept = λ j z. never («open» (take n input)) j (view t) (rw (← e) at z) o;
      is = λ z m w. let q : view t ≡ m = same («open» (take n input)) (view t) m o (rw (← e) at w) in rw (← e) (rw q at l);
      past = p ∙ h.past;
    }

pub leaves_refused : (input : List ℕ) (n : ℕ) (s t : List ℕ) (q : Refusal) → n ≡ job_end input → Opens (take n input) s (Err q) t → Leaves input s t
leaves_refused input n s t q e h = record {
  short = λ z. h.kept q refl;
  kept = λ j z. h.kept q refl;
  is = λ z m w. never («open» (take n input)) (refusal_of q) m (h.is z) (rw (← e) at w);
  past = h.past;
}
