-- One call answered: what is printed, and the state that it leaves.
use Rattle.std.specs.Prelude.{◌≡◌, refl, List, ℕ, ◌≤◌, length, drop, Some, None}
use Rattle.std.specs.Prelude as code
use Rattle.std.proofs.Common.{sym, ap, subst, ◌∙◌, arith}
use Rattle.std.proofs.Math.Option.{Option, none, some}
use Rattle.laws.specs.Table.{by_option, clash}
use Rattle.rules.specs.Machine.{Machine}
use Rattle.rules.specs.Scan as rules
use Rattle.rules.specs.Session as rule
use Rattle.tables.specs.View.{view, state_len}
use Rattle.tables.specs.Lent.{lent_fault}
use Rattle.lines.specs.Page.{page, puts}
use Rattle.scheduler.specs.Answers.{turn_of, RefusedBy, AllZero, Turns, Steps, Delivers}
use Rattle.scheduler.specs.Calls.{turns_ready}
use Rattle.lines.specs.Lines.{turn_text}
use Rattle.lines.specs.Short.{no_short}
use Rattle.session.specs.Printed.{turn_printed}
use Rattle.turn.specs.Told.{Answer as Turn, turn_told}
use Rattle.turn.specs.declared.Told.{Told}
use Rattle.turn.specs.declared.Turn.{Turn as TurnOf}
use Rattle.turn.specs.declared.Turn.TheVariants as turn
use Rattle.jobs.specs.Refusal.{number_of}
use Rattle.lines.specs.declared.page.Written.{Written}
use Rattle.feeding.specs.Turned.{call_in, answer_in, refusal_of, number_in, refusal_in}
use Rattle.call_records.specs.declared.calls.Call.{Call}
use Rattle.call_records.specs.declared.calls.Call.TheVariants.{Step, Deliver}

-- state s and lent bytes o become t and p
pub record Answered (c : code.Option Call) (s o : List ℕ) (w : Written) (t p : List ℕ) (r : Written) : Type 0 where
  pub text : page p r ≡ puts (answer_in (lent_fault s) c (view s)).0 (page o w)
  pub state : view t ≡ (answer_in (lent_fault s) c (view s)).1
  -- "State bytes past the published length are never changed."
  pub past : drop state_len t ≡ drop state_len s
  -- 1, 10, 11 and 12, and 2 of a bad call: "Left as it was" is "state"
  pub kept : (n : ℕ) → refusal_in (lent_fault s) c (view s) ≡ some n → n ≤ 12 → t ≡ s
  -- 13 and 14: "nothing: state all zero"
  pub zero : (n : ℕ) → refusal_in (lent_fault s) c (view s) ≡ some n → 13 ≤ n → AllZero t
  -- bytes without a fault stay so
  pub ready : lent_fault s ≡ none → lent_fault t ≡ none
  -- no line has more bytes than these
  pub short : length (answer_in (lent_fault s) c (view s)).0 ≤ 128

-- a refusal's line
turn_refused : (t : Turn) (n : ℕ) → RefusedBy t n → turn_text (turn_told t) ≡ rule.ended (rule.no_line n)
turn_refused t n x = rw (x.1, x.2)

-- what is printed of a call that the rules answer so
abbrev printed_in : Option ℕ → rules.Answer rules.Turn → Machine → List ℕ × Machine
printed_in none a m = rule.printed a
printed_in (some n) a m = (rule.ended (rule.no_line n), m)

-- a refusal below 13 leaves the bytes s, one from 13 on leaves them zero
abbrev Left : Option ℕ → List ℕ → List ℕ → Type 0
Left o s t = ((n : ℕ) → o ≡ some n → n ≤ 12 → t ≡ s) × ((n : ℕ) → o ≡ some n → 13 ≤ n → AllZero t)

number : (m n : ℕ) → ◌≡◌ {A = Option ℕ} (some m) (some n) → m ≡ n
number m n e = cc

-- a refusal below 13 that left the bytes
left_kept : (k : ℕ) (s t : List ℕ) → k ≤ 12 → t ≡ s → Left (some k) s t
left_kept k s t h e = (λ n g l. e, λ n g l. absurd (omega (arith, h, l, number k n g)))

turn_refuses : (t : Turn) (m : Machine) (n : ℕ) → refusal_of (turn_of t m) ≡ some n → RefusedBy t n
turn_refuses (turn.Read r g) m n e = clash (cc)
turn_refuses (turn.Output s b) m n e = clash (cc)
turn_refuses turn.Waiting m n e = clash (cc)
turn_refuses turn.Done m n e = clash (cc)
turn_refuses (turn.Refused q) m n e = (q, refl, number (number_of q) n e)

module _ (answers : Machine → rules.Answer rules.Turn) (s t : List ℕ) (a : Turn) (h : Turns answers s a t) where
  turns_is : (turn_text (turn_told a), view t) ≡ printed_in (lent_fault s) (answers (view s)) (view s)
  turns_is =
      by_option (lent_fault s)
      (λ e. rw (e, ← h.is e) (sym (turn_printed a (view t))))
      (λ n e. let k = h.lent n e in rw (e, turn_refused a n k.0, k.1))

  turns_left : Left (number_in (lent_fault s) (answers (view s))) s t
  turns_left =
      by_option (lent_fault s)
      (λ e. rw (e, ← h.is e) (
        λ n g l. let x = turn_refuses a (view t) n g in h.kept x.0 x.1 (omega (arith, x.2, l)),
        λ n g l. let x = turn_refuses a (view t) n g in h.zero x.0 x.1 (omega (arith, x.2, l)),
      ))
      (λ n e. let k = h.lent n e in let x = k.0 in rw e (λ i g l. k.1, λ i g l. h.zero x.0 x.1 (omega (arith, x.2, number n i g, l))))

-- a line and a state that are what the call comes to
answered : (c : code.Option Call) (s o : List ℕ) (w : Written) (t p : List ℕ) (r : Written) (l : List ℕ) → (l, view t) ≡ answer_in (lent_fault s) c (view s)
    → page p r ≡ puts l (page o w) → drop state_len t ≡ drop state_len s → Left (refusal_in (lent_fault s) c (view s)) s t
    → (lent_fault s ≡ none → lent_fault t ≡ none) → length l ≤ 128 → Answered c s o w t p r
answered c s o w t p r l e f g k y h = record {
  text = f ∙ ap (λ (a : List ℕ × Machine). puts a.0 (page o w)) e;
  state = ap (λ (a : List ℕ × Machine). a.1) e;
  past = g;
  kept = k.0;
  zero = k.1;
  ready = y;
  short = subst (λ (a : List ℕ × Machine). length a.0 ≤ 128) e h;
}

-- what the rules print of a call is what its answer prints
call_printed : (o : Option ℕ) (c : rule.Call) (a : rules.Answer rules.Turn) (m : Machine) → rule.answer c m ≡ rule.printed a → printed_in o a m ≡ call_in o c m
call_printed none c a m e = sym e
call_printed (some n) c a m e = refl

pub step_answered : (s o : List ℕ) (w : Written) (t p : List ℕ) (r : Written) (a : Turn) → Steps s a t → (k : TurnOf Told) → k ≡ turn_told a
    → page p r ≡ puts (turn_text k) (page o w) → length (turn_text k) ≤ 128 → Answered (Some Step) s o w t p r
unfolding rule.answer
step_answered s o w t p r a h k e f =
    answered (Some Step) s o w t p r (turn_text k)
    (rw e (turns_is rules.step s t a h ∙ call_printed (lent_fault s) rule.ST (rules.step (view s)) (view s) refl)) f h.past
    (turns_left rules.step s t a h) (turns_ready rules.step s t a h)

pub deliver_answered : (read rows : ℕ) (s o : List ℕ) (w : Written) (t p : List ℕ) (r : Written) (a : Turn) → Delivers read rows s a t
    → (k : TurnOf Told) → k ≡ turn_told a → page p r ≡ puts (turn_text k) (page o w) → length (turn_text k) ≤ 128
    → Answered (Some (Deliver read rows)) s o w t p r
unfolding rule.answer
deliver_answered read rows s o w t p r a h k e f =
    answered (Some (Deliver read rows)) s o w t p r (turn_text k)
    (rw e (turns_is (rules.deliver read rows) s t a h
    ∙ call_printed (lent_fault s) (rule.DL read rows) (rules.deliver read rows (view s)) (view s) refl)) f h.past
    (turns_left (rules.deliver read rows) s t a h) (turns_ready (rules.deliver read rows) s t a h)

pub bad_answered : (s o : List ℕ) (w : Written) (p : List ℕ) (r : Written)
    → page p r ≡ puts (rule.ended (rule.no_line 2)) (page o w) → Answered None s o w s p r
bad_answered s o w p r f =
    answered None s o w s p r (rule.ended (rule.no_line 2)) refl f refl (left_kept 2 s s (omega arith) refl) (λ e. e) (no_short 2)
