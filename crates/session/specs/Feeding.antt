-- A session whose input still comes: what a turn promises.
use Rattle.std.specs.Prelude.{◌≡◌, true, false, List, ℕ, ◌≤◌, length, take, drop, ltb, Ok, Err}
use Rattle.std.specs.Prelude as code
use Rattle.std.proofs.Math.Path.{refl, ap}
use Rattle.std.proofs.Common.{sym, subst, ◌∙◌, take_all, ltb-true, ltb-false}
use Rattle.std.proofs.Math.Option.{none, some}
use native.Mathlib.Omega.{arith}
use Rattle.laws.specs.Table.{by_bool, clash}
use Rattle.rules.specs.Scan.{«open»}
use Rattle.rules.specs.Check.{labels_ok}
use Rattle.tables.specs.View.{view, state_len, Published, labels_at}
use Rattle.tables.specs.Lent.{lent_fault, fault_short, fault_none, fault_odd}
use Rattle.lines.specs.Page.{page, puts}
use Rattle.lines.specs.Lines.{opened_text}
use Rattle.lines.specs.Short.{opened_short}
use Rattle.lines.specs.declared.page.Written.{Written}
use Rattle.jobs.specs.Refusal.{judged}
use Rattle.jobs.specs.Refusal as jobs
use Rattle.jobs.specs.declared.refusal.Refusal.{Refusal}
use Rattle.turn.specs.Told.{ToldVerdict as Verdict, verdict_told}
use Rattle.scheduler.specs.Answers.{AllZero, Opens}
use Rattle.call_records.specs.declared.calls.Call.{Call}
use Rattle.feeding.specs.declared.Coming.{Coming}
use Rattle.feeding.specs.declared.Phase.{Phase}
use Rattle.feeding.specs.declared.Phase.TheVariants as phase
use Rattle.feeding.specs.declared.Task.{Task}
use Rattle.feeding.specs.declared.Task.TheVariants as task
use Rattle.feeding.specs.Tasks.{task_of}
use Rattle.feeding.specs.Verdict.{verdict_judged}
use Rattle.feeding.specs.Turned as does
use Rattle.feeding.specs.Turned.{Turned, turned}
use Rattle.session.specs.Answered.{Answered}
use Rattle.session.specs.Whole.{Prints, told_line}
use Rattle.session.specs.Printing.{prints}
use Rattle.session.specs.declared.feed.Fed.{Fed}

-- the first n bytes opened in state s
abbrev pub open_turn : List ℕ → ℕ → List ℕ → Turned
open_turn xs n s = does.opened (does.open_in (lent_fault s) (take n xs)) n (view s)

-- a split at a position skipped
abbrev pub skip_turn : List ℕ → ℕ → ℕ → List ℕ → Turned
skip_turn xs at size s = does.skips (does.open_in (lent_fault s) xs) («open» (take at xs)) at size (view s)

-- what the code says of a turn, beside what was written
abbrev pub fed_by : Turned → Written → Fed
fed_by u v = record { phase = u.phase; used = u.used; waits = u.waits; written = v }

-- the last turn, with n bytes used
abbrev pub last_of : ℕ → Written → Fed
last_of n v = record { phase = phase.Over; used = n; waits = false; written = v }

-- state s becomes t
pub record Left (u : Turned) (s t : List ℕ) : Type 0 where
  pub state : view t ≡ u.machine
  -- "State bytes past the published length are never changed."
  pub past : drop state_len t ≡ drop state_len s
  -- a refused opening, and a turn that opens nothing and answers no call: "Left as it was" is "state"
  pub still : u.stays ≡ true → t ≡ s
  -- the same of a call refused by 1, 10, 11 or 12, and of a bad call
  pub kept : (n : ℕ) → u.refuses ≡ some n → n ≤ 12 → t ≡ s
  -- 13 and 14: "nothing: state all zero"
  pub zero : (n : ℕ) → u.refuses ≡ some n → 13 ≤ n → AllZero t
  -- bytes without a fault stay so
  pub ready : lent_fault s ≡ none → lent_fault t ≡ none

-- a turn u: state s and lent bytes o become t and p
pub record Does (u : Turned) (s o : List ℕ) (w : Written) (t p : List ℕ) (r : Fed) : Type 0 where
  pub text : page p r.written ≡ puts u.text (page o w)
  pub phase : r.phase ≡ u.phase
  pub used : r.used ≡ u.used
  pub waits : r.waits ≡ u.waits
  pub left : Left u s t
  pub short : length u.text ≤ 128

-- the turn that the rules take on the bytes xs, as `feeding` has them: its text in lent bytes o, and what the session comes to
pub record Feeds (c : Coming) (p : Phase) (xs s o t q : List ℕ) (r : Fed) : Type 0 where
  pub text : Prints (turned (lent_fault s) c p (view s) xs).text o r.written q
  -- no line has more than 128 bytes, so that with as many the whole text is there
  pub whole : 128 ≤ length o → take r.written.len q ≡ (turned (lent_fault s) c p (view s) xs).text
  pub phase : r.phase ≡ (turned (lent_fault s) c p (view s) xs).phase
  pub used : r.used ≡ (turned (lent_fault s) c p (view s) xs).used
  pub waits : r.waits ≡ (turned (lent_fault s) c p (view s) xs).waits
  pub left : Left (turned (lent_fault s) c p (view s) xs) s t

-- Openings

-- the rule's opening is the code's, in a state that is too short too
open_in : (job s t : List ℕ) (r : jobs.Verdict) → Opens job s r t → does.open_in (lent_fault s) job ≡ judged r (view t)
open_in job s t r h =
    by_bool (ltb (length s) state_len) (λ e. let z = ltb-true (length s) state_len e in rw (fault_short s z, (h.short z).0))
    (λ e.
    let z = ltb-false (length s) state_len e in
    by_bool (labels_ok (labels_at s)) (λ l. rw (fault_none s z l) (h.is z)) (λ l. rw (fault_odd s z l) (h.is z)))

-- and so is the state that it leaves
left_by : (job s t : List ℕ) (r : jobs.Verdict) → Opens job s r t → does.left_by (judged r (view t)) (view s) ≡ view t
left_by job s t (Ok u) h = refl
left_by job s t (Err q) h = ap view (sym (h.kept q refl))

module _ (xs : List ℕ) (n : ℕ) (s o : List ℕ) (w v : Written) (t p : List ℕ) where
  pub opens_ok : Opens (take n xs) s (Ok tt) t → (k : Verdict) → k ≡ verdict_told (Ok tt) → page p v ≡ puts (opened_text k) (page o w)
      → Does (open_turn xs n s) s o w t p (record { phase = phase.Calls; used = n; waits = false; written = v })
  opens_ok h k d e =
      rw (open_in (take n xs) s t (Ok tt) h)
      (record {
        text = subst (λ (x : Verdict). page p v ≡ puts (opened_text x) (page o w)) d e;
        phase = refl;
        used = refl;
        waits = refl;
        left = record {
          state = refl;
          past = h.past;
          still = λ z. clash (cc);
          kept = λ k z l. clash (cc);
          zero = λ k z l. clash (cc);
          ready = λ _. h.ready refl;
        };
        short = omega arith;
      })

  pub opens_refused : (q : Refusal) → Opens (take n xs) s (Err q) t → (k : Verdict) → k ≡ verdict_told (Err q)
      → page p v ≡ puts (opened_text k) (page o w) → Does (open_turn xs n s) s o w t p (record { phase = phase.Over; used = n; waits = false; written = v })
  opens_refused q h k d e =
      rw (open_in (take n xs) s t (Err q) h)
      (record {
        text = e ∙ ap (λ (l : List ℕ). puts l (page o w)) (told_line q k d);
        phase = refl;
        used = refl;
        waits = refl;
        left = record {
          state = ap view (h.kept q refl);
          past = h.past;
          still = λ z. h.kept q refl;
          kept = λ j z l. clash (cc);
          zero = λ j z l. clash (cc);
          ready = λ z. rw (h.kept q refl) z;
        };
        short = subst (λ (l : List ℕ). length l ≤ 128) (told_line q k d) (opened_short k);
      })

-- two openings of a job that there is no room for, the second in a state of its own
still_by : (job s t : List ℕ) (r : jobs.Verdict) → Opens job s r t → does.is_refused (judged r (view t)) ≡ true → t ≡ s
still_by job s t (Ok u) h e = clash (cc)
still_by job s t (Err q) h e = h.kept q refl

ready_by : (job s t : List ℕ) (r : jobs.Verdict) → Opens job s r t → lent_fault s ≡ none → lent_fault t ≡ none
ready_by job s t (Ok u) h f = h.ready refl
ready_by job s t (Err q) h f = rw (h.kept q refl) f

module _ (xs : List ℕ) (at size : ℕ) (s t v u : List ℕ) (a b : jobs.Verdict) (h : Opens xs s a t) (g : Opens (take at xs) v b u) (z : Published v) where
  pub skips_fed : (w : Written) (all front whole : Verdict) → all ≡ verdict_told a → front ≡ verdict_told b → whole ≡ does.long_told all front
      → record { phase = phase.Skip size whole all; used = at; waits = false; written = w } ≡ fed_by (skip_turn xs at size s) w
  skips_fed w all front whole e f d = rw (open_in xs s t a h, g.is z, verdict_judged a (view t), verdict_judged b (view u), d, e, f)

  pub skips_left : Left (skip_turn xs at size s) s t
  skips_left = record {
    state = rw (open_in xs s t a h) (sym (left_by xs s t a h));
    past = h.past;
    still = λ e. still_by xs s t a h (rw (open_in xs s t a h) at e);
    kept = λ n e l. clash (cc);
    zero = λ n e l. clash (cc);
    ready = ready_by xs s t a h;
  }

-- Turns

whole_text : (text o q : List ℕ) (w : Written) → Prints text o w q → length text ≤ 128 → 128 ≤ length o → take w.len q ≡ text
whole_text text o q w p h k = p.front ∙ take_all w.len text (omega (arith, p.len))

-- by the task that is found
pub feeds_by : (c : Coming) (p : Phase) (xs s o t q : List ℕ) (r : Fed) (a : Task) → a ≡ task_of p c xs → (k : Task) → a ≡ k
    → Does (does.does (lent_fault s) p (view s) xs k) s o (record { len = 0; whole = true }) t q r → Feeds c p xs s o t q r
feeds_by c p xs s o t q r a e k f h =
    let d = subst (λ (x : Task). Does (does.does (lent_fault s) p (view s) xs x) s o (record { len = 0; whole = true }) t q r) (sym f ∙ e) h in
    let g = prints _ o q r.written d.text in
    record {
      text = g;
      whole = λ l. whole_text _ o q r.written g d.short l;
      phase = d.phase;
      used = d.used;
      waits = d.waits;
      left = d.left;
    }

at_rest : (u : Turned) (s : List ℕ) → u.machine ≡ view s → u.refuses ≡ none → Left u s s
at_rest u s e f = record { state = sym e; past = refl; still = λ z. refl; kept = λ n z l. refl; zero = λ n z l. clash (cc); ready = λ f. f }

module _ (p : Phase) (xs s o : List ℕ) (w : Written) where
  pub wait_does : Does (does.does (lent_fault s) p (view s) xs task.Wait) s o w s o (record { phase = p; used = 0; waits = true; written = w })
  unfolding does.does puts
  wait_does = record { text = refl; phase = refl; used = refl; waits = refl; left = at_rest _ s refl refl; short = omega arith }

  pub pass_does : (q : Phase)
      → Does (does.does (lent_fault s) p (view s) xs (task.Pass q)) s o w s o (record { phase = q; used = length xs; waits = true; written = w })
  unfolding does.does puts
  pass_does q = record { text = refl; phase = refl; used = refl; waits = refl; left = at_rest _ s refl refl; short = omega arith }

  pub end_does : Does (does.does (lent_fault s) p (view s) xs task.End) s o w s o (record { phase = phase.Over; used = 0; waits = false; written = w })
  unfolding does.does puts
  end_does = record { text = refl; phase = refl; used = refl; waits = refl; left = at_rest _ s refl refl; short = omega arith }

  pub tell_does : (v : Verdict) (q : List ℕ) (r : Fed) → r ≡ last_of (length xs) r.written → page q r.written ≡ puts (opened_text v) (page o w)
      → Does (does.does (lent_fault s) p (view s) xs (task.Tell v)) s o w s q r
  unfolding does.does
  tell_does v q r f e = record {
    text = e;
    phase = ap (λ (x : Fed). x.phase) f;
    used = ap (λ (x : Fed). x.used) f;
    waits = ap (λ (x : Fed). x.waits) f;
    left = at_rest _ s refl refl;
    short = opened_short v;
  }

  pub open_does : (n : ℕ) (t q : List ℕ) (r : Fed)
      → Does (open_turn xs n s) s o w t q r → Does (does.does (lent_fault s) p (view s) xs (task.Open n)) s o w t q r
  unfolding does.does
  open_does n t q r h = h

  pub skip_does : (at size : ℕ) (t : List ℕ) (r : Fed) → r ≡ fed_by (skip_turn xs at size s) w → Left (skip_turn xs at size s) s t
      → Does (does.does (lent_fault s) p (view s) xs (task.Skip at size)) s o w t o r
  unfolding does.does puts
  skip_does at size t r e l = record {
    text = ap (λ (x : Fed). page o x.written) e;
    phase = ap (λ (x : Fed). x.phase) e;
    used = ap (λ (x : Fed). x.used) e;
    waits = ap (λ (x : Fed). x.waits) e;
    left = record { state = l.state; past = l.past; still = l.still; kept = l.kept; zero = l.zero; ready = l.ready };
    short = omega arith;
  }

  pub answer_does : (c : code.Option Call) (n : ℕ) (t q : List ℕ) (v : Written) (f : Phase) → Answered c s o w t q v → f ≡ does.after c
      → Does (does.does (lent_fault s) p (view s) xs (task.Answer c n)) s o w t q (record { phase = f; used = n; waits = false; written = v })
  unfolding does.does
  answer_does c n t q v f h e = record {
    text = h.text;
    phase = e;
    used = refl;
    waits = refl;
    left = record { state = h.state; past = h.past; still = λ z. clash (cc); kept = h.kept; zero = h.zero; ready = h.ready };
    short = h.short;
  }
