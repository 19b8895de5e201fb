-- A call on bytes of any length is one on the state at their front: what it promises of the front it promises of all of them.
use Rattle.std.specs.Prelude.{◌≡◌, List, ℕ, ◌≤◌, ◌++◌, length, take, drop}
use Rattle.std.proofs.Common.{sym, ap, subst, ◌∙◌, inl, inr, arith, length-append, length-take}
use Rattle.std.proofs.lemmas.List.{take-append-le, take-append-drop, drop_at}
use Rattle.rules.specs.Machine.{Machine}
use Rattle.rules.specs.Scan as rule
use Rattle.tables.specs.View.{view, machine_len, state_len}
use Rattle.tables.specs.Front.{view_front, labels_front, fault_front}
use Rattle.std.specs.Prelude.{Ok, Err}
use Rattle.jobs.specs.Refusal.{Verdict}
use Rattle.turn.specs.Told.{Answer as Turn}
use Rattle.turn.specs.declared.Turn.TheVariants as turn
use Rattle.scheduler.specs.Answers.{NoMachine, Zeroes, Delivering, Turns, Opens}

-- the front a, which becomes t, and what is behind it
module _ (a d t : List ℕ) (l : length a ≡ state_len) (k : length t ≡ length a) where
  size : length (t ++ d) ≡ length (a ++ d)
  size = rw (length-append t d, length-append a d, k)

  past : drop state_len (t ++ d) ≡ drop state_len (a ++ d)
  past = after t (k ∙ l) ∙ sym (after a l)
    where
      after : (x : List ℕ) → length x ≡ state_len → drop state_len (x ++ d) ≡ d
      after x e = drop_at x d state_len e

  turns_of : (rules : Machine → rule.Answer rule.Turn) (r : Turn) → Turns rules a r t → Turns rules (a ++ d) r (t ++ d)
  turns_of rules r h = record {
    lent = λ n e. let x = h.lent n (sym (fault_front a d (omega arith)) ∙ e) in (x.0, ap (λ (b : List ℕ). b ++ d) x.1);
    is = λ e. rw (view_front t d (omega arith), view_front a d (omega arith)) (h.is (sym (fault_front a d (omega arith)) ∙ e));
    size = size;
    past = past;
    kept = λ q e n. ap (λ (b : List ℕ). b ++ d) (h.kept q e n);
    zero = λ q e n. take-append-le state_len t d (omega arith) ∙ h.zero q e n;
    labels = λ e. labels_front t d (omega arith) ∙ h.labels e ∙ sym (labels_front a d (omega arith));
    number = h.number;
  }

  opens_of : (job : List ℕ) (r : Verdict) → Opens job a r t → Opens job (a ++ d) r (t ++ d)
  opens_of job r h = record {
    short = λ e. absurd (omega (arith, e, length-append a d, l));
    is = λ e. rw (view_front t d (omega arith)) (h.is (omega arith));
    size = size;
    past = past;
    kept = λ q e. ap (λ (b : List ℕ). b ++ d) (h.kept q e);
    labels = λ e. labels_front t d (omega arith) ∙ h.labels e;
    ready = λ e. fault_front t d (omega arith) ∙ h.ready e;
    numbers = h.numbers;
  }

module _ (s a t : List ℕ) (z : state_len ≤ length s) (e : a ≡ take state_len s) where
  front : length a ≡ state_len
  front = rw (e, length-take state_len s) (omega (arith, z))

  whole : a ++ drop state_len s ≡ s
  whole = rw e (take-append-drop state_len s)

  pub turns_front : (rules : Machine → rule.Answer rule.Turn) (r : Turn) → Turns rules a r t → Turns rules s r (t ++ drop state_len s)
  turns_front rules r h =
      subst (λ (b : List ℕ). Turns rules b r (t ++ drop state_len s)) whole (turns_of a (drop state_len s) t front h.size rules r h)

  pub opens_front : (job : List ℕ) (r : Verdict) → Opens job a r t → Opens job s r (t ++ drop state_len s)
  opens_front job r h =
      subst (λ (b : List ℕ). Opens job b r (t ++ drop state_len s)) whole (opens_of a (drop state_len s) t front h.size job r h)

-- An action on the machine at the front of a state: t are the bytes that it leaves there
module _ (s t : List ℕ) (l : length t ≡ machine_len) where
  pub view_whole : view (t ++ drop machine_len s) ≡ view t
  view_whole = view_front t (drop machine_len s) (omega (arith, l))

  pub past_whole : drop machine_len (t ++ drop machine_len s) ≡ drop machine_len s
  past_whole = drop_at t (drop machine_len s) machine_len l

  none_whole : NoMachine t → NoMachine (t ++ drop machine_len s)
  none_whole h = take-append-le machine_len t (drop machine_len s) (omega (arith, l)) ∙ h

  pub zeroes_whole : (r : Turn) → Zeroes r t → Zeroes r (t ++ drop machine_len s)
  zeroes_whole (turn.Read r g) h = h
  zeroes_whole (turn.Output k b) h = h
  zeroes_whole turn.Waiting h = h
  zeroes_whole turn.Done h = h
  zeroes_whole (turn.Refused r) h = (h.0, none_whole h.1)

  pub delivering_whole : (r : Verdict) → Delivering (take machine_len s) r t → Delivering s r (t ++ drop machine_len s)
  delivering_whole (Ok u) h = h
  delivering_whole (Err r) (inl h) = inl (h.0, h.1, ap (λ (b : List ℕ). b ++ drop machine_len s) h.2 ∙ take-append-drop machine_len s)
  delivering_whole (Err r) (inr h) = inr (h.0, none_whole h.1)
