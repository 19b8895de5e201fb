-- The rounds joined: what was said is the session of what was read.
use Rattle.std.specs.Prelude.{◌≡◌, Bool, true, false, List, [], ◌++◌, ℕ, ◌+◌, ◌≤◌, length, drop, replicate}
use Rattle.std.proofs.Math.Path.{refl}
use Rattle.std.proofs.Common.{sym, ap, ◌∙◌, append-nil, append_assoc, arith, take-append-drop, take_all}
use Rattle.std.proofs.Math.Option.{none}
use Rattle.std.proofs.lemmas.List.{length-replicate}
use Rattle.std.proofs.Math.Seq.{drop-length}
use Rattle.rules.specs.Machine.{Machine}
use Rattle.rules.specs.Session as rule
use Rattle.tables.specs.View.{view, state_len}
use Rattle.tables.specs.Lent.{lent_fault, fault_none}
use Rattle.scheduler.specs.Answers.{AllZero}
use Rattle.scheduler.specs.Calls.{no_machine}
use Rattle.feeding.specs.Turned.{turned}
use Rattle.feeding.specs.Within.{ended_waits}
use Rattle.feeding.specs.Ahead.{ahead, Fits}
use Rattle.feeding.specs.Pieces.{turn_says}
use Rattle.feeding.specs.declared.Coming.{Coming}
use Rattle.feeding.specs.declared.Coming.TheVariants.{More, Full, Ended}
use Rattle.feeding.specs.declared.Phase.{Phase}
use Rattle.feeding.specs.declared.Phase.TheVariants as phase
use Rattle.turns.specs.Place.{Within, pending, coming_of, pending_size}
use Rattle.turns.specs.Round.{is_over, over_is, turn_of, Round, read_in, coming_ended, ended_told, coming_full}
use Rattle.turns.specs.declared.talk.Talk.{Talk}
use Rattle.turns.specs.declared.talk.Close.{Close}
use Rattle.turns.specs.declared.talk.Close.TheVariants as close

-- what was read and what was said up to now, in so many rounds: whatever still comes, the session of all of it is what was said and then what is ahead
pub record Session (t : Talk) (b s : List ℕ) : Type 0 where
  pub heard : List ℕ
  pub said : List ℕ
  pub rounds : ℕ
  -- the state is fit for calls: it was all zero at first, opened since, or left by a call
  pub ready : lent_fault s ≡ none
  pub is : (ys : List ℕ) → (t.place.ended ≡ true → ys ≡ []) → rule.session (heard ++ ys) ≡ said ++ ahead t.phase (view s) (pending t.place b ++ ys)

-- before the first read
pub session_starts : (taken : Bool) (b s : List ℕ) → lent_fault s ≡ none
    → Session (record { phase = phase.Job; place = record { at = 0; have = 0; ended = false }; taken = taken }) b s
session_starts taken b s e = record { heard = []; said = []; rounds = 0; ready = e; is = λ ys h. refl }

pub starts_rounds : (taken : Bool) (b s : List ℕ) (e : lent_fault s ≡ none) → (session_starts taken b s e).rounds ≡ 0
unfolding session_starts
starts_rounds taken b s e = refl

pub starts_heard : (taken : Bool) (b s : List ℕ) (e : lent_fault s ≡ none) → (session_starts taken b s e).heard ≡ []
unfolding session_starts
starts_heard taken b s e = refl

pub starts_said : (taken : Bool) (b s : List ℕ) (e : lent_fault s ≡ none) → (session_starts taken b s e).said ≡ []
unfolding session_starts
starts_said taken b s e = refl

-- a state of zeros is fit
pub zeros_ready : lent_fault (replicate state_len 0) ≡ none
zeros_ready =
    let z : AllZero (replicate state_len 0) = take_all state_len (replicate state_len 0) (omega (arith, length-replicate {A = ℕ} state_len 0)) in
    fault_none (replicate state_len 0) (omega (arith, length-replicate {A = ℕ} state_len 0)) (no_machine (replicate state_len 0) z)

-- once it is over, it is what was said, whatever still comes
pub session_over : (t : Talk) (b s : List ℕ) (h : Session t b s) → t.phase ≡ phase.Over → (ys : List ℕ) → (t.place.ended ≡ true → ys ≡ [])
    → rule.session (h.heard ++ ys) ≡ h.said
session_over t b s h e ys f = h.is ys f ∙ rw e (append-nil h.said)

-- how the turns end, with the bytes of the buffer and the state then. Over: what was said is the session of what was read. Untaken: what was said last was
-- not taken. Spent: as many rounds were made as are counted.
abbrev pub Closes : Close → List ℕ → List ℕ → Type 0
Closes close.Over b s = (t : Talk) × (h : Session t b s) × (rule.session h.heard ≡ h.said)
Closes close.Untaken b s = (t : Talk) × Session t b s × (t.taken ≡ false)
Closes close.Spent b s = (t : Talk) × (h : Session t b s) × (h.rounds ≡ 18446744073709551615)

pub closes_over : (t : Talk) (b s : List ℕ) (h : Session t b s) → is_over t.phase ≡ true → rule.session h.heard ≡ h.said
closes_over t b s h e = ap rule.session (sym (append-nil h.heard)) ∙ session_over t b s h (over_is t.phase e) [] (λ _. refl)

module _ (t : Talk) (b s d u : List ℕ) (r : Talk) (z : lent_fault s ≡ none) (l : 4096 ≤ length b) (w : Within t.place (length b))
    (h : Round t b s d u r) where
  abbrev xs : List ℕ
  xs = pending t.place b

  abbrev left : List ℕ
  left = drop (turn_of t b s).used xs

  -- what was read in this round
  abbrev piece : List ℕ
  piece = drop (length left) (pending r.place d)

  pieced : pending r.place d ≡ left ++ piece
  pieced = sym (take-append-drop (length left) (pending r.place d)) ∙ ap (λ (k : List ℕ). k ++ piece) h.front

  -- after the end nothing was read
  no_piece : t.place.ended ≡ true → (ys : List ℕ) → (r.place.ended ≡ true → ys ≡ []) → piece ++ ys ≡ []
  no_piece e ys f =
      let c : coming_of t.place (length b) ≡ Ended = coming_ended t.place (length b) e in
      let g : (turn_of t b s).waits ≡ false =
      ap (λ (x : Coming). (turned (lent_fault s) x t.phase (view s) xs).waits) c ∙ ended_waits (lent_fault s) t.phase (view s) xs in
      let k = h.stays g in
      ap (λ (x : List ℕ). drop (length left) x ++ ys) k.0 ∙ ap (λ (x : List ℕ). x ++ ys) (drop-length left) ∙ f (k.1 ∙ e)

  fits : (c : Coming) → coming_of t.place (length b) ≡ c → (ys : List ℕ) → (t.place.ended ≡ true → ys ≡ []) → Fits c xs ys
  fits More q ys f = tt
  fits Full q ys f = omega (arith, pending_size t.place b w, coming_full t.place (length b) q, l)
  fits Ended q ys f = f (ended_told t.place (length b) q)

  turn_is : (ys : List ℕ) → (t.place.ended ≡ true → ys ≡ [])
      → ahead t.phase (view s) (xs ++ ys) ≡ (turn_of t b s).text ++ ahead (turn_of t b s).phase (turn_of t b s).machine (left ++ ys)
  turn_is ys f =
      let c = coming_of t.place (length b) in
      rw z (turn_says t.phase (view s) xs ys c (fits c refl ys f))

  goes_ahead : (ys : List ℕ)
      → ahead r.phase (view u) (pending r.place d ++ ys) ≡ ahead (turn_of t b s).phase (turn_of t b s).machine (left ++ (piece ++ ys))
  goes_ahead ys =
      ap (λ (x : Phase). ahead x (view u) (pending r.place d ++ ys)) h.phase
      ∙ ap (λ (m : Machine). ahead (turn_of t b s).phase m (pending r.place d ++ ys)) h.left.state
      ∙ ap (ahead (turn_of t b s).phase (turn_of t b s).machine) (ap (λ (k : List ℕ). k ++ ys) pieced ∙ append_assoc left piece ys)

  -- one round more
  pub session_goes : Session t b s → Session r d u
  session_goes j = record {
    heard = j.heard ++ piece;
    said = j.said ++ (turn_of t b s).text;
    rounds = j.rounds + 1;
    ready = h.left.ready j.ready;
    is = λ ys f.
        let g : t.place.ended ≡ true → piece ++ ys ≡ [] = λ e. no_piece e ys f in
        ap rule.session (append_assoc j.heard piece ys) ∙ j.is (piece ++ ys) g ∙ ap (λ (k : List ℕ). j.said ++ k) (turn_is (piece ++ ys) g)
        ∙ sym (append_assoc j.said (turn_of t b s).text _) ∙ ap (λ (k : List ℕ). (j.said ++ (turn_of t b s).text) ++ k) (sym (goes_ahead ys));
  }

  pub goes_rounds : (j : Session t b s) → (session_goes j).rounds ≡ j.rounds + 1
  unfolding session_goes
  goes_rounds j = refl

  pub goes_heard : (j : Session t b s) → (session_goes j).heard ≡ j.heard ++ read_in t b s d r
  unfolding session_goes
  goes_heard j = refl

  pub goes_said : (j : Session t b s) → (session_goes j).said ≡ j.said ++ (turn_of t b s).text
  unfolding session_goes
  goes_said j = refl
