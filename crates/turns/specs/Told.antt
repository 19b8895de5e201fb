-- What a reader handed over and what a writer took, where a contract knows those bytes: just what the session heard, and what it said.
use Rattle.std.specs.Prelude.{◌≡◌, refl, Bool, true, false, List, [], ◌++◌, ℕ, ◌+◌, ◌≤◌, length, take, drop}
use Rattle.std.specs.Io.KnownBytes.{Appends, Consumes}
use Rattle.std.specs.declared.option.Option.{Option}
use Rattle.std.proofs.Common.{sym, ap, subst, ◌∙◌, append-nil, append_assoc, take-append-drop}
use Rattle.std.proofs.KnownBytes.{Consumes-nil, Consumes-trans}
use Rattle.std.proofs.Math.Option.{none}
use Rattle.std.proofs.Math.Seq.{take-append_seam}
use Rattle.rules.specs.Session as rule
use Rattle.tables.specs.Lent.{lent_fault}
use Rattle.tables.specs.View.{view}
use Rattle.feeding.specs.Ahead.{ahead}
use Rattle.feeding.specs.declared.Phase.TheVariants as phase
use Rattle.turns.specs.Place.{Within, pending}
use Rattle.turns.specs.Round.{turn_of, Round, read_in}
use Rattle.turns.specs.Session.{Session, session_starts, starts_rounds, starts_heard, starts_said, session_goes, goes_rounds, goes_heard, goes_said, Closes}
use Rattle.turns.specs.Took.{Took, took_none, took_more}
use Rattle.turns.specs.declared.talk.Talk.{Talk}
use Rattle.turns.specs.declared.talk.Close.{Close}
use Rattle.turns.specs.declared.talk.Close.TheVariants as close

-- As `Closes`, and a reader that had the bytes i has j now, a writer that held o holds p: the reader handed over what the session heard, and the writer
-- took a front of what it said, all of it but where it did not take the last text.
abbrev pub Told : Close → Option (List ℕ) → Option (List ℕ) → Option (List ℕ) → Option (List ℕ) → List ℕ → List ℕ → Type 0
Told close.Over i j o p b s =
    (t : Talk) × (h : Session t b s) × (rule.session h.heard ≡ h.said) × Consumes i j h.heard × Took t.taken o p h.said
Told close.Untaken i j o p b s = (t : Talk) × (h : Session t b s) × (t.taken ≡ false) × Consumes i j h.heard × Took t.taken o p h.said
Told close.Spent i j o p b s =
    (t : Talk) × (h : Session t b s) × (h.rounds ≡ 18446744073709551615) × Consumes i j h.heard × Took true o p h.said

-- However the turns end, the writer took a front of the session of what the reader handed over.
abbrev pub Fronts : Option (List ℕ) → Option (List ℕ) → Option (List ℕ) → Option (List ℕ) → Type 0
Fronts i j o p = (xs : List ℕ) × Consumes i j xs × (n : ℕ) × Appends o p (take n (rule.session xs))

pub closes_told : (c : Close) (i j o p : Option (List ℕ)) (b s : List ℕ) → Told c i j o p b s → Closes c b s
closes_told close.Over i j o p b s h = (h.0, h.1, h.2)
closes_told close.Untaken i j o p b s h = (h.0, h.1, h.2)
closes_told close.Spent i j o p b s h = (h.0, h.1, h.2)

-- a front of a front
front_of : (n : ℕ) (a b : List ℕ) → take (length (take n a)) (a ++ b) ≡ take n a
front_of n a b =
    ap (λ (l : List ℕ). take (length (take n a)) (l ++ b)) (sym (take-append-drop n a))
    ∙ ap (take (length (take n a))) (append_assoc (take n a) (drop n a) b) ∙ take-append_seam (take n a) (drop n a ++ b)

fronts_by : (t : Talk) (taken : Bool) (i j o p : Option (List ℕ)) (b s : List ℕ) (h : Session t b s)
    → Consumes i j h.heard → Took taken o p h.said → Fronts i j o p
fronts_by t taken i j o p b s h f g =
    let rest : List ℕ = ahead t.phase (view s) (pending t.place b ++ []) in
    let is : rule.session h.heard ≡ h.said ++ rest = ap rule.session (sym (append-nil h.heard)) ∙ h.is [] (λ _. refl) in
    let front : take (length (take g.some.0 h.said)) (rule.session h.heard) ≡ take g.some.0 h.said =
    ap (take (length (take g.some.0 h.said))) is ∙ front_of g.some.0 h.said rest in
    (h.heard, f, length (take g.some.0 h.said), subst (Appends o p) (sym front) g.some.1)

pub fronts_told : (c : Close) (i j o p : Option (List ℕ)) (b s : List ℕ) → Told c i j o p b s → Fronts i j o p
fronts_told close.Over i j o p b s (t, h, a, f, g) = fronts_by t t.taken i j o p b s h f g
fronts_told close.Untaken i j o p b s (t, h, a, f, g) = fronts_by t t.taken i j o p b s h f g
fronts_told close.Spent i j o p b s (t, h, a, f, g) = fronts_by t true i j o p b s h f g

-- a session in so many rounds, with the bytes of its reader and of its writer
abbrev pub Heard : Talk → ℕ → Bool → Option (List ℕ) → Option (List ℕ) → Option (List ℕ) → Option (List ℕ) → List ℕ → List ℕ → Type 0
Heard t n taken i j o p b s = (h : Session t b s) × (h.rounds ≡ n) × Consumes i j h.heard × Took taken o p h.said

-- before the first round
pub heard_none : (b s : List ℕ) → lent_fault s ≡ none → (i o : Option (List ℕ))
    → Heard (record { phase = phase.Job; place = record { at = 0; have = 0; ended = false }; taken = true }) 0 true i i o o b s
heard_none b s e i o = (
  session_starts true b s e,
  starts_rounds true b s e,
  subst (Consumes i i) (sym (starts_heard true b s e)) (Consumes-nil i),
  subst (Took true o o) (sym (starts_said true b s e)) (took_none true o),
)

-- one round more
pub heard_more : (t : Talk) (b s d u : List ℕ) (r : Talk) (n : ℕ) (i j k o p q : Option (List ℕ)) → Heard t n true i j o p b s → 4096 ≤ length b
    → Within t.place (length b) → Round t b s d u r → Consumes j k (read_in t b s d r) → Took r.taken p q (turn_of t b s).text
    → Heard r (n + 1) r.taken i k o q d u
heard_more t b s d u r n i j k o p q (h, a, f, g) l w x y z = (
  session_goes t b s d u r h.ready l w x h,
  goes_rounds t b s d u r h.ready l w x h ∙ ap (λ (m : ℕ). m + 1) a,
  subst (Consumes i k) (sym (goes_heard t b s d u r h.ready l w x h)) (Consumes-trans i j k h.heard (read_in t b s d r) f y),
  subst (Took r.taken o q) (sym (goes_said t b s d u r h.ready l w x h))
      (took_more r.taken o p q h.said (turn_of t b s).text (g.all refl) z),
)
