-- An input in pieces: what is said joined is the session of the pieces joined.
use Rattle.std.specs.Prelude.{◌≡◌, refl, List, [], ◌∷◌, ◌++◌, ℕ, drop}
use Rattle.std.proofs.Common.{sym, ap, ◌∙◌, append_assoc}
use Rattle.std.proofs.Math.Option.{none}
use Rattle.rules.specs.Machine.{Machine}
use Rattle.rules.specs.Session as rule
use Rattle.feeding.specs.declared.Coming.{Coming}
use Rattle.feeding.specs.declared.Phase.{Phase}
use Rattle.feeding.specs.declared.Phase.TheVariants as phase
use Rattle.feeding.specs.Turned.{does, turned}
use Rattle.feeding.specs.Ahead.{ahead, Fits, Says}
use Rattle.feeding.specs.CallTurns.{skip_says, calls_says}
use Rattle.feeding.specs.JobTurns.{job_says}

-- one turn says what is printed next
pub turn_says : (p : Phase) (m : Machine) (xs ys : List ℕ) (c : Coming) → Fits c xs ys → Says p m xs ys (turned none c p m xs)
unfolding does
turn_says phase.Job m xs ys c f = job_says m xs ys c f
turn_says (phase.Skip n b a) m xs ys c f = skip_says n b a m xs ys c f
turn_says phase.Calls m xs ys c f = calls_says m xs ys c f
turn_says phase.Over m xs ys c f = refl

-- what happens: a piece of the input comes, or a turn is taken on the bytes that are there
pub data Event : Type 0 where
  hears : List ℕ → Event
  turns : Coming → Event

-- the pieces joined
abbrev pub heard : List Event → List ℕ
heard [] = []
heard (hears piece ∷ es) = piece ++ heard es
heard (turns c ∷ es) = heard es

-- what is said joined
abbrev pub said : List Event → Phase → Machine → List ℕ → List ℕ
said [] p m xs = []
said (hears piece ∷ es) p m xs = said es p m (xs ++ piece)
said (turns c ∷ es) p m xs = let t = turned none c p m xs in t.text ++ said es t.phase t.machine (drop t.used xs)

-- the session is over in the end
abbrev pub Ends : List Event → Phase → Machine → List ℕ → Type 0
Ends [] p m xs = p ≡ phase.Over
Ends (hears piece ∷ es) p m xs = Ends es p m (xs ++ piece)
Ends (turns c ∷ es) p m xs = let t = turned none c p m xs in Ends es t.phase t.machine (drop t.used xs)

-- each turn is told rightly what is to come
abbrev pub Told : List Event → Phase → Machine → List ℕ → Type 0
Told [] p m xs = Unit {0}
Told (hears piece ∷ es) p m xs = Told es p m (xs ++ piece)
Told (turns c ∷ es) p m xs = let t = turned none c p m xs in Fits c xs (heard es) × Told es t.phase t.machine (drop t.used xs)

over : (p : Phase) (m : Machine) (xs : List ℕ) → p ≡ phase.Over → ahead p m xs ≡ []
over p m xs e = rw e

said_ahead : (es : List Event) (p : Phase) (m : Machine) (xs : List ℕ) → Told es p m xs → Ends es p m xs → said es p m xs ≡ ahead p m (xs ++ heard es)
said_ahead [] p m xs t e = sym (over p m (xs ++ []) e)
said_ahead (hears piece ∷ es) p m xs t e = said_ahead es p m (xs ++ piece) t e ∙ ap (ahead p m) (append_assoc xs piece (heard es))
said_ahead (turns c ∷ es) p m xs t e =
    let r = turned none c p m xs in
    ap (λ (l : List ℕ). r.text ++ l) (said_ahead es r.phase r.machine (drop r.used xs) t.1 e) ∙ sym (turn_says p m xs (heard es) c t.0)

-- from the start: the rule's session
pub pieces : (es : List Event) (m : Machine) → Told es phase.Job m [] → Ends es phase.Job m [] → said es phase.Job m [] ≡ rule.session (heard es)
pieces es m t e = said_ahead es phase.Job m [] t e
