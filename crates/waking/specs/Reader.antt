-- What the stores of a reader that is told of a change come to.
use Rattle.std.specs.Prelude.{◌≡◌, Bool, true, false, not, [], ℕ}
use Rattle.std.proofs.Common.{sym, ap, ◌∙◌}
use Rattle.std.proofs.lemmas.Bool.{not-true, not-false}
use Rattle.rules.specs.Table.{get}
use Rattle.rules.specs.InletSet.{InletSet, insert}
use Rattle.rules.specs.Machine.{Machine, Pipeline, pipe_at, live, set_changed}
use Rattle.rules.specs.Wake.{is_on, make_runnable, wake_reader}
use Rattle.inlet_set.specs.declared.set.InletSet as code
use Rattle.inlet_set.specs.InletSet.{set_of}
use Rattle.inlet_set.specs.Insert.{accepts, Insert}
use Rattle.waking.specs.Choice.{cases, first_case, last_case}

-- the set h that was loaded accepts the inlet, and the one that is stored has it
pub note_set : (m : Machine) (p i : ℕ) (h : code.InletSet) (a : Bool) (t : code.InletSet) → set_of h ≡ get [] m.changed p → accepts i (get [] m.changed p) ≡ true
    → Insert i h a t → set_changed p (set_of t) m ≡ set_changed p (insert i (get [] m.changed p)) m
note_set m p i h a t e ok q = ap (λ (x : InletSet). set_changed p x m) (q.set ∙ rw (e, ok))

-- the machine with the change noted
abbrev pub noted : ℕ → ℕ → Machine → Machine
noted p i m = set_changed p (insert i (get [] m.changed p)) m

pub reader_dead : (m : Machine) (p i : ℕ) → live m p ≡ false → m ≡ wake_reader p i m
unfolding wake_reader
reader_dead m p i e = last_case (live m p) (cases (is_on (pipe_at m p).state i) (make_runnable p (noted p i m)) (noted p i m)) m e

-- of the pipeline v that was loaded
pub reader_past : (m : Machine) (p i : ℕ) (v : Pipeline) → v ≡ pipe_at m p → not v.live ≡ true → m ≡ wake_reader p i m
reader_past m p i v e h = reader_dead m p i (ap (λ (x : Pipeline). x.live) (sym e) ∙ not-true v.live h)

pub reader_lives : (m : Machine) (p : ℕ) (v : Pipeline) → v ≡ pipe_at m p → not v.live ≡ false → live m p ≡ true
reader_lives m p v e h = ap (λ (x : Pipeline). x.live) (sym e) ∙ not-false v.live h

reader_told : (m : Machine) (p i : ℕ) (b : Bool) → live m p ≡ true → b ≡ is_on (pipe_at m p).state i →
    cases b (make_runnable p (noted p i m)) (noted p i m) ≡ wake_reader p i m
unfolding wake_reader
reader_told m p i b h e =
    ap (λ (x : Bool). cases x (make_runnable p (noted p i m)) (noted p i m)) e
    ∙ first_case (live m p) (cases (is_on (pipe_at m p).state i) (make_runnable p (noted p i m)) (noted p i m)) m h

-- the answer b of the loaded pipeline's state
on_is : (m : Machine) (p i : ℕ) (v : Pipeline) (b : Bool) → v ≡ pipe_at m p → b ≡ is_on v.state i → b ≡ is_on (pipe_at m p).state i
on_is m p i v b e f = f ∙ ap (λ (x : Pipeline). is_on x.state i) e

-- blocked on the inlet, or not
pub reader_on : (m : Machine) (p i : ℕ) (v : Pipeline) (b : Bool) → v ≡ pipe_at m p → not v.live ≡ false → b ≡ is_on v.state i → b ≡ true
    → make_runnable p (noted p i m) ≡ wake_reader p i m
reader_on m p i v b e h f t = first_case b (make_runnable p (noted p i m)) (noted p i m) t ∙ reader_told m p i b (reader_lives m p v e h) (on_is m p i v b e f)

pub reader_off : (m : Machine) (p i : ℕ) (v : Pipeline) (b : Bool) → v ≡ pipe_at m p → not v.live ≡ false → b ≡ is_on v.state i → b ≡ false
    → noted p i m ≡ wake_reader p i m
reader_off m p i v b e h f t = last_case b (make_runnable p (noted p i m)) (noted p i m) t ∙ reader_told m p i b (reader_lives m p v e h) (on_is m p i v b e f)
