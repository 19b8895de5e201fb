-- What the stores of a pipeline that becomes runnable come to.
use Rattle.std.specs.Prelude.{◌≡◌, refl, true, false, ◌∷◌, ℕ, ◌≤◌, ◌<◌, leb, ltb, length}
use Rattle.std.proofs.Common.{sym, ap, ◌∙◌, arith, le-leb, lt-ltb}
use Rattle.std.proofs.Math.Bool.{or-true}
use Rattle.std.proofs.lemmas.Bool.{lt-leb}
use Rattle.rules.specs.Operators.{State, runnable}
use Rattle.rules.specs.Machine.{Machine, Pipeline, pipe_at, set_pipe, with_ready, with_fault}
use Rattle.rules.specs.Wake.{with_state, with_queued, set_state, enqueue, make_runnable}
use Rattle.layout.specs.Stack.{pushed}
use Rattle.waking.specs.Choice.{first_case, last_case}

-- a pipeline that was loaded, with another state
pub state_set : (m : Machine) (p : ℕ) (s : State) (v w : Pipeline) → v ≡ pipe_at m p → w ≡ with_state s v → set_pipe p w m ≡ set_state p s m
state_set m p s v w a b = ap (λ (x : Pipeline). set_pipe p x m) (b ∙ ap (with_state s) a)

-- no place on the ready stack
pub enqueue_full : (m : Machine) (p n : ℕ) → n ≡ length m.ready → 96 ≤ n → with_fault true m ≡ enqueue p m
enqueue_full m p n e h =
    let f : leb 96 (length m.ready) ≡ true = le-leb 96 (length m.ready) (omega arith) in rw (f, enqueue, or-true m.fault) refl

-- a place for it
pub enqueue_room : (m : Machine) (p k n : ℕ) (v w : Pipeline) → n ≡ length m.ready → n < 96 → v ≡ pipe_at m p → w ≡ with_queued true v → k ≡ p
    → with_ready (pushed k 96 m.ready) (set_pipe p w m) ≡ enqueue p m
enqueue_room m p k n v w e h a b d =
    let f : leb 96 (length m.ready) ≡ false = lt-leb 96 (length m.ready) (omega arith) in
    let g : ltb (length m.ready) 96 ≡ true = lt-ltb (length m.ready) 96 (omega arith) in
    rw (f, enqueue, g, d) (ap (λ (x : Pipeline). with_ready (p ∷ m.ready) (set_pipe p x m)) (b ∙ ap (with_queued true) a))

-- a pipeline that is queued already, and one that is not
pub runnable_queued : (m : Machine) (p : ℕ) (v : Pipeline) → v ≡ pipe_at m p → v.queued ≡ true → set_state p runnable m ≡ make_runnable p m
unfolding make_runnable
runnable_queued m p v e h =
    let n = set_state p runnable m in first_case (pipe_at m p).queued n (enqueue p n) (ap (λ (x : Pipeline). x.queued) (sym e) ∙ h)

pub runnable_not : (m : Machine) (p : ℕ) (v : Pipeline) → v ≡ pipe_at m p → v.queued ≡ false → enqueue p (set_state p runnable m) ≡ make_runnable p m
unfolding make_runnable
runnable_not m p v e h =
    let n = set_state p runnable m in last_case (pipe_at m p).queued n (enqueue p n) (ap (λ (x : Pipeline). x.queued) (sym e) ∙ h)
