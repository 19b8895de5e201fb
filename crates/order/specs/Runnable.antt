-- A pipeline is made runnable.
use Rattle.std.specs.Prelude.{◌≡◌, refl, ◌≢◌, Bool, true, false, List, [], ◌∷◌, ℕ, ◌<◌, length, leb, if◌then◌else◌}
use Rattle.std.proofs.Common.{◌∙◌}
use Rattle.std.proofs.lemmas.Bool.{lt-leb}
use Rattle.rules.specs.Table.{get, put}
use Rattle.rules.specs.Plan.{Row}
use Rattle.rules.specs.InletSet.{InletSet}
use Rattle.rules.specs.Operators.{runnable}
use Rattle.rules.specs.Machine.{Machine, Pipeline, Port, no_pipe, places, pipe_at, set_port, set_touched, with_pipes, with_ready}
use Rattle.rules.specs.Wake.{with_state, enqueue, make_runnable}
use Rattle.laws.specs.Table.{by_bool, clash, same, put_length}
use Rattle.order.specs.Inv.{Live, source_of, pend}
use Rattle.order.specs.State.{Inv}
use Rattle.order.specs.Count.{count_same, count_other, room}
use Rattle.order.specs.Frame.{alike_put}
use Rattle.order.specs.Begin.{repiped, queued_put, waits_put, quiet_put}
use Rattle.order.specs.Add.{put_put}

-- the pipeline and the stack afterwards
abbrev pub awake : Pipeline → Pipeline
awake x = record { live = x.live; state = runnable; queued = true; number = x.number }

abbrev pub stacked : ℕ → Bool → List ℕ → List ℕ
stacked p queued ready = if queued then ready else p ∷ ready

-- one that is queued already
awake_queued : (x : Pipeline) → x.queued ≡ true → with_state runnable x ≡ awake x
awake_queued x e = rw e

-- what is done, where the stack has place
pub runnable_is : (p : ℕ) (m : Machine) → ((pipe_at m p).queued ≡ false → length m.ready < places)
    → make_runnable p m ≡ with_ready (stacked p (pipe_at m p).queued m.ready) (with_pipes (put no_pipe m.pipes p (awake (pipe_at m p))) m)
unfolding make_runnable
runnable_is p m h = by_bool (pipe_at m p).queued
    (λ e. rw (e, make_runnable, awake_queued (pipe_at m p) e))
    (λ e. rw (e, make_runnable, lt-leb places (length m.ready) (h e), enqueue, same, put_put))

module _ (me me' : ℕ) (who who' «open» loud freed busy : ℕ → Type 0) (out : ℕ → List Row) (told p : ℕ) (m : Machine) where
  -- a pipeline in use that waits for no read is made runnable, whatever its state was: it is among those that are in order
  pub runnable_ok : Inv me [] who «open» loud freed busy out told m → ((q : ℕ) → who' q → q ≢ p → who q)
      → Live m.pipes p → pend (source_of m.sources p) ≡ false → (who' p → get [] m.touched p ≡ [])
      → Inv me' [] who' «open» loud freed busy out told (make_runnable p m)
  runnable_ok v o l e t =
      let P = m.pipes in
      let y = awake (pipe_at m p) in
      rw (runnable_is p m (room who P m.ready p v.queued v.pipes.bound l))
      (repiped me me' who who' «open» «open» loud loud freed freed busy busy out told m (put no_pipe P p y) (stacked p (pipe_at m p).queued m.ready) m.touched v
      (alike_put P p y refl) (put_length no_pipe P p y (rw v.numbers.size (v.pipes.bound p l)))
      (λ q l o. o) (λ x l t q u i a b s f e. f)
      (queued_put P p y refl who who' o m.ready (stacked p (pipe_at m p).queued m.ready) v.queued (λ w. refl)
      (λ q n. by_bool (pipe_at m p).queued (λ c. rw c) (λ c. rw c (count_other q p m.ready n)))
      (by_bool (pipe_at m p).queued (λ c. rw (c, v.queued.counts p, c)) (λ c. rw c (count_same p m.ready ∙ rw (v.queued.counts p, l, c)))))
      (waits_put P p y refl who who' o freed freed m.sources m.inlets m.ports m.queues v.waits
      (λ w. e) (λ i s. clash (cc)) (λ s. clash (cc)) (λ q n f. f))
      (quiet_put P p y refl who who' o loud loud m.ports m.touched m.touched v.quiet (λ x c f. f) (λ q n. refl) t))

-- it does not matter when ports or touched inlets are written
pub runnable_port : (p x : ℕ) (y : Port) (m : Machine) → make_runnable p (set_port x y m) ≡ set_port x y (make_runnable p m)
unfolding make_runnable
runnable_port p x y m = by_bool (pipe_at m p).queued
    (λ e. rw (e, make_runnable)) (λ e. by_bool (leb places (length m.ready)) (λ d. rw (e, make_runnable, d, enqueue)) (λ d. rw (e, make_runnable, d, enqueue)))

pub runnable_touched : (p q : ℕ) (s : InletSet) (m : Machine) → make_runnable p (set_touched q s m) ≡ set_touched q s (make_runnable p m)
unfolding make_runnable
runnable_touched p q s m = by_bool (pipe_at m p).queued
    (λ e. rw (e, make_runnable)) (λ e. by_bool (leb places (length m.ready)) (λ d. rw (e, make_runnable, d, enqueue)) (λ d. rw (e, make_runnable, d, enqueue)))
