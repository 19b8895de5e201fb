-- What `add` comes to: the pipeline gets a number and its place on the ready stack.
use Rattle.std.specs.Prelude.{◌≡◌, refl, ◌≢◌, Bool, true, false, List, [], ◌∷◌, ℕ, zero, suc, ◌+◌, ◌<◌, ◌≤◌, length, eqb}
use Rattle.std.proofs.Common.{◌∙◌, arith, eq-eqb, ne_eqb}
use Rattle.std.proofs.lemmas.Bool.{lt-leb}
use Rattle.rules.specs.Table.{put}
use Rattle.rules.specs.Operators.{runnable}
use Rattle.rules.specs.Machine.{Machine, Pipeline, places, no_pipe, pipe_at, set_pipe, with_pipes, with_ready, with_freed, with_made}
use Rattle.rules.specs.Wake.{make_runnable, enqueue, set_state, with_state, with_queued}
use Rattle.rules.specs.Pipelines.{take_number, add, numbered}
use Rattle.laws.specs.Table.{by_bool, by_list, same}
use Rattle.order.specs.Inv.{bit, count}

-- the last of two writes at one place counts
pub put_put : {A : Type 0} (d : A) (l : List A) (i : ℕ) (v w : A) → put d (put d l i v) i w ≡ put d l i w
put_put d [] zero v w = refl
put_put d [] (suc i) v w = rw (put_put d [] i v w)
put_put d (x ∷ l) zero v w = refl
put_put d (x ∷ l) (suc i) v w = rw (put_put d l i v w)

-- a pipeline that runs when its turn comes
abbrev pub queued_as : Bool → ℕ → Pipeline
queued_as live number = record { live = live; state = runnable; queued = true; number = number }

-- the numbers after one was taken
pub record Taken (freed freed' : List ℕ) (made made' : ℕ) : Type 0 where
  pub one : made' + length freed ≡ suc (made + length freed')
  pub few : made ≤ places → made' ≤ places

-- the ready stack with p on it
pub record Pushed (p : ℕ) (queued : Bool) (ready ready' : List ℕ) : Type 0 where
  pub mine : count p ready ≡ bit queued → count p ready' ≡ 1
  pub others : (q : ℕ) → q ≢ p → count q ready' ≡ count q ready

pub record Added (p : ℕ) (m m' : Machine) : Type 0 where
  pub number : ℕ
  pub ready' : List ℕ
  pub freed' : List ℕ
  pub made' : ℕ
  pub is : m' ≡ with_ready ready' (with_freed freed' (with_made made' (with_pipes (put no_pipe m.pipes p (queued_as (pipe_at m p).live number)) m)))
  pub taken : Taken m.freed freed' m.made made'
  pub pushed : Pushed p (pipe_at m p).queued m.ready ready'

pushed_new : (p : ℕ) (ready : List ℕ) → Pushed p false ready (p ∷ ready)
pushed_new p ready = record {
  mine = λ e. rw (eq-eqb p p refl, e);
  others = λ q n. let b : bit (eqb q p) ≡ 0 = rw (ne_eqb q p n) in omega (arith, b);
}

-- a pipeline on the stack becomes runnable
pub runnable_old : (p : ℕ) (m : Machine) → (pipe_at m p).queued ≡ true → make_runnable p m ≡ set_state p runnable m
unfolding make_runnable
runnable_old p m e = rw (e, make_runnable) (rw e)

-- and one that is not
pub runnable_new : (p : ℕ) (m : Machine) → (pipe_at m p).queued ≡ false → length m.ready < places
    → make_runnable p m ≡ with_ready (p ∷ m.ready) (set_pipe p (with_queued true (with_state runnable (pipe_at m p))) m)
unfolding make_runnable
runnable_new p m e h = rw (
  e,
  make_runnable,
  enqueue,
  lt-leb places (length m.ready) h,
  same no_pipe m.pipes p (with_state runnable (pipe_at m p)),
  put_put no_pipe m.pipes p (with_state runnable (pipe_at m p)) (with_queued true (with_state runnable (pipe_at m p))),
)

-- what has its number becomes runnable
runnable_added : (p n : ℕ) (freed' : List ℕ) (made' : ℕ) (m m' : Machine)
    → m' ≡ with_freed freed' (with_made made' (with_pipes (put no_pipe m.pipes p (numbered n (pipe_at m p))) m))
    → Taken m.freed freed' m.made made' → ((pipe_at m p).queued ≡ false → length m.ready < places) → Added p m (make_runnable p m')
runnable_added p n freed' made' m m' e t h =
    let x = numbered n (pipe_at m p) in
    let now = with_freed freed' (with_made made' (with_pipes (put no_pipe m.pipes p x) m)) in
    let s : pipe_at now p ≡ x = same no_pipe m.pipes p x in
    rw e (by_bool (pipe_at m p).queued
    (λ q. record {
      number = n;
      ready' = m.ready;
      freed' = freed';
      made' = made';
      is = runnable_old p now (rw s q) ∙ rw (s, put_put no_pipe m.pipes p x (with_state runnable x), q);
      taken = t;
      pushed = rw q (record { mine = λ c. c; others = λ i d. refl });
    })
    (λ q. record {
      number = n;
      ready' = p ∷ m.ready;
      freed' = freed';
      made' = made';
      is = runnable_new p now (rw s q) (h q) ∙ rw (s, put_put no_pipe m.pipes p x (with_queued true (with_state runnable x)));
      taken = t;
      pushed = rw q (pushed_new p m.ready);
    }))

-- a pipeline is added, if there is a number and a place on the stack
pub add_shape : (p : ℕ) (m : Machine) → (m.freed ≡ [] → m.made < places) → ((pipe_at m p).queued ≡ false → length m.ready < places) → Added p m (add p m)
unfolding add take_number
add_shape p m f h = by_list m.freed
    (λ e. runnable_added p m.made [] (suc m.made) m (take_number p m.freed m)
    (rw (e, take_number, lt-leb places m.made (f e)))
    (rw e (record { one = omega arith; few = λ z. let y = f e in omega arith }))
    h)
    (λ n ns e. runnable_added p n ns m.made m (take_number p m.freed m) (rw (e, take_number)) (rw e (record { one = omega arith; few = λ z. z })) h)
