-- When a writer is woken.
use Rattle.std.specs.Prelude.{◌≡◌, Bool, true, false, not, ◌&&◌, ℕ, ◌≤◌, ◌<◌}
use Rattle.std.proofs.Common.{sym, ap, ◌∙◌, le-leb}
use Rattle.std.proofs.lemmas.Bool.{lt-leb}
use Rattle.rules.specs.Machine.{Machine, Pipeline, pipe_at, live, is_share_port}
use Rattle.rules.specs.Wake.{at_outlet, any_full, make_runnable, wake_writer}
use Rattle.waking.specs.Choice.{first_case, last_case}

-- stopped at an outlet, with no outlet full
abbrev pub can_write : Machine → ℕ → Bool
can_write m p = live m p && at_outlet (pipe_at m p).state && not (any_full m p)

-- of the pipeline v that was loaded, which lives and is stopped or not
module _ (m : Machine) (p : ℕ) (v : Pipeline) (a b : Bool) (e : v ≡ pipe_at m p) (i : a ≡ at_outlet v.state) (j : b ≡ (v.live && a)) where
  stopped : b ≡ (live m p && at_outlet (pipe_at m p).state)
  stopped = j ∙ ap (λ (x : Bool). v.live && x) i ∙ ap (λ (x : Pipeline). x.live && at_outlet x.state) e

  pub not_stopped : b ≡ false → false ≡ can_write m p
  not_stopped k = sym (ap (λ (x : Bool). x && not (any_full m p)) (sym stopped ∙ k))

  pub can_write_lem : b ≡ true → (f r : Bool) → f ≡ any_full m p → r ≡ not f → r ≡ can_write m p
  can_write_lem k f r h l = l ∙ ap not h ∙ sym (ap (λ (x : Bool). x && not (any_full m p)) (sym stopped ∙ k))

-- the test of a port that is not shared
writer_test : (m : Machine) (x : ℕ) → x < 72 → (not (is_share_port x) && live m x && at_outlet (pipe_at m x).state && not (any_full m x)) ≡ can_write m x
writer_test m x h = ap (λ (b : Bool). not b && live m x && at_outlet (pipe_at m x).state && not (any_full m x)) (lt-leb 72 x h)

pub writer_shared : (m : Machine) (x : ℕ) → 72 ≤ x → m ≡ wake_writer x m
unfolding wake_writer
writer_shared m x h =
    last_case (not (is_share_port x) && live m x && at_outlet (pipe_at m x).state && not (any_full m x)) (make_runnable x m) m
    (ap (λ (b : Bool). not b && live m x && at_outlet (pipe_at m x).state && not (any_full m x)) (le-leb 72 x h))

pub writer_on : (m : Machine) (x : ℕ) (r : Bool) → x < 72 → r ≡ can_write m x → r ≡ true → make_runnable x m ≡ wake_writer x m
unfolding wake_writer
writer_on m x r h e t =
    first_case (not (is_share_port x) && live m x && at_outlet (pipe_at m x).state && not (any_full m x)) (make_runnable x m) m (writer_test m x h ∙ sym e ∙ t)

pub writer_off : (m : Machine) (x : ℕ) (r : Bool) → x < 72 → r ≡ can_write m x → r ≡ false → m ≡ wake_writer x m
unfolding wake_writer
writer_off m x r h e t =
    last_case (not (is_share_port x) && live m x && at_outlet (pipe_at m x).state && not (any_full m x)) (make_runnable x m) m (writer_test m x h ∙ sym e ∙ t)
