-- The end of a run: what it costs.
use Rattle.std.specs.Prelude.{◌≡◌, false, ℕ, ◌<◌}
use Rattle.std.proofs.Math.Path.{refl}
use Rattle.std.proofs.Common.{inl, inr, arith}
use Rattle.rules.specs.Operators.{Blocked, io, inlet, blocked, outlet}
use Rattle.rules.specs.Machine.{Machine, places, port_places, pipe_at, source_at, outlets}
use Rattle.rules.specs.Wake.{with_state}
use Rattle.rules.specs.Drive.{Why, is_blocked, at_outlet, done, has_bytes, set_stopped, wake_neighbours, settle}
use Rattle.rules.specs.Pipelines.{retire}
use Rattle.laws.specs.Table.{by_bool}
use Rattle.laws.specs.Rows.{All}
use Rattle.laws.specs.JobOk.{JobOk}
use Rattle.order.specs.Inv.{Live}
use Rattle.order.specs.State.{OutletOf}
use Rattle.order.specs.Among.{all_among}
use Rattle.order.specs.Outlets.{outlets_among}
use Rattle.order.specs.Measure.{load}
use Rattle.order.specs.Wakings.{Near, Woken, near_then, woken_none, set_pipe_lem, run_any, neighbours_near}
use Rattle.order.specs.Clears.{retire_near, retire_less}
use Rattle.order.specs.Leaves.{leaf_below}

-- Outlets are ports

-- outlets are in range
pub outlets_low : (m : Machine) (p : ℕ) → JobOk m.job → All (λ x. x < port_places) (outlets m p)
outlets_low m p ok = all_among (λ x. x < port_places) (outlets m p) (λ x a. low x (outlets_among m p x a))
  where
    low : (x : ℕ) → OutletOf m.job p x → x < port_places
    low x (inl o) = omega (arith, o.0, o.1)
    low x (inr (s, (l, t, k, e, i, g))) = let b = leaf_below m.job l i in omega (arith, b, k, e, ok.nodes_high, ok.splits_high)

-- Stopping

module _ (p : ℕ) (m : Machine) where
  -- at its outlet
  stop_outlet : Woken 24 m (set_stopped p at_outlet m)
  unfolding set_stopped
  stop_outlet = set_pipe_lem 24 p (with_state outlet (pipe_at m p)) m refl (omega arith)

  -- blocked, with no bytes unused
  pub stop_blocked : (b : Blocked) → (b ≡ io → has_bytes (source_at m p) ≡ false) → Woken 0 m (set_stopped p (is_blocked b) m)
  unfolding set_stopped
  stop_blocked io h = rw (h refl, set_stopped) (set_pipe_lem 0 p (with_state (blocked io) (pipe_at m p)) m refl (omega arith))
  stop_blocked (inlet i) h = set_pipe_lem 0 p (with_state (blocked (inlet i)) (pipe_at m p)) m refl (omega arith)

  -- in any way
  stop_any : (w : Why) → Woken 25 m (set_stopped p w m)
  unfolding set_stopped
  stop_any (is_blocked io) = by_bool (has_bytes (source_at m p))
      (λ e. rw (e, set_stopped) (run_any p m))
      (λ e. rw (e, set_stopped) (set_pipe_lem 25 p (with_state (blocked io) (pipe_at m p)) m refl (omega arith)))
  stop_any (is_blocked (inlet i)) = set_pipe_lem 25 p (with_state (blocked (inlet i)) (pipe_at m p)) m refl (omega arith)
  stop_any at_outlet = set_pipe_lem 25 p (with_state outlet (pipe_at m p)) m refl (omega arith)
  stop_any done = woken_none 25 m

  module _ (ok : JobOk m.job) (low : p < places) (is : Live m.pipes p) where
    -- and its neighbours are woken
    stopped_near : (c : ℕ) (w : Why) → Woken c m (set_stopped p w m) → Near c m (wake_neighbours p (set_stopped p w m)) × Live (wake_neighbours p (set_stopped p w m)).pipes p
    stopped_near c w t =
        let k : Machine = set_stopped p w m in
        let n = neighbours_near p k low (t.2 p is) (outlets_low k p (rw t.0.2 ok)) in
        (near_then c 0 c m k (wake_neighbours p k) t.0 n.0 (omega arith), n.1)

    -- and it goes if it is done
    settle_near : (c : ℕ) (w : Why) → Woken c m (set_stopped p w m) → Near c m (settle p w m)
    settle_near c (is_blocked b) t = (stopped_near c (is_blocked b) t).0
    settle_near c at_outlet t = (stopped_near c at_outlet t).0
    settle_near c done t =
        let k : Machine = wake_neighbours p (set_stopped p done m) in
        near_then c 0 c m k (retire p k) (stopped_near c done t).0 (retire_near p k) (omega arith)

    -- a run's end adds no load
    pub settle_any : (w : Why) → Near 25 m (settle p w m)
    settle_any w = settle_near 25 w (stop_any w)

    -- a run that ends at the outlet
    pub settle_outlet : Near 24 m (settle p at_outlet m)
    settle_outlet = settle_near 24 at_outlet stop_outlet

    -- a run that is blocked
    pub settle_blocked : (b : Blocked) → (b ≡ io → has_bytes (source_at m p) ≡ false) → Near 0 m (settle p (is_blocked b) m)
    settle_blocked b h = settle_near 0 (is_blocked b) (stop_blocked b h)

    -- a pipeline that is done goes
    pub settle_done : load (settle p done m) < load m
    settle_done =
        let t = stopped_near 25 done (stop_any done) in
        let k : Machine = wake_neighbours p (set_stopped p done m) in
        omega (arith, t.0.0, retire_less p k low t.1)
