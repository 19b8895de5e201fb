-- A whole run, from its rounds.
use Rattle.std.specs.Prelude.{◌≡◌, List, [], ◌∷◌}
use Rattle.std.proofs.Math.Bool.{false}
use Prim.Native.Nat.{ℕ, zero, suc}
use Rattle.rules.specs.Plan.{Row}
use Rattle.rules.specs.Machine.{Machine, pipe_at, set_pipe, with_ready}
use Rattle.rules.specs.Wake.{with_queued}
use Rattle.rules.specs.Drive.{Why, again, stop, round, drive, patience, run}
use Rattle.rules.specs.Scan.{run_next}
use Rattle.order.specs.State.{Rests, Busy, RoundOk}
use Rattle.order.specs.Begin.{ready_live, begin_ok}
use Rattle.order.specs.Settle.{settle_ok}
use Rattle.order.specs.Base.{by_round}

module _ (out : ℕ → List Row) (told p : ℕ) (rounds : (m : Machine) → Busy p [] out told m → RoundOk p out told (round p m)) where
  -- one more round: no cause of 14 comes up
  drive_next : (f : ℕ) (m : Machine) → Busy p [] out told m → ((m' : Machine) → Busy p [] out told m' → RoundOk p out told (drive f p m')) → RoundOk p out told (drive (suc f) p m)
  unfolding drive
  drive_next f m v ih = by_round (round p m)
      (λ m' e. let b : RoundOk p out told (again m') = rw e at (rounds m v) in rw (e, drive, b.inv.sound) (ih m' b))
      (λ w m' e. rw (e, drive) (rw e at (rounds m v)))

  -- rounds until one stops, or the fuel runs out
  pub drive_ok : (f : ℕ) (m : Machine) → Busy p [] out told m → RoundOk p out told (drive f p m)
  unfolding drive
  drive_ok zero m v = v
  drive_ok (suc f) m v = drive_next f m v (drive_ok f)

  -- the newest ready pipeline runs, if the fuel does not run out
  pub run_next_ok : (ps : List ℕ) (m : Machine) → Rests out told m → m.ready ≡ p ∷ ps → (w : Why) (m' : Machine)
      → drive patience p (set_pipe p (with_queued false (pipe_at m p)) (with_ready ps m)) ≡ stop w m' → Rests out told (run_next p ps m)
  unfolding run_next run
  run_next_ok ps m v e w m' d =
      let b : RoundOk p out told (stop w m') = rw d at (drive_ok patience (set_pipe p (with_queued false (pipe_at m p)) (with_ready ps m)) (begin_ok out told p ps m v e)) in
      rw (ready_live out told p ps m v e, run_next, d, run) (settle_ok out told p m' w b)
