-- Fuel is enough on every state that passes check 12, hand-made ones too, and more of it changes nothing.
use Rattle.std.specs.Prelude.{◌≡◌, true, ℕ, ◌≤◌}
use Rattle.std.proofs.Common.{arith}
use Rattle.rules.specs.Job.{max_rows}
use Rattle.rules.specs.Plan.{node_of}
use Rattle.rules.specs.Machine.{Machine}
use Rattle.rules.specs.Drive.{drive, patience}
use Rattle.rules.specs.Check.{check}
use Rattle.rules.specs.Scan.{stepping}
use Rattle.order.specs.Inv.{Live}
use Rattle.order.specs.Ranged.{Sizes, Ranged}
use Rattle.order.specs.Bounds.{load_bound, measure_bound}
use Rattle.order.specs.DriveStops.{Ended, drive_same}
use Rattle.order.specs.Fuel.{Answered, drive_ends, steps_stop, step_enough}
use Rattle.order.specs.CheckRanged.{check_ranged}

-- tables of their sizes, and row counts in their range: what the stored form of a state has by itself
module _ (m : Machine) (z : Sizes m) (n : (i : ℕ) → (node_of m.job i).rows ≤ max_rows) (h : check m ≡ true) where
  is_ranged : Ranged m
  is_ranged = check_ranged m z n h

  -- a step's answer is never for lack of fuel
  pub step_ends : Answered (stepping patience m)
  step_ends = step_enough m is_ranged

  pub step_same : (f : ℕ) → patience ≤ f → stepping f m ≡ stepping patience m
  step_same f e = steps_stop f patience m is_ranged (omega (arith, measure_bound m is_ranged)) (measure_bound m is_ranged)

  -- a run of any live pipeline ends
  pub run_ends : (p : ℕ) → Live m.pipes p → Ended (drive patience p m)
  run_ends p l = drive_ends m p is_ranged l

  pub run_same : (f p : ℕ) → Live m.pipes p → patience ≤ f → drive f p m ≡ drive patience p m
  run_same f p l e = drive_same f patience m p is_ranged l (omega (arith, load_bound m is_ranged)) (omega (arith, load_bound m is_ranged))
