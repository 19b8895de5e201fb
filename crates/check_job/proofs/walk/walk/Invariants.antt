-- `check_job::walk::walk` meets its contract.
use mathlib.Core.Path.{◌≡◌}
use mathlib.Core.Bool.{true}
use mathlib.Core.List.{[]}
use Prim.Native.Nat.{◌-◌, ◌≤◌}
use Rattle.std.specs.Prelude.{IfSome}
use Rattle.stored.specs.Walk.{walk}
use Rattle.tables.specs.View.{view}
use Rattle.check_job.specs.Seen.{Marked, DistinctTo}
use Rattle.check_job.specs.Stack.{top_of}
use Rattle.check_job.specs.Walk.{walks, Short}
use Rattle.check_job.proofs.walk.walk.Given as goal

abbrev pub invariant-loop-i : goal.invariant-loop-i
invariant-loop-i l = IfSome l.top (λ t. t ≤ l.i) × Short (view l.s).job.nodes l.i × Marked (view l.s).job.nodes l.i l.marks × (l.distinct ≡ true → DistinctTo (view l.s).job.nodes l.i)
    × (walk (view l.s).job.nodes 0 l.n [] ≡ walks (view l.s).job.nodes l.i (l.n - l.i) (top_of l.free l.top))
