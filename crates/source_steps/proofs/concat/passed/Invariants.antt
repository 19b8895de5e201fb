-- `source_steps::concat::passed` meets its contract.
use mathlib.Core.Path.{◌≡◌}
use Prim.Native.Nat.{◌-◌}
use Rattle.rules.specs.Operators.{concat_at}
use Rattle.rules.specs.Machine.{shows}
use Rattle.tables.specs.View.{view}
use Rattle.source_steps.proofs.concat.passed.Given as goal

abbrev pub invariant-loop-at : goal.invariant-loop-at
invariant-loop-at l = concat_at (shows (view l.s) l.p.at) (l.n - l.i) l.i ≡ concat_at (shows (view l.s) l.p.at) (l.n - l.at) l.at
