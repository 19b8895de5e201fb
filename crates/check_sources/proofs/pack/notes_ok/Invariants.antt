-- `check_sources::pack::notes_ok` meets its contract: what is left to test has the same answer.
use mathlib.Core.Path.{◌≡◌}
use Prim.Native.Nat.{◌-◌}
use lib.ListN.{length}
use Rattle.rules.specs.Table.{all, up_from}
use Rattle.inlet_set.specs.InletSet.{set_of}
use Rattle.pack_source.specs.Pack.{seen_in}
use Rattle.check_sources.specs.Pack.{note_ok}
use Rattle.check_sources.proofs.pack.notes_ok.Given as goal

abbrev pub invariant-loop-i : goal.invariant-loop-i
invariant-loop-i l =
    all (note_ok (seen_in l.x) (set_of l.x.waiting)) (up_from 0 (length (seen_in l.x)))
    ≡ all (note_ok (seen_in l.x) (set_of l.x.waiting)) (up_from l.i (length (seen_in l.x) - l.i))
