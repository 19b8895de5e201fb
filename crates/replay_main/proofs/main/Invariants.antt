-- `replay_main::main` counts up to 1,000,000 sessions, of which no more are alike.
use Rattle.std.proofs.Common.{◌≤◌, ◌-◌}
use Rattle.replay_main.proofs.main.Given as goal

abbrev pub invariant-loop-sessions : goal.invariant-loop-sessions
invariant-loop-sessions l = (l.alike ≤ l.sessions) × (l.sessions ≤ 1000000)

abbrev pub decreases-loop-sessions : goal.decreases-loop-sessions
decreases-loop-sessions l = 1000000 - l.sessions
