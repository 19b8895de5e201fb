-- The state of a pipeline that stopped, by what it stopped for.
use Rattle.std.specs.Prelude.{◌≡◌, Bool, ℕ}
use Rattle.std.proofs.Common.{sym, ◌∙◌}
use Rattle.std.proofs.Math.Bool.{true, false}
use Rattle.rules.specs.Operators.{Blocked, io, inlet, blocked, Source}
use Rattle.rules.specs.Machine.{Machine, source_at}
use Rattle.rules.specs.Wake.{set_state, make_runnable}
use Rattle.rules.specs.Drive.{is_blocked, has_bytes, set_stopped}

module _ (p : ℕ) (m : Machine) where
  -- bytes are unused, or not
  pub bytes_unused : (x : Source) (b : Bool) → x ≡ source_at m p → b ≡ has_bytes x → b ≡ true → make_runnable p m ≡ set_stopped p (is_blocked io) m
  unfolding set_stopped
  bytes_unused x b e d t = let u : has_bytes (source_at m p) ≡ true = rw (← e) (sym d ∙ t) in rw (u, set_stopped)

  pub bytes_used : (x : Source) (b : Bool) → x ≡ source_at m p → b ≡ has_bytes x → b ≡ false → set_state p (blocked io) m ≡ set_stopped p (is_blocked io) m
  unfolding set_stopped
  bytes_used x b e d t = let u : has_bytes (source_at m p) ≡ false = rw (← e) (sym d ∙ t) in rw (u, set_stopped)

  -- bytes, or an inlet
  pub stopped_io : (b : Blocked) → b ≡ io → set_stopped p (is_blocked io) m ≡ set_stopped p (is_blocked b) m
  stopped_io b e = rw e

  pub stopped_inlet : (i : ℕ) (b : Blocked) → b ≡ inlet i → set_state p (blocked (inlet i)) m ≡ set_stopped p (is_blocked b) m
  unfolding set_stopped
  stopped_inlet i b e = rw e
