-- `reach::places::split_at` meets its contract.
use mathlib.Core.Path.{ap, ◌∙◌}
use mathlib.Core.Option.{Option, get_or}
use Prim.Native.Nat.{ℕ}
use Rattle.reach.specs.Places.{number_is}
use Rattle.reach.proofs.places.split_at.Goals as goal

pub returns : goal.returns
returns c =
    c.from.ensures ∙ c.unwrap_or.ensures ∙ number_is c.load_active.result ∙ ap (λ (o : Option ℕ). get_or o 0) c.load_active.ensures
