-- What a function does to the state that it is lent.
use Rattle.std.specs.Prelude.{◌≡◌, List, ℕ, drop}
use Rattle.std.proofs.Common.{ap, ◌∙◌}
use Rattle.rules.specs.Machine.{Machine}
use Rattle.tables.specs.View.{view, machine_len}

-- bytes s become t: the machine that they say is changed by a rule, and what lies past it stays
abbrev pub Becomes : (Machine → Machine) → List ℕ → List ℕ → Type 0
Becomes f s t = (view t ≡ f (view s)) × (drop machine_len t ≡ drop machine_len s)

-- one change after another
pub both : (f g : Machine → Machine) (s t u : List ℕ) → Becomes f s t → Becomes g t u → Becomes (λ m. g (f m)) s u
both f g s t u a b = (b.0 ∙ ap g a.0, b.1 ∙ a.1)
