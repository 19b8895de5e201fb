-- The one that goes next, as the code holds it.
use Rattle.std.specs.Prelude.{◌≡◌, ℕ, Option, None, Some}
use Rattle.std.proofs.Common.{sym, ap, ◌∙◌}
use Rattle.std.proofs.Math.Option as maybe
use Rattle.numbers.specs.declared.index.Index.{Index}
use Rattle.rules.specs.Machine.{Machine}
use Rattle.order.specs.Ranged.{Ranged}
use Rattle.leaving.specs.Going.{next_of, retire_rising, Retiring}

abbrev pub place_of : Option (Index 96) → maybe.Option ℕ
place_of None = maybe.none
place_of (Some p) = maybe.some p.at

module _ (k : ℕ) (m₀ m : Machine) (x : Option (Index 96)) (r : Ranged m) (s : retire_rising k m ≡ retire_rising k m₀)
    (e : place_of x ≡ next_of m k) where
  pub found : (p : Index 96) → x ≡ Some p → Retiring k m₀ m (maybe.some p.at)
  found p t = record { ranged = r; same = s; found = ap place_of (sym t) ∙ e }

  pub none_found : x ≡ None → Retiring k m₀ m maybe.none
  none_found t = record { ranged = r; same = s; found = ap place_of (sym t) ∙ e }
