-- A choice whose test is known.
use Rattle.std.specs.Prelude.{◌≡◌, refl, Bool, true, false, if◌then◌else◌}
use Rattle.laws.specs.Table.{clash}

module _ {A : Type 0} where
  -- as the rules write it by cases
  abbrev pub cases : Bool → A → A → A
  cases b x y = elim b [ true ↦ x | false ↦ y ]

  pub chosen : (b : Bool) (x y : A) → b ≡ true → x ≡ (if b then x else y)
  chosen true x y e = refl
  chosen false x y e = clash (cc)

  pub declined : (b : Bool) (x y : A) → b ≡ false → y ≡ (if b then x else y)
  declined true x y e = clash (cc)
  declined false x y e = refl

  pub first_case : (b : Bool) (x y : A) → b ≡ true → x ≡ cases b x y
  first_case true x y e = refl
  first_case false x y e = clash (cc)

  pub last_case : (b : Bool) (x y : A) → b ≡ false → y ≡ cases b x y
  last_case true x y e = clash (cc)
  last_case false x y e = refl
