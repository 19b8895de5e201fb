-- Document 01, "`InletSet`" of operator.rs: different inlet numbers in the sequence of their insertion, here the newest first.
use Rattle.std.specs.Prelude.{true, false, List, [], ◌∷◌, ℕ, eqb, if◌then◌else◌}
use Rattle.rules.specs.Table.{has}

abbrev pub InletSet : Type 0
InletSet = List ℕ

-- a number that is there is not inserted again
abbrev pub insert : ℕ → InletSet → InletSet
insert i s = if has i s then s else i ∷ s

unfoldable pub insert_all : List ℕ → InletSet → InletSet
insert_all [] s = s
insert_all (i ∷ is) s = insert_all is (insert i s)

-- the first i becomes h
unfoldable pub replace : ℕ → ℕ → InletSet → InletSet
replace i h [] = []
replace i h (x ∷ xs) = elim (eqb x i) [ true ↦ h ∷ xs | false ↦ x ∷ replace i h xs ]

-- the newest goes to the place of the one that is removed
unfoldable pub remove : ℕ → InletSet → InletSet
remove i [] = []
remove i (h ∷ t) = if eqb h i then t else if has i t then replace i h t else h ∷ t
