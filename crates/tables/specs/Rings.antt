-- Lists with so many places.
use Rattle.std.specs.Prelude.{ℕ, ◌≤◌, ◌<◌, ◌≡◌, refl, true, false, List, [], ◌∷◌, ◌++◌, ltb, length, if◌then◌else◌}
use Rattle.std.proofs.Common.{lt-ltb, le-ltb}

module _ {A : Type 0} where
  -- one more behind the last, where there are fewer than n
  abbrev pub appended : ℕ → A → List A → List A
  appended n v l = if ltb (length l) n then l ++ v ∷ [] else l

  -- l, which is o, is full
  pub appended_not : (n : ℕ) (v : A) (l o : List A) → l ≡ o → n ≤ length l → (false ≡ ltb (length o) n) × (l ≡ appended n v o)
  appended_not n v l o e h = rw (← e, le-ltb (length l) n h) (refl, refl)

  -- l, which is o, has a place left, and t has one more
  pub appended_one : (n : ℕ) (v : A) (l o t : List A) → l ≡ o → length l < n → t ≡ l ++ v ∷ [] → (true ≡ ltb (length o) n) × (t ≡ appended n v o)
  appended_one n v l o t e h q = rw (← e, lt-ltb (length l) n h) (refl, q)
