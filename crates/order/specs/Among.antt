-- Members of lists of numbers, and lists that rise.
use Rattle.std.specs.Prelude.{◌≡◌, refl, ◌≢◌, ◌⊎◌, Bool, true, false, ℕ, zero, suc, ◌+◌, ◌<◌, ◌≤◌}
use Rattle.std.proofs.Common.{ap, inl, inr, arith}
use mathlib.Core.List.{List, [], ◌∷◌, ◌++◌, map, flat_map}
use Rattle.rules.specs.Table.{filter, any, up_from}
use Rattle.laws.specs.Table.{by_bool, by_eq}
use Rattle.laws.specs.Rising.{Rising, rising_weak}
use Rattle.laws.specs.Rows.{All}

-- x is in a list
abbrev pub Among : ℕ → List ℕ → Type 0
Among x [] = ⊥
Among x (y ∷ ys) = (x ≡ y) ⊎ Among x ys

-- it is there or not
pub by_among {ℓ} : {P : Type ℓ} (x : ℕ) (xs : List ℕ) → (Among x xs → P) → ((Among x xs → ⊥) → P) → P
by_among x [] y n = n (λ a. a)
by_among x (z ∷ zs) y n = by_eq x z (λ e. y (inl e)) (λ d. by_among x zs (λ a. y (inr a)) (λ a. n (λ b. neither x z zs d a b)))
  where
    neither : (u v : ℕ) (us : List ℕ) → u ≢ v → (Among u us → ⊥) → Among u (v ∷ us) → ⊥
    neither u v us f g (inl e) = f e
    neither u v us f g (inr b) = g b

-- numbers from i on
pub among_up : (x i n : ℕ) → i ≤ x → x < i + n → Among x (up_from i n)
unfolding up_from
among_up x i zero h k = absurd (omega arith)
among_up x i (suc n) h k = by_eq x i (λ e. inl e) (λ d. inr (among_up x (suc i) n (omega arith) (omega arith)))

pub up_among : (x i n : ℕ) → Among x (up_from i n) → (i ≤ x) × (x < i + n)
unfolding up_from
up_among x i zero a = absurd a
up_among x i (suc n) (inl e) = (omega arith, omega arith)
up_among x i (suc n) (inr a) = let h : (suc i ≤ x) × (x < suc i + n) = up_among x (suc i) n a in (omega arith, omega arith)

-- members that pass a test
pub among_filter : (f : ℕ → Bool) (x : ℕ) (xs : List ℕ) → Among x xs → f x ≡ true → Among x (filter f xs)
unfolding filter
among_filter f x [] a e = absurd a
among_filter f x (y ∷ ys) (inl q) e = let d : f y ≡ true = rw (← q) e in rw (d, filter) (inl q)
among_filter f x (y ∷ ys) (inr a) e =
    by_bool (f y) (λ d. rw (d, filter) (inr (among_filter f x ys a e))) (λ d. rw (d, filter) (among_filter f x ys a e))

pub filter_among : (f : ℕ → Bool) (x : ℕ) (xs : List ℕ) → Among x (filter f xs) → Among x xs × (f x ≡ true)
unfolding filter
filter_among f x [] a = absurd a
filter_among f x (y ∷ ys) a =
    by_bool (f y) (λ d. taken (rw (d, filter) at a) d (filter_among f x ys)) (λ d. let r : Among x ys × (f x ≡ true) = filter_among f x ys (rw (d, filter) at a) in (inr r.0, r.1))
  where
    taken : (x ≡ y) ⊎ Among x (filter f ys) → f y ≡ true → (Among x (filter f ys) → Among x ys × (f x ≡ true)) → Among x (y ∷ ys) × (f x ≡ true)
    taken (inl q) d h = (inl q, rw q d)
    taken (inr b) d h = (inr (h b).0, (h b).1)

-- members of two lists
pub among_left : (x : ℕ) (xs ys : List ℕ) → Among x xs → Among x (xs ++ ys)
among_left x [] ys a = absurd a
among_left x (z ∷ zs) ys (inl e) = inl e
among_left x (z ∷ zs) ys (inr a) = inr (among_left x zs ys a)

pub among_right : (x : ℕ) (xs ys : List ℕ) → Among x ys → Among x (xs ++ ys)
among_right x [] ys a = a
among_right x (z ∷ zs) ys a = inr (among_right x zs ys a)

pub among_both {ℓ} : {P : Type ℓ} (x : ℕ) (xs ys : List ℕ) → Among x (xs ++ ys) → (Among x xs → P) → (Among x ys → P) → P
among_both x [] ys a l r = r a
among_both x (z ∷ zs) ys (inl e) l r = l (inl e)
among_both x (z ∷ zs) ys (inr a) l r = among_both x zs ys a (λ b. l (inr b)) r

-- images
pub among_map : (f : ℕ → ℕ) (x : ℕ) (xs : List ℕ) → Among x xs → Among (f x) (map f xs)
among_map f x [] a = absurd a
among_map f x (y ∷ ys) (inl e) = inl (ap f e)
among_map f x (y ∷ ys) (inr a) = inr (among_map f x ys a)

pub map_among : (f : ℕ → ℕ) (y : ℕ) (xs : List ℕ) → Among y (map f xs) → (x : ℕ) × Among x xs × (y ≡ f x)
map_among f y [] a = absurd a
map_among f y (x ∷ xs) (inl e) = (x, inl refl, e)
map_among f y (x ∷ xs) (inr a) = let r : (z : ℕ) × Among z xs × (y ≡ f z) = map_among f y xs a in (r.0, inr r.1, r.2)

-- lists for each member
pub among_each : (f : ℕ → List ℕ) (x y : ℕ) (xs : List ℕ) → Among x xs → Among y (f x) → Among y (flat_map f xs)
unfolding flat_map
among_each f x y [] a b = absurd a
among_each f x y (z ∷ zs) (inl e) b = among_left y (f z) (flat_map f zs) (rw e at b)
among_each f x y (z ∷ zs) (inr a) b = among_right y (f z) (flat_map f zs) (among_each f x y zs a b)

pub each_among : (f : ℕ → List ℕ) (y : ℕ) (xs : List ℕ) → Among y (flat_map f xs) → (x : ℕ) × Among x xs × Among y (f x)
unfolding flat_map
each_among f y [] a = absurd a
each_among f y (z ∷ zs) a =
    among_both y (f z) (flat_map f zs) a (λ b. (z, inl refl, b)) (λ b. let r : (x : ℕ) × Among x zs × Among y (f x) = each_among f y zs b in (r.0, inr r.1, r.2))

-- a member passes a test, or none does
pub any_one : (f : ℕ → Bool) (xs : List ℕ) (y : ℕ) → Among y xs → f y ≡ true → any f xs ≡ true
unfolding any
any_one f [] y a e = absurd a
any_one f (x ∷ xs) y (inl q) e = let d : f x ≡ true = rw (← q) e in rw d
any_one f (x ∷ xs) y (inr a) e = let d : any f xs ≡ true = any_one f xs y a e in by_bool (f x) (λ h. rw h) (λ h. rw (h, d))

pub any_none : (f : ℕ → Bool) (xs : List ℕ) → ((x : ℕ) → Among x xs → f x ≡ false) → any f xs ≡ false
unfolding any
any_none f [] h = refl
any_none f (x ∷ xs) h = rw (h x (inl refl)) (any_none f xs (λ y a. h y (inr a)))

-- Lists that rise, from a number on

pub rising_low : (n x : ℕ) (xs : List ℕ) → Rising n xs → Among x xs → n ≤ x
rising_low n x [] r a = absurd a
rising_low n x (y ∷ ys) r (inl e) = omega (arith, r.0)
rising_low n x (y ∷ ys) r (inr a) = let h : suc y ≤ x = rising_low (suc y) x ys r.1 a in omega (arith, r.0)

pub rising_up : (i n : ℕ) → Rising i (up_from i n)
unfolding up_from
rising_up i zero = tt
rising_up i (suc n) = (omega arith, rising_up (suc i) n)

pub rising_filter : (f : ℕ → Bool) (n : ℕ) (xs : List ℕ) → Rising n xs → Rising n (filter f xs)
unfolding filter
rising_filter f n [] r = tt
rising_filter f n (x ∷ xs) r =
    by_bool (f x) (λ d. rw (d, filter) (r.0, rising_filter f (suc x) xs r.1)) (λ d. rw (d, filter) (rising_weak (suc x) n (filter f xs) (omega (arith, r.0)) (rising_filter f (suc x) xs r.1)))

pub rising_append : (n k : ℕ) (xs ys : List ℕ) → Rising n xs → ((x : ℕ) → Among x xs → x < k) → n ≤ k → Rising k ys → Rising n (xs ++ ys)
rising_append n k [] ys r h l s = rising_weak k n ys l s
rising_append n k (x ∷ xs) ys r h l s = (r.0, rising_append (suc x) k xs ys r.1 (λ y a. h y (inr a)) (h x (inl refl)) s)

-- a fact of each member
pub all_among : (P : ℕ → Type 0) (xs : List ℕ) → ((x : ℕ) → Among x xs → P x) → All P xs
all_among P [] h = tt
all_among P (x ∷ xs) h = (h x (inl refl), all_among P xs (λ y a. h y (inr a)))

-- what holds of everything
pub all_of {ℓ} : {A : Type 0} (P : A → Type ℓ) → ((x : A) → P x) → (xs : List A) → All P xs
all_of P h [] = tt
all_of P h (x ∷ xs) = (h x, all_of P h xs)
