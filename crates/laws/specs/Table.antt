-- Laws of tables, and case splits that keep the equation at hand.
use Rattle.std.specs.Prelude.{◌≡◌, ◌≢◌, Bool, true, false, ◌&&◌, ◌||◌, List, [], ◌∷◌, ◌++◌, ℕ, zero, suc, ◌<◌, ◌≤◌, length, get_or, set, replicate}
use Rattle.std.proofs.Math.Path.{refl}
use Rattle.std.proofs.Common.{ap, arith}
use Rattle.std.proofs.Math.Option.{Option, none, some}
use Rattle.std.proofs.Math.Decide.{ℕ_discrete}
use Rattle.rules.specs.Table.{get, put}

module _ {A : Type 0} where
  -- what was written is read
  pub same : (d : A) (l : List A) (i : ℕ) (v : A) → get d (put d l i v) i ≡ v
  same d [] zero v = refl
  same d [] (suc i) v = same d [] i v
  same d (x ∷ xs) zero v = refl
  same d (x ∷ xs) (suc i) v = same d xs i v

  -- and elsewhere what was there
  pub other : (d : A) (l : List A) (i j : ℕ) (v : A) → j ≢ i → get d (put d l i v) j ≡ get d l j
  other d [] zero zero v h = absurd (h refl)
  other d [] zero (suc j) v h = refl
  other d [] (suc i) zero v h = refl
  other d [] (suc i) (suc j) v h = other d [] i j v (λ e. h (ap suc e))
  other d (x ∷ xs) zero zero v h = absurd (h refl)
  other d (x ∷ xs) zero (suc j) v h = refl
  other d (x ∷ xs) (suc i) zero v h = refl
  other d (x ∷ xs) (suc i) (suc j) v h = other d xs i j v (λ e. h (ap suc e))

  pub get_replicate : (d : A) (n i : ℕ) → get d (replicate n d) i ≡ d
  get_replicate d zero i = refl
  get_replicate d (suc n) zero = refl
  get_replicate d (suc n) (suc i) = get_replicate d n i

  pub get_past : (d : A) (l : List A) (i : ℕ) → length l ≤ i → get d l i ≡ d
  get_past d [] i h = refl
  get_past d (x ∷ l) zero h = absurd (omega arith)
  get_past d (x ∷ l) (suc i) h = get_past d l i (omega arith)

  pub put_length : (d : A) (l : List A) (i : ℕ) (v : A) → i < length l → length (put d l i v) ≡ length l
  put_length d [] i v h = absurd (omega arith)
  put_length d (x ∷ l) zero v h = refl
  put_length d (x ∷ l) (suc i) v h = ap suc (put_length d l i v (omega arith))

  -- the library's reads and writes: in range a store is a `put`
  pub get_get_or : (d : A) (l : List A) (i : ℕ) → get d l i ≡ get_or l i d
  get_get_or d [] i = refl
  get_get_or d (x ∷ l) zero = refl
  get_get_or d (x ∷ l) (suc i) = get_get_or d l i

  pub put_set : (d : A) (l : List A) (i : ℕ) (v : A) → i < length l → put d l i v ≡ set l i v
  put_set d [] i v h = absurd (omega arith)
  put_set d (x ∷ l) zero v h = refl
  put_set d (x ∷ l) (suc i) v h = rw (put_set d l i v (omega arith))

  -- what is read from an appended list
  pub get_front : (d : A) (l k : List A) (i : ℕ) → i < length l → get d (l ++ k) i ≡ get d l i
  get_front d [] k i h = absurd (omega arith)
  get_front d (x ∷ l) k zero h = refl
  get_front d (x ∷ l) k (suc i) h = get_front d l k i (omega arith)

  pub get_last : (d : A) (l : List A) (x : A) → get d (l ++ x ∷ []) (length l) ≡ x
  get_last d [] x = refl
  get_last d (y ∷ l) x = get_last d l x

  -- a function changed at one number
  pub upd : (ℕ → A) → ℕ → A → ℕ → A
  upd f i v j = elim (ℕ_discrete j i) [ yes e ↦ v | no n ↦ f j ]

  pub upd_same : (f : ℕ → A) (i : ℕ) (v : A) → upd f i v i ≡ v
  unfolding upd
  upd_same f i v = elim (ℕ_discrete i i) as (λ w. elim w as (λ u. A) [ yes e ↦ v | no n ↦ f i ] ≡ v) [ yes e ↦ refl | no n ↦ absurd (n refl) ]

  pub upd_other : (f : ℕ → A) (i j : ℕ) (v : A) → j ≢ i → upd f i v j ≡ f j
  unfolding upd
  upd_other f i j v h = elim (ℕ_discrete j i) as (λ w. elim w as (λ u. A) [ yes e ↦ v | no n ↦ f j ] ≡ f j) [ yes e ↦ absurd (h e) | no n ↦ refl ]

pub ruleset tables = (same, other, upd_same, upd_other)

-- cases of a term, with the equation
module _ {ℓ} {P : Type ℓ} where
  abbrev pub by_bool : (b : Bool) → (b ≡ true → P) → (b ≡ false → P) → P
  by_bool true t f = t refl
  by_bool false t f = f refl

  abbrev pub by_eq : (i j : ℕ) → (i ≡ j → P) → (i ≢ j → P) → P
  by_eq i j t f = elim (ℕ_discrete i j) [ yes e ↦ t e | no n ↦ f n ]

  abbrev pub by_list : {A : Type 0} (l : List A) → (l ≡ [] → P) → ((x : A) (xs : List A) → l ≡ x ∷ xs → P) → P
  by_list [] n c = n refl
  by_list (x ∷ xs) n c = c x xs refl

  abbrev pub by_option : {A : Type 0} (o : Option A) → (o ≡ none → P) → ((x : A) → o ≡ some x → P) → P
  by_option none n s = n refl
  by_option (some x) n s = s x refl

-- two constructors that are equal: `clash (cc (..))` proves anything
pub clash {ℓ} : {P : Type ℓ} → ◌≡◌ {A = ℕ} 0 1 → P
clash e = absurd (zero_ne_one e)
  where
    zero_ne_one : ◌≡◌ {A = ℕ} 0 1 → ⊥
    zero_ne_one z = omega arith

-- tests taken apart
pub and_left : (a b : Bool) → a && b ≡ true → a ≡ true
and_left true b e = refl
and_left false b e = e

pub and_right : (a b : Bool) → a && b ≡ true → b ≡ true
and_right true b e = e
and_right false b e = clash (cc)

pub and_both : (a b : Bool) → a ≡ true → b ≡ true → a && b ≡ true
and_both true b p q = q
and_both false b p q = p

pub or_left : (a b : Bool) → a || b ≡ false → a ≡ false
or_left true b e = e
or_left false b e = refl

pub or_right : (a b : Bool) → a || b ≡ false → b ≡ false
or_right true b e = clash (cc)
or_right false b e = e
