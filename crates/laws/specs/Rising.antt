-- Lists of numbers in order: a rising list is known by its members, and a falling one backwards is rising.
use Rattle.std.specs.Prelude.{◌≡◌, refl, ◌≢◌, Bool, true, false, ◌||◌, ℕ, zero, suc, ◌<◌, ◌≤◌, length, take, drop, eqb}
use Rattle.std.proofs.Common.{sym, ◌∙◌, arith, eq-eqb, ne_eqb}
use mathlib.Core.List.{List, [], ◌∷◌, map, reverse, reverse_aux}
use Rattle.rules.specs.Table.{has}
use Rattle.laws.specs.Table.{by_bool, by_eq, clash}

-- rising, none below a
abbrev pub Rising : ℕ → List ℕ → Type 0
Rising a [] = Unit {0}
Rising a (x ∷ xs) = (a ≤ x) × Rising (suc x) xs

-- falling, all below b
abbrev pub Falling : ℕ → List ℕ → Type 0
Falling b [] = Unit {0}
Falling b (x ∷ xs) = (x < b) × Falling x xs

-- members of a list with one more in front
pub has_head : (x : ℕ) (xs : List ℕ) → has x (x ∷ xs) ≡ true
unfolding has
has_head x xs = rw (eq-eqb x x refl)

-- and of the rest
pub has_tail : (i x : ℕ) (xs : List ℕ) → i ≢ x → has i (x ∷ xs) ≡ has i xs
unfolding has
has_tail i x xs h = rw (ne_eqb i x h)

-- an empty list has none
pub has_nil : (i : ℕ) → has i [] ≡ false
unfolding has
has_nil i = refl

-- functions that agree on the members
pub map_has : {A : Type 0} (f g : ℕ → A) (l : List ℕ) → ((i : ℕ) → has i l ≡ true → f i ≡ g i) → map f l ≡ map g l
map_has f g [] h = refl
map_has f g (x ∷ l) h = rw (h x (has_head x l), map_has f g l (λ i e. h i (by_eq i x (λ q. rw q (has_head x l)) (λ m. has_tail i x l m ∙ e))))

-- a member is not below the start
pub rising_from : (a : ℕ) (l : List ℕ) (i : ℕ) → Rising a l → has i l ≡ true → a ≤ i
rising_from a [] i r h = clash (cc (has_nil i))
rising_from a (x ∷ l) i r h = by_eq i x (λ e. omega arith) (λ n. let k : x < i = rising_from (suc x) l i r.1 (sym (has_tail i x l n) ∙ h) in omega arith)

-- what is below the start is no member
pub rising_low : (a : ℕ) (l : List ℕ) (i : ℕ) → Rising a l → i < a → has i l ≡ false
rising_low a l i r h = by_bool (has i l) (λ e. absurd (omega (arith, rising_from a l i r e))) (λ e. e)

-- a lower start does
pub rising_weak : (a b : ℕ) (l : List ℕ) → b ≤ a → Rising a l → Rising b l
rising_weak a b [] h r = tt
rising_weak a b (x ∷ l) h r = (omega arith, r.1)

-- a member of a falling list is below its bound
pub falling_high : (b : ℕ) (l : List ℕ) (i : ℕ) → Falling b l → has i l ≡ true → i < b
falling_high b [] i r h = clash (cc (has_nil i))
falling_high b (x ∷ l) i r h = by_eq i x (λ e. omega arith) (λ n. let k : i < x = falling_high x l i r.1 (sym (has_tail i x l n) ∙ h) in omega arith)

-- a higher bound does
pub falling_weak : (a b : ℕ) (l : List ℕ) → a ≤ b → Falling a l → Falling b l
falling_weak a b [] h r = tt
falling_weak a b (x ∷ l) h r = (omega arith, r.1)

-- the tails of two rising lists with one head have the same members
rising_tails : (x y : ℕ) (l k : List ℕ) → x ≡ y → Rising (suc x) l → Rising (suc x) k → ((i : ℕ) → has i (x ∷ l) ≡ has i (y ∷ k)) → (i : ℕ) → has i l ≡ has i k
rising_tails x y l k q r s h i =
    by_eq i x (λ e. rising_low (suc x) l i r (omega arith) ∙ sym (rising_low (suc x) k i s (omega arith)))
    (λ n. sym (has_tail i x l n) ∙ h i ∙ has_tail i y k (omega arith))

-- two rising lists with the same members begin alike
rising_heads : (a x y : ℕ) (l k : List ℕ) → Rising a (x ∷ l) → Rising a (y ∷ k) → ((i : ℕ) → has i (x ∷ l) ≡ has i (y ∷ k)) → x ≡ y
rising_heads a x y l k r s h = omega (arith, rising_from y (y ∷ k) x (omega arith, s.1) (sym (h x) ∙ has_head x l), rising_from x (x ∷ l) y (omega arith, r.1) (h y ∙ has_head y k))

-- the step of `rising_ext`
rising_cons : (a x y : ℕ) (l k : List ℕ) → Rising a (x ∷ l) → Rising a (y ∷ k) → ((i : ℕ) → has i (x ∷ l) ≡ has i (y ∷ k))
    → (Rising (suc x) l → Rising (suc x) k → ((i : ℕ) → has i l ≡ has i k) → l ≡ k) → x ∷ l ≡ y ∷ k
rising_cons a x y l k r s h ih =
    let e : x ≡ y = rising_heads a x y l k r s h in
    let s₁ : Rising (suc x) k = rw e s.1 in
    cc (e, ih r.1 s₁ (rising_tails x y l k e r.1 s₁ h))

-- two rising lists with the same members are one
pub rising_ext : (a : ℕ) (l k : List ℕ) → Rising a l → Rising a k → ((i : ℕ) → has i l ≡ has i k) → l ≡ k
rising_ext a [] [] r s h = refl
rising_ext a [] (y ∷ k) r s h = clash (cc (has_nil y, h y, has_head y k))
rising_ext a (x ∷ l) [] r s h = clash (cc (has_nil x, h x, has_head x l))
rising_ext a (x ∷ l) (y ∷ k) r s h = rising_cons a x y l k r s h (rising_ext (suc x) l k)

-- a falling list backwards is rising, with the same members
falling_onto : (b : ℕ) (l r : List ℕ) → Falling b l → Rising b r → Rising 0 (reverse_aux l r)
falling_onto b [] r f s = rising_weak b 0 r (omega arith) s
falling_onto b (x ∷ l) r f s = falling_onto x l (x ∷ r) f.1 (omega arith, rising_weak b (suc x) r f.0 s)

-- with nothing behind it
pub falling_reverse : (b : ℕ) (l : List ℕ) → Falling b l → Rising 0 (reverse l)
falling_reverse b l f = falling_onto b l [] f tt

-- tests in another order
swapped : (a b c : Bool) → a || (b || c) ≡ b || a || c
swapped true true c = refl
swapped true false c = refl
swapped false true c = refl
swapped false false c = refl

-- the members of a list put backwards before another
has_onto : (i : ℕ) (l r : List ℕ) → has i (reverse_aux l r) ≡ has i l || has i r
unfolding has
has_onto i [] r = refl
has_onto i (x ∷ l) r = has_onto i l (x ∷ r) ∙ swapped (has i l) (eqb i x) (has i r)

-- a test or none
or_nil : (a : Bool) → a || false ≡ a
or_nil true = refl
or_nil false = refl

-- the members backwards
pub has_reverse : (i : ℕ) (l : List ℕ) → has i (reverse l) ≡ has i l
has_reverse i l = has_onto i l [] ∙ rw (has_nil i) (or_nil (has i l))

-- the first n of a falling list, and the rest
pub falling_take : (b n : ℕ) (l : List ℕ) → Falling b l → Falling b (take n l)
falling_take b zero l f = tt
falling_take b (suc n) [] f = tt
falling_take b (suc n) (x ∷ l) f = (f.0, falling_take x n l f.1)

-- the rest keeps the bound
pub falling_drop : (b n : ℕ) (l : List ℕ) → Falling b l → Falling b (drop n l)
falling_drop b zero l f = f
falling_drop b (suc n) [] f = tt
falling_drop b (suc n) (x ∷ l) f = falling_weak x b (drop n l) (omega arith) (falling_drop x n l f.1)

-- what is behind the first n is in the list, and not among them
pub drop_has : (b n : ℕ) (l : List ℕ) (i : ℕ) → Falling b l → has i (drop n l) ≡ true → (has i l ≡ true) × (has i (take n l) ≡ false)
drop_has b zero l i f h = (h, has_nil i)
drop_has b (suc n) [] i f h = (h, has_nil i)
drop_has b (suc n) (x ∷ l) i f h =
    let k : i < x = falling_high x (drop n l) i (falling_drop x n l f.1) h in
    let m : i ≢ x = omega arith in
    rw (has_tail i x l m, has_tail i x (take n l) m) (drop_has x n l i f.1 h)

-- and what is not among them is behind
pub drop_rest : (n : ℕ) (l : List ℕ) (i : ℕ) → has i l ≡ true → has i (take n l) ≡ false → has i (drop n l) ≡ true
drop_rest zero l i h k = h
drop_rest (suc n) [] i h k = h
drop_rest (suc n) (x ∷ l) i h k =
    by_eq i x (λ e. clash (cc (has_head x (take n l))))
    (λ m. drop_rest n l i (sym (has_tail i x l m) ∙ h) (sym (has_tail i x (take n l) m) ∙ k))

-- the first n are in the list
pub take_has : (n : ℕ) (l : List ℕ) (i : ℕ) → has i (take n l) ≡ true → has i l ≡ true
take_has zero l i h = clash (cc (has_nil i))
take_has (suc n) [] i h = h
take_has (suc n) (x ∷ l) i h = by_eq i x (λ e. rw e (has_head x l)) (λ m. rw (has_tail i x l m) (take_has n l i (sym (has_tail i x (take n l) m) ∙ h)))

-- what stands before one of the first n is among them
pub take_before : (b n : ℕ) (l : List ℕ) (c i : ℕ) → Falling b l → has c (take n l) ≡ true → c < i → has i l ≡ true → has i (take n l) ≡ true
take_before b zero l c i f h k m = clash (cc (has_nil c))
take_before b (suc n) [] c i f h k m = m
take_before b (suc n) (x ∷ l) c i f h k m =
    by_eq i x (λ e. rw e (has_head x (take n l)))
    (λ w.
    let y : has i l ≡ true = sym (has_tail i x l w) ∙ m in
    let z : i < x = falling_high x l i f.1 y in
    rw (has_tail i x (take n l) w) (take_before x n l c i f.1 (sym (has_tail c x (take n l) (omega arith)) ∙ h) k y))

-- the member of a list of one
single_is : (i x : ℕ) → has i (x ∷ []) ≡ true → i ≡ x
single_is i x h = by_eq i x (λ e. e) (λ m. clash (cc (has_tail i x [] m, has_nil i)))

-- two members of a list of one are one
pub single : (l : List ℕ) (i j : ℕ) → length l ≡ 1 → has i l ≡ true → has j l ≡ true → i ≡ j
single [] i j e h k = absurd (omega arith)
single (x ∷ []) i j e h k = single_is i x h ∙ sym (single_is j x k)
single (x ∷ y ∷ l) i j e h k = absurd (omega arith)
