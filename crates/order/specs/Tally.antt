-- Counting: how often numbers occur, sums over places, and how many pipelines live.
use Rattle.std.specs.Prelude.{◌≡◌, refl, ◌≢◌, Bool, true, false, List, [], ◌∷◌, ℕ, zero, suc, ◌+◌, ◌<◌, ◌≤◌, length, eqb, ltb}
use Rattle.std.proofs.Common.{sym, ◌∙◌, arith, eq-eqb, ne_eqb, ltb-true, ltb-false}
use Rattle.rules.specs.Table.{put, filter, sum_of, up_from, has}
use Rattle.rules.specs.Machine.{Pipeline, no_pipe}
use Rattle.laws.specs.Table.{by_bool, by_eq}
use Rattle.laws.specs.Rows.{All}
use Rattle.order.specs.Inv.{bit, count, lives, pipe_of, Differ}

-- a bit is at most one
pub bit_most : (b : Bool) → bit b ≤ 1
bit_most true = omega arith
bit_most false = omega arith

-- Sums over the n numbers from a on

-- the same terms
pub sum_same : (f g : ℕ → ℕ) (a n : ℕ) → ((i : ℕ) → a ≤ i → i < a + n → f i ≡ g i) → sum_of f (up_from a n) ≡ sum_of g (up_from a n)
unfolding sum_of up_from
sum_same f g a zero h = refl
sum_same f g a (suc n) h = rw (h a (omega arith) (omega arith), sum_same f g (suc a) n (λ i l u. h i (omega arith) (omega arith)))

-- one term changed
pub sum_change : (f g : ℕ → ℕ) (x a n : ℕ) → a ≤ x → x < a + n → ((i : ℕ) → i ≢ x → f i ≡ g i) → sum_of f (up_from a n) + g x ≡ sum_of g (up_from a n) + f x
unfolding sum_of up_from
sum_change f g x a zero l u h = absurd (omega arith)
sum_change f g x a (suc n) l u h = by_eq a x
    (λ e. let t = sum_same f g (suc a) n (λ i p q. h i (λ d. omega arith)) in rw e (omega (arith, rw e at t)))
    (λ d. let t = sum_change f g x (suc a) n (omega arith) (omega arith) h in let s = h a d in omega (arith, t, s))

-- no terms
pub sum_none : (f : ℕ → ℕ) (a n : ℕ) → ((i : ℕ) → a ≤ i → i < a + n → f i ≡ 0) → sum_of f (up_from a n) ≡ 0
unfolding sum_of up_from
sum_none f a zero h = refl
sum_none f a (suc n) h = let t = sum_none f (suc a) n (λ i l u. h i (omega arith) (omega arith)) in let s = h a (omega arith) (omega arith) in omega (arith, t, s)

-- a sum has each of its terms
pub sum_least : (f : ℕ → ℕ) (x a n : ℕ) → a ≤ x → x < a + n → f x ≤ sum_of f (up_from a n)
unfolding sum_of up_from
sum_least f x a zero l u = absurd (omega arith)
sum_least f x a (suc n) l u = by_eq a x (λ e. rw e (omega arith)) (λ d. let t = sum_least f x (suc a) n (omega arith) (omega arith) in omega (arith, t))

-- a sum of bits
pub bits_most : (f : ℕ → Bool) (a n : ℕ) → sum_of (λ i. bit (f i)) (up_from a n) ≤ n
unfolding sum_of up_from
bits_most f a zero = omega arith
bits_most f a (suc n) = omega (arith, bit_most (f a), bits_most f (suc a) n)

-- one of which is not set
pub bits_less : (f : ℕ → Bool) (x a n : ℕ) → a ≤ x → x < a + n → f x ≡ false → sum_of (λ i. bit (f i)) (up_from a n) < n
unfolding sum_of up_from
bits_less f x a zero l u e = absurd (omega arith)
bits_less f x a (suc n) l u e = by_eq a x
    (λ d. let b : bit (f a) ≡ 0 = rw (d, e) in omega (arith, b, bits_most f (suc a) n))
    (λ d. let t = bits_less f x (suc a) n (omega arith) (omega arith) e in omega (arith, bit_most (f a), t))

-- Lists of numbers

-- two sums at once
sum_add : (f g : ℕ → ℕ) (a n : ℕ) → sum_of (λ i. f i + g i) (up_from a n) ≡ sum_of f (up_from a n) + sum_of g (up_from a n)
unfolding sum_of up_from
sum_add f g a zero = refl
sum_add f g a (suc n) = omega (arith, sum_add f g (suc a) n)

-- one number is one of its kind
sum_one : (x n : ℕ) → x < n → sum_of (λ i. bit (eqb i x)) (up_from 0 n) ≡ 1
sum_one x n h =
    let z : sum_of (λ i. 0) (up_from 0 n) ≡ 0 = sum_none (λ i. 0) 0 n (λ i l u. refl) in
    let c = sum_change (λ i. bit (eqb i x)) (λ i. 0) x 0 n (omega arith) (omega arith) (λ i d. rw (ne_eqb i x d)) in
    let b : bit (eqb x x) ≡ 1 = rw (eq-eqb x x refl) in
    omega (arith, z, c, b)

-- a list of numbers below n is as long as they occur
pub count_sum : (n : ℕ) (xs : List ℕ) → ((q : ℕ) → n ≤ q → count q xs ≡ 0) → length xs ≡ sum_of (λ q. count q xs) (up_from 0 n)
count_sum n [] h = sym (sum_none (λ q. 0) 0 n (λ i l u. refl))
count_sum n (x ∷ xs) h =
    let below : x < n = by_bool (ltb x n) (λ e. ltb-true x n e) (λ e.
    let b : bit (eqb x x) ≡ 1 = rw (eq-eqb x x refl) in
    let z = h x (ltb-false x n e) in
    absurd (omega (arith, b, z)))
    in
    let t = count_sum n xs (λ q l. let e = h q l in omega (arith, e)) in
    let s = sum_add (λ q. bit (eqb q x)) (λ q. count q xs) 0 n in
    omega (arith, t, s, sum_one x n below)

-- each number that a test passes occurs once, and only those
module _ (n : ℕ) (f : ℕ → Bool) (xs : List ℕ) (h : (q : ℕ) → count q xs ≡ bit (f q)) (k : (q : ℕ) → n ≤ q → f q ≡ false) where
  -- so many there are
  counted : length xs ≡ sum_of (λ q. bit (f q)) (up_from 0 n)
  counted = count_sum n xs (λ q l. h q ∙ rw (k q l)) ∙ sum_same (λ q. count q xs) (λ q. bit (f q)) 0 n (λ i l u. h i)

  -- no more than n
  pub few : length xs ≤ n
  few = omega (arith, counted, bits_most f 0 n)

  -- one that does not occur
  pub fewer : (x : ℕ) → x < n → f x ≡ false → length xs < n
  fewer x l e = let b = bits_less f x 0 n (omega arith) (omega arith) e in omega (arith, counted, b)

-- Pipelines

-- no more live than there are places
pub lives_most : (P : List Pipeline) → lives P ≤ length P
lives_most [] = omega arith
lives_most (x ∷ xs) = omega (arith, bit_most x.live, lives_most xs)

-- one pipeline changed
pub lives_put : (P : List Pipeline) (p : ℕ) (v : Pipeline) → lives (put no_pipe P p v) + bit (pipe_of P p).live ≡ lives P + bit v.live
lives_put [] zero v = omega arith
lives_put [] (suc p) v = omega (arith, lives_put [] p v)
lives_put (x ∷ xs) zero v = omega arith
lives_put (x ∷ xs) (suc p) v = omega (arith, lives_put xs p v)

-- Filters

-- the same test
pub filter_same : {A : Type 0} (f g : A → Bool) (xs : List A) → ((x : A) → f x ≡ g x) → filter f xs ≡ filter g xs
unfolding filter
filter_same f g [] h = refl
filter_same f g (x ∷ xs) h = by_bool (g x) (λ e. rw (h x ∙ e, e, filter, filter_same f g xs h)) (λ e. rw (h x ∙ e, e, filter) (filter_same f g xs h))

-- a stronger test passes fewer
pub filter_fewer : {A : Type 0} (f g : A → Bool) (xs : List A) → All (λ x. f x ≡ true → g x ≡ true) xs → length (filter f xs) ≤ length (filter g xs)
unfolding filter
filter_fewer f g [] h = omega arith
filter_fewer f g (x ∷ xs) h = let t = filter_fewer f g xs h.1 in by_bool (f x)
    (λ e. rw (e, h.0 e, filter) (omega (arith, t)))
    (λ e. by_bool (g x) (λ d. rw (e, d, filter) (omega (arith, t))) (λ d. rw (e, d, filter) t))

-- numbers that differ stand there once
pub differ_count : (q : ℕ) (xs : List ℕ) → Differ xs → count q xs ≡ bit (has q xs)
unfolding has
differ_count q [] u = refl
differ_count q (x ∷ xs) u = by_eq q x
    (λ e. rw (eq-eqb q x e, differ_count q xs u.1, e, u.0))
    (λ n. rw (ne_eqb q x n, differ_count q xs u.1) (omega arith))

-- different numbers below n: no more than n
pub few_differ : (n : ℕ) (xs : List ℕ) → Differ xs → ((q : ℕ) → has q xs ≡ true → q < n) → length xs ≤ n
few_differ n xs u h = few n (λ q. has q xs) xs (λ q. differ_count q xs u)
    (λ q l. by_bool (has q xs) (λ e. let b : q < n = h q e in absurd (omega arith)) (λ e. e))
