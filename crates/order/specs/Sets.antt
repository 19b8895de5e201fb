-- Sets of different inlet numbers, the newest first.
use Rattle.std.specs.Prelude.{◌≡◌, refl, ◌≢◌, Bool, true, false, ◌||◌, List, [], ◌∷◌, ℕ, suc, length, eqb}
use Rattle.std.proofs.Common.{sym, ◌∙◌, eqb-true, ne_eqb}
use Rattle.std.proofs.lemmas.Bool.{eqb-false}
use Rattle.rules.specs.Table.{has}
use Rattle.rules.specs.InletSet.{InletSet, insert, insert_all, replace, remove}
use Rattle.laws.specs.Table.{by_bool, by_eq, clash, or_left, or_right}
use Rattle.laws.specs.Rising.{has_head, has_tail}
use Rattle.order.specs.Inv.{Differ}

-- tests in another order
or_swap : (a b c : Bool) → a || (b || c) ≡ b || (a || c)
or_swap true true c = refl
or_swap true false c = refl
or_swap false b c = refl

-- a test between two numbers that differ, from a test the other way round
ne_of : (x i : ℕ) → eqb x i ≡ false → i ≢ x
ne_of x i e c = eqb-false x i e (sym c)

-- after an insertion the number is there, and every other as before
pub insert_same : (i : ℕ) (s : List ℕ) → has i (insert i s) ≡ true
insert_same i s = by_bool (has i s) (λ e. rw (e, insert) e) (λ e. rw (e, insert) (has_head i s))

-- every other number is there as before
pub insert_other : (i j : ℕ) (s : List ℕ) → j ≢ i → has j (insert i s) ≡ has j s
insert_other i j s n = by_bool (has i s) (λ e. rw (e, insert)) (λ e. rw (e, insert) (has_tail j i s n))

-- the numbers still differ
pub insert_unique : (i : ℕ) (s : List ℕ) → Differ s → Differ (insert i s)
insert_unique i s u = by_bool (has i s) (λ e. rw (e, insert) u) (λ e. rw (e, insert) (e, u))

-- what was there stays
pub insert_more : (i j : ℕ) (s : List ℕ) → has j s ≡ true → has j (insert i s) ≡ true
insert_more i j s e = by_eq j i (λ c. rw c (insert_same i s)) (λ n. insert_other i j s n ∙ e)

-- what was there stays, after several insertions
pub insert_all_more : (is : List ℕ) (j : ℕ) (s : List ℕ) → has j s ≡ true → has j (insert_all is s) ≡ true
unfolding insert_all
insert_all_more [] j s e = e
insert_all_more (i ∷ is) j s e = insert_all_more is j (insert i s) (insert_more i j s e)

-- each that was inserted is there
pub insert_all_has : (is : List ℕ) (j : ℕ) (s : List ℕ) → has j is ≡ true → has j (insert_all is s) ≡ true
unfolding insert_all has
insert_all_has [] j s e = clash (cc)
insert_all_has (i ∷ is) j s e =
    by_eq j i (λ c. insert_all_more is j (insert i s) (rw c (insert_same i s))) (λ n. insert_all_has is j (insert i s) (sym (has_tail j i is n) ∙ e))

-- In a set with i and without h, h is put for i.

-- h is there, and every number but i as before
replace_has : (i h j : ℕ) (t : List ℕ) → has i t ≡ true → j ≢ i → has j (replace i h t) ≡ eqb j h || has j t
unfolding replace has
replace_has i h j [] e n = clash (cc)
replace_has i h j (x ∷ t) e n =
    by_bool (eqb x i)
    (λ k. let z : j ≢ x = λ c. n (c ∙ eqb-true x i k) in rw (k, replace, ne_eqb j x z))
    (λ k. rw (k, replace, replace_has i h j t (sym (has_tail i x t (ne_of x i k)) ∙ e) n) (or_swap (eqb j x) (eqb j h) (has j t)))

-- i is not there any more
replace_gone : (i h : ℕ) (t : List ℕ) → Differ t → h ≢ i → has i (replace i h t) ≡ false
unfolding replace has
replace_gone i h [] u n = refl
replace_gone i h (x ∷ t) u n =
    by_bool (eqb x i)
    (λ k. rw (k, replace, ne_eqb i h (λ c. n (sym c))) (rw (eqb-true x i k) at u.0))
    (λ k. rw (k, replace, ne_eqb i x (ne_of x i k), replace_gone i h t u.1 n))

-- the numbers still differ
replace_unique : (i h : ℕ) (t : List ℕ) → Differ t → has i t ≡ true → has h t ≡ false → Differ (replace i h t)
unfolding replace has
replace_unique i h [] u e f = tt
replace_unique i h (x ∷ t) u e f =
    by_bool (eqb x i)
    (λ k. rw (k, replace) (or_right (eqb h x) (has h t) f, u.1))
    (λ k. let e' : has i t ≡ true = sym (has_tail i x t (ne_of x i k)) ∙ e in
    rw (k, replace) (
      replace_has i h x t e' (eqb-false x i k) ∙ rw (ne_eqb x h (ne_of h x (or_left (eqb h x) (has h t) f)), u.0),
      replace_unique i h t u.1 e' (or_right (eqb h x) (has h t) f),
    ))

-- there are as many as before
replace_length : (i h : ℕ) (t : List ℕ) → length (replace i h t) ≡ length t
unfolding replace
replace_length i h [] = refl
replace_length i h (x ∷ t) = by_bool (eqb x i) (λ k. rw (k, replace)) (λ k. rw (k, replace, replace_length i h t))

-- After a removal the number is not there, and every other as before.

-- what is removed is not there
pub remove_same : (i : ℕ) (s : List ℕ) → Differ s → has i (remove i s) ≡ false
unfolding remove has
remove_same i [] u = refl
remove_same i (h ∷ t) u =
    by_bool (eqb h i)
    (λ k. rw (k, remove) (rw (eqb-true h i k) at u.0))
    (λ k. by_bool (has i t)
    (λ e. rw (k, remove, e) (replace_gone i h t u.1 (eqb-false h i k)))
    (λ e. rw (k, remove, e) (has_tail i h t (ne_of h i k) ∙ e)))

-- every other number is there as before
pub remove_other : (i j : ℕ) (s : List ℕ) → j ≢ i → has j (remove i s) ≡ has j s
unfolding remove has
remove_other i j [] n = refl
remove_other i j (h ∷ t) n =
    by_bool (eqb h i)
    (λ k. rw (k, remove) (sym (has_tail j h t (λ c. n (c ∙ eqb-true h i k)))))
    (λ k. by_bool (has i t) (λ e. rw (k, remove, e) (replace_has i h j t e n)) (λ e. rw (k, remove, e)))

-- the numbers still differ
pub remove_unique : (i : ℕ) (s : List ℕ) → Differ s → Differ (remove i s)
unfolding remove
remove_unique i [] u = tt
remove_unique i (h ∷ t) u =
    by_bool (eqb h i) (λ k. rw (k, remove) u.1)
    (λ k. by_bool (has i t) (λ e. rw (k, remove, e) (replace_unique i h t u.1 e u.0)) (λ e. rw (k, remove, e) u))

-- there is one less
pub remove_length : (i : ℕ) (s : List ℕ) → has i s ≡ true → suc (length (remove i s)) ≡ length s
unfolding remove has
remove_length i [] e = clash (cc)
remove_length i (h ∷ t) e =
    by_bool (eqb h i) (λ k. rw (k, remove))
    (λ k. let e' : has i t ≡ true = sym (has_tail i h t (ne_of h i k)) ∙ e in rw (k, remove, e', replace_length i h t))

-- a member stays one, and what is inserted is one
pub has_insert : (i h : ℕ) (s : InletSet) → has i s ≡ true → has i (insert h s) ≡ true
unfolding has
has_insert i h s e = by_bool (has h s) (λ c. rw c e) (λ c. rw (c, e) (by_bool (eqb i h) (λ d. rw d) (λ d. rw d)))
