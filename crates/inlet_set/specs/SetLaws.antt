-- Laws of a list read from its end.
use Rattle.std.specs.Prelude.{◌≡◌, refl, ℕ, zero, suc, ◌+◌, ◌-◌, ◌≤◌, ◌<◌, length, get_or, set, take, eqb}
use Rattle.std.proofs.Common.{sym, ap, ◌∙◌, not-suc-le-zero, zero-add, add-zero, add-one, arith, eq-eqb, ne_eqb, take-suc, get_or-set_same, get_or-set_other}
use mathlib.Core.List.{List, [], ◌∷◌, ◌++◌, reverse, reverse-cons, reverse-append}
use Rattle.std.proofs.Math.Option.{none, some}
use Rattle.std.proofs.Math.ListN.{get_elem?}
use Rattle.rules.specs.Table.{has, given, up_from}
use Rattle.rules.specs.InletSet.{remove, replace}
use Rattle.rules.specs.Pipelines.{all_inlets}
use Rattle.inlet_set.specs.InletSet.{last_at}
use Rattle.numbers.specs.Newest.{newest, newest_set, newest_more}
use Rattle.numbers.specs.Tests.{by_test}
use Rattle.numbers.specs.Tests.{eqb_sym}

pub newest_reverse : (l : List ℕ) (n : ℕ) → n ≤ length l → reverse (newest l n) ≡ take n l
unfolding newest
newest_reverse l zero h = refl
newest_reverse l (suc n) h =
    reverse-cons (get_or l n 0) (newest l n) ∙ rw (newest_reverse l n (omega arith)) (sym (take-suc l n 0 h))

pub has_last : (i : ℕ) (l : List ℕ) (n : ℕ) → has i (newest l n) ≡ given (last_at i l n)
unfolding newest last_at has given
has_last i l zero = refl
has_last i l (suc n) = by_test (eqb (get_or l n 0) i)
    (λ e. rw (e, eqb_sym i (get_or l n 0), e))
    (λ e. rw (e, eqb_sym i (get_or l n 0), e) (has_last i l n))

-- a search from the newest on
pub find_none : (i : ℕ) (l : List ℕ) (k : ℕ) → k ≤ 0 → none ≡ last_at i l k
unfolding last_at
find_none i l zero h = refl
find_none i l (suc k) h = absurd (not-suc-le-zero h)

pub find_here : (i : ℕ) (l : List ℕ) (k : ℕ) → 0 < k → get_or l (k - 1) 0 ≡ i → some (k - 1) ≡ last_at i l k
unfolding last_at
find_here i l zero h e = absurd (not-suc-le-zero h)
find_here i l (suc k) h e = let p : suc k - 1 ≡ k = omega arith in rw (p, eq-eqb (get_or l k 0) i (rw p at e))

pub find_next : (i : ℕ) (l : List ℕ) (k : ℕ) → 0 < k → (get_or l (k - 1) 0 ≡ i → ⊥) → last_at i l k ≡ last_at i l (k - 1)
unfolding last_at
find_next i l zero h e = absurd (not-suc-le-zero h)
find_next i l (suc k) h e = let p : suc k - 1 ≡ k = omega arith in rw (p, ne_eqb (get_or l k 0) i (rw p at e))

-- where the newest i stands
pub last_below : (i : ℕ) (l : List ℕ) (n k : ℕ) → last_at i l n ≡ some k → k < n
unfolding last_at
last_below i l zero k e = let z : ◌≡◌ {A = ℕ} 0 1 = cc in absurd (omega arith)
last_below i l (suc n) k e = by_test (eqb (get_or l n 0) i)
    (λ t. let s : some n ≡ some k = rw t at e in let q : n ≡ k = cc in omega arith)
    (λ t. let h = last_below i l n k (rw t at e) in omega arith)

pub replace_last : (i h : ℕ) (l : List ℕ) (n k : ℕ) → last_at i l n ≡ some k → n ≤ length l → replace i h (newest l n) ≡ newest (set l k h) n
unfolding newest last_at replace
replace_last i h l zero k e m = refl
replace_last i h l (suc n) k e m = by_test (eqb (get_or l n 0) i)
    (λ t. let s : some n ≡ some k = rw t at e in let q : n ≡ k = cc in
    rw (t, replace, ← q, get_or-set_same l n h 0 m, newest_set l n k h (omega (arith, q))))
    (λ t. let r : last_at i l n ≡ some k = rw t at e in let b = last_below i l n k r in
    rw (t, replace, get_or-set_other l k n h 0 (λ p. omega arith), replace_last i h l n k r (omega arith)))

-- the newest takes its place
pub remove_last : (i : ℕ) (l : List ℕ) (n k : ℕ) → last_at i l n ≡ some k → n ≤ length l
    → newest (set l k (get_or l (n - 1) 0)) (n - 1) ≡ remove i (newest l n)
unfolding newest last_at remove given
remove_last i l zero k e m = let z : ◌≡◌ {A = ℕ} 0 1 = cc in absurd (omega arith)
remove_last i l (suc n) k e m =
    let p : suc n - 1 ≡ n = omega arith in
    by_test (eqb (get_or l n 0) i)
    (λ t. let s : some n ≡ some k = rw t at e in let q : n ≡ k = cc in rw (p, t, ← q) (newest_set l n n (get_or l n 0) (omega arith)))
    (λ t. let r : last_at i l n ≡ some k = rw t at e in
    rw (p, t, has_last i l n, r) (sym (replace_last i (get_or l n 0) l n k r (omega arith))))

pub remove_none : (i : ℕ) (l : List ℕ) (n : ℕ) → last_at i l n ≡ none → newest l n ≡ remove i (newest l n)
unfolding newest last_at remove given
remove_none i l zero e = refl
remove_none i l (suc n) e = by_test (eqb (get_or l n 0) i)
    (λ t. let s : some n ≡ none = rw t at e in let z : ◌≡◌ {A = ℕ} 0 1 = cc in absurd (omega arith))
    (λ t. let r : last_at i l n ≡ none = rw t at e in rw (t, has_last i l n, r))

-- by number, from the oldest
elem_take : (l : List ℕ) (n k : ℕ) → k < n → n ≤ length l → get_elem? (take n l) k ≡ some (get_or l k 0)
elem_take l zero k h m = absurd (not-suc-le-zero h)
elem_take [] (suc n) k h m = absurd (not-suc-le-zero m)
elem_take (x ∷ xs) (suc n) zero h m = refl
elem_take (x ∷ xs) (suc n) (suc k) h m = elem_take xs n k (omega arith) (omega arith)

elem_past : (l : List ℕ) (n k : ℕ) → n ≤ k → get_elem? (take n l) k ≡ none
elem_past l zero k h = refl
elem_past [] (suc n) k h = refl
elem_past (x ∷ xs) (suc n) zero h = absurd (not-suc-le-zero h)
elem_past (x ∷ xs) (suc n) (suc k) h = elem_past xs n k (omega arith)

pub oldest_at : (l : List ℕ) (n k : ℕ) → k < n → n ≤ length l → get_elem? (reverse (newest l n)) k ≡ some (get_or l k 0)
oldest_at l n k h m = rw (newest_reverse l n m) (elem_take l n k h m)

pub oldest_past : (l : List ℕ) (n k : ℕ) → n ≤ k → n ≤ length l → get_elem? (reverse (newest l n)) k ≡ none
oldest_past l n k h m = rw (newest_reverse l n m) (elem_past l n k h)

up_more : (a n : ℕ) → up_from a (suc n) ≡ up_from a n ++ (a + n) ∷ []
unfolding up_from
up_more a zero = rw (add-zero a)
up_more a (suc n) = let e : suc a + n ≡ a + suc n = omega arith in ap (λ (r : List ℕ). a ∷ r) (rw e at (up_more (suc a) n))

pub all_more : (l : List ℕ) (n : ℕ) → newest l n ≡ all_inlets n → n < length l → newest (set l n n) (n + 1) ≡ all_inlets (n + 1)
all_more l n e h =
    rw (add-one n) (newest_more l n n h ∙ rw (e, up_more 0 n, zero-add n) (sym (reverse-append (up_from 0 n) (n ∷ []))))
