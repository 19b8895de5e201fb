-- The span of the splits, from the last split on.
use Rattle.std.specs.Prelude.{ℕ, suc, ◌+◌, ◌≤◌, ◌<◌, min, max, ◌≡◌, refl, List, [], ◌∷◌, length, drop}
use Rattle.std.proofs.Common.{arith, ap, ◌∙◌, drop_of_length-le, drop-cons}
use Rattle.rules.specs.Table.{get}
use Rattle.rules.specs.Job.{Split}
use Rattle.rules.specs.Plan.{no_split, span_start, span_end}
use Rattle.laws.specs.Table.{get_get_or}

-- a split, and those after it
split_next : (l : List Split) (i : ℕ) → i < length l → drop i l ≡ get no_split l i ∷ drop (suc i) l
split_next l i h = rw (get_get_or no_split l i) (drop-cons l i no_split h)

-- the last split
pub start_last : (l : List Split) (i a : ℕ) → i + 1 ≡ length l → a ≡ (get no_split l i).start → a ≡ span_start (drop i l)
unfolding span_start
start_last l i a h e = rw (split_next l i (omega arith), drop_of_length-le l {i = suc i} (omega arith), e)

start_cons : (x : Split) (ys : List Split) → 0 < length ys → min x.start (span_start ys) ≡ span_start (x ∷ ys)
unfolding span_start
start_cons x [] h = absurd (omega arith)
start_cons x (y ∷ ys) h = refl

-- one split before
pub start_more : (l : List Split) (i k r n a : ℕ) → i ≡ k + 1 → i < length l → a ≡ (get no_split l k).start → n ≡ span_start (drop i l) → r ≡ min a n →
    r ≡ span_start (drop k l)
start_more l i k r n a q h e f g =
    let p : i ≡ suc k = omega arith in
    rw (g, f, e, p, split_next l k (omega arith)) (start_cons (get no_split l k) (drop (suc k) l) (rw (← p, split_next l i h) (omega arith)))

pub end_more : (l : List Split) (i k r n a : ℕ) → i ≡ k + 1 → i ≤ length l → a ≡ (get no_split l k).end → n ≡ span_end (drop i l) → r ≡ max a n →
    r ≡ span_end (drop k l)
unfolding span_end
end_more l i k r n a q h e f g =
    let p : i ≡ suc k = omega arith in
    rw (g, f, e, p, split_next l k (omega arith)) refl

-- no split
pub start_none : (l : List Split) → length l ≡ 0 → 0 ≡ span_start l
unfolding span_start
start_none [] e = refl
start_none (x ∷ l) e = absurd (omega arith)

pub end_none : (l : List Split) (i : ℕ) → i ≡ length l → 0 ≡ span_end (drop i l)
unfolding span_end
end_none l i e = rw (drop_of_length-le l {i = i} (omega arith))

-- every split
pub start_all : (l : List Split) (k n : ℕ) → k ≤ 0 → n ≡ span_start (drop k l) → n ≡ span_start l
start_all l k n h e = let z : k ≡ 0 = omega arith in e ∙ ap (λ (i : ℕ). span_start (drop i l)) z

pub end_all : (l : List Split) (k n : ℕ) → k ≤ 0 → n ≡ span_end (drop k l) → n ≡ span_end l
end_all l k n h e = let z : k ≡ 0 = omega arith in e ∙ ap (λ (i : ℕ). span_end (drop i l)) z
