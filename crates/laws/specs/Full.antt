-- Full ports: what the rest of the proof knows of `is_full`. "an empty port is never full"; one that is not full has fewer than 8 batches and fewer than
-- 65,536 rows; a batch more leaves a full port full, and one that goes leaves a port with room so; with few rows 8 batches alone decide.
use Rattle.std.specs.Prelude.{◌≡◌, refl, true, false, List, [], ◌∷◌, ◌++◌, ◌+◌, ◌<◌, length, leb}
use Rattle.std.proofs.Common.{◌∙◌, arith, length-append, leb-false}
use Rattle.std.proofs.Math.Bool.{or-false}
use Rattle.std.proofs.lemmas.Bool.{lt-leb}
use Rattle.rules.specs.Table.{sum_of}
use Rattle.rules.specs.Port.{Batch, row_sum, row_limit, is_full, capacity}
use Rattle.laws.specs.Table.{by_bool, clash, or_left, or_right}

pub full_none : is_full capacity [] ≡ false
unfolding is_full sum_of
full_none = refl

-- fewer than 8 batches, and fewer than 65,536 rows
pub full_not : (q : List Batch) → is_full capacity q ≡ false → (length q < capacity) × (row_sum q < row_limit)
unfolding is_full
full_not q e =
    let a = leb capacity (length q) in
    let b = leb row_limit (row_sum q) in
    (leb-false capacity (length q) (or_left a b e), leb-false row_limit (row_sum q) (or_right a b e))

-- fewer than 65,536 rows
pub full_few : (q : List Batch) → row_sum q < row_limit → is_full capacity q ≡ leb capacity (length q)
unfolding is_full
full_few q r = rw (lt-leb row_limit (row_sum q) r) (or-false (leb capacity (length q)))

-- and fewer than 8 batches
full_by : (q : List Batch) → length q < capacity → row_sum q < row_limit → is_full capacity q ≡ false
full_by q l r = full_few q r ∙ lt-leb capacity (length q) l

sum_append : (q : List Batch) (b : Batch) → row_sum (q ++ b ∷ []) ≡ row_sum q + b.rows
unfolding sum_of
sum_append [] b = omega arith
sum_append (x ∷ q) b = omega (arith, sum_append q b)

pub full_more : (q : List Batch) (b : Batch) → is_full capacity q ≡ true → is_full capacity (q ++ b ∷ []) ≡ true
full_more q b e =
    by_bool (is_full capacity (q ++ b ∷ [])) (λ t. t)
    (λ f.
    let n = full_not (q ++ b ∷ []) f in
    let r = full_by q (omega (arith, n.0, length-append q (b ∷ []))) (omega (arith, n.1, sum_append q b)) in
    clash (cc (e, r)))

pub full_less : (b : Batch) (bs : List Batch) → is_full capacity (b ∷ bs) ≡ false → is_full capacity bs ≡ false
unfolding sum_of
full_less b bs e = let n = full_not (b ∷ bs) e in full_by bs (omega (arith, n.0)) (omega (arith, n.1))
