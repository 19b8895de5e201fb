-- The cells of columns that are kept as a list of segments and a list of first rows.
use Rattle.std.specs.Prelude.{◌≡◌, refl, Bool, ◌&&◌, List, [], ◌∷◌, ◌++◌, map, ℕ, suc, ◌+◌, ◌≤◌, ◌<◌, min, length, take, drop, get_or}
use Rattle.std.proofs.Common.{ap, sym, add-one, arith, suc-ne-zero, length-take, drop_of_length-le, drop-cons, get_or-take}
use Rattle.std.proofs.Math.Nat.{suc_inj}
use Rattle.rules.specs.Table.{all}
use Rattle.rules.specs.Plan.{Cell}
use Rattle.rules.specs.Port.{later}

unfoldable pub cells_of : List ℕ → List ℕ → List Cell
cells_of [] fs = []
cells_of (s ∷ ss) [] = []
cells_of (s ∷ ss) (f ∷ fs) = record { segment = s; row = f } ∷ cells_of ss fs

-- all first rows n further down
pub cells_later : (n : ℕ) (ss fs : List ℕ) → cells_of ss (map (λ (x : ℕ). x + n) fs) ≡ map (later n) (cells_of ss fs)
unfolding cells_of
cells_later n [] fs = refl
cells_later n (s ∷ ss) [] = refl
cells_later n (s ∷ ss) (f ∷ fs) = ap {B = List Cell} (λ r. record { segment = s; row = f + n } ∷ r) (cells_later n ss fs)

-- a test of all rows
pub cells_all : (p : ℕ → Bool) (ss fs : List ℕ) → length ss ≡ length fs → all (λ (c : Cell). p c.row) (cells_of ss fs) ≡ all p fs
unfolding cells_of all
cells_all p [] [] e = refl
cells_all p [] (f ∷ fs) e = absurd (suc-ne-zero (length fs) (sym e))
cells_all p (s ∷ ss) [] e = absurd (suc-ne-zero (length ss) e)
cells_all p (s ∷ ss) (f ∷ fs) e = ap (λ (r : Bool). p f && r) (cells_all p ss fs (suc_inj e))

-- columns beside others
pub cells_append : (ss fs ss' fs' : List ℕ) → length ss ≡ length fs → cells_of (ss ++ ss') (fs ++ fs') ≡ cells_of ss fs ++ cells_of ss' fs'
unfolding cells_of
cells_append [] [] ss' fs' e = refl
cells_append [] (f ∷ fs) ss' fs' e = absurd (suc-ne-zero (length fs) (sym e))
cells_append (s ∷ ss) [] ss' fs' e = absurd (suc-ne-zero (length ss) e)
cells_append (s ∷ ss) (f ∷ fs) ss' fs' e =
    ap {B = List Cell} (λ r. record { segment = s; row = f } ∷ r) (cells_append ss fs ss' fs' (suc_inj e))

pub cells_length : (ss fs : List ℕ) → length ss ≡ length fs → length (cells_of ss fs) ≡ length ss
unfolding cells_of
cells_length [] fs e = refl
cells_length (s ∷ ss) [] e = absurd (suc-ne-zero (length ss) e)
cells_length (s ∷ ss) (f ∷ fs) e = ap suc (cells_length ss fs (suc_inj e))

-- Column by column

-- the columns from the i-th on
unfoldable pub cells_from : ℕ → ℕ → List ℕ → List ℕ → List Cell
cells_from i width ss fs = cells_of (drop i (take width ss)) (drop i (take width fs))

pub cells_whole : (width : ℕ) (ss fs : List ℕ) → cells_from 0 width ss fs ≡ cells_of (take width ss) (take width fs)
unfolding cells_from
cells_whole width ss fs = refl

front_at : (i width : ℕ) (l : List ℕ) → i < width → i < length l → drop i (take width l) ≡ get_or l i 0 ∷ drop (i + 1) (take width l)
front_at i width l h k =
    let p : i < length (take width l) = simp length-take (omega arith) in
    rw (add-one, drop-cons (take width l) i 0, get_or-take width l i 0)

-- the first of them
pub cells_next : (i width : ℕ) (ss fs : List ℕ) → i < width → i < length ss → i < length fs
    → cells_from i width ss fs ≡ record { segment = get_or ss i 0; row = get_or fs i 0 } ∷ cells_from (i + 1) width ss fs
unfolding cells_from cells_of
cells_next i width ss fs h k l = rw (front_at i width ss, front_at i width fs)

-- none is left
pub cells_none : (i width : ℕ) (ss fs : List ℕ) → min width (length ss) ≤ i → cells_from i width ss fs ≡ []
unfolding cells_from cells_of
cells_none i width ss fs h = rw (drop_of_length-le (take width ss) {i = i} (simp length-take h))
