-- Laws of the loop that moves first rows down.
use Rattle.std.specs.Prelude.{◌≡◌, true, List, map, ℕ, ◌+◌, ◌≤◌, ◌<◌, min, length, get_or, take, set, Some, None}
use Rattle.std.proofs.Common.{◌∙◌, arith, add-one, le-leb}
use Rattle.std.proofs.lemmas.Bool.{lt-leb}
use Rattle.std.proofs.lemmas.List.{length-map, take-map}
use Rattle.std.proofs.Math.Seq.{slice, slice_empty}
use Rattle.rules.specs.Table.{all}
use Rattle.numbers.specs.Arrays.{over, over_take, map_set, all_head, all_not, take_clamped}
use Rattle.batches.specs.Batch.{fits_row, Lowered}

-- n rows further down
abbrev pub down : ℕ → ℕ → ℕ
down n x = x + n

-- after i of `count` columns
pub record Going (first : List ℕ) (n count i : ℕ) (moved : List ℕ) : Type 0 where
  pub long : length first ≡ 4
  pub few : count ≤ 4
  pub most : i ≤ count
  pub left : all (fits_row n) (take count first) ≡ all (fits_row n) (slice i count first)
  pub done : moved ≡ over i (map (down n) first) first

pub going_next : (first : List ℕ) (n count i v : ℕ) {moved : List ℕ} → Going first n count i moved → i < count
    → (get_or first i 0 + n < 4294967296) × (v ≡ get_or first i 0 + n) → Going first n count (i + 1) (set moved i v)
going_next first n count i v g h fit = record {
  long = g.long;
  few = g.few;
  most = omega arith;
  left = rw (add-one i)
      (g.left ∙ all_head (fits_row n) i count first 0 h (omega arith) (le-leb (get_or first i 0 + n) 4294967295 (omega (arith, fit.0))));
  done = rw (add-one i, g.done, fit.1) (map_set (down n) i first first 0 (omega arith) (omega arith));
}

pub going_not : (first : List ℕ) (n count i width : ℕ) {moved : List ℕ} → Going first n count i moved → count ≡ min width 4
    → i < count → (get_or first i 0 + n < 4294967296 → ⊥) → Lowered first width n None
going_not first n count i width g is h fit =
    let u : 4294967295 < get_or first i 0 + n = grind (arith, fit) in
    rw (take_clamped first width count 4 g.long is)
    (g.left ∙ all_not (fits_row n) i count first 0 h (omega arith) (lt-leb (get_or first i 0 + n) 4294967295 u))

pub going_all : (first : List ℕ) (n count i width : ℕ) {moved : List ℕ} → Going first n count i moved → count ≡ min width 4
    → length moved ≡ 4 → count ≤ i → Lowered first width n (Some moved)
unfolding all
going_all first n count i width {moved} g is long h =
    let e : i ≡ count = omega (arith, g.most) in
    let a : all (fits_row n) (take count first) ≡ true = rw (e, slice_empty count first) at g.left in (
      rw (take_clamped first width count 4 g.long is) a,
      rw (take_clamped first width count 4 g.long is, take_clamped moved width count 4 long is, g.done, e)
          (over_take count (map (down n) first) first (rw (length-map first (down n)) (omega arith)) ∙ take-map (down n) count first),
    )
