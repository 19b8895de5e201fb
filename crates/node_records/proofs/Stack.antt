-- The stack of parentless nodes: its first n entries, the newest first.
use mathlib.Core.Path.{◌≡◌, ap, sym, ◌∙◌}
use mathlib.Core.List.{List, [], ◌∷◌, ◌++◌, reverse, reverse-append, reverse-reverse}
use Prim.Native.Nat.{ℕ, ◌+◌, ◌-◌, ◌≤◌, ◌<◌}
use native.Mathlib.Omega.{arith}
use native.Mathlib.Numerals.{add-one}
use lib.ListN.{length, take, drop, set, length-reverse, length-drop, take-append-drop}
use lib.Seq.{length-take-le, take-suc-set, take_at, drop_at, take-take, slice}
use Rattle.node_records.specs.Draft.{newest_of}

pub newest_length : (xs : List ℕ) (n : ℕ) → n ≤ length xs → length (newest_of xs n) ≡ n
unfolding newest_of
newest_length xs n h = length-reverse (take n xs) ∙ length-take-le n xs h

-- one more on top
pub newest_more : (xs : List ℕ) (n v : ℕ) → n < length xs → newest_of (set xs n v) (n + 1) ≡ v ∷ newest_of xs n
unfolding newest_of
newest_more xs n v h = rw (add-one, take-suc-set xs n v h) (reverse-append (take n xs) (v ∷ []))

cut_back : (xs : List ℕ) (n : ℕ) → n ≤ length xs → reverse xs ≡ reverse (drop (length xs - n) xs) ++ reverse (take (length xs - n) xs)
cut_back xs n h =
    ap reverse (sym (take-append-drop (length xs - n) xs)) ∙ reverse-append (take (length xs - n) xs) (drop (length xs - n) xs)

back_length : (xs : List ℕ) (n : ℕ) → n ≤ length xs → length (reverse (drop (length xs - n) xs)) ≡ n
back_length xs n h = length-reverse (drop (length xs - n) xs) ∙ length-drop (length xs - n) xs ∙ omega arith

-- the n newest, the oldest first
pub newest_back : (xs : List ℕ) (m n : ℕ) → m ≤ length xs → n ≤ m → reverse (take n (newest_of xs m)) ≡ slice (m - n) m xs
unfolding newest_of
newest_back xs m n h k =
    let e : length (take m xs) ≡ m = length-take-le m xs h in
    let l : n ≤ length (take m xs) = omega arith in
    rw (
      cut_back (take m xs) n l,
      take_at (reverse (drop (length (take m xs) - n) (take m xs))) (reverse (take (length (take m xs) - n) (take m xs))) n
          (back_length (take m xs) n l),
      e,
    ) (reverse-reverse (drop (m - n) (take m xs)))

-- the others
pub newest_rest : (xs : List ℕ) (m n : ℕ) → m ≤ length xs → n ≤ m → drop n (newest_of xs m) ≡ newest_of xs (m - n)
unfolding newest_of
newest_rest xs m n h k =
    let e : length (take m xs) ≡ m = length-take-le m xs h in
    let l : n ≤ length (take m xs) = omega arith in
    rw (
      cut_back (take m xs) n l,
      drop_at (reverse (drop (length (take m xs) - n) (take m xs))) (reverse (take (length (take m xs) - n) (take m xs))) n
          (back_length (take m xs) n l),
      e,
      take-take (m - n) m xs (omega arith),
    )
