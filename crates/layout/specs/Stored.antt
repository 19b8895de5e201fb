-- What a store leaves: the record that was written, and every part that does not meet it.
use Rattle.std.specs.Prelude.{ℕ, suc, ◌+◌, ◌*◌, ◌-◌, ◌≤◌, ◌<◌, ◌≡◌, refl, true, List, [], ◌∷◌, leb, ltb, length, get_or, take, drop, set}
use Rattle.std.proofs.Common.{arith, ap, ◌∙◌, length-drop, take-take, drop-drop, get_or-take, get_or-drop, leb-true, ltb-true}
use Rattle.rules.specs.Table.{get, put}
use Rattle.layout.specs.Cut.{cut, splice, apart, apart_within, length_cut, cut_apart, cut_around, drop_past, cut_own, set_splice, drop_take}
use Rattle.layout.specs.Records.{table, table_put, table_get, within}

-- t is s with ys for record i of the table of n records of a size from base on
pub record Stored (base size n : ℕ) (s t : List ℕ) (i : ℕ) (ys : List ℕ) : Type 1 where
  pub own : {R : Type 0} (dec : List ℕ → R) (d : R) →
      table dec size n (cut base (base + n * size) t) ≡ put d (table dec size n (cut base (base + n * size) s)) i (dec ys)
  pub others : (lo hi : ℕ) → apart lo hi base (base + n * size) ≡ true → cut lo hi t ≡ cut lo hi s
  pub past : (k : ℕ) → leb (base + n * size) k ≡ true → drop k t ≡ drop k s

pub stored : (base size n : ℕ) (s : List ℕ) (i : ℕ) (ys : List ℕ) → i < n → base + n * size ≤ length s → length ys ≡ size →
    Stored base size n s (splice s (base + i * size) size ys) i ys
stored base size n s i ys h l e =
    let w = within i n size h in
    let c : length (cut base (base + n * size) s) ≡ n * size = length_cut base (base + n * size) s l ∙ omega arith in
    record {
      own = λ dec d.
          ap (table dec size n) (cut_around base (base + n * size) s (i * size) size ys (omega arith) l e)
          ∙ table_put dec size n (cut base (base + n * size) s) i ys d h (omega (arith, c)) e;
      others = λ lo hi t.
          cut_apart lo hi s (base + i * size) size ys
          (apart_within lo hi base (base + n * size) (base + i * size) (base + i * size + size) t (omega arith) (omega arith)) (omega arith) e;
      past = λ k t. let g : base + n * size ≤ k = leb-true (base + n * size) k t in drop_past k s (base + i * size) size ys (omega arith) (omega arith) e;
    }

-- one byte is a record of one byte
pub stored_byte : (base n : ℕ) (s : List ℕ) (i v : ℕ) → i < n → base + n ≤ length s → Stored base 1 n s (set s (base + i) v) i (v ∷ [])
stored_byte base n s i v h l =
    let one : i * 1 ≡ i = omega arith in
    let e : set s (base + i) v ≡ splice s (base + i * 1) 1 (v ∷ []) = set_splice s (base + i) v (omega arith) ∙ rw one refl in
    rw e (stored base 1 n s i (v ∷ []) h (omega arith) refl)

-- t is s with ys for the bytes from a up to b
pub record Wrote (a b : ℕ) (s t : List ℕ) (ys : List ℕ) : Type 0 where
  pub own : cut a b t ≡ ys
  pub others : (lo hi : ℕ) → apart lo hi a b ≡ true → cut lo hi t ≡ cut lo hi s
  pub past : (k : ℕ) → leb b k ≡ true → drop k t ≡ drop k s

pub wrote : (a b : ℕ) (s ys : List ℕ) → a ≤ b → b ≤ length s → length ys ≡ b - a → Wrote a b s (splice s a (b - a) ys) ys
wrote a b s ys h l e =
    let ab : a + (b - a) ≡ b = omega arith in
    record {
      own = cut_own a b s ys h l e;
      others = λ lo hi t. cut_apart lo hi s a (b - a) ys (rw ab t) (omega arith) e;
      past = λ k t. let g : b ≤ k = leb-true b k t in drop_past k s a (b - a) ys (omega arith) (omega arith) e;
    }

pub wrote_byte : (a : ℕ) (s : List ℕ) (v : ℕ) → a < length s → Wrote a (suc a) s (set s a v) (v ∷ [])
wrote_byte a s v l =
    let one : suc a - a ≡ 1 = omega arith in
    rw (set_splice s a v l) (rw one at (wrote a (suc a) s (v ∷ []) (omega arith) l (omega arith)))

-- A load: record i of a table in its place, and a byte of it
pub loaded : {R : Type 0} (dec : List ℕ → R) (base size n : ℕ) (s : List ℕ) (i : ℕ) (d : R) → i < n → base + n * size ≤ length s
    → get d (table dec size n (cut base (base + n * size) s)) i ≡ dec (take size (drop (base + i * size) s))
unfolding cut
loaded dec base size n s i d h l =
    let w = within i n size h in
    let e : base + n * size - base ≡ i * size + (n * size - i * size) = omega arith in
    table_get dec size n (take (base + n * size - base) (drop base s)) i d h
    ∙ ap (λ (r : List ℕ). dec (take size r))
    (rw e (drop_take (i * size) (n * size - i * size) (drop base s) (rw (length-drop base s) (omega arith))))
    ∙ ap dec (take-take size (n * size - i * size) (drop (i * size) (drop base s)) (omega arith))
    ∙ ap (λ (r : List ℕ). dec (take size r)) (drop-drop (i * size) base s)

pub byte_at : (s : List ℕ) (a size k : ℕ) → ltb k size ≡ true → get_or (take size (drop a s)) k 0 ≡ get_or s (a + k) 0
byte_at s a size k h = get_or-take size (drop a s) k 0 (ltb-true k size h) ∙ get_or-drop a s k 0

pub first_at : (s : List ℕ) (a size : ℕ) → ltb 0 size ≡ true → get_or (take size (drop a s)) 0 0 ≡ get_or s a 0
first_at s a size h = let e : a + 0 ≡ a = omega arith in byte_at s a size 0 h ∙ ap (λ (k : ℕ). get_or s k 0) e

-- A part that is lent by its ends, and came back as ys
abbrev pub lent : ℕ → ℕ → ℕ → List ℕ → List ℕ → List ℕ
lent base size i s ys = splice s (base + i * size) (base + i * size + size - (base + i * size)) ys

pub stored_lent : (base size n : ℕ) (s : List ℕ) (i : ℕ) (ys : List ℕ) → i < n → base + n * size ≤ length s → length ys ≡ size →
    Stored base size n s (lent base size i s ys) i ys
stored_lent base size n s i ys h l e =
    let k : base + i * size + size - (base + i * size) ≡ size = omega arith in
    rw k (stored base size n s i ys h l e)

-- a part that is lent by its ends
pub part_is : (s : List ℕ) (a size : ℕ) → take (a + size - a) (drop a s) ≡ take size (drop a s)
part_is s a size = let e : a + size - a ≡ size = omega arith in rw e refl
