-- Parts of a list of bytes, and what a part that was lent leaves of the others.
use Rattle.std.specs.Prelude.{ℕ, suc, ◌+◌, ◌-◌, ◌≤◌, ◌<◌, ◌≡◌, refl, Bool, true, false, ◌||◌, List, [], ◌∷◌, ◌++◌, leb, length, take, drop, set}
use Rattle.std.proofs.Common.{arith, sym, ap, ap₂, ◌∙◌, append_assoc, append-nil, take-append-drop, length-drop, length-append, drop_of_length-le, take_all, take-take, drop-drop, take_at, drop_at, length-take-le, take-add, leb-true, leb-false, le-leb}
use Rattle.std.proofs.lemmas.List.{take-append-le, set_split, set-append_left, take-set-le, drop-set-add}
use Rattle.std.proofs.Math.Seq.{take-append-add, drop-append-add}
use Rattle.laws.specs.Table.{by_bool}

-- the bytes from a up to b
unfoldable pub cut : ℕ → ℕ → List ℕ → List ℕ
cut a b s = take (b - a) (drop a s)

-- s with ys for the k bytes from a on: what is left of a slice whose part was lent and came back
abbrev pub splice : List ℕ → ℕ → ℕ → List ℕ → List ℕ
splice s a k ys = take a s ++ (ys ++ drop k (drop a s))

-- the bytes from a up to b do not meet those from c up to d
abbrev pub apart : ℕ → ℕ → ℕ → ℕ → Bool
apart a b c d = leb b c || leb d a

-- one side or the other
pub by_side : {P : Type 0} (a b c d : ℕ) → apart a b c d ≡ true → (b ≤ c → P) → (d ≤ a → P) → P
by_side a b c d e f g = by_bool (leb b c) (λ t. f (leb-true b c t)) (λ t. g (leb-true d a (rw t at e)))

-- and so for what lies within the second
pub apart_within : (a b c d x y : ℕ) → apart a b c d ≡ true → c ≤ x → y ≤ d → apart a b x y ≡ true
apart_within a b c d x y e p q = by_side a b c d e (λ h. before (leb b x) (leb y a) (le-leb b x (omega arith)))
    (λ h. behind (leb b x) (leb y a) (le-leb y a (omega arith)))
  where
    before : (u v : Bool) → u ≡ true → u || v ≡ true
    before u v h = rw h refl

    behind : (u v : Bool) → v ≡ true → u || v ≡ true
    behind true v h = refl
    behind false v h = h

pub length_cut : (a b : ℕ) (s : List ℕ) → b ≤ length s → length (cut a b s) ≡ b - a
unfolding cut
length_cut a b s h = length-take-le (b - a) (drop a s) (rw (length-drop a s) (omega arith))

-- Around the part

pub take_splice : (n : ℕ) (s : List ℕ) (a k : ℕ) (ys : List ℕ) → n ≤ a → a ≤ length s → take n (splice s a k ys) ≡ take n s
take_splice n s a k ys h l = take-append-le n (take a s) (ys ++ drop k (drop a s)) (rw (length-take-le a s l) h) ∙ take-take n a s h

pub drop_splice : (n : ℕ) (s : List ℕ) (a k : ℕ) (ys : List ℕ) → n + a ≤ length s → drop n (splice s (n + a) k ys) ≡ splice (drop n s) a k ys
drop_splice n s a k ys l =
    let e : length (take n s) ≡ n = length-take-le n s (omega arith) in
    rw (
      take-add n a s,
      append_assoc (take n s) (take a (drop n s)),
      drop_at (take n s) (take a (drop n s) ++ (ys ++ drop k (drop (n + a) s))) n e,
      ← (drop-drop a n s),
    )
    refl

-- past its end
pub drop_past : (n : ℕ) (s : List ℕ) (a k : ℕ) (ys : List ℕ) → a + k ≤ n → a + k ≤ length s → length ys ≡ k → drop n (splice s a k ys) ≡ drop n s
drop_past n s a k ys h l e =
    let m : ℕ = n - (a + k) in
    let p : List ℕ = take a s ++ ys in
    let lp : length p ≡ a + k = length-append (take a s) ys ∙ ap₂ ◌+◌ (length-take-le a s (omega arith)) e in
    let front : n ≡ length p + m = omega (arith, lp) in
    let back : a + k + m ≡ n = omega arith in
    sym (ap (drop n) (append_assoc (take a s) ys (drop k (drop a s))))
    ∙ ap (λ (j : ℕ). drop j (p ++ drop k (drop a s))) front
    ∙ drop-append-add p (drop k (drop a s)) m
    ∙ ap (drop m) (drop-drop k a s)
    ∙ drop-drop m (a + k) s
    ∙ ap (λ (j : ℕ). drop j s) back

pub length_splice : (s : List ℕ) (a k : ℕ) (ys : List ℕ) → a + k ≤ length s → length ys ≡ k → length (splice s a k ys) ≡ length s
length_splice s a k ys l e =
    simp (length-append, length-drop, length-take-le a s (omega arith)) (omega arith)

-- before the part
pub cut_before : (lo hi : ℕ) (s : List ℕ) (a k : ℕ) (ys : List ℕ) → hi ≤ a → a ≤ length s → cut lo hi (splice s a k ys) ≡ cut lo hi s
unfolding cut
cut_before lo hi s a k ys h l =
    by_bool (leb lo hi)
    (λ t.
    let m : lo ≤ hi = leb-true lo hi t in
    let b : ℕ = a - lo in
    let e : a ≡ lo + b = omega arith in
    ap (λ (x : ℕ). take (hi - lo) (drop lo (splice s x k ys))) e
    ∙ ap (take (hi - lo)) (drop_splice lo s b k ys (omega arith))
    ∙ take_splice (hi - lo) (drop lo s) b k ys (omega arith) (rw (length-drop lo s) (omega arith)))
    (λ t.
    let m : hi < lo = leb-false lo hi t in
    let e : hi - lo ≡ 0 = omega arith in
    rw e refl)

-- a part that does not meet it stays
pub cut_apart : (lo hi : ℕ) (s : List ℕ) (a k : ℕ) (ys : List ℕ) → apart lo hi a (a + k) ≡ true → a + k ≤ length s → length ys ≡ k
    → cut lo hi (splice s a k ys) ≡ cut lo hi s
unfolding cut
cut_apart lo hi s a k ys t l e =
    by_side lo hi a (a + k) t (λ h. cut_before lo hi s a k ys h (omega arith)) (λ h. ap (take (hi - lo)) (drop_past lo s a k ys h l e))

-- the front of the rest, and the rest of the front
pub drop_take : (a m : ℕ) (s : List ℕ) → a ≤ length s → drop a (take (a + m) s) ≡ take m (drop a s)
drop_take a m s h = ap (drop a) (take-add a m s) ∙ drop_at (take a s) (take m (drop a s)) a (length-take-le a s h)

-- a front that ends behind the seam
pub take_from : (p q : List ℕ) (a n : ℕ) → length p ≡ a → take (a + n) (p ++ q) ≡ p ++ take n q
take_from p q a n e = rw (← e) (take-append-add p q n)

-- a front that holds all of the part
pub take_around : (s : List ℕ) (a k m : ℕ) (ys : List ℕ) → a + k ≤ length s → length ys ≡ k →
    take (a + (k + m)) (splice s a k ys) ≡ splice (take (a + (k + m)) s) a k ys
take_around s a k m ys l e =
    let outer = take_from (take a s) (ys ++ drop k (drop a s)) a (k + m) (length-take-le a s (omega arith)) in
    let inner = take_from ys (drop k (drop a s)) k m e in
    let front : take a (take (a + (k + m)) s) ≡ take a s = take-take a (a + (k + m)) s (omega arith) in
    let back : drop k (drop a (take (a + (k + m)) s)) ≡ take m (drop k (drop a s)) =
    ap (drop k) (drop_take a (k + m) s (omega arith)) ∙ drop_take k m (drop a s) (rw (length-drop a s) (omega arith)) in
    outer ∙ rw (inner, front, back) refl

-- a part around it has it within
pub cut_around : (lo hi : ℕ) (s : List ℕ) (a k : ℕ) (ys : List ℕ) → lo + a + k ≤ hi → hi ≤ length s → length ys ≡ k
    → cut lo hi (splice s (lo + a) k ys) ≡ splice (cut lo hi s) a k ys
unfolding cut
cut_around lo hi s a k ys h l e =
    let m : ℕ = hi - lo - (a + k) in
    let n : hi - lo ≡ a + (k + m) = omega arith in
    ap (take (hi - lo)) (drop_splice lo s a k ys (omega arith))
    ∙ rw n (take_around (drop lo s) a k m ys (rw (length-drop lo s) (omega arith)) e)

-- the part itself
pub cut_own : (a b : ℕ) (s ys : List ℕ) → a ≤ b → b ≤ length s → length ys ≡ b - a → cut a b (splice s a (b - a) ys) ≡ ys
unfolding cut
cut_own a b s ys h l e =
    ap (take (b - a)) (drop_at (take a s) (ys ++ drop (b - a) (drop a s)) a (length-take-le a s (omega arith)))
    ∙ take_at ys (drop (b - a) (drop a s)) (b - a) e

-- a byte is a part of one byte
pub set_splice : (s : List ℕ) (a v : ℕ) → a < length s → set s a v ≡ splice s a 1 (v ∷ [])
set_splice s a v h =
    let e : suc a ≡ a + 1 = omega arith in
    set_split s a v h ∙ rw e (ap (λ (r : List ℕ). take a s ++ v ∷ r) (sym (drop-drop 1 a s)))

-- a byte of a part
pub set_within : (s : List ℕ) (a size k v : ℕ) → k < size → a + size ≤ length s → set s (a + k) v ≡ splice s a size (set (take size (drop a s)) k v)
set_within s a size k v h l =
    let n : length (take size (drop a s)) ≡ size = length-take-le size (drop a s) (rw (length-drop a s) (omega arith)) in
    sym (take-append-drop a (set s (a + k) v))
    ∙ ap₂ ◌++◌
    (take-set-le a s (a + k) v (omega arith))
    (drop-set-add a s k v ∙ ap (λ (r : List ℕ). set r k v) (sym (take-append-drop size (drop a s)))
    ∙ set-append_left (take size (drop a s)) (drop size (drop a s)) k v (omega arith))

-- a copy over a list of its own length is the list
pub copy_all : (to from : List ℕ) (n : ℕ) → n ≡ length from → length to ≡ length from → take n from ++ drop n to ≡ from
copy_all to from n e h = ap₂ ◌++◌ (take_all n from (omega arith)) (drop_of_length-le to {i = n} (omega arith)) ∙ append-nil from
