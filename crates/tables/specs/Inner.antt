-- A part of a part, and what a store leaves.
use Rattle.std.specs.Prelude.{ℕ, ◌+◌, ◌*◌, ◌-◌, ◌≤◌, ◌<◌, ◌≡◌, refl, List, length, get_or, take, drop}
use Rattle.std.proofs.Common.{arith, sym, ap, ◌∙◌, length-drop, take-take, drop-drop}
use Rattle.layout.specs.Cut.{cut, drop_take, length_splice}
use Rattle.layout.specs.Records.{within}
use Rattle.layout.specs.Stored.{lent, first_at}

-- the bytes from lo up to hi of those from a up to b
pub cut_cut : (a b lo hi : ℕ) (s : List ℕ) → lo ≤ hi → hi ≤ b - a → b ≤ length s → cut lo hi (cut a b s) ≡ cut (a + lo) (a + hi) s
unfolding cut
cut_cut a b lo hi s h m l =
    let e : b - a ≡ lo + (b - a - lo) = omega arith in
    let k : hi - lo ≡ a + hi - (a + lo) = omega arith in
    ap (λ (n : ℕ). take (hi - lo) (drop lo (take n (drop a s)))) e
    ∙ ap (take (hi - lo)) (drop_take lo (b - a - lo) (drop a s) (rw (length-drop a s) (omega arith)))
    ∙ take-take (hi - lo) (b - a - lo) (drop lo (drop a s)) (omega arith)
    ∙ ap (take (hi - lo)) (drop-drop lo a s)
    ∙ ap (λ (n : ℕ). take n (drop (a + lo) s)) k

-- the first byte, where a store kept it
pub first_kept : (s t : List ℕ) → cut 0 1 t ≡ cut 0 1 s → get_or t 0 0 ≡ get_or s 0 0
unfolding cut
first_kept s t e = sym (first_at t 0 1 refl) ∙ ap (λ (x : List ℕ). get_or x 0 0) e ∙ first_at s 0 1 refl

-- a lent record comes back with its length
pub length_lent : (base size n : ℕ) (s : List ℕ) (i : ℕ) (ys : List ℕ) → i < n → base + n * size ≤ length s → length ys ≡ size →
    length (lent base size i s ys) ≡ length s
length_lent base size n s i ys h l e =
    let k : base + i * size + size - (base + i * size) ≡ size = omega arith in
    let w = within i n size h in
    rw k (length_splice s (base + i * size) size ys (omega arith) e)
