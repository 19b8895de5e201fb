-- The bytes of a split.
use Rattle.std.specs.Prelude.{◌≡◌, refl, List, [], ◌∷◌, ℕ, ◌≤◌, length, set, take}
use Rattle.std.proofs.Common.{◌∙◌, arith, get_or-set_same, le-leb}
use Rattle.rules.specs.Job as rule
use Rattle.layout.specs.Cut.{cut, splice, length_splice}
use Rattle.layout.specs.Numbers.{byte, word}
use Rattle.layout.specs.Records.{table}
use Rattle.layout.specs.Stored.{wrote, wrote_byte}
use Rattle.tables.specs.Decode.{run, split}

-- its start and end written, then n runs, then their number
pub split_back : (r ys zs : List ℕ) (n start end : ℕ) (rs : List rule.Run) → length r ≡ 137 → length ys ≡ 8 → length zs ≡ 128 → n ≤ 16
    → table word 4 2 ys ≡ start ∷ end ∷ [] → take n (table run 8 16 zs) ≡ rs
    → split (set (splice (splice r 1 8 ys) 9 128 zs) 0 n) ≡ record { start = start; end = end; runs = rs }
unfolding split
split_back r ys zs n start end rs l m k h e f =
    let a : List ℕ = splice r 1 8 ys in
    let la : length a ≡ 137 = length_splice r 1 8 ys (omega arith) m ∙ l in
    let b : List ℕ = splice a 9 128 zs in
    let lb : length b ≡ 137 = length_splice a 9 128 zs (omega (arith, la)) k ∙ la in
    let w = wrote 1 9 r ys (omega arith) (omega arith) m in
    let v = wrote 9 137 a zs (omega arith) (omega (arith, la)) k in
    let u = wrote_byte 0 b n (omega (arith, lb)) in
    let count : byte (set b 0 n) 0 ≡ n = get_or-set_same b 0 n 0 (omega (arith, lb)) in
    let ends : cut 1 9 (set b 0 n) ≡ ys = u.others 1 9 refl ∙ v.others 1 9 refl ∙ w.own in
    let runs : cut 9 137 (set b 0 n) ≡ zs = u.others 9 137 refl ∙ v.own in
    rw (count, ends, runs, le-leb n 16 h, e, f)
