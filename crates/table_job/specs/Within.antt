-- A number and a record within a record.
use Rattle.std.specs.Prelude.{ℕ, ◌+◌, ◌*◌, ◌≤◌, ◌<◌, ◌≡◌, List, length, get_or, take, drop}
use Rattle.std.proofs.Common.{arith, sym, ap, ◌∙◌}
use Rattle.rules.specs.Table.{get}
use Rattle.laws.specs.Table.{get_get_or}
use Rattle.layout.specs.Cut.{cut}
use Rattle.layout.specs.Numbers.{word}
use Rattle.layout.specs.Records.{table}
use Rattle.layout.specs.Stored.{loaded, part_is}
use Rattle.tables.specs.Inner.{cut_cut}

-- entry k of a table that stands at lo in the record of a size at a
pub entry_within : {R : Type 0} (dec : List ℕ → R) (d : R) (s : List ℕ) (a size lo width n k : ℕ) → k < n → lo + n * width ≤ size → a + size ≤ length s
    → get d (table dec width n (cut lo (lo + n * width) (take size (drop a s)))) k ≡ dec (take width (drop (a + lo + k * width) s))
unfolding cut
entry_within dec d s a size lo width n k h i l =
    let e : a + (lo + n * width) ≡ a + lo + n * width = omega arith in
    ap (λ (r : List ℕ). get d (table dec width n (cut lo (lo + n * width) r)) k) (sym (part_is s a size))
    ∙ ap (λ (r : List ℕ). get d (table dec width n r) k) (cut_cut a (a + size) lo (lo + n * width) s (omega arith) (omega arith) l)
    ∙ ap (λ (b : ℕ). get d (table dec width n (cut (a + lo) b s)) k) e
    ∙ loaded dec (a + lo) width n s k d h (omega arith)

-- number k of n
pub word_within : (s : List ℕ) (a size lo n k : ℕ) → k < n → lo + n * 4 ≤ size → a + size ≤ length s
    → get_or (table word 4 n (cut lo (lo + n * 4) (take size (drop a s)))) k 0 ≡ word (take 4 (drop (a + lo + k * 4) s))
word_within s a size lo n k h i l = sym (get_get_or 0 (table word 4 n (cut lo (lo + n * 4) (take size (drop a s)))) k)
    ∙ entry_within word 0 s a size lo 4 n k h i l
