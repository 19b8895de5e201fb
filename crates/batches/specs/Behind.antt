-- What is behind the first rows of a batch, from its first rows further down.
use Rattle.std.specs.Prelude.{◌≡◌, true, false, List, ℕ, ◌-◌, length, take, Some, None, Ok, Err}
use Rattle.std.proofs.Common.{sym, ◌∙◌, length-take}
use Rattle.rules.specs.Table.{all}
use Rattle.batches.specs.declared.batch.Batch.{Batch}
use Rattle.batches.specs.Cells.{cells_later, cells_all}
use Rattle.batches.specs.Batch.{batch_of, fits_row, fits, Behind, Lowered}

fits_first : (n : ℕ) (b : Batch) → length b.segment ≡ 4 → length b.first ≡ 4 → fits n (batch_of b) ≡ all (fits_row n) (take b.width b.first)
fits_first n b s f = cells_all (fits_row n) (take b.width b.segment) (take b.width b.first) (simp (length-take, s, f))

pub behind_is : (n : ℕ) (b : Batch) (rows : ℕ) (moved : List ℕ) → length b.segment ≡ 4 → length b.first ≡ 4 → rows ≡ b.rows - n
    → Lowered b.first b.width n (Some moved)
    → Behind n b (Ok (record { rows = rows; width = b.width; segment = b.segment; first = moved }))
behind_is n b rows moved s f e l =
    let y : fits n (batch_of b) ≡ true = fits_first n b s f ∙ l.0 in
    record { ok = sym y; batch = rw (y, e, l.1, cells_later n (take b.width b.segment) (take b.width b.first)) }

pub behind_not : (n : ℕ) (b : Batch) → length b.segment ≡ 4 → length b.first ≡ 4 → Lowered b.first b.width n None → Behind n b (Err b)
behind_not n b s f l =
    let y : fits n (batch_of b) ≡ false = fits_first n b s f ∙ l in
    record { ok = sym y; batch = rw y }
