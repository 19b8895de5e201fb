-- The columns of a batch, one at a time.
use Rattle.std.specs.Prelude.{◌≡◌, refl, ℕ, ◌+◌, ◌≤◌, ◌<◌, min, length, get_or}
use mathlib.Core.List.{List, flat_map}
use Rattle.rules.specs.Session.{column}
use Rattle.batches.specs.Cells.{cells_from, cells_next, cells_none}
use Rattle.lines.specs.Page.{Page, puts}
use Rattle.lines.specs.PageLaws.{joined}

-- a column, then those after it
pub column_next : (i width : ℕ) (ss fs : List ℕ) (x y : Page) → i < width → i < length ss → i < length fs
    → y ≡ puts (column (record { segment = get_or ss i 0; row = get_or fs i 0 })) x
    → puts (flat_map column (cells_from (i + 1) width ss fs)) y ≡ puts (flat_map column (cells_from i width ss fs)) x
unfolding flat_map
column_next i width ss fs x y h k l e =
    rw (cells_next i width ss fs)
    (joined (column (record { segment = get_or ss i 0; row = get_or fs i 0 })) (flat_map column (cells_from (i + 1) width ss fs)) x y _ e refl)

pub column_none : (i width : ℕ) (ss fs : List ℕ) (x : Page) → min width (length ss) ≤ i → puts (flat_map column (cells_from i width ss fs)) x ≡ x
unfolding puts flat_map
column_none i width ss fs x h = rw (cells_none i width ss fs)
