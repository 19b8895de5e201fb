-- The rules' value for a pipeline's source, and the four bytes that it takes.
use Rattle.std.specs.Prelude.{◌≡◌, ◌≢◌, Bool, false, [], ◌∷◌, ℕ}
use Rattle.std.proofs.Common.{ne_eqb}
use Rattle.rules.specs.Operators as rules
use Rattle.segment_source.specs.Segment as runs
use Rattle.layout.specs.Numbers.{mark, flag_mark}
use Rattle.tables.specs.Decode.{source_from, source}
use Rattle.table_pipes.specs.declared.source_table.Source.{Source}
use Rattle.table_pipes.specs.declared.source_table.Source.TheVariants.{Segment, Concat, Pack}

abbrev pub source_of : Source → rules.Source
source_of (Segment x) = runs.source_of x
source_of (Concat x) = rules.concat x.current
source_of Pack = rules.pack

-- a tag past the last one
pub source_else : (t a b n : ℕ) → t ≢ 0 → t ≢ 1 → t ≢ 2 → rules.segment false false 255 ≡ source_from t a b n
unfolding source_from
source_else t a b n x y z = rw (ne_eqb t 0 x, ne_eqb t 1 y, ne_eqb t 2 z)

-- the bytes of a segment source
pub segment_back : (a b : Bool) (n : ℕ) → source (0 ∷ mark a ∷ mark b ∷ n ∷ []) ≡ rules.segment a b n
unfolding source source_from
segment_back a b n = simp flag_mark
