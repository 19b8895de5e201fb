-- The fields that follow a mark, and the record at a position.
use Rattle.std.specs.Prelude.{if◌then◌else◌, Option, Some, None}
use mathlib.Core.Path.{◌≡◌, refl}
use mathlib.Core.Bool.{Bool, true, false}
use mathlib.Core.List.{List, [], ◌∷◌}
use mathlib.Core.Option.{none}
use Prim.Native.Nat.{ℕ, suc, ◌+◌, ◌≤◌, ◌<◌}
use native.Mathlib.Omega.{arith}
use native.Mathlib.Numerals.{add-one, add-two}
use lib.ListN.{length, drop, get_or, length-drop}
use lib.Seq.{drop-cons}
use Rattle.rules.specs.Job.{Parser, Record, fields, is_mark, next_record, count_field, leaf_fields, split_fields, SC, SG, CC, PK, SP, slots, join, concat, pack}
use Rattle.records.specs.Mark.{mark_of}
use Rattle.records.specs.Read.{ReadEnds}
use Rattle.records.specs.declared.Record as code
use Rattle.records.specs.declared.Mark.{Mark}
use Rattle.records.specs.declared.Mark.TheVariants as mark

abbrev pub fields_by : Mark → Parser Record
fields_by mark.Slots = count_field slots
fields_by mark.Leaf = leaf_fields
fields_by mark.Concat = count_field (join concat)
fields_by mark.Pack = count_field (join pack)
fields_by mark.Split = split_fields
fields_by mark.Unknown = λ bytes. none

by_tests : (s g c p t : Bool) →
    (if s then count_field slots else if g then leaf_fields else if c then count_field (join concat) else if p then count_field
    (join pack) else if t then split_fields else (λ bytes. none))
    ≡ fields_by (if s then mark.Slots else if g then mark.Leaf else if c then mark.Concat else if p then mark.Pack else if t then mark.Split else mark.Unknown)
by_tests true g c p t = refl
by_tests false true c p t = refl
by_tests false false true p t = refl
by_tests false false false true t = refl
by_tests false false false false true = refl
by_tests false false false false false = refl

fields_mark : (a b : ℕ) → fields a b ≡ fields_by (mark_of a b)
unfolding fields
fields_mark a b = by_tests (is_mark a b SC) (is_mark a b SG) (is_mark a b CC) (is_mark a b PK) (is_mark a b SP)

-- the record after a mark m that stands at a position
pub record_at : (xs : List ℕ) (at : ℕ) (m : Mark) → at + 2 ≤ length xs → m ≡ mark_of (get_or xs at 0) (get_or xs (at + 1) 0)
    → next_record (drop at xs) ≡ fields_by m (drop (at + 2) xs)
unfolding next_record
record_at xs at m h e =
    let a : at < length xs = omega arith in
    let b : suc at < length xs = omega arith in
    rw (e, add-one, add-two, drop-cons xs at 0, drop-cons xs (suc at) 0, fields_mark)

few : (ys : List ℕ) → length ys < 2 → next_record ys ≡ none
unfolding next_record
few [] h = refl
few (a ∷ []) h = refl
few (a ∷ b ∷ ys) h = absurd (omega arith)

pub record_short : (xs : List ℕ) (at : ℕ) → length xs < at + 2 → next_record (drop at xs) ≡ none
record_short xs at h = few (drop at xs) (simp length-drop (omega arith))

-- what ends after the mark's place ends after the mark
pub ends_later : (xs : List ℕ) (at : ℕ) (r : Option (code.Record × ℕ)) → ReadEnds xs (at + 2) r → ReadEnds xs at r
ends_later xs at None h = tt
ends_later xs at (Some g) h = (omega (arith, h.0), h.1, h.2)
