-- What two bytes mark.
use Rattle.std.specs.Prelude.{ℕ, if◌then◌else◌}
use Rattle.rules.specs.Job.{is_mark, SC, SG, CC, PK, SP}
use Rattle.records.specs.declared.Mark.{Mark}
use Rattle.records.specs.declared.Mark.TheVariants.{Slots, Leaf, Concat, Pack, Split, Unknown}

abbrev pub mark_of : ℕ → ℕ → Mark
mark_of a b =
    if is_mark a b SC then Slots
    else if is_mark a b SG then Leaf
    else if is_mark a b CC then Concat
    else if is_mark a b PK then Pack
    else if is_mark a b SP then Split
    else Unknown
