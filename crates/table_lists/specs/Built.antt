-- No source of a shared segment is to be made: its 24 flags are 0.
use Rattle.std.specs.Prelude.{ℕ, ◌<◌, ◌≡◌, true, false, List, take, drop}
use Rattle.std.proofs.Common.{sym, ap, ◌∙◌, get_or-take, get_or-drop}
use Rattle.rules.specs.Table.{get}
use Rattle.rules.specs.Machine.{Machine}
use Rattle.layout.specs.Blank.{blank, blank_byte}
use Rattle.layout.specs.Numbers.{flag}
use Rattle.tables.specs.View.{view, Sized}
use Rattle.tables.specs.Loaded.{unbuilt_loaded}

abbrev pub AllBuilt : Machine → Type 0
AllBuilt m = (g : ℕ) → g < 24 → get false m.unbuilt g ≡ false

pub built_blank : (s : List ℕ) → Sized s → blank (take 24 (drop 28 s)) ≡ true → AllBuilt (view s)
built_blank s z e g h =
    unbuilt_loaded s z g h
    ∙ ap flag (sym (get_or-take 24 (drop 28 s) g 0 h ∙ get_or-drop 28 s g 0) ∙ blank_byte (take 24 (drop 28 s)) g e)
