-- What is still printed, for the bytes that are not yet used.
use Rattle.std.specs.Prelude.{◌≡◌, List, [], ◌++◌, ℕ, ◌≤◌, length, drop, ltb, if◌then◌else◌}
use Rattle.rules.specs.Machine.{Machine}
use Rattle.rules.specs.Session as rule
use Rattle.lines.specs.Lines.{opened_text}
use Rattle.feeding.specs.declared.Coming.{Coming}
use Rattle.feeding.specs.declared.Coming.TheVariants.{More, Full, Ended}
use Rattle.feeding.specs.declared.Phase.{Phase}
use Rattle.feeding.specs.declared.Phase.TheVariants as phase
use Rattle.feeding.specs.Turned.{Turned}

abbrev pub ahead : Phase → Machine → List ℕ → List ℕ
ahead phase.Job m xs = rule.session xs
ahead (phase.Skip n b a) m xs = opened_text (if ltb (length xs) n then a else b)
ahead phase.Calls m xs = rule.calls (length xs) xs m
ahead phase.Over m xs = []

-- what is told of the bytes to come is so: there are none where the input has ended, and where there is no room there are many bytes
abbrev pub Fits : Coming → List ℕ → List ℕ → Type 0
Fits More xs ys = Unit {0}
Fits Full xs ys = 4096 ≤ length xs
Fits Ended xs ys = ys ≡ []

-- a turn says what is printed next, whatever bytes ys are still to come
abbrev pub Says : Phase → Machine → List ℕ → List ℕ → Turned → Type 0
Says p m xs ys t = ahead p m (xs ++ ys) ≡ t.text ++ ahead t.phase t.machine (drop t.used xs ++ ys)
