-- `layout::words::get_words` meets its contract: the first i numbers are read.
use mathlib.Core.Path.{◌≡◌}
use lib.ListN.{length, take}
use Rattle.layout.specs.Numbers.{word}
use Rattle.layout.specs.Records.{table}
use Rattle.layout.proofs.words.get_words.Given as goal

abbrev pub invariant-loop-i : goal.invariant-loop-i
invariant-loop-i l = take l.i l.to ≡ take l.i (table word 4 (length l.initial.to) l.r)
