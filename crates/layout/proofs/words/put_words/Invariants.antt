-- `layout::words::put_words` meets its contract: the first i numbers are written.
use mathlib.Core.Path.{◌≡◌}
use lib.ListN.{length, take}
use Rattle.layout.specs.Numbers.{word}
use Rattle.layout.specs.Records.{table}
use Rattle.layout.proofs.words.put_words.Given as goal

abbrev pub invariant-loop-i : goal.invariant-loop-i
invariant-loop-i l = take l.i (table word 4 (length l.from) l.r) ≡ take l.i l.from
