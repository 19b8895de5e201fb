-- A split and the numbers of its record.
use Rattle.std.specs.Prelude.{◌≡◌, refl, List, [], ◌∷◌, ℕ, ◌≤◌, ◌<◌, get_or, take}
use Rattle.std.proofs.Common.{le-leb}
use Rattle.std.proofs.lemmas.Bool.{lt-leb}
use Rattle.rules.specs.Job as rule
use Rattle.layout.specs.Cut.{cut}
use Rattle.layout.specs.Numbers.{byte, word}
use Rattle.layout.specs.Records.{table}
use Rattle.tables.specs.Decode.{run, split}

pub split_in : (r w : List ℕ) (rs : List rule.Run) → byte r 0 ≤ 16 → w ≡ table word 4 2 (cut 1 9 r) → rs ≡ take (byte r 0) (table run 8 16 (cut 9 137 r))
    → record { start = get_or w 0 0; end = get_or w 1 0; runs = rs } ≡ split r
unfolding split
split_in r w rs h e f = rw (le-leb (byte r 0) 16 h, e, f) refl

-- more runs than there are places
pub split_out : (r w : List ℕ) → 16 < byte r 0 → w ≡ table word 4 2 (cut 1 9 r) →
    record { start = get_or w 0 0; end = get_or w 1 0; runs = record { start = 0; size = 0 } ∷ [] } ≡ split r
unfolding split
split_out r w h e = rw (lt-leb (byte r 0) 16 h, e) refl
