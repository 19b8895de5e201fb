-- A node and the numbers of its record.
use Rattle.std.specs.Prelude.{◌≡◌, refl, List, ℕ, ◌≤◌, ◌<◌}
use Rattle.std.proofs.Common.{le-leb}
use Rattle.std.proofs.lemmas.Bool.{lt-leb}
use Rattle.rules.specs.Job.{no_node}
use Rattle.layout.specs.Cut.{cut}
use Rattle.layout.specs.Numbers.{byte, word}
use Rattle.layout.specs.Records.{table}
use Rattle.tables.specs.Decode.{node, node_from}

pub node_in : (r w : List ℕ) → byte r 0 ≤ 2 → w ≡ table word 4 4 (cut 3 19 r) → node_from (byte r 0) (byte r 1) (byte r 2) w ≡ node r
unfolding node
node_in r w h e = rw (le-leb (byte r 0) 2 h, e) refl

-- a kind that is none of the three
pub node_out : (r : List ℕ) → 2 < byte r 0 → no_node ≡ node r
unfolding node
node_out r h = rw (lt-leb (byte r 0) 2 h) refl
