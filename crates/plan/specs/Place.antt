-- Where a node's rows stand among its parent's.
use Rattle.std.specs.Prelude.{List, ℕ, if◌then◌else◌}
use Rattle.std.proofs.Math.Option.{none, some}
use Rattle.rules.specs.Job as rule

-- how much further a child's rows move those of the next: a pack's children stand side by side
abbrev pub share_of : rule.Kind → ℕ → ℕ
share_of k n = if rule.is_pack k then 0 else n

-- where the rows of node i start among its parent's, or 0 where it has none
abbrev pub start_of : List rule.Node → ℕ → ℕ
start_of ns i = elim (rule.node_at ns i).parent [ none ↦ 0 | some p ↦ rule.offset ns p i ]
