-- The bytes of a node.
use Rattle.std.specs.Prelude.{◌≡◌, List, [], ◌∷◌, ◌++◌, ℕ, ◌+◌, ◌*◌, ◌/◌, ◌%◌, ◌≤◌, length, take, drop}
use Rattle.std.proofs.Common.{arith, take_at, le-leb}
use Rattle.jobs.specs.declared.Node.{Node}
use Rattle.jobs.specs.Job.{kind_of, node_of}
use Rattle.layout.specs.Cut.{cut, splice}
use Rattle.layout.specs.Numbers.{word}
use Rattle.layout.specs.Records.{table}
use Rattle.tables.specs.Decode.{kind_from, node}

-- its four numbers written, and before them the number k of its kind, the width and the parent
pub node_back : (r ys hs : List ℕ) (x : Node) (k lo hi : ℕ) → length r ≡ 19 → length ys ≡ 16 → table word 4 4 ys ≡ x.segment ∷ x.rows ∷ lo ∷ hi ∷ []
    → lo ≡ x.at % 4294967296 → hi ≡ x.at / 4294967296 → hs ≡ k ∷ x.width ∷ x.parent ∷ [] → kind_from k ≡ kind_of x.kind → k ≤ 2
    → node (splice (splice r 3 16 ys) 0 3 hs) ≡ node_of x
unfolding node cut
node_back [] ys hs x k lo hi l m e p q f n h = absurd (omega arith)
node_back (a ∷ []) ys hs x k lo hi l m e p q f n h = absurd (omega arith)
node_back (a ∷ b ∷ []) ys hs x k lo hi l m e p q f n h = absurd (omega arith)
node_back (a ∷ b ∷ c ∷ rs) ys hs x k lo hi l m e p q f n h =
    let front : take 16 (ys ++ drop 16 rs) ≡ ys = take_at ys (drop 16 rs) 16 m in
    let at : lo + 4294967296 * hi ≡ x.at = omega arith in
    rw (f, le-leb k 2 h, front, e, n, at)
