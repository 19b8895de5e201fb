-- Nodes that come to a stack, or to none where one did not fit.
use Rattle.std.specs.Prelude.{◌≡◌, refl, List, [], ℕ, zero, suc, ◌+◌, ◌-◌, ◌<◌, ◌≤◌, length, ltb}
use Rattle.std.proofs.Common.{◌∙◌, arith, ltb-true, ltb-false}
use Rattle.std.proofs.Math.Option.{Option, none, some}
use Rattle.rules.specs.Job.{Node, node_at, max_rows, no_node}
use Rattle.laws.specs.Table.{by_bool, by_eq, by_option, get_past}
use Rattle.numbers.specs.Newest.{newest}
use Rattle.numbers.specs.Newest.{newest_none}
use Rattle.stored.specs.Walk.{step, walk}

-- node i comes
abbrev pub comes : List Node → ℕ → Option (List ℕ) → Option (List ℕ)
comes ns i none = none
comes ns i (some free) = step ns i free

-- n nodes come, from node i on
abbrev pub walks : List Node → ℕ → ℕ → Option (List ℕ) → Option (List ℕ)
walks ns i n none = none
walks ns i n (some free) = walk ns i n free

-- none comes
pub walks_end : (ns : List Node) (i n : ℕ) (o : Option (List ℕ)) → n ≤ 0 → walks ns i n o ≡ o
unfolding walk
walks_end ns i zero none h = refl
walks_end ns i zero (some free) h = refl
walks_end ns i (suc n) o h = absurd (omega arith)

-- the first of some comes
walks_first : (ns : List Node) (i n : ℕ) (o : Option (List ℕ)) → walks ns i (suc n) o ≡ walks ns (suc i) n (comes ns i o)
unfolding walk
walks_first ns i n none = refl
walks_first ns i n (some free) = by_option (step ns i free) (λ e. rw (walk, e)) (λ after e. rw (walk, e))

-- all n nodes come to an empty stack
pub walks_start : (ns : List Node) (n : ℕ) (l : List ℕ) → walk ns 0 n [] ≡ walks ns 0 (n - 0) (some (newest l 0))
walks_start ns n l = let e : n - 0 ≡ n = omega arith in rw (e, newest_none l 0 refl) refl

-- the next of those up to n comes
pub walks_next : (ns : List Node) (i n : ℕ) (o p : Option (List ℕ)) → i < n → p ≡ comes ns i o → walks ns i (n - i) o ≡ walks ns (i + 1) (n - (i + 1)) p
walks_next ns i n o p h e =
    let a : n - i ≡ suc (n - (i + 1)) = omega arith in
    let b : i + 1 ≡ suc i = omega arith in
    rw (e, a) (walks_first ns i (n - (i + 1)) o ∙ rw b)

-- the rows of the first i nodes fit four bytes
abbrev pub Short : List Node → ℕ → Type 0
Short ns i = (k : ℕ) → k < i → (node_at ns k).rows ≤ max_rows

-- one more
pub short_next : (ns : List Node) (i : ℕ) (x : Node) → x ≡ node_at ns i → Short ns i → x.rows ≤ max_rows → Short ns (i + 1)
short_next ns i x e v h k l = by_eq k i (λ q. rw (q, ← e) h) (λ n. v k (omega arith))

-- the rows of all nodes do
abbrev pub RowsFit : List Node → Type 0
RowsFit ns = (k : ℕ) → (node_at ns k).rows ≤ max_rows

-- as all were read
pub short_all : (ns : List Node) (i : ℕ) → Short ns i → length ns ≤ i → RowsFit ns
short_all ns i v h k = by_bool (ltb k i) (λ e. v k (ltb-true k i e)) (λ e. rw (get_past no_node ns k (omega (arith, ltb-false k i e))) (omega arith))
