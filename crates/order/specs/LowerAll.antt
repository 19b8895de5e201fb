-- All nodes of a split are lowered, given that leaves are.
use Rattle.std.specs.Prelude.{◌≡◌, refl, true, List, ℕ, zero, suc, ◌+◌, ◌<◌}
use Rattle.std.proofs.Math.Path.{ap}
use Rattle.std.proofs.Common.{◌∙◌}
use native.Mathlib.Omega.{arith}
use Rattle.std.proofs.Math.ListN.{length}
use Rattle.rules.specs.Job.{Job, segment as aSegment}
use Rattle.rules.specs.Plan.{Row, node_of, keeps}
use Rattle.rules.specs.Operators.{Source, concat, pack}
use Rattle.rules.specs.Machine.{Machine}
use Rattle.rules.specs.Lower.{lower_kind, lower_join}
use Rattle.laws.specs.Table.{by_bool}
use Rattle.laws.specs.RowIn.{by_kind}
use Rattle.order.specs.Lowers.{Lowers, none_to}
use Rattle.order.specs.Lays.{skip}
use Rattle.order.specs.LowerFrom.{lower_one, lower_from}
use Rattle.order.specs.JoinNode.{JoinSource, as_concat, as_pack, join_both}

-- node i is lowered, and the job is the same
abbrev pub Lowered : ℕ → ℕ → ℕ → (ℕ → List Row) → ℕ → Machine → Machine → Type 0
Lowered k s i out told m m' = Lowers k s i none_to out told m' × (m'.job ≡ m.job)

-- what is to be known of leaves
abbrev pub LeafOk : ℕ → ℕ → (ℕ → List Row) → ℕ → Type 0
LeafOk k s out told =
    (m : Machine) (i : ℕ) → Lowers k s i none_to out told m → i < length m.job.nodes → keeps m.job i s ≡ true → (node_of m.job i).kind ≡ aSegment
    → Lowered k s (suc i) out told m (lower_kind aSegment k s i m)

module _ (k s : ℕ) (out : ℕ → List Row) (told : ℕ) where
  -- an inner node
  pub join_ok : (i : ℕ) (m : Machine) (source : Source) → JoinSource (node_of m.job i).kind source → Lowers k s i none_to out told m → i < length m.job.nodes → keeps m.job i s ≡ true
      → Lowered k s (suc i) out told m (lower_join source k s i m)
  join_ok i m source is v b e = join_both k s i out told m (node_of m.job i).kind source is refl v b e

  module _ (leaf : LeafOk k s out told) where
    -- any node
    pub node_ok : (i : ℕ) (m : Machine) → Lowers k s i none_to out told m → i < length m.job.nodes → Lowered k s (suc i) out told m (lower_one k s i m)
    unfolding lower_one
    node_ok i m v b = by_bool (keeps m.job i s)
        (λ e. by_kind (node_of m.job i).kind
        (λ d. rw (e, lower_one, d) (leaf m i v b e d))
        (λ d. rw (e, lower_one, d) (join_ok i m (concat 0) (rw d as_concat) v b e))
        (λ d. rw (e, lower_one, d) (join_ok i m pack (rw d as_pack) v b e)))
        (λ e. rw (e, lower_one) (skip k s i out told m e v b, refl))

    abbrev All : ℕ → ℕ → Machine → Type 0
    All n i m = i + n ≡ length m.job.nodes → Lowers k s i none_to out told m → Lowered k s (length m.job.nodes) out told m (lower_from k s i n m)

    -- no node is left
    lower_none : (i : ℕ) (m : Machine) → All zero i m
    unfolding lower_from
    lower_none i m e v = let d : length m.job.nodes ≡ i = omega arith in rw d (v, refl)

    -- one node, then the others
    lower_next : (n i : ℕ) (m : Machine) → All n (suc i) (lower_one k s i m) → All (suc n) i m
    unfolding lower_from
    lower_next n i m ih e v =
        let y = node_ok i m v (omega arith) in
        let d : length (lower_one k s i m).job.nodes ≡ length m.job.nodes = ap (λ (j : Job). length j.nodes) y.1 in
        let z = ih (omega arith) y.0 in
        (rw d at z.0, z.1 ∙ y.1)

    -- n nodes from i on
    pub lower_all : (n i : ℕ) (m : Machine) → i + n ≡ length m.job.nodes → Lowers k s i none_to out told m
        → Lowered k s (length m.job.nodes) out told m (lower_from k s i n m)
    lower_all zero i m = lower_none i m
    lower_all (suc n) i m = lower_next n i m (lower_all n (suc i) (lower_one k s i m))
