-- The nodes of a job stand in postfix order: the nodes under a node stand right before it.
use Rattle.std.specs.Prelude.{◌≡◌, false, List, ℕ, zero, suc, ◌+◌, ◌-◌, ◌<◌, ◌≤◌, length, ltb}
use Rattle.std.proofs.Math.Option.{some}
use Rattle.std.proofs.Common.{arith, ltb-true, ltb-false}
use Rattle.rules.specs.Job.{Bytes, Job, Node, accepted, node_at, is_segment, parse}
use Rattle.rules.specs.Plan.{node_of}
use Rattle.laws.specs.Table.{by_bool, by_eq}
use Rattle.laws.specs.Tree.{TreeOk}
use Rattle.laws.specs.Accepted.{tree_ok}

-- a node is another or stands somewhere below it
pub data Under (ns : List Node) (q : ℕ) : ℕ → Type 0 where
  self : {n : ℕ} → n ≡ q → Under ns q n
  below : {n : ℕ} (p : ℕ) → (node_at ns n).parent ≡ some p → Under ns q p → Under ns q n

module _ (ns : List Node) (t : TreeOk ns) where
  -- between a node and its parent no node has a parent past that one
  pub parent_within : (n q i p : ℕ) → (node_at ns n).parent ≡ some q → n < i → i < q → (node_at ns i).parent ≡ some p → p ≤ q
  parent_within n q i p e h k o = let w = t.within n q i e h k in let s : p ≡ w.0 = cc w.1 in rw s w.2

  -- what is under a node stands before it
  pub under_low : (q n : ℕ) → Under ns q n → n ≤ q
  under_low q n (self e) = omega arith
  under_low q n (below p e u) = omega (arith, (t.up n p e).0, under_low q p u)

  -- a node between one under q and q has its parent there too
  between_next : (q n i p : ℕ) → (node_at ns n).parent ≡ some p → Under ns q p → n ≤ i → i < q → (p ≤ i → i < q → (r : ℕ) × ((node_at ns i).parent ≡ some r) × (r ≤ q))
      → (r : ℕ) × ((node_at ns i).parent ≡ some r) × (r ≤ q)
  between_next q n i p e u h k ih =
      by_eq i n (λ z. (p, rw z e, under_low q p u))
      (λ m. by_bool (ltb i p)
      (λ b. let w : (r : ℕ) × ((node_at ns i).parent ≡ some r) × (r ≤ p) = t.within n p i e (omega arith) (ltb-true i p b) in (w.0, w.1, omega (arith, w.2, under_low q p u)))
      (λ b. ih (ltb-false i p b) k))

  -- the same for any number of levels
  between : (q n i : ℕ) → Under ns q n → n ≤ i → i < q → (p : ℕ) × ((node_at ns i).parent ≡ some p) × (p ≤ q)
  between q n i (self e) h k = absurd (omega arith)
  between q n i (below p e u) h k = between_next q n i p e u h k (between q p i u)

  -- so the nodes under q, and q, are all from the first of them to q
  under_step : (q n i : ℕ) → Under ns q n → n ≤ i → i ≤ q → ((p : ℕ) → i < p → p ≤ q → Under ns q p) → Under ns q i
  under_step q n i u h k ih =
      by_eq i q (λ e. self e)
      (λ m. let w : (p : ℕ) × ((node_at ns i).parent ≡ some p) × (p ≤ q) = between q n i u h (omega arith) in below w.0 w.1 (ih w.0 (t.up i w.0 w.1).0 w.2))

  -- by as many steps as there are nodes up to q
  under_fuel : (f q n i : ℕ) → Under ns q n → n ≤ i → i ≤ q → q ≤ i + f → Under ns q i
  under_fuel zero q n i u h k b = self {n = i} (omega arith)
  under_fuel (suc f) q n i u h k b = under_step q n i u h k (λ p m w. under_fuel f q n p u (omega arith) w (omega arith))

  -- each node from one under q up to q is under q
  pub contiguous : (q n i : ℕ) → Under ns q n → n ≤ i → i ≤ q → Under ns q i
  contiguous q n i u h k = under_fuel q q n i u h k (omega arith)

-- the same of a job that opening accepts
module _ (bytes : List ℕ) (j : Job) (b : Bytes bytes) (h : parse bytes ≡ accepted j) where
  -- between a node and its parent no node has a parent past that one
  pub postfix : (n q i p : ℕ) → (node_of j n).parent ≡ some q → n < i → i < q → (node_of j i).parent ≡ some p → p ≤ q
  postfix n q i p e = parent_within j.nodes (tree_ok bytes j b h) n q i p e

  -- the node before an inner node is its child
  pub last_child : (q : ℕ) → is_segment (node_of j q).kind ≡ false → q < length j.nodes → (node_of j (q - 1)).parent ≡ some q
  last_child q e k = (tree_ok bytes j b h).before q k e
