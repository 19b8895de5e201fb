-- What the pass down keeps.
use mathlib.Core.Path.{◌≡◌, refl, ap, ◌∙◌}
use mathlib.Core.List.{List, [], ◌∷◌}
use mathlib.Core.Option.{none, some}
use Prim.Native.Nat.{ℕ, suc, ◌+◌, ◌≤◌, ◌<◌}
use native.Mathlib.Omega.{arith}
use lib.ListN.{length, get_or, set, length-set}
use lib.Seq.{get_or-set_same, get_or-set_other}
use Rattle.rules.specs.Job as rule
use Rattle.laws.specs.Table.{by_eq}
use Rattle.laws.specs.Tree.{TreeOk}
use Rattle.jobs.specs.Job.{front, node_of}
use Rattle.jobs.specs.declared.Node.{Node}
use Rattle.jobs.proofs.Front.{front_at, front_length}
use Rattle.plan.specs.Place.{start_of}
use Rattle.plan.proofs.OffsetLaws.{row_alone, row_kid}
use Rattle.plan.proofs.StartLaws.{blank}

abbrev pub with_at : Node → ℕ → Node
with_at x v = record { kind = x.kind; segment = x.segment; rows = x.rows; width = x.width; parent = x.parent; at = v }

-- the nodes from i on are placed, and the others are as they were
pub record Placed (table : List Node) (count i : ℕ) (out : List Node) : Type 0 where
  pub size : length out ≡ length table
  pub kept : (k : ℕ) → k < i → get_or out k blank ≡ get_or table k blank
  pub is : (k : ℕ) → i ≤ k → k < count → get_or out k blank ≡ with_at (get_or table k blank) (rule.row_at rule.max_nodes (front node_of table count) k)

pub placed_first : (table : List Node) (count : ℕ) → Placed table count count table
placed_first table count = record { size = refl; kept = λ k h. refl; is = λ k h b. absurd (omega arith) }

-- one more, from the back
pub placed_more : (table : List Node) (count i j : ℕ) (out : List Node) → Placed table count j out → j ≡ suc i → i < length out
    → (v : ℕ) → v ≡ rule.row_at rule.max_nodes (front node_of table count) i → Placed table count i (set out i (with_at (get_or out i blank) v))
placed_more table count i j out s z b v e = record {
  size = simp length-set s.size;
  kept = λ k h. get_or-set_other out i k (with_at (get_or out i blank) v) blank (omega arith) ∙ s.kept k (omega arith);
  is = λ k h l. by_eq k i
      (λ y. rw (y, get_or-set_same out i (with_at (get_or out i blank) v) blank b, s.kept i (omega arith), e))
      (λ y. get_or-set_other out i k (with_at (get_or out i blank) v) blank y ∙ s.is k (omega arith) l);
}

-- where the next one stands
module _ (table : List Node) (count i j : ℕ) (out : List Node) (s : Placed table count j out) (z : j ≡ suc i) (h : count ≤ length table) (few : count ≤ 24)
    (t : TreeOk (front node_of table count)) (v : ℕ) (e : v ≡ start_of (front node_of table count) i) where
  pub alone_at : (rule.node_at (front node_of table count) i).parent ≡ none → v ≡ rule.row_at rule.max_nodes (front node_of table count) i
  alone_at n = e ∙ row_alone (front node_of table count) t (omega (arith, front_length node_of table count h)) i n

  pub kid_at : (p : ℕ) → (rule.node_at (front node_of table count) i).parent ≡ some p →
      v + (get_or out p blank).at ≡ rule.row_at rule.max_nodes (front node_of table count) i
  kid_at p n =
      let u : (i < p) × (p < length (front node_of table count)) = t.up i p n in
      let l : length (front node_of table count) ≡ count = front_length node_of table count h in
      let a : (get_or out p blank).at ≡ rule.row_at rule.max_nodes (front node_of table count) p = ap (λ (y : Node). y.at) (s.is p (omega arith) (omega arith)) in
      rw (e, a) (row_kid (front node_of table count) t (omega arith) i p n)

abbrev node_with : rule.Node → ℕ → rule.Node
node_with x v = record { kind = x.kind; segment = x.segment; rows = x.rows; width = x.width; parent = x.parent; at = v }

-- a list of such nodes is the placing
place_ext : (i : ℕ) (ns xs ys : List rule.Node) → length ys ≡ length xs
    → ((k : ℕ) → k < length xs → rule.node_at ys k ≡ node_with (rule.node_at xs k) (rule.row_at rule.max_nodes ns (i + k))) → ys ≡ rule.place_from i ns xs
unfolding rule.place_from
place_ext i ns [] [] e h = refl
place_ext i ns [] (y ∷ ys) e h = absurd (omega arith)
place_ext i ns (x ∷ xs) [] e h = absurd (omega arith)
place_ext i ns (x ∷ xs) (y ∷ ys) e h =
    let a : y ≡ node_with x (rule.row_at rule.max_nodes ns i) = (let z : i + 0 ≡ i = omega arith in rw z at (h 0 (omega arith))) in
    let b : ys ≡ rule.place_from (suc i) ns xs =
    place_ext (suc i) ns xs ys (omega arith) (λ k l. let z : i + suc k ≡ suc i + k = omega arith in rw z at (h (suc k) (omega arith))) in
    rw (a, b)

pub placed_all : (table : List Node) (count : ℕ) (out : List Node) → count ≤ length table → Placed table count 0 out
    → front node_of out count ≡ rule.place_from 0 (front node_of table count) (front node_of table count)
placed_all table count out h s =
    let l : length (front node_of table count) ≡ count = front_length node_of table count h in
    let m : length (front node_of out count) ≡ count = front_length node_of out count (omega (arith, s.size)) in
    place_ext 0 (front node_of table count) (front node_of table count) (front node_of out count) (omega arith)
    (λ k b.
    let c : k < count = omega arith in
    let z : 0 + k ≡ k = omega arith in
    rw (
      z,
      front_at node_of out blank rule.no_node count k (omega (arith, s.size)) c,
      front_at node_of table blank rule.no_node count k h c,
      s.is k (omega arith) c,
    ))
