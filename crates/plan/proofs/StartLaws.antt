-- What the pass up keeps.
use mathlib.Core.Path.{◌≡◌, sym, ◌∙◌}
use mathlib.Core.Logic.{◌≢◌}
use mathlib.Core.Bool.{false}
use mathlib.Core.List.{List}
use mathlib.Core.Option.{none, some}
use Prim.Native.Nat.{ℕ, ◌+◌, ◌≤◌, ◌<◌}
use native.Mathlib.Omega.{arith}
use lib.ListN.{length, get_or, set, replicate, length-set}
use lib.Seq.{get_or-set_same, get_or-set_other}
use borrow.Author.Tests.{eq-eqb, ne_eqb}
use Rattle.rules.specs.Table.{is_some}
use Rattle.rules.specs.Job as rule
use Rattle.laws.specs.Table.{by_eq, get_replicate, get_get_or}
use Rattle.laws.specs.Kids.{none_not}
use Rattle.laws.specs.Tree.{TreeOk}
use Rattle.jobs.specs.Job.{front, kind_of, node_of}
use Rattle.jobs.specs.declared.Node.{Node}
use Rattle.jobs.specs.declared.Kind.TheVariants.{Segment}
use Rattle.jobs.proofs.Front.{front_at, front_length}
use Rattle.plan.specs.Place.{share_of, start_of}
use Rattle.plan.proofs.OffsetLaws.{offset_first, offset_kid, offset_other}

-- a node of zeros
abbrev pub blank : Node
blank = record { kind = Segment; segment = 0; rows = 0; width = 0; parent = 0; at = 0 }

-- A node of the table

module _ (table : List Node) (count i : ℕ) (h : count ≤ length table) (k : i < count) (x : Node) (q : x ≡ get_or table i blank) where
  pub alone : x.parent ≡ 255 → (rule.node_at (front node_of table count) i).parent ≡ none
  alone e = rw (front_at node_of table blank rule.no_node count i h k, ← q, eq-eqb x.parent 255 e)

  module _ (p : ℕ) (n : x.parent ≢ 255) (e : p ≡ x.parent) where
    pub child : (rule.node_at (front node_of table count) i).parent ≡ some p
    child = rw (front_at node_of table blank rule.no_node count i h k, ← q, ne_eqb x.parent 255 n, e)

    module _ (t : TreeOk (front node_of table count)) where
      pub parent_low : p < count
      parent_low = omega (arith, (t.up i p child).1, front_length node_of table count h)

      -- what it adds to its parent's rows
      pub share_is : share_of (kind_of (get_or table p blank).kind) x.rows
          ≡ share_of (rule.node_at (front node_of table count) p).kind (rule.node_at (front node_of table count) i).rows
      share_is = rw (front_at node_of table blank rule.no_node count p h parent_low, front_at node_of table blank rule.no_node count i h k, ← q)

-- The starts

-- before i they are found, and the sums are the rows of each node's children before i
pub record Started (ns : List rule.Node) (i : ℕ) (starts sums : List ℕ) : Type 0 where
  pub start_size : length starts ≡ 24
  pub sum_size : length sums ≡ 24
  pub is : (k : ℕ) → k < i → get_or starts k 0 ≡ start_of ns k
  pub rest : (k : ℕ) → i ≤ k → get_or starts k 0 ≡ 0
  pub sum : (p : ℕ) → get_or sums p 0 ≡ rule.offset ns p i

abbrev none_yet : List ℕ
none_yet = replicate 24 0

zeros : (k : ℕ) → get_or none_yet k 0 ≡ 0
zeros k = sym (get_get_or 0 none_yet k) ∙ get_replicate 0 24 k

pub started_first : (ns : List rule.Node) → Started ns 0 (replicate 24 0) (replicate 24 0)
started_first ns = record {
  start_size = omega arith;
  sum_size = omega arith;
  is = λ k h. absurd (omega arith);
  rest = λ k h. zeros k;
  sum = λ p. zeros p
      ∙ sym (offset_first ns p);
}

module _ (ns : List rule.Node) (starts sums : List ℕ) (i : ℕ) (s : Started ns i starts sums) where
  start_none : (rule.node_at ns i).parent ≡ none → 0 ≡ start_of ns i
  start_none e = rw (e, start_of)

  -- past a parentless node
  pub started_alone : (rule.node_at ns i).parent ≡ none → Started ns (i + 1) starts sums
  started_alone e = record {
    start_size = s.start_size;
    sum_size = s.sum_size;
    is = λ k h. by_eq k i (λ z. rw z (s.rest i (omega arith) ∙ start_none e)) (λ z. s.is k (omega arith));
    rest = λ k h. s.rest k (omega arith);
    sum = λ p. s.sum p ∙ sym (offset_other ns p i (none_not p (rule.node_at ns i).parent e));
  }

  -- past a child
  module _ (p w : ℕ) (e : (rule.node_at ns i).parent ≡ some p) (y : w ≡ share_of (rule.node_at ns p).kind (rule.node_at ns i).rows) (a : i < 24) (b : p < 24) where
    abbrev v : ℕ
    v = get_or sums p 0

    kid_start : v ≡ start_of ns i
    kid_start = rw (e, start_of) (s.sum p)

    kid_not : (q : ℕ) → q ≢ p → is_some q (rule.node_at ns i).parent ≡ false
    unfolding is_some
    kid_not q n = rw (e, is_some) (ne_eqb q p n)

    kid_sum : (q : ℕ) → get_or (set sums p (v + w)) q 0 ≡ rule.offset ns q (i + 1)
    kid_sum q = by_eq q p
        (λ z. rw (z, get_or-set_same sums p (v + w) 0 (omega (arith, s.sum_size)), s.sum p, y) (sym (offset_kid ns p i e)))
        (λ z. get_or-set_other sums p q (v + w) 0 z ∙ s.sum q ∙ sym (offset_other ns q i (kid_not q z)))

    pub started_kid : Started ns (i + 1) (set starts i v) (set sums p (v + w))
    started_kid = record {
      start_size = simp length-set s.start_size;
      sum_size = simp length-set s.sum_size;
      is = λ k h. by_eq k i (λ z. rw (z, get_or-set_same starts i v 0 (omega (arith, s.start_size))) kid_start) (λ z. get_or-set_other starts i k v 0 z
          ∙ s.is k (omega arith));
      rest = λ k h. get_or-set_other starts i k v 0 (omega arith) ∙ s.rest k (omega arith);
      sum = kid_sum;
    }
