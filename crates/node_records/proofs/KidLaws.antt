-- A loop over the children that a new node takes.
use mathlib.Core.Path.{◌≡◌, refl, ap, ◌∙◌}
use mathlib.Core.Bool.{Bool, true, false}
use mathlib.Core.List.{List, [], ◌∷◌, map}
use Prim.Native.Nat.{ℕ, zero, suc, ◌+◌, ◌≤◌, ◌<◌}
use native.Mathlib.Omega.{arith}
use native.Mathlib.Numerals.{add-one}
use lib.ListN.{length, get_or, set, drop}
use lib.Seq.{drop-cons}
use borrow.Author.Tests.{ne_eqb}
use Rattle.numbers.specs.Loops.{drop_past}
use Rattle.rules.specs.Table.{any, sum_of, put}
use Rattle.rules.specs.Job as rule
use Rattle.jobs.specs.Job.{node_of}
use Rattle.node_records.specs.Kids.{Kids, kid_nodes, measure_of}
use Rattle.jobs.specs.declared.Node.{Node}
use Rattle.jobs.specs.declared.Kind.TheVariants.{Segment}

-- a node of zeros
abbrev pub blank : Node
blank = record { kind = Segment; segment = 0; rows = 0; width = 0; parent = 0; at = 0 }

node_get : (xs : List Node) (i : ℕ) (d : Node) → i < length xs → rule.node_at (map node_of xs) i ≡ node_of (get_or xs i d)
node_get [] i d h = absurd (omega arith)
node_get (x ∷ xs) zero d h = refl
node_get (x ∷ xs) (suc i) d h = node_get xs i d (omega arith)

node_put : (xs : List Node) (i : ℕ) (x : Node) → i < length xs → map node_of (set xs i x) ≡ put rule.no_node (map node_of xs) i (node_of x)
node_put [] i x h = absurd (omega arith)
node_put (y ∷ xs) zero x h = refl
node_put (y ∷ xs) (suc i) x h = ap (λ (l : List rule.Node). node_of y ∷ l) (node_put xs i x (omega arith))

abbrev pub with_parent : Node → ℕ → Node
with_parent x p = record { kind = x.kind; segment = x.segment; rows = x.rows; width = x.width; parent = p; at = x.at }

parents_one : (p c : ℕ) (cs : List ℕ) (ns : List rule.Node)
    → rule.set_parents p (c ∷ cs) ns ≡ rule.set_parents p cs (put rule.no_node ns c (rule.with_parent p (rule.node_at ns c)))
unfolding rule.set_parents
parents_one p c cs ns = refl

module _ (nodes : List Node) (kids : List ℕ) (i : ℕ) where
  pub sum_end : (rows : Bool) → length kids ≤ i → sum_of (measure_of rows) (kid_nodes nodes (drop i kids)) ≡ 0
  unfolding sum_of kid_nodes
  sum_end rows h = rw (drop_past kids i h)

  pub any_end : (t : rule.Node → Bool) → length kids ≤ i → any t (kid_nodes nodes (drop i kids)) ≡ false
  unfolding any kid_nodes
  any_end t h = rw (drop_past kids i h)

  pub parents_end : (p : ℕ) (ns : List rule.Node) → length kids ≤ i → rule.set_parents p (drop i kids) ns ≡ ns
  unfolding rule.set_parents
  parents_end p ns h = rw (drop_past kids i h)

  module _ (l : i < length kids) (q : Kids nodes kids) (c : ℕ) (e : c ≡ get_or kids i 0) (d : Node) where
    is_node : c < length nodes
    is_node = rw e (q.below i l)

    kids_cons : kid_nodes nodes (drop i kids) ≡ node_of (get_or nodes c d) ∷ kid_nodes nodes (drop (i + 1) kids)
    unfolding kid_nodes
    kids_cons = rw (add-one i, drop-cons kids i 0 l, ← e, node_get nodes c d is_node)

    pub sum_more : (rows : Bool) (v : ℕ) → v ≡ measure_of rows (node_of (get_or nodes c d))
        → sum_of (measure_of rows) (kid_nodes nodes (drop i kids)) ≡ v + sum_of (measure_of rows) (kid_nodes nodes (drop (i + 1) kids))
    unfolding sum_of
    sum_more rows v f = rw (kids_cons, f)

    pub any_kid : (t : rule.Node → Bool) → t (node_of (get_or nodes c d)) ≡ true → any t (kid_nodes nodes (drop i kids)) ≡ true
    unfolding any
    any_kid t f = rw (kids_cons, f)

    pub no_kid : (t : rule.Node → Bool) → t (node_of (get_or nodes c d)) ≡ false
        → any t (kid_nodes nodes (drop i kids)) ≡ any t (kid_nodes nodes (drop (i + 1) kids))
    unfolding any
    no_kid t f = rw (kids_cons, f)

    pub parents_more : (p : ℕ) → p < 255
        → rule.set_parents p (drop i kids) (map node_of nodes)
        ≡ rule.set_parents p (drop (i + 1) kids) (map node_of (set nodes c (with_parent (get_or nodes c d) p)))
    parents_more p h =
        rw (add-one i, drop-cons kids i 0 l, ← e)
        (parents_one p c (drop (suc i) kids) (map node_of nodes)
        ∙ ap (rule.set_parents p (drop (suc i) kids))
        (rw (
          node_get nodes c d is_node,
          node_put nodes c (with_parent (get_or nodes c d) p) is_node,
          ne_eqb p 255 (omega arith),
        )))

-- the first child, and the others
pub kids_first : (nodes : List Node) (kids : List ℕ) → 0 < length kids → Kids nodes kids → (c : ℕ) → c ≡ get_or kids 0 0 → (d : Node)
    → kid_nodes nodes kids ≡ node_of (get_or nodes c d) ∷ kid_nodes nodes (drop 1 kids)
kids_first nodes kids l q c e d = kids_cons nodes kids 0 l q c e d

module _ (t : rule.Node → Bool) (nodes : List Node) (i : ℕ) where
  pub search_end : length nodes ≤ i → any t (map node_of (drop i nodes)) ≡ false
  unfolding any
  search_end h = rw (drop_past nodes i h)

  module _ (d : Node) (l : i < length nodes) where
    pub search_hit : t (node_of (get_or nodes i d)) ≡ true → any t (map node_of (drop i nodes)) ≡ true
    unfolding any
    search_hit f = rw (drop-cons nodes i d l, f)

    pub search_miss : t (node_of (get_or nodes i d)) ≡ false → any t (map node_of (drop i nodes)) ≡ any t (map node_of (drop (i + 1) nodes))
    unfolding any
    search_miss f = rw (add-one i, drop-cons nodes i d l, f)
