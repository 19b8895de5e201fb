-- A draft with one node more, which takes the newest parentless ones as its children.
use Rattle.std.specs.Prelude.{◌≡◌, true, ◌∷◌, ℕ, ◌<◌, length, drop}
use Rattle.std.proofs.Common.{ap}
use Rattle.std.proofs.Math.Option.{some}
use Rattle.rules.specs.Table.{has}
use Rattle.rules.specs.Job.{Node, Draft, node_at, kids, newest, set_parents, new_node}
use Rattle.laws.specs.Kids.{bare}
use Rattle.laws.specs.Rising.{falling_high}
use Rattle.laws.specs.Tree.{TreeOk, FreeOk, Takes, Grown, NewOk, old_bare, by_parent, old_kids, new_kids, grown_tree, grown_free}
use Rattle.laws.specs.Parents.{take_newest, add_grown, parents_size}

abbrev pub with_node : ℕ → Node → Draft → Draft
with_node n x d = new_node x (set_parents (length d.nodes) (newest n d) d.nodes) (drop n d.free) d

module _ (d : Draft) (f : FreeOk d.nodes d.free) (n : ℕ) where
  takes : Takes (length d.nodes) d.free (newest n d) (drop n d.free)
  takes = take_newest (length d.nodes) n d.free f.falls

  -- those that it takes are nodes of the draft
  pub newest_low : (i : ℕ) → has i (newest n d) ≡ true → i < length d.nodes
  newest_low i h = falling_high (length d.nodes) d.free i f.falls (takes.from i h)

  -- and so are those that are left
  pub left_low : (i : ℕ) → has i (drop n d.free) ≡ true → i < length d.nodes
  left_low i h = falling_high (length d.nodes) (drop n d.free) i takes.falls h

  module _ (x : Node) where
    pub grown : Grown d.nodes (with_node n x d).nodes (newest n d) x
    grown = add_grown d.nodes (newest n d) x newest_low

    -- the new node is the newest parentless one
    pub newest_first : (with_node n x d).free ≡ length d.nodes ∷ drop n d.free
    newest_first = ap (λ k. k ∷ drop n d.free) (parents_size (length d.nodes) (newest n d) d.nodes newest_low)

    module _ (t : TreeOk d.nodes) (w : NewOk d.nodes (newest n d) x) where
      pub more_tree : TreeOk (with_node n x d).nodes
      more_tree = grown_tree d.nodes (with_node n x d).nodes d.free (newest n d) (drop n d.free) x t f takes grown w

      pub more_free : FreeOk (with_node n x d).nodes (with_node n x d).free
      more_free = rw newest_first (grown_free d.nodes (with_node n x d).nodes d.free (newest n d) (drop n d.free) x t f takes grown w)

      -- the others are what they were, and have the children that they had
      pub bares_stay : (i : ℕ) → i < length d.nodes → bare (node_at (with_node n x d).nodes i) ≡ bare (node_at d.nodes i)
      bares_stay = old_bare d.nodes (with_node n x d).nodes d.free (newest n d) (drop n d.free) x t f takes grown w

      pub kids_stay : (q : ℕ) → q < length d.nodes → kids (with_node n x d).nodes q ≡ kids d.nodes q
      kids_stay = old_kids d.nodes (with_node n x d).nodes d.free (newest n d) (drop n d.free) x t f takes grown w

      -- its own children
      pub own_kids : kids (with_node n x d).nodes (length d.nodes) ≡ newest n d
      own_kids = new_kids d.nodes (with_node n x d).nodes d.free (newest n d) (drop n d.free) x t f takes grown w

      -- a node's parent is the new node, or the one that it had
      pub by_parent_lem {ℓ} : {P : Type ℓ} (i q : ℕ) → (node_at (with_node n x d).nodes i).parent ≡ some q
          → (has i (newest n d) ≡ true → q ≡ length d.nodes → P) → ((node_at d.nodes i).parent ≡ some q → P) → P
      by_parent_lem = by_parent d.nodes (with_node n x d).nodes d.free (newest n d) (drop n d.free) x t f takes grown w
