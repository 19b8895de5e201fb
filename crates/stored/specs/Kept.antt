-- The draft of the stored nodes so far, and one more of them.
use Rattle.std.specs.Prelude.{◌≡◌, true, List, [], ℕ, ◌<◌, length}
use Rattle.std.proofs.Common.{◌∙◌, arith}
use Rattle.std.proofs.Math.Option.{some}
use Rattle.rules.specs.Table.{has}
use Rattle.rules.specs.Job.{Node, Draft, Record, accepted, node_at, kids, newest, restore}
use Rattle.laws.specs.Table.{by_eq}
use Rattle.laws.specs.Kids.{bare}
use Rattle.laws.specs.Tree.{NewOk}
use Rattle.laws.specs.More.{with_node, grown, bares_stay, kids_stay, own_kids, by_parent_lem}
use Rattle.laws.specs.Draft.{RecordOk}
use Rattle.laws.specs.Again.{Written, written_keep}
use Rattle.stored.specs.Stand.{Stand}

-- the children of node q, by this list, stand where the stored nodes say
abbrev pub Stands : List Node → ℕ → List ℕ → Type 0
Stands ns q cs = Stand (node_at ns q).kind (λ c. (node_at ns c).at) (λ c. (node_at ns c).rows) (node_at ns q).at cs

-- a draft of as many of the stored nodes as it has: they are the same but for their places, a parent that is set is the stored one, and children
-- stand where they should
pub record Kept (ns : List Node) (s : ℕ) (d : Draft) : Type 0 where
  pub written : Written d
  pub slots : d.slots ≡ s
  pub splits : d.splits ≡ []
  pub bares : (k : ℕ) → k < length d.nodes → bare (node_at d.nodes k) ≡ bare (node_at ns k)
  pub parents : (k q : ℕ) → (node_at d.nodes k).parent ≡ some q → (node_at ns k).parent ≡ some q
  pub stands : (q : ℕ) → q < length d.nodes → Stands ns q (kids d.nodes q)

module _ (ns : List Node) (s : ℕ) (d : Draft) (v : Kept ns s d) (n : ℕ) (x : Node) (w : NewOk d.nodes (newest n d) x) where
  -- a draft of one stored node more
  pub more_kept : (r : Record) → RecordOk r → restore r d ≡ accepted (with_node n x d) → bare x ≡ bare (node_at ns (length d.nodes))
      → ((k : ℕ) → has k (newest n d) ≡ true → (node_at ns k).parent ≡ some (length d.nodes)) → Stands ns (length d.nodes) (newest n d)
      → Kept ns s (with_node n x d)
  more_kept r o a b p st =
      let t = v.written.draft.tree in
      let f = v.written.draft.free in
      let g = grown d f n x in
      record {
        written = written_keep r d (with_node n x d) o v.written a;
        slots = v.slots;
        splits = v.splits;
        bares = λ k h.
            by_eq k (length d.nodes) (λ e. rw (e, g.last) b)
            (λ e. let l : k < length d.nodes = omega (arith, g.size) in bares_stay d f n x t w k l ∙ v.bares k l);
        parents = λ k q e. by_parent_lem d f n x t w k q e (λ h z. rw z (p k h)) (λ o. v.parents k q o);
        stands = λ q h.
            by_eq q (length d.nodes) (λ e. rw (e, own_kids d f n x t w) st)
            (λ e. let l : q < length d.nodes = omega (arith, g.size) in rw (kids_stay d f n x t w q l) (v.stands q l));
      }
