-- Where the children of a node stand among the root's rows, and what else they share with it.
use Rattle.std.specs.Prelude.{◌≡◌, false, List, [], ◌∷◌, ℕ, ◌+◌}
use Rattle.std.proofs.Common.{sym, ap₂, ◌∙◌}
use Rattle.rules.specs.Table.{sum_of}
use Rattle.rules.specs.Job.{Kind, segment, concat, pack, Node, Job, node_at, is_segment, kids}
use Rattle.rules.specs.Plan.{node_of}
use Rattle.laws.specs.Table.{clash}
use Rattle.laws.specs.JobOk.{JobOk}
use Rattle.laws.specs.Rows.{All}
use Rattle.laws.specs.RowIn.{by_kind}
use Rattle.laws.specs.KidPlaces.{Placed, All-zip, kids_each}
use Rattle.laws.specs.KidRows.{pack_at, concat_placed}

-- the children of a node that stands at a: a concat's one after another, a pack's all there
abbrev pub Stand : Kind → (ℕ → ℕ) → (ℕ → ℕ) → ℕ → List ℕ → Type 0
Stand segment at rows a cs = Unit
Stand concat at rows a cs = Placed at rows a cs
Stand pack at rows a cs = All (λ c. at c ≡ a) cs

-- what all children have as their parent has it
abbrev pub even_of : Kind → Node → ℕ
even_of segment x = x.width
even_of concat x = x.width
even_of pack x = x.rows

-- what the children's add up to
abbrev pub add_of : Kind → Node → ℕ
add_of segment x = x.rows
add_of concat x = x.rows
add_of pack x = x.width

-- the children of node x of kind k, oldest first, fit it
pub record Fit (ns : List Node) (k : Kind) (x : Node) (cs : List ℕ) : Type 0 where
  pub even : All (λ c. even_of k (node_at ns c) ≡ even_of k x) cs
  pub adds : sum_of (λ c. add_of k (node_at ns c)) cs ≡ add_of k x
  pub stand : Stand k (λ c. (node_at ns c).at) (λ c. (node_at ns c).rows) x.at cs

-- children that stand one after another in two ways, with the same rows, stand in one
placed_same : (at to rows size : ℕ → ℕ) (a b : ℕ) (cs : List ℕ) → a ≡ b → ((c : ℕ) → rows c ≡ size c) → Placed at rows a cs → Placed to size b cs → All (λ c. at c ≡ to c) cs
placed_same at to rows size a b [] e h p q = tt
placed_same at to rows size a b (c ∷ cs) e h p q = (p.0 ∙ e ∙ sym q.0, placed_same at to rows size (a + rows c) (b + size c) cs (ap₂ ◌+◌ e (h c)) h p.1 q.1)

-- the children of one node stand in one way
pub stand_same : (k : Kind) (at to rows size : ℕ → ℕ) (a b : ℕ) (cs : List ℕ) → is_segment k ≡ false → a ≡ b → ((c : ℕ) → rows c ≡ size c)
    → Stand k at rows a cs → Stand k to size b cs → All (λ c. at c ≡ to c) cs
stand_same segment at to rows size a b cs s e h p q = clash (cc)
stand_same concat at to rows size a b cs s e h p q = placed_same at to rows size a b cs e h p q
stand_same pack at to rows size a b cs s e h p q = All-zip (λ c. at c ≡ a) (λ c. to c ≡ b) (λ c. at c ≡ to c) (λ c u v. u ∙ e ∙ sym v) cs p q

-- the children of a node of a sound job stand in it
pub job_stand : (j : Job) → JobOk j → (q : ℕ) → Stand (node_of j q).kind (λ c. (node_of j c).at) (λ c. (node_of j c).rows) (node_of j q).at (kids j.nodes q)
job_stand j v q =
    by_kind (node_of j q).kind (λ k. rw k tt) (λ k. rw k (concat_placed j v q k))
    (λ k. rw k (kids_each (λ c. (node_of j c).at ≡ (node_of j q).at) j.nodes q (λ c e. pack_at j v q c k e)))
