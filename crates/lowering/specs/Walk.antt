-- A node's children one after the other, then the node.
use Rattle.std.specs.Prelude.{◌≡◌, refl, Bool, true, false}
use Rattle.std.proofs.Common.{sym, ◌∙◌, arith, add-one}
use Rattle.std.proofs.Math.Path.{ap}
use mathlib.Core.List.{List, [], ◌∷◌}
use Rattle.std.proofs.Math.Option.{some}
use Prim.Native.Nat.{ℕ, zero, suc, ◌+◌, ◌-◌, ◌≤◌, ◌<◌}
use Rattle.std.specs.Prelude as code
use Rattle.numbers.specs.declared.index.Index.{Index}
use Rattle.rules.specs.Table.{is_some}
use Rattle.rules.specs.Job as rule
use Rattle.rules.specs.Plan.{node_of, keeps}
use Rattle.rules.specs.Machine.{Machine}
use Rattle.rules.specs.Lower.{lower_kind, lower_node, lower_list}
use Rattle.laws.specs.Table.{by_list}
use Rattle.laws.specs.JobOk.{JobOk}
use Rattle.laws.specs.NextKid.{kids_after, next_kid, after_yes, after_no, after_all, first, Whole, whole_next}
use Rattle.order.specs.Activates.{node_stays, list_stays}

-- The next child

-- the child, or the node itself where there is none
abbrev pub child_or : ℕ → code.Option (Index 24) → ℕ
child_or n code.None = n
child_or n (code.Some c) = c.at

-- the children from node c on are those from node i on
abbrev pub Passed : rule.Job → ℕ → ℕ → ℕ → Type 0
Passed j i n c = kids_after j.nodes i n ≡ kids_after j.nodes c n

module _ (j : rule.Job) (i n c : ℕ) (x : rule.Node) (b : Bool) (e : x ≡ node_of j c) (f : b ≡ is_some n x.parent) (h : Passed j i n c) where
  kid_is : is_some n (node_of j c).parent ≡ b
  kid_is = sym (f ∙ rw e)

  -- node c is it
  pub next_here : b ≡ true → c ≡ next_kid j.nodes i n
  next_here d = rw (h, after_yes j.nodes n c (kid_is ∙ d))

  -- node c is passed
  pub next_on : b ≡ false → Passed j i n (c + 1)
  next_on d = rw (add-one c) (h ∙ after_no j.nodes n c (kid_is ∙ d))

module _ (j : rule.Job) (ok : JobOk j) (i n : ℕ) where
  -- children stand before their parent
  kid_low : (i c : ℕ) (cs : List ℕ) → kids_after j.nodes i n ≡ c ∷ cs → (c < n) × (i ≤ c)
  kid_low i c cs e = let f = first j.nodes n i c cs e in ((ok.up c n f.is).0, f.from)

  -- so there is none from node n on
  pub next_end : (c : ℕ) → n ≤ c → Passed j i n c → n ≡ next_kid j.nodes i n
  next_end c h e = by_list (kids_after j.nodes c n)
      (λ d. rw (e, d))
      (λ a cs d. absurd (omega (arith, (kid_low c a cs d).0, (kid_low c a cs d).1)))

  module _ (c : ℕ) (e : c ≡ next_kid j.nodes i n) where
    -- no child is left
    next_none : n ≤ c → kids_after j.nodes i n ≡ []
    next_none h = by_list (kids_after j.nodes i n) (λ d. d)
        (λ a cs d. let z : c ≡ a = e ∙ rw d in absurd (omega (arith, (kid_low i a cs d).0)))

    -- the child, and the others
    next_some : c < n → (kids_after j.nodes i n ≡ c ∷ kids_after j.nodes (suc c) n) × (i ≤ c) × ((node_of j c).parent ≡ some n)
    next_some h = by_list (kids_after j.nodes i n)
        (λ d. let z : c ≡ n = e ∙ rw d in absurd (omega arith))
        (λ a cs d.
        let z : c ≡ a = e ∙ rw d in
        let f = first j.nodes n i a cs d in
        (rw (z, ← f.rest) d, rw z f.from, rw z f.is))

-- A node, whatever number of calls is left for it

pub node_none : (k t i n : ℕ) (m : Machine) (b : Bool) → b ≡ keeps m.job n t → b ≡ false → (f : ℕ) → n - i + (n - i) < f → m ≡ lower_node f k t n m
unfolding lower_node
node_none k t i n m b e d zero h = absurd (omega arith)
node_none k t i n m b e d (suc f) h = let u : keeps m.job n t ≡ false = sym e ∙ d in rw (u, lower_node)

node_open : (f k t n : ℕ) (m : Machine) → keeps m.job n t ≡ true
    → lower_node (suc f) k t n m ≡ lower_kind (node_of m.job n).kind k t n (lower_list f k t (rule.kids m.job.nodes n) m)
unfolding lower_node
node_open f k t n m u = rw (u, lower_node)

-- its children, then the node
module _ (k t i n : ℕ) (m m₁ m₂ : Machine) (b : Bool) (c : rule.Kind) where
  pub node_made : b ≡ keeps m.job n t → b ≡ true → c ≡ (node_of m.job n).kind → i ≤ n → Whole m.job i (suc n)
      → ((f : ℕ) → n - i + (n - i) ≤ f → m₁ ≡ lower_list f k t (kids_after m.job.nodes i n) m) → m₂ ≡ lower_kind c k t n m₁
      → (f : ℕ) → n - i + (n - i) < f → m₂ ≡ lower_node f k t n m
  node_made e d q h w l g zero o = absurd (omega arith)
  node_made e d q h w l g (suc f) o =
      let a : rule.kids m.job.nodes n ≡ kids_after m.job.nodes i n = after_all m.job.nodes n i (λ x p. w x n p h (omega arith)) in
      g ∙ ap (λ (x : rule.Kind). lower_kind x k t n m₁) q
      ∙ ap (lower_kind (node_of m.job n).kind k t n) (l f (omega arith) ∙ ap (λ (x : List ℕ). lower_list f k t x m) (sym a))
      ∙ sym (node_open f k t n m (sym e ∙ d))

-- the job stays
node_job : (k t i n : ℕ) (m m' : Machine) → ((f : ℕ) → n - i + (n - i) < f → m' ≡ lower_node f k t n m) → m'.job ≡ m.job
node_job k t i n m m' h = let f = suc (n - i + (n - i)) in ap (λ (x : Machine). x.job) (h f (omega arith)) ∙ (node_stays f k t n m).0

list_job : (k t i n : ℕ) (m m' : Machine) → ((f : ℕ) → n - i + (n - i) ≤ f → m' ≡ lower_list f k t (kids_after m.job.nodes i n) m) → m'.job ≡ m.job
list_job k t i n m m' h =
    let f = n - i + (n - i) in
    ap (λ (x : Machine). x.job) (h f (omega arith)) ∙ (list_stays f k t (kids_after m.job.nodes i n) m).0

-- so the job is accepted still, and the node is what it was
module _ (k t i n : ℕ) (m m' : Machine) where
  pub made_job : JobOk m.job → ((f : ℕ) → n - i + (n - i) ≤ f → m' ≡ lower_list f k t (kids_after m.job.nodes i n) m) → JobOk m'.job
  made_job ok h = rw (list_job k t i n m m' h) ok

  pub made_kind : (x : rule.Node) → x ≡ node_of m.job n
      → ((f : ℕ) → n - i + (n - i) ≤ f → m' ≡ lower_list f k t (kids_after m.job.nodes i n) m) → x.kind ≡ (node_of m'.job n).kind
  made_kind x e h = ap (λ (y : rule.Node). y.kind) e ∙ ap (λ (y : rule.Job). (node_of y n).kind) (sym (list_job k t i n m m' h))

-- A list of children

list_nil : (f k t : ℕ) (m : Machine) → m ≡ lower_list f k t [] m
unfolding lower_list
list_nil zero k t m = refl
list_nil (suc f) k t m = refl

module _ (k t i n c : ℕ) (m : Machine) (ok : JobOk m.job) (e : c ≡ next_kid m.job.nodes i n) where
  -- none is left
  pub list_none : n ≤ c → (f : ℕ) → m ≡ lower_list f k t (kids_after m.job.nodes i n) m
  list_none h f = list_nil f k t m ∙ ap (λ (x : List ℕ). lower_list f k t x m) (sym (next_none m.job ok i n c e h))

  -- where the next one stands
  pub child_from : c < n → i ≤ c
  child_from h = (next_some m.job ok i n c e h).1

  -- what is below it
  pub child_whole : c < n → Whole m.job i n → Whole m.job i (suc c)
  child_whole h w d p q l g = w d p q l (omega arith)

  module _ (m₁ : Machine) (h : c < n) (a : (f : ℕ) → c - i + (c - i) < f → m₁ ≡ lower_node f k t c m) where
    pub rest_job : JobOk m₁.job
    rest_job = rw (node_job k t i c m m₁ a) ok

    -- what is behind it
    pub rest_whole : Whole m₁.job (c + 1) n
    rest_whole = rw (node_job k t i c m m₁ a, add-one c) (whole_next m.job c n ok (next_some m.job ok i n c e h).2)

    -- it, then the others
    pub list_more : (m₂ : Machine) → ((f : ℕ) → n - (c + 1) + (n - (c + 1)) ≤ f → m₂ ≡ lower_list f k t (kids_after m₁.job.nodes (c + 1) n) m₁)
        → (f : ℕ) → n - i + (n - i) ≤ f → m₂ ≡ lower_list f k t (kids_after m.job.nodes i n) m
    unfolding lower_list
    list_more m₂ l zero o = absurd (omega (arith, child_from h))
    list_more m₂ l (suc f) o =
        let y = next_some m.job ok i n c e h in
        let q : kids_after m₁.job.nodes (c + 1) n ≡ kids_after m.job.nodes (suc c) n =
        ap (λ (x : rule.Job). kids_after x.nodes (c + 1) n) (node_job k t i c m m₁ a) ∙ ap (λ (x : ℕ). kids_after m.job.nodes x n) (add-one c) in
        l f (omega (arith, y.1)) ∙ ap (λ (x : List ℕ). lower_list f k t x m₁) q
        ∙ ap (lower_list f k t (kids_after m.job.nodes (suc c) n)) (a f (omega (arith, y.1)))
        ∙ ap (λ (x : List ℕ). lower_list (suc f) k t x m) (sym y.0)
