-- The children of a node from another node on, the first of them, and what is passed with it.
use Rattle.std.specs.Prelude.{◌≡◌, refl, ◌≢◌, true, false, ℕ, zero, suc, ◌+◌, ◌≤◌, ◌<◌, length, ltb}
use Rattle.std.proofs.Common.{sym, ◌∙◌, arith, ltb-true, ltb-false}
use mathlib.Core.List.{List, [], ◌∷◌}
use Rattle.std.proofs.Math.Option.{some}
use Rattle.std.proofs.Math.ListN.{drop, drop_of_length-le}
use Rattle.rules.specs.Table.{get, is_some}
use Rattle.rules.specs.Job.{Node, Job, node_at, kids_from, kids}
use Rattle.rules.specs.Plan.{node_of}
use Rattle.laws.specs.Table.{by_bool, by_eq, clash}
use Rattle.laws.specs.JobOk.{JobOk}
use Rattle.laws.specs.Kids.{is_some_lem, some_is, none_not, kids_yes, kids_no}

-- the children of node n from node i on
abbrev pub kids_after : List Node → ℕ → ℕ → List ℕ
kids_after ns i n = kids_from i n (drop i ns)

-- the first of them; n where there is none
abbrev pub next_kid : List Node → ℕ → ℕ → ℕ
next_kid ns i n = get n (kids_after ns i n) 0

-- Node after node

yes_at : (i a n : ℕ) (xs : List Node) → is_some n (node_at xs a).parent ≡ true → kids_from i n (drop a xs) ≡ i ∷ kids_from (suc i) n (drop (suc a) xs)
yes_at i a n [] e = clash (cc (none_not n _ refl))
yes_at i zero n (x ∷ xs) e = kids_yes i n x xs e
yes_at i (suc a) n (x ∷ xs) e = yes_at i a n xs e

no_at : (i a n : ℕ) (xs : List Node) → is_some n (node_at xs a).parent ≡ false → kids_from i n (drop a xs) ≡ kids_from (suc i) n (drop (suc a) xs)
unfolding kids_from
no_at i zero n [] e = refl
no_at i (suc a) n [] e = refl
no_at i zero n (x ∷ xs) e = kids_no i n x xs e
no_at i (suc a) n (x ∷ xs) e = no_at i a n xs e

module _ (ns : List Node) (n : ℕ) where
  -- node i is a child
  pub after_yes : (i : ℕ) → is_some n (node_at ns i).parent ≡ true → kids_after ns i n ≡ i ∷ kids_after ns (suc i) n
  after_yes i e = yes_at i i n ns e

  -- it is none
  pub after_no : (i : ℕ) → is_some n (node_at ns i).parent ≡ false → kids_after ns i n ≡ kids_after ns (suc i) n
  after_no i e = no_at i i n ns e

  -- past all nodes there is none
  after_past : (i : ℕ) → length ns ≤ i → kids_after ns i n ≡ []
  unfolding kids_from
  after_past i h = let e : drop i ns ≡ [] = drop_of_length-le ns {i = i} h in rw e

  -- no child stands before node i
  pub after_all : (i : ℕ) → ((c : ℕ) → (node_at ns c).parent ≡ some n → i ≤ c) → kids ns n ≡ kids_after ns i n
  after_all zero h = refl
  after_all (suc i) h = after_all i (λ c e. let b : suc i ≤ c = h c e in omega arith)
      ∙ after_no i (by_bool (is_some n (node_at ns i).parent) (λ e. absurd (omega (arith, h i (is_some_lem n (node_at ns i).parent e)))) (λ e. e))

  -- the first child from node i on, and the others
  pub record First (i c : ℕ) (cs : List ℕ) : Type 0 where
    pub from : i ≤ c
    pub is : (node_at ns c).parent ≡ some n
    pub rest : cs ≡ kids_after ns (suc c) n
    pub others : (d : ℕ) → i ≤ d → d < c → (node_at ns d).parent ≢ some n

  first_next : (i c : ℕ) (cs : List ℕ) → is_some n (node_at ns i).parent ≡ false → First (suc i) c cs → First i c cs
  first_next i c cs e f = record {
    from = let b = f.from in omega arith;
    is = f.is;
    rest = f.rest;
    others = λ d l h. by_eq d i (λ z q. clash (cc (e, z, some_is n (node_at ns d).parent q))) (λ z. f.others d (omega arith) h);
  }

  first_here : (i c : ℕ) (cs : List ℕ) → is_some n (node_at ns i).parent ≡ true → kids_after ns i n ≡ c ∷ cs → First i c cs
  first_here i c cs e h =
      let y : i ∷ kids_after ns (suc i) n ≡ c ∷ cs = sym (after_yes i e) ∙ h in
      let z : i ≡ c = cc (y) in
      record { from = omega arith; is = rw (← z) (is_some_lem n (node_at ns i).parent e); rest = rw (← z) (cc (y)); others = λ d l k. absurd (omega arith) }

  first_in : (f i c : ℕ) (cs : List ℕ) → length ns ≤ i + f → kids_after ns i n ≡ c ∷ cs → First i c cs
  first_in zero i c cs h e = clash (cc (e, after_past i (omega arith)))
  first_in (suc f) i c cs h e = by_bool (is_some n (node_at ns i).parent)
      (λ d. first_here i c cs d e)
      (λ d. first_next i c cs d (first_in f (suc i) c cs (omega arith) (sym (after_no i d) ∙ e)))

  pub first : (i c : ℕ) (cs : List ℕ) → kids_after ns i n ≡ c ∷ cs → First i c cs
  first i c cs e = first_in (length ns) i c cs (omega arith) e

  -- where there is none, no node from i on is a child
  pub none_after : (f i d : ℕ) → kids_after ns i n ≡ [] → d ≡ i + f → (node_at ns d).parent ≢ some n
  none_after zero i d e q h =
      let z : i ≡ d = omega arith in
      clash (cc (e, after_yes i (rw z (some_is n (node_at ns d).parent h))))
  none_after (suc f) i d e q h = by_bool (is_some n (node_at ns i).parent)
      (λ b. clash (cc (e, after_yes i b)))
      (λ b. none_after f (suc i) d (sym (after_no i b) ∙ e) (omega arith) h)

-- Postfix order

-- what stands below the nodes from i to before n stands from i on
abbrev pub Whole : Job → ℕ → ℕ → Type 0
Whole j i n = (c p : ℕ) → (node_of j c).parent ≡ some p → i ≤ p → p < n → i ≤ c

-- a child is passed, and all below it
pub whole_next : (j : Job) (c n : ℕ) → JobOk j → (node_of j c).parent ≡ some n → Whole j (suc c) n
whole_next j c n ok e d p q l h = by_bool (ltb c d) (λ b. ltb-true c d b) (λ b. absurd (by_eq d c
    (λ z. let o : p ≡ n = cc (q, e, z) in omega arith)
    (λ z. let w = ok.within d p c q (omega (arith, ltb-false c d b)) (omega arith) in let o : w.0 ≡ n = cc (w.1, e) in omega (arith, w.2))))
