-- The front part of the stack that a node takes, by its size, and what the pops say of it.
use Rattle.std.specs.Prelude.{◌≡◌, true, false, List, [], ◌∷◌, ℕ, suc, ◌≤◌, length, take, drop, eqb}
use Rattle.std.proofs.Common.{sym, ◌∙◌, arith, eqb-true, eq-eqb}
use Rattle.std.proofs.Math.Option.{some}
use Rattle.rules.specs.Table.{has, is_some}
use Rattle.rules.specs.Job.{Kind, Node, node_at}
use Rattle.laws.specs.Table.{by_bool, by_eq, clash, and_left, and_right}
use Rattle.laws.specs.Rising.{has_tail, has_nil}
use Rattle.laws.specs.Kids.{is_some_lem}
use Rattle.stored.specs.Walk.{nothing, child_fits, less, closed, pops, has_two}

-- how many of the newest on the stack name node i as their parent
unfoldable pub count : List Node → ℕ → List ℕ → ℕ
count ns i [] = 0
count ns i (c ∷ free) = elim (is_some i (node_at ns c).parent) [ true ↦ suc (count ns i free) | false ↦ 0 ]

-- children of node x of kind k, the newest first, that fit one after another with so much left before and after
abbrev pub Chain : List Node → Kind → Node → ℕ → List ℕ → ℕ → Type 0
Chain ns k x left [] l = left ≡ l
Chain ns k x left (c ∷ cs) l = (child_fits k x left (node_at ns c) ≡ true) × Chain ns k x (less k left (node_at ns c)) cs l

-- they are no more than the stack has
pub count_low : (ns : List Node) (i : ℕ) (free : List ℕ) → count ns i free ≤ length free
unfolding count
count_low ns i [] = omega arith
count_low ns i (c ∷ free) =
    let ih = count_low ns i free in
    by_bool (is_some i (node_at ns c).parent) (λ e. rw (e, count) (omega arith)) (λ e. rw (e, count) (omega arith))

-- and at least two where the two newest are children
pub count_two : (ns : List Node) (i : ℕ) (free : List ℕ) → has_two ns i free ≡ true → 2 ≤ count ns i free
unfolding count
count_two ns i [] h = clash (cc)
count_two ns i (c ∷ []) h = clash (cc)
count_two ns i (c ∷ b ∷ free) h =
    let e = and_left (is_some i (node_at ns c).parent) (is_some i (node_at ns b).parent) h in
    let f = and_right (is_some i (node_at ns c).parent) (is_some i (node_at ns b).parent) h in
    rw (e, f, count) (omega arith)

-- the other way
pub two_count : (ns : List Node) (i : ℕ) (free : List ℕ) → 2 ≤ count ns i free → has_two ns i free ≡ true
unfolding count
two_count ns i [] h = absurd (omega arith)
two_count ns i (c ∷ []) h = by_bool (is_some i (node_at ns c).parent) (λ e. absurd (omega (arith, rw (e, count) at h)))
    (λ e. absurd (omega (arith, rw (e, count) at h)))
two_count ns i (c ∷ b ∷ free) h = by_bool (is_some i (node_at ns c).parent)
    (λ e. by_bool (is_some i (node_at ns b).parent) (λ f. rw (e, f)) (λ f. absurd (omega (arith, rw (e, f, count) at h))))
    (λ e. absurd (omega (arith, rw (e, count) at h)))

-- each of them names node i
pub count_parent : (ns : List Node) (i : ℕ) (free : List ℕ) (k : ℕ) → has k (take (count ns i free) free) ≡ true → (node_at ns k).parent ≡ some i
unfolding count
count_parent ns i [] k h = clash (cc (has_nil k))
count_parent ns i (c ∷ free) k h =
    by_bool (is_some i (node_at ns c).parent)
    (λ e.
    by_eq k c (λ z. rw z (is_some_lem i (node_at ns c).parent e))
    (λ z. count_parent ns i free k (sym (has_tail k c (take (count ns i free) free) z) ∙ (rw (e, count) at h))))
    (λ e. clash (cc (has_nil k, rw (e, count) at h)))

-- what is closed is the stack, with nothing left
closed_told : (x : Node) (left : ℕ) (free rest : List ℕ) → closed x left free ≡ some rest → (rest ≡ free) × (left ≡ nothing x.kind x)
closed_told x left free rest h = by_bool (eqb left (nothing x.kind x)) (λ e. (cc (rw (e, closed) at h), eqb-true _ _ e)) (λ e. clash (cc (rw (e, closed) at h)))

-- the other way
closed_is : (x : Node) (left : ℕ) (free : List ℕ) → left ≡ nothing x.kind x → closed x left free ≡ some free
closed_is x left free h = rw (eq-eqb left (nothing x.kind x) h, closed)

-- pops that end take just those off, and they fit
pub pops_told : (ns : List Node) (i left : ℕ) (free rest : List ℕ) → pops ns i left free ≡ some rest
    → (rest ≡ drop (count ns i free) free) × Chain ns (node_at ns i).kind (node_at ns i) left (take (count ns i free) free) (nothing (node_at ns i).kind (node_at ns i))
unfolding pops count
pops_told ns i left [] rest h = closed_told (node_at ns i) left [] rest h
pops_told ns i left (c ∷ free) rest h =
    by_bool (is_some i (node_at ns c).parent)
    (λ e.
    by_bool (child_fits (node_at ns i).kind (node_at ns i) left (node_at ns c))
    (λ f. let r = pops_told ns i (less (node_at ns i).kind left (node_at ns c)) free rest (rw (e, f, pops) at h) in rw (e, count) (r.0, (f, r.1)))
    (λ f. clash (cc (rw (e, f, pops) at h))))
    (λ e. rw (e, count) (closed_told (node_at ns i) left (c ∷ free) rest (rw (e, pops) at h)))

-- the other way
pub pops_is : (ns : List Node) (i left : ℕ) (free : List ℕ) → Chain ns (node_at ns i).kind (node_at ns i) left (take (count ns i free) free) (nothing (node_at ns i).kind (node_at ns i))
    → pops ns i left free ≡ some (drop (count ns i free) free)
unfolding pops count
pops_is ns i left [] h = closed_is (node_at ns i) left [] h
pops_is ns i left (c ∷ free) h =
    by_bool (is_some i (node_at ns c).parent)
    (λ e. let k = rw (e, count) at h in rw (e, k.0, pops, count) (pops_is ns i (less (node_at ns i).kind left (node_at ns c)) free k.1))
    (λ e. rw (e, pops, count) (closed_is (node_at ns i) left (c ∷ free) (rw (e, count) at h)))
