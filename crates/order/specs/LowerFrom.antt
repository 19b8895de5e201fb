-- Lowering goes by node number: the nodes of an accepted job stand so that each child with all below it, then the node, are nodes in sequence.
use Rattle.std.specs.Prelude.{◌≡◌, length, ltb}
use Rattle.std.proofs.Math.Path.{refl, ap}
use Rattle.std.proofs.Common.{sym, ◌∙◌, ltb-true, ltb-false}
use Rattle.std.proofs.Math.Bool.{true, false}
use mathlib.Core.List.{List, []}
use Rattle.std.proofs.Math.Option.{some}
use Prim.Native.Nat.{ℕ, zero, suc, ◌+◌, ◌-◌, ◌*◌, ◌≤◌, ◌<◌}
use native.Mathlib.Omega.{arith}
use Rattle.rules.specs.Job.{Job, kids}
use Rattle.rules.specs.Plan.{node_of, root_of, keeps}
use Rattle.rules.specs.Machine.{Machine}
use Rattle.rules.specs.Lower.{lower_kind, lower_node, lower_list}
use Rattle.laws.specs.Table.{by_bool, by_eq, by_list, clash}
use Rattle.laws.specs.JobOk.{JobOk}
use Rattle.laws.specs.KidRows.{keeps_up}
use Rattle.laws.specs.NextKid.{kids_after, after_all, First, first, none_after, Whole, whole_next}
use Rattle.order.specs.Activates.{node_stays, list_stays}

-- Nodes in sequence

-- one node by itself
unfoldable pub lower_one : ℕ → ℕ → ℕ → Machine → Machine
lower_one k s n m = elim (keeps m.job n s) [ false ↦ m | true ↦ lower_kind (node_of m.job n).kind k s n m ]

-- n nodes from i on, of split s into slot k
unfoldable pub lower_from : ℕ → ℕ → ℕ → ℕ → Machine → Machine
lower_from k s i zero m = m
lower_from k s i (suc n) m = lower_from k s (suc i) n (lower_one k s i m)

from_append : (k s i a b : ℕ) (m : Machine) → lower_from k s (i + a) b (lower_from k s i a m) ≡ lower_from k s i (a + b) m
unfolding lower_from
from_append k s i zero b m = let e : i + 0 ≡ i = omega arith in let d : 0 + b ≡ b = omega arith in rw (e, d)
from_append k s i (suc a) b m =
    let e : i + suc a ≡ suc i + a = omega arith in
    let d : suc a + b ≡ suc (a + b) = omega arith in
    rw (e, d) (from_append k s (suc i) a b (lower_one k s i m))

-- those before c, c, and those behind it
from_list : (k s i c n : ℕ) (m : Machine) → i ≤ c → c < n → lower_from k s (suc c) (n - suc c) (lower_from k s i (suc c - i) m) ≡ lower_from k s i (n - i) m
from_list k s i c n m h l =
    let a : i + (suc c - i) ≡ suc c = omega arith in
    let b : suc c - i + (n - suc c) ≡ n - i = omega arith in
    rw (a, b) at (from_append k s i (suc c - i) (n - suc c) m)

from_node : (k s i n : ℕ) (m : Machine) → i ≤ n → lower_one k s n (lower_from k s i (n - i) m) ≡ lower_from k s i (suc n - i) m
unfolding lower_from
from_node k s i n m h =
    let a : i + (n - i) ≡ n = omega arith in
    let b : n - i + 1 ≡ suc n - i = omega arith in
    rw (a, b) at (from_append k s i (n - i) 1 m)

module _ (j : Job) (ok : JobOk j) (k s : ℕ) where
  -- all from i on stand below n
  abbrev Under : ℕ → ℕ → Type 0
  Under i n = (c : ℕ) → i ≤ c → c < n → (p : ℕ) × ((node_of j c).parent ≡ some p) × (p ≤ n)

  -- where a node keeps nothing, nothing below it does
  none_below : (f i n c : ℕ) → n - c ≤ f → Under i n → keeps j n s ≡ false → i ≤ c → c ≤ n → keeps j c s ≡ false
  none_below zero i n c b u e l h = let z : c ≡ n = omega arith in rw z e
  none_below (suc f) i n c b u e l h = by_eq c n (λ z. rw z e) (λ z.
      let w = u c l (omega arith) in
      let a : c < w.0 = (ok.up c w.0 w.1).0 in
      by_bool (keeps j c s)
      (λ t. clash (cc (keeps_up j ok w.0 s c w.1 t, none_below f i n w.0 (omega arith) u e (omega arith) w.2)))
      (λ t. t))

  one_none : (n : ℕ) (m : Machine) → m.job ≡ j → keeps j n s ≡ false → lower_one k s n m ≡ m
  unfolding lower_one
  one_none n m q e = let d : keeps m.job n s ≡ false = ap (λ (x : Job). keeps x n s) q ∙ e in rw (d, lower_one)

  from_none : (a i : ℕ) (m : Machine) → m.job ≡ j → ((c : ℕ) → i ≤ c → c < i + a → keeps j c s ≡ false) → lower_from k s i a m ≡ m
  unfolding lower_from
  from_none zero i m q h = refl
  from_none (suc a) i m q h =
      ap (lower_from k s (suc i) a) (one_none i m q (h i (omega arith) (omega arith))) ∙ from_none a (suc i) m q (λ c l b. h c (omega arith) (omega arith))

  -- The two functions, with calls enough

  abbrev NodeIs : ℕ → Type 0
  NodeIs f = (i n : ℕ) (m : Machine) → n - i + (n - i) < f → i ≤ n → Whole j i (suc n) → Under i n → m.job ≡ j
      → lower_node f k s n m ≡ lower_from k s i (suc n - i) m

  abbrev ListIs : ℕ → Type 0
  ListIs f = (i n : ℕ) (m : Machine) → n - i + (n - i) ≤ f → Whole j i n → Under i n → m.job ≡ j
      → lower_list f k s (kids_after j.nodes i n) m ≡ lower_from k s i (n - i) m

  -- a node that keeps rows, its children lowered
  one_made : (n : ℕ) (m m' : Machine) → m'.job ≡ m.job → keeps m.job n s ≡ true → lower_kind (node_of m.job n).kind k s n m' ≡ lower_one k s n m'
  unfolding lower_one
  one_made n m m' q e =
      let d : keeps m'.job n s ≡ true = ap (λ (x : Job). keeps x n s) q ∙ e in
      rw (d, lower_one) (ap (λ (x : Job). lower_kind (node_of x n).kind k s n m') (sym q))

  node_step : (f : ℕ) → ListIs f → NodeIs (suc f)
  unfolding lower_node
  node_step f l i n m b h w u q = by_bool (keeps m.job n s)
      (λ e.
      let a : kids m.job.nodes n ≡ kids_after j.nodes i n =
      ap (λ (x : Job). kids x.nodes n) q ∙ after_all j.nodes n i (λ c p. w c n p h (omega arith)) in
      let m' = lower_list f k s (kids m.job.nodes n) m in
      rw (e, lower_node) (one_made n m m' (list_stays f k s (kids m.job.nodes n) m).0 e
      ∙ ap (lower_one k s n) (ap (λ (x : List ℕ). lower_list f k s x m) a ∙ l i n m (omega arith) (λ c p o g r. w c p o g (omega arith)) u q)
      ∙ from_node k s i n m h))
      (λ e.
      let d : keeps j n s ≡ false = ap (λ (x : Job). keeps x n s) (sym q) ∙ e in
      rw (e, lower_node) (sym (from_none (suc n - i) i m q (λ c g r. none_below (n - c) i n c (omega arith) u d g (omega arith)))))

  -- what stands from i to a child stands below that
  under_child : (i c n : ℕ) (cs : List ℕ) → Under i n → First j.nodes n i c cs → Under i c
  under_child i c n cs u f d l h =
      let b : c < n = (ok.up c n f.is).0 in
      let w = u d l (omega arith) in (
        w.0,
        w.1,
        by_bool (ltb c w.0)
            (λ t.
            let g : w.0 < n = by_eq w.0 n (λ z. absurd (f.others d l h (rw z at w.1))) (λ z. omega (arith, w.2)) in
            let v = ok.within d w.0 c w.1 h (ltb-true c w.0 t) in
            let o : v.0 ≡ n = cc (v.1, f.is) in
            absurd (omega (arith, v.2)))
            (λ t. ltb-false c w.0 t),
      )

  -- no child is left
  none_left : (i n : ℕ) → Under i n → kids_after j.nodes i n ≡ [] → n ≤ i
  none_left i n u e = by_bool (ltb i n)
      (λ t.
      let b : i < n = ltb-true i n t in
      let w = u (n - 1) (omega arith) (omega arith) in
      let z : w.0 ≡ n = omega (arith, w.2, (ok.up (n - 1) w.0 w.1).0) in
      absurd (none_after j.nodes n (n - 1 - i) i (n - 1) e (omega arith) (rw z at w.1)))
      (λ t. ltb-false i n t)

  list_child : (f i n c : ℕ) (cs : List ℕ) (m : Machine) → NodeIs f → ListIs f → n - i + (n - i) ≤ suc f → Whole j i n → Under i n → m.job ≡ j
      → First j.nodes n i c cs → lower_list f k s cs (lower_node f k s c m) ≡ lower_from k s i (n - i) m
  list_child f i n c cs m g l b w u q o =
      let h : c < n = (ok.up c n o.is).0 in
      let a : i ≤ c = o.from in
      ap (λ (x : List ℕ). lower_list f k s x (lower_node f k s c m)) o.rest
      ∙ l (suc c) n (lower_node f k s c m) (omega arith) (whole_next j c n ok o.is) (λ d y z. u d (omega arith) z) ((node_stays f k s c m).0 ∙ q)
      ∙ ap (lower_from k s (suc c) (n - suc c)) (g i c m (omega arith) a (λ d p e y z. w d p e y (omega arith)) (under_child i c n cs u o) q)
      ∙ from_list k s i c n m a h

  list_step : (f : ℕ) → NodeIs f → ListIs f → ListIs (suc f)
  unfolding lower_node lower_from
  list_step f g l i n m b w u q = by_list (kids_after j.nodes i n)
      (λ e. let z : n - i ≡ 0 = (let y = none_left i n u e in omega arith) in rw (e, z))
      (λ c cs e. rw (e) (list_child f i n c cs m g l b w u q (first j.nodes n i c cs e)))

  by_number : (f : ℕ) → NodeIs f × ListIs f
  unfolding lower_node lower_from
  by_number zero = (λ i n m b. absurd (omega arith), λ i n m b w u q. let z : n - i ≡ 0 = omega arith in rw z)
  by_number (suc f) = let h = by_number f in (node_step f h.1, list_step f h.0 h.1)

-- so the root is lowered by going through the nodes
pub by_nodes : (k s : ℕ) (m : Machine) → JobOk m.job
    → lower_node (2 * length m.job.nodes) k s (root_of m.job) m ≡ lower_from k s 0 (length m.job.nodes) m
by_nodes k s m ok =
    let j = m.job in
    let n = root_of j in
    let a : suc n - 0 ≡ length j.nodes = omega (arith, ok.nodes_low) in
    (by_number j ok k s (2 * length j.nodes)).0 0 n m (omega (arith, ok.nodes_low)) (omega arith) (λ c p e l h. omega arith)
    (λ c l h. let p = ok.under c h in (p.0, p.1, omega (arith, (ok.up c p.0 p.1).1))) refl
    ∙ ap (λ (x : ℕ). lower_from k s 0 x m) a
