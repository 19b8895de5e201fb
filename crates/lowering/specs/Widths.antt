-- A pack has at most 4 children: each has a column, and a pack at most 4.
use Rattle.std.specs.Prelude.{◌≡◌, refl, false, List, [], ◌∷◌, map, ℕ, zero, suc, ◌≤◌, ◌<◌, length, ltb}
use Rattle.std.proofs.Common.{ap, arith, ltb-true, ltb-false}
use Rattle.rules.specs.Table.{sum_of}
use Rattle.rules.specs.Job.{Kind, Node, Job, no_node, node_at, kids, is_segment, is_pack, width_of, pack}
use Rattle.rules.specs.Plan.{node_of, keeps, kept_kids}
use Rattle.laws.specs.Table.{by_bool, by_list, clash, get_past}
use Rattle.laws.specs.Rows.{All}
use Rattle.laws.specs.JobOk.{JobOk}
use Rattle.laws.specs.KidPlaces.{kids_each}
use Rattle.order.specs.Pushes.{filter_less}

-- the first of some nodes has no more columns than the node that joins them
first_width : (k : Kind) (x : Node) (xs : List Node) → x.width ≤ width_of k (x ∷ xs)
unfolding width_of sum_of
first_width k x xs = by_bool (is_pack k) (λ e. rw (e, width_of) (omega arith)) (λ e. rw (e, width_of) (omega arith))

module _ (j : Job) (ok : JobOk j) where
  -- every node has a column
  width_some : (f n : ℕ) → n < f → n < length j.nodes → 1 ≤ (node_of j n).width
  width_some zero n l h = absurd (omega arith)
  width_some (suc f) n l h = by_bool (is_segment (node_of j n).kind)
      (λ e. omega (arith, ok.leaf n h e))
      (λ e. let g = ok.joined n h e in by_list (kids j.nodes n)
      (λ d. absurd (g.some_kids d))
      (λ c cs d.
      let all : All (λ c. 1 ≤ (node_of j c).width) (kids j.nodes n) =
      kids_each (λ c. 1 ≤ (node_of j c).width) j.nodes n (λ c p. let u = ok.up c n p in width_some f c (omega (arith, u.0)) (omega (arith, u.0, u.1))) in
      let one : All (λ c. 1 ≤ (node_of j c).width) (c ∷ cs) = rw d at all in
      let w : (node_of j n).width ≡ width_of (node_of j n).kind (map (node_at j.nodes) (c ∷ cs)) = rw d at g.width in
      omega (arith, one.0, w, first_width (node_of j n).kind (node_of j c) (map (node_at j.nodes) cs))))

-- as many columns as nodes, at least
many : (ns : List Node) (cs : List ℕ) → All (λ c. 1 ≤ (node_at ns c).width) cs → length cs ≤ sum_of (λ (y : Node). y.width) (map (node_at ns) cs)
unfolding sum_of
many ns [] a = omega arith
many ns (c ∷ cs) a = omega (arith, a.0, many ns cs a.1)

pack_columns : (xs : List Node) → width_of pack xs ≡ sum_of (λ (y : Node). y.width) xs
unfolding width_of sum_of
pack_columns [] = refl
pack_columns (x ∷ xs) = refl

-- a node that is no segment is one of the job
inner_below : (j : Job) (n : ℕ) → (node_of j n).kind ≡ pack → n < length j.nodes
inner_below j n e = by_bool (ltb n (length j.nodes)) (λ d. ltb-true n (length j.nodes) d)
    (λ d. clash (cc (e, ap (λ (x : Node). x.kind) (get_past no_node j.nodes n (ltb-false n (length j.nodes) d)))))

pub pack_few : (j : Job) (n t : ℕ) → JobOk j → (node_of j n).kind ≡ pack → length (kept_kids j n t) ≤ 4
pack_few j n t ok e =
    let h = inner_below j n e in
    let k : is_segment (node_of j n).kind ≡ false = rw e refl in
    let w : (node_of j n).width ≡ width_of pack (map (node_at j.nodes) (kids j.nodes n)) = rw e at (ok.joined n h k).width in
    let a : All (λ c. 1 ≤ (node_of j c).width) (kids j.nodes n) =
    kids_each (λ c. 1 ≤ (node_of j c).width) j.nodes n (λ c p. let u = ok.up c n p in width_some j ok (suc c) c (omega arith)
    (omega (arith, u.0, u.1))) in
    omega (
      arith,
      filter_less (λ c. keeps j c t) (kids j.nodes n),
      many j.nodes (kids j.nodes n) a,
      pack_columns (map (node_at j.nodes) (kids j.nodes n)),
      w,
      ok.width_high n,
    )
