-- A stored node that fits is accepted as the next node of the draft.
use Rattle.std.specs.Prelude.{◌≡◌, ◌≢◌, true, ◌&&◌, take}
use Rattle.std.proofs.Math.Path.{sym, ap}
use Rattle.std.proofs.Common.{◌∙◌, arith}
use Rattle.std.proofs.Math.Bool.{false}
use mathlib.Core.List.{List, [], ◌∷◌, map}
use Rattle.std.proofs.Math.Option.{none, some}
use Prim.Native.Nat.{ℕ, zero, suc, ◌+◌, ◌<◌, ◌≤◌}
use Rattle.std.proofs.Math.ListN.{length}
use Rattle.std.proofs.Math.Dec.{eqb, leb}
use borrow.Author.Tests.{eqb-true, leb-true, lt-leb, le-ltb, ne_eqb, not-true}
use Rattle.rules.specs.Table.{any, is_empty}
use Rattle.rules.specs.Job.{Kind, segment, Node, Draft, leaf, join, no_node, node_at, is_segment, other_rows, rows_of, width_of, unequal, max_rows, set_parents}
use Rattle.rules.specs.Job.{leaf_node, newest, joined, childless, node_late, restore}
use Rattle.laws.specs.Table.{by_bool, by_option, clash}
use Rattle.laws.specs.RowIn.{by_kind}
use Rattle.laws.specs.Rising.{has_nil, has_reverse}
use Rattle.laws.specs.Kids.{Alike, rows_alike, width_alike, unequal_alike}
use Rattle.laws.specs.Tree.{NewOk}
use Rattle.laws.specs.More.{with_node, newest_low, grown, newest_first}
use Rattle.laws.specs.Draft.{passed_unless, leaf_new, some_newest, join_new}
use Rattle.laws.specs.Stored.{both}
use Rattle.stored.specs.Walk.{whole, pops, one_count, leaf_fits, has_two, join_fits, join_step, leaf_step, step, walk}
use Rattle.stored.specs.Lists.{up_none, none_any}
use Rattle.stored.specs.Stand.{Fit}
use Rattle.stored.specs.Count.{count, count_low, count_two, count_parent, pops_told}
use Rattle.stored.specs.Chains.{chain_fit}
use Rattle.stored.specs.Joins.{fit_rows, fit_width, fit_equal}
use Rattle.stored.specs.Kept.{Kept, more_kept}

-- the draft of one stored node more, with this stack
abbrev pub Next : List Node → ℕ → Draft → List ℕ → Type 0
Next ns s d after = (e : Draft) × Kept ns s e × (length e.nodes ≡ suc (length d.nodes)) × (e.free ≡ after)

-- what a leaf that fits tells
leaf_told : (ns : List Node) (i : ℕ) (free after : List ℕ) → leaf_step ns i free ≡ some after → (leaf_fits ns i ≡ true) × (i ∷ free ≡ after)
unfolding leaf_step
leaf_told ns i free after h = by_bool (leaf_fits ns i) (λ e. (e, cc (rw (e, leaf_step) at h))) (λ e. clash (cc (rw (e, leaf_step) at h)))

-- what an inner node that fits tells
join_told : (ns : List Node) (i : ℕ) (free after : List ℕ) → join_step ns i free ≡ some after
    → (join_fits ns i free ≡ true) × ((rest : List ℕ) × (pops ns i (whole (node_at ns i).kind (node_at ns i)) free ≡ some rest) × (i ∷ rest ≡ after))
unfolding join_step
join_told ns i free after h =
    by_bool (join_fits ns i free)
    (λ e.
    by_option (pops ns i (whole (node_at ns i).kind (node_at ns i)) free)
    (λ o. clash (cc (rw (e, o, join_step) at h)))
    (λ rest o. (e, (rest, o, cc (rw (e, o, join_step) at h)))))
    (λ e. clash (cc (rw (e, join_step) at h)))

module _ (ns : List Node) (s : ℕ) (d : Draft) (v : Kept ns s d) (z : s ≢ 0) (few : length d.nodes < 24) (b : (n : ℕ) → (node_at ns n).rows ≤ max_rows) where
  -- a node may come
  in_time : node_late d ≡ false
  unfolding is_empty
  in_time = rw (v.slots, ne_eqb s 0 z, v.splits)

  -- a leaf with its segment's row count
  leaf_counts : leaf_fits ns (length d.nodes) ≡ true → any (other_rows (node_at ns (length d.nodes)).segment (node_at ns (length d.nodes)).rows) d.nodes ≡ false
  leaf_counts h =
      let x : Node = node_at ns (length d.nodes) in
      none_any (other_rows x.segment x.rows) no_node d.nodes
      (λ k l.
      ap (other_rows x.segment x.rows) (v.bares k l)
      ∙ up_none (λ i. other_rows x.segment x.rows (node_at ns i)) 0 (length d.nodes) k (not-true _ (both (eqb x.width 1) (one_count ns (length d.nodes)) h).1) (omega arith) (omega arith))

  -- a leaf
  leaf_next : (after : List ℕ) → (node_at ns (length d.nodes)).kind ≡ segment → leaf_step ns (length d.nodes) d.free ≡ some after → Next ns s d after
  unfolding restore set_parents
  leaf_next after k h =
      let t = leaf_told ns (length d.nodes) d.free after h in
      let g : ℕ = (node_at ns (length d.nodes)).segment in
      let n : ℕ = (node_at ns (length d.nodes)).rows in
      let x : Node = leaf_node g n in
      let c = leaf_counts t.0 in
      let w : NewOk d.nodes (newest 0 d) x = leaf_new g n d.nodes (b (length d.nodes)) c in
      let one : (node_at ns (length d.nodes)).width ≡ 1 = eqb-true _ _ (both (eqb (node_at ns (length d.nodes)).width 1) (one_count ns (length d.nodes)) t.0).0 in (
        with_node 0 x d,
        more_kept ns s d v 0 x w (leaf g n) (b (length d.nodes))
            (passed_unless _ _ (in_time, (lt-leb 24 (length d.nodes) few, (c, tt))))
            (λ i. record { kind = sym k i; segment = g; rows = n; width = sym one i; parent = none; at = 0 })
            (λ i m. clash (cc (has_nil i))) (rw k tt),
        (grown d v.written.draft.free 0 x).size,
        newest_first d v.written.draft.free 0 x ∙ t.1,
      )

  -- the children that an inner node takes off the stack fit it
  join_fits_lem : (rest : List ℕ) → is_segment (node_at ns (length d.nodes)).kind ≡ false → pops ns (length d.nodes) (whole (node_at ns (length d.nodes)).kind (node_at ns (length d.nodes))) d.free ≡ some rest
      → Fit ns (node_at ns (length d.nodes)).kind (node_at ns (length d.nodes)) (newest (count ns (length d.nodes) d.free) d)
  join_fits_lem rest g h = chain_fit ns (node_at ns (length d.nodes)) (node_at ns (length d.nodes)).kind (take (count ns (length d.nodes) d.free) d.free) g (pops_told ns (length d.nodes) _ d.free rest h).1

  -- the draft's children are the stored ones but for their places
  alike : (n : ℕ) → Alike ns d.nodes (newest n d)
  alike n i h = v.bares i (newest_low d v.written.draft.free n i h)

  -- there are children
  not_childless : has_two ns (length d.nodes) d.free ≡ true → childless (count ns (length d.nodes) d.free) d ≡ false
  not_childless h =
      let n : ℕ = count ns (length d.nodes) d.free in
      let m : 2 ≤ n = count_two ns (length d.nodes) d.free h in
      rw (ne_eqb n 0 (omega arith), le-ltb (length d.free) n (count_low ns (length d.nodes) d.free))

  -- an inner node
  join_next : (after : List ℕ) → is_segment (node_at ns (length d.nodes)).kind ≡ false → join_step ns (length d.nodes) d.free ≡ some after → Next ns s d after
  unfolding restore
  join_next after g h =
      let i : ℕ = length d.nodes in
      let x : Node = node_at ns i in
      let k : Kind = x.kind in
      let t = join_told ns i d.free after h in
      let o = both (eqb x.segment 0 && leb x.width 4) (has_two ns i d.free) t.0 in
      let o₁ = both (eqb x.segment 0) (leb x.width 4) o.0 in
      let n : ℕ = count ns i d.free in
      let cs : List ℕ = newest n d in
      let xs : List Node = map (node_at d.nodes) cs in
      let f : Fit ns k x cs = join_fits_lem t.1.0 g t.1.1 in
      let few_kids : childless n d ≡ false = not_childless o.1 in
      let two : eqb n 1 ≡ false = let m = count_two ns i d.free o.1 in ne_eqb n 1 (omega (arith, m)) in
      let some_kids : cs ≢ [] = some_newest n d few_kids in
      let rows : rows_of k xs ≡ x.rows = rows_alike k ns d.nodes cs (alike n) ∙ sym (fit_rows ns x k cs g some_kids f) in
      let width : width_of k xs ≡ x.width = width_alike k ns d.nodes cs (alike n) ∙ sym (fit_width ns x k cs g some_kids f) in
      let equal : unequal k xs ≡ false = unequal_alike k ns d.nodes cs (alike n) ∙ fit_equal ns x k cs g f in
      let narrow : width_of k xs ≤ 4 = rw width (leb-true x.width 4 o₁.1) in
      let short : rows_of k xs ≤ max_rows = rw rows (b i) in
      let w : NewOk d.nodes cs (joined k xs) = join_new k cs d.nodes g some_kids narrow short equal in (
        with_node n (joined k xs) d,
        more_kept ns s d v n (joined k xs) w (join k n) g
            (passed_unless _ _
            (in_time, (lt-leb 24 i few, (rw few_kids (le-ltb 4 (width_of k xs) narrow), (few_kids, (equal, (le-ltb max_rows (rows_of k xs) short, (two, tt))))))))
            (λ m. record { kind = k; segment = sym (eqb-true x.segment 0 o₁.0) m; rows = rows m; width = width m; parent = none; at = 0 })
            (λ c m. count_parent ns i d.free c (sym (has_reverse c (take n d.free)) ∙ m)) f.stand,
        (grown d v.written.draft.free n (joined k xs)).size,
        newest_first d v.written.draft.free n (joined k xs) ∙ ap (λ (l : List ℕ). i ∷ l) (sym (pops_told ns i _ d.free t.1.0 t.1.1).0) ∙ t.1.2,
      )

  -- the next stored node, if it fits
  pub next : (after : List ℕ) → step ns (length d.nodes) d.free ≡ some after → Next ns s d after
  next after h =
      by_kind (node_at ns (length d.nodes)).kind
      (λ k. leaf_next after k (rw (k, step) at h))
      (λ k. join_next after (rw k) (rw (k, step) at h))
      (λ k. join_next after (rw k) (rw (k, step) at h))

-- n stored nodes that fit
pub walk_next : (ns : List Node) (s : ℕ) (n : ℕ) (d : Draft) (after : List ℕ) → s ≢ 0 → ((k : ℕ) → (node_at ns k).rows ≤ max_rows) → Kept ns s d → length d.nodes + n ≤ 24
    → walk ns (length d.nodes) n d.free ≡ some after → (e : Draft) × Kept ns s e × (length e.nodes ≡ length d.nodes + n) × (e.free ≡ after)
unfolding walk
walk_next ns s zero d after z b v m h = (d, v, omega arith, cc)
walk_next ns s (suc n) d after z b v m h =
    by_option (step ns (length d.nodes) d.free) (λ o. clash (cc (rw (o, walk) at h)))
    (λ t o.
    let c = next ns s d v z (omega arith) b t o in
    let r = walk_next ns s n c.0 after z b c.1 (omega (arith, c.2)) (rw (c.2, c.3) (rw (o, walk) at h)) in
    (r.0, r.1, omega (arith, r.2, c.2), r.3))
