-- Where the walk ends in one root, the draft's nodes, placed, are the stored ones.
use Rattle.std.specs.Prelude.{◌≡◌, ◌≢◌, List, [], ◌∷◌, ℕ, zero, suc, ◌+◌, ◌-◌, ◌<◌, ◌≤◌, length, ltb}
use Rattle.std.proofs.Common.{sym, ◌∙◌, arith, ext_get_or, ltb-true, ltb-false}
use Rattle.std.proofs.Math.Option.{none, some}
use Rattle.rules.specs.Job.{Node, Draft, no_node, node_at, kids}
use Rattle.laws.specs.Table.{by_bool, by_option, get_past, get_get_or}
use Rattle.laws.specs.JobOk.{JobOk}
use Rattle.laws.specs.Rising.{has_head, single}
use Rattle.laws.specs.Kids.{bare, same_kind, same_rows}
use Rattle.laws.specs.KidPlaces.{kids_of}
use Rattle.laws.specs.Tree.{last_alone}
use Rattle.laws.specs.Places.{placed, place_size, place_bare, place_parent, kids_placed, placed_root}
use Rattle.laws.specs.Accepted.{placed_ok}
use Rattle.stored.specs.Stand.{stand_same, job_stand}
use Rattle.stored.specs.Kept.{Kept}

module _ (ns : List Node) (s : ℕ) (d : Draft) (v : Kept ns s d) (z : s ≢ 0) (c : ℕ) (size : length d.nodes ≡ length ns) (some_nodes : 1 ≤ length ns)
    (one : d.free ≡ c ∷ []) (alone : (node_at ns c).parent ≡ none) (at_zero : (node_at ns c).at ≡ 0) where
  -- the draft's job is sound
  sound : JobOk (record { slots = d.slots; nodes = placed d.nodes; splits = d.splits })
  sound = placed_ok d v.written.draft (rw v.slots z) (omega arith) (rw one)

  -- the nodes are the same but for their places
  bares : (k : ℕ) → bare (node_at (placed d.nodes) k) ≡ bare (node_at ns k)
  bares k = place_bare 0 d.nodes d.nodes k ∙ by_bool (ltb k (length ns)) (λ h. v.bares k (omega (arith, ltb-true k (length ns) h)))
      (λ h. rw (get_past no_node d.nodes k (omega (arith, ltb-false k (length ns) h)), get_past no_node ns k (ltb-false k (length ns) h)))

  -- a parentless node is the root
  only : (k : ℕ) → k < length ns → (node_at d.nodes k).parent ≡ none → k ≡ c
  only k h e = single d.free k c (rw one) (v.written.draft.free.all k (omega arith) e) (rw one (has_head c []))

  -- their parents are the same
  parents : (k : ℕ) → k < length ns → (node_at (placed d.nodes) k).parent ≡ (node_at ns k).parent
  parents k h = place_parent 0 d.nodes d.nodes k ∙ by_option (node_at d.nodes k).parent
      (λ e. e ∙ sym (rw (only k h e) alone)) (λ q e. e ∙ sym (v.parents k q e))

  -- a child stands where it is stored, if its parent does
  child_stands : (k q : ℕ) → (node_at (placed d.nodes) k).parent ≡ some q → (node_at (placed d.nodes) q).at ≡ (node_at ns q).at → (node_at (placed d.nodes) k).at ≡ (node_at ns k).at
  child_stands k q e h =
      let ms : List Node = placed d.nodes in
      let kind : (node_at ms q).kind ≡ (node_at ns q).kind = same_kind (node_at ms q) (node_at ns q) (bares q) in
      let low : q < length d.nodes = omega (arith, (sound.up k q e).1, place_size 0 d.nodes d.nodes) in
      kids_of (λ i. (node_at ms i).at ≡ (node_at ns i).at) ms q k
      (stand_same (node_at ns q).kind (λ i. (node_at ms i).at) (λ i. (node_at ns i).at) (λ i. (node_at ms i).rows) (λ i. (node_at ns i).rows) (node_at ms q).at (node_at ns q).at (kids ms q)
      (rw kind at (sound.inner k q e)) h (λ i. same_rows (node_at ms i) (node_at ns i) (bares i)) (rw kind at (job_stand _ sound q))
      (rw (kids_placed d.nodes ms (place_size 0 d.nodes d.nodes) (place_bare 0 d.nodes d.nodes) (place_parent 0 d.nodes d.nodes) q) (v.stands q low))) e

  -- the root is the last node
  root_last : length d.nodes - 1 ≡ c
  root_last = only (length d.nodes - 1) (omega arith) (last_alone d.nodes v.written.draft.tree (omega arith))

  -- it stands at row 0
  root_stands : (k : ℕ) → k ≡ c → (node_at (placed d.nodes) k).at ≡ (node_at ns k).at
  root_stands k e = rw e ((rw root_last at (placed_root d.nodes v.written.draft.tree (omega arith))) ∙ sym at_zero)

  -- so every node stands where it is stored, from the root down
  stands : (f k : ℕ) → k < length ns → length ns ≤ k + f → (node_at (placed d.nodes) k).at ≡ (node_at ns k).at
  stands zero k h b = absurd (omega arith)
  stands (suc f) k h b =
      by_option (node_at (placed d.nodes) k).parent (λ e. root_stands k (only k h (sym (place_parent 0 d.nodes d.nodes k) ∙ e)))
      (λ q e.
      let u : (k < q) × (q < length (placed d.nodes)) = sound.up k q e in
      child_stands k q e (stands f q (omega (arith, place_size 0 d.nodes d.nodes)) (omega arith)))

  -- each node is the stored one
  node_is : (k : ℕ) → k < length ns → node_at (placed d.nodes) k ≡ node_at ns k
  node_is k h =
      let x : Node = node_at (placed d.nodes) k in
      let y : Node = node_at ns k in
      let e : bare x ≡ bare y = bares k in
      let p : x.parent ≡ y.parent = parents k h in
      let a : x.at ≡ y.at = stands (length ns) k h (omega arith) in
      λ i. record { kind = (e i).kind; segment = (e i).segment; rows = (e i).rows; width = (e i).width; parent = p i; at = a i }

  -- the nodes are the stored ones
  pub nodes_are : placed d.nodes ≡ ns
  nodes_are = ext_get_or no_node (placed d.nodes) ns (place_size 0 d.nodes d.nodes ∙ size)
      (λ i h. sym (get_get_or no_node (placed d.nodes) i) ∙ node_is i (omega (arith, place_size 0 d.nodes d.nodes)) ∙ get_get_or no_node ns i)
