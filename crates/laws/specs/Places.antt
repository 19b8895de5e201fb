-- Placing the nodes among the root's rows changes nothing else of them.
use Rattle.std.specs.Prelude.{◌≡◌, refl, List, [], ◌∷◌, ℕ, zero, suc, ◌+◌, ◌-◌, ◌<◌, ◌≤◌, length}
use Rattle.std.proofs.Common.{sym, ap, ◌∙◌, arith}
use Rattle.std.proofs.Math.Option.{none, some}
use Rattle.rules.specs.Job.{Node, no_node, node_at, is_segment, kids, offset, row_at, place_from, max_nodes}
use Rattle.laws.specs.Table.{by_option, get_past}
use Rattle.laws.specs.Kids.{bare, same_kind, same_rows, same_width, kids_same, joined_alike, offset_same}
use Rattle.laws.specs.Tree.{TreeOk, one_bare, last_alone}

-- placing adds no node
pub place_size : (i : ℕ) (ns xs : List Node) → length (place_from i ns xs) ≡ length xs
unfolding place_from
place_size i ns [] = refl
place_size i ns (x ∷ xs) = ap suc (place_size (suc i) ns xs)

-- and changes no kind, segment, rows or width
pub place_bare : (i : ℕ) (ns xs : List Node) (k : ℕ) → bare (node_at (place_from i ns xs) k) ≡ bare (node_at xs k)
unfolding place_from
place_bare i ns [] k = refl
place_bare i ns (x ∷ xs) zero = refl
place_bare i ns (x ∷ xs) (suc k) = place_bare (suc i) ns xs k

-- and no parent
pub place_parent : (i : ℕ) (ns xs : List Node) (k : ℕ) → (node_at (place_from i ns xs) k).parent ≡ (node_at xs k).parent
unfolding place_from
place_parent i ns [] k = refl
place_parent i ns (x ∷ xs) zero = refl
place_parent i ns (x ∷ xs) (suc k) = place_parent (suc i) ns xs k

-- it says where a node stands
pub place_at : (i : ℕ) (ns xs : List Node) (k : ℕ) → k < length xs → (node_at (place_from i ns xs) k).at ≡ row_at max_nodes ns (i + k)
unfolding place_from
place_at i ns [] k h = absurd (omega arith)
place_at i ns (x ∷ xs) zero h = let e : i + 0 ≡ i = omega arith in rw e
place_at i ns (x ∷ xs) (suc k) h = let e : suc i + k ≡ i + suc k = omega arith in rw e at (place_at (suc i) ns xs k (omega arith))

-- nodes that have the same parents and are the same but for their places make the same tree
module _ (ns ms : List Node) (size : length ms ≡ length ns) (bares : (i : ℕ) → bare (node_at ms i) ≡ bare (node_at ns i)) (parents : (i : ℕ) → (node_at ms i).parent ≡ (node_at ns i).parent) where
  -- the same children
  pub kids_placed : (q : ℕ) → kids ms q ≡ kids ns q
  kids_placed q = kids_same ns ms q (λ i. rw (parents i))

  -- the same leaves
  segment_placed : (n : ℕ) → is_segment (node_at ms n).kind ≡ is_segment (node_at ns n).kind
  segment_placed n = rw (same_kind (node_at ms n) (node_at ns n) (bares n))

  -- the same tree
  pub tree_placed : TreeOk ns → TreeOk ms
  tree_placed t = record {
    up = λ n q e. rw size (t.up n q (sym (parents n) ∙ e));
    inner = λ n q e. segment_placed q ∙ t.inner n q (sym (parents n) ∙ e);
    joined = λ n h e. joined_alike ns ms n (bares n) (kids_placed n) (λ i k. bares i) (t.joined n (rw size at h) (sym (segment_placed n) ∙ e));
    leaf = λ n h e. same_width (node_at ms n) (node_at ns n) (bares n) ∙ t.leaf n (rw size at h) (sym (segment_placed n) ∙ e);
    rows_high = λ n. rw (same_rows (node_at ms n) (node_at ns n) (bares n)) (t.rows_high n);
    width_high = λ n. rw (same_width (node_at ms n) (node_at ns n) (bares n)) (t.width_high n);
    one_count = λ l k h b. one_bare (node_at ms l) (node_at ns l) (node_at ms k) (node_at ns k) (bares l) (bares k) (t.one_count l k (rw size at h) (rw size at b));
    within = λ n q i e h k. let w : (p : ℕ) × ((node_at ns i).parent ≡ some p) × (p ≤ q) = t.within n q i (sym (parents n) ∙ e) h k in (w.0, parents i ∙ w.1, w.2);
    before = λ q h e. parents (q - 1) ∙ t.before q (rw size at h) (sym (segment_placed q) ∙ e);
  }

-- one level up
pub row_none : (f : ℕ) (ns : List Node) (n : ℕ) → (node_at ns n).parent ≡ none → row_at f ns n ≡ 0
unfolding row_at
row_none zero ns n e = refl
row_none (suc f) ns n e = rw (e, row_at)

-- or its parent counts too
pub row_some : (f : ℕ) (ns : List Node) (n q : ℕ) → (node_at ns n).parent ≡ some q → row_at (suc f) ns n ≡ offset ns q n + row_at f ns q
unfolding row_at
row_some f ns n q e = rw (e, row_at)

-- the fuel does not matter where there are no more nodes above
row_step : (f g : ℕ) (ns : List Node) (n : ℕ) → TreeOk ns → length ns ≤ n + suc f → ((q : ℕ) → length ns ≤ q + f → row_at f ns q ≡ row_at g ns q) → row_at (suc f) ns n ≡ row_at (suc g) ns n
row_step f g ns n t h ih =
    by_option (node_at ns n).parent (λ e. row_none (suc f) ns n e ∙ sym (row_none (suc g) ns n e))
    (λ q e. row_some f ns n q e ∙ ap (λ k. offset ns q n + k) (ih q (omega (arith, (t.up n q e).0, h))) ∙ sym (row_some g ns n q e))

-- one more changes nothing
pub row_fuel : (f : ℕ) (ns : List Node) (n : ℕ) → TreeOk ns → length ns ≤ n + f → row_at f ns n ≡ row_at (suc f) ns n
row_fuel zero ns n t h =
    let e : (node_at ns n).parent ≡ none = rw (get_past no_node ns n (omega arith)) in
    row_none 0 ns n e ∙ sym (row_none 1 ns n e)
row_fuel (suc f) ns n t h = row_step f (suc f) ns n t h (λ q k. row_fuel f ns q t k)

-- the nodes as a job has them
abbrev pub placed : List Node → List Node
placed ns = place_from 0 ns ns

-- they make the same tree
pub placed_tree : (ns : List Node) → TreeOk ns → TreeOk (placed ns)
placed_tree ns t = tree_placed ns (placed ns) (place_size 0 ns ns) (place_bare 0 ns ns) (place_parent 0 ns ns) t

-- a node stands where its row 0 is
placed_at : (ns : List Node) (n : ℕ) → n < length ns → (node_at (placed ns) n).at ≡ row_at max_nodes ns n
placed_at ns n h = let e : 0 + n ≡ n = omega arith in rw e at (place_at 0 ns ns n h)

-- the root stands at row 0
pub placed_root : (ns : List Node) → TreeOk ns → 1 ≤ length ns → (node_at (placed ns) (length ns - 1)).at ≡ 0
placed_root ns t h = placed_at ns (length ns - 1) (omega arith) ∙ row_none max_nodes ns (length ns - 1) (last_alone ns t h)

-- a child stands at its offset from its parent
pub placed_kid : (ns : List Node) (n q : ℕ) → TreeOk ns → length ns ≤ 24 → (node_at (placed ns) n).parent ≡ some q
    → (node_at (placed ns) n).at ≡ offset (placed ns) q n + (node_at (placed ns) q).at
placed_kid ns n q t h e =
    let o : (node_at ns n).parent ≡ some q = sym (place_parent 0 ns ns n) ∙ e in
    let u : (n < q) × (q < length ns) = t.up n q o in
    let s : offset (placed ns) q n ≡ offset ns q n = offset_same ns (placed ns) q n (place_bare 0 ns ns) (kids_placed ns (placed ns) (place_size 0 ns ns) (place_bare 0 ns ns) (place_parent 0 ns ns) q) in
    placed_at ns n (omega arith) ∙ row_some 23 ns n q o ∙ rw (s, placed_at ns q u.1, row_fuel 23 ns q t (omega arith))
