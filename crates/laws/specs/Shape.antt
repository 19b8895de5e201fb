-- What a node comes to: its rows, its width, and each of its rows. An inner node's is made of its children's, by its kind alone, so that it does not
-- tell how many nodes stand below it nor how they are numbered.
use Rattle.std.specs.Prelude.{◌≡◌, refl, true, false, ℕ, zero, suc, ◌+◌, ◌-◌, ◌<◌, ◌≤◌, length}
use Rattle.std.proofs.Common.{sym, ap, ap₂, ◌∙◌, arith, add-zero, lt-ltb, le-ltb}
use mathlib.Core.List.{List, [], ◌∷◌, ◌++◌, map, flat_map, append-nil, map-append, map-map}
use Rattle.std.proofs.Math.Option.{none}
use Rattle.rules.specs.Table.{sum_of, up_from}
use Rattle.rules.specs.Job.{Kind, segment, concat, pack, Node, node_at, is_segment, kids, rows_of, width_of}
use Rattle.rules.specs.Plan.{Row, row_in, one_of}
use Rattle.laws.specs.Table.{by_bool, clash}
use Rattle.laws.specs.Rows.{All, sides}
use Rattle.laws.specs.Spots.{up_append, up_same, up_down}
use Rattle.laws.specs.KidPlaces.{All-map, kids_each}
use Rattle.laws.specs.Kids.{bare, same_kind, same_rows, rows_sized, width_sized}
use Rattle.laws.specs.RowIn.{row_leaf, row_concat, row_pack, map_same, all_sides}
use Rattle.laws.specs.KidRows.{map_all, pack_equal, concat_sum}
use Rattle.laws.specs.Tree.{TreeOk}

-- a node as its rows and its width alone
abbrev of_size : ℕ → ℕ → Node
of_size n w = record { kind = segment; segment = 0; rows = n; width = w; parent = none; at = 0 }

abbrev pub sized : Node → Node
sized x = of_size x.rows x.width

-- a size, and the rows
abbrev pub Shape : Type 0
Shape = Node × List Row

abbrev pub shape : List Node → ℕ → Shape
shape ns n = (sized (node_at ns n), map (row_in (suc n) ns n) (up_from 0 (node_at ns n).rows))

abbrev pub leaf_shape : ℕ → ℕ → Shape
leaf_shape g n = (of_size n 1, map (λ r. record { segment = g; row = r } ∷ []) (up_from 0 n))

-- one after another, or side by side
abbrev rows_made : Kind → List Shape → List Row
rows_made segment ss = []
rows_made concat ss = flat_map (λ (s : Shape). s.1) ss
rows_made pack ss = sides (map (λ (s : Shape). s.1) ss)

abbrev pub join_shape : Kind → List Shape → Shape
join_shape k ss = let xs = map (λ (s : Shape). s.0) ss in (of_size (rows_of k xs) (width_of k xs), rows_made k ss)

-- A node of a table

-- rows and widths are counted over shapes as over nodes
pub sizes : (ns : List Node) (cs : List ℕ) → map (λ (s : Shape). s.0) (map (shape ns) cs) ≡ map sized (map (node_at ns) cs)
sizes ns cs = map-map (λ (s : Shape). s.0) (shape ns) cs ∙ sym (map-map sized (node_at ns) cs)

-- every row of children one after another
one_all : (ns : List Node) (cs : List ℕ) → map (one_of (λ c. row_in (suc c) ns c) ns cs) (up_from 0 (sum_of (λ c. (node_at ns c).rows) cs))
    ≡ flat_map (λ (s : Shape). s.1) (map (shape ns) cs)
unfolding one_of sum_of flat_map up_from
one_all ns [] = refl
one_all ns (c ∷ cs) =
    let a : ℕ = (node_at ns c).rows in
    let b : ℕ = sum_of (λ c. (node_at ns c).rows) cs in
    let row : ℕ → ℕ → Row = λ c. row_in (suc c) ns c in
    let f : ℕ → Row = one_of row ns (c ∷ cs) in
    let z : 0 + a - a ≡ 0 = omega arith in
    ap (map f) (sym (up_append 0 a b)) ∙ map-append f (up_from 0 a) (up_from (0 + a) b)
    ∙ ap₂ (λ (l k : List Row). l ++ k) (up_same f (row c) 0 a (λ p l u. rw (lt-ltb p a (omega arith), one_of)))
    (up_same f (λ p. one_of row ns cs (p - a)) (0 + a) b (λ p l u. rw (le-ltb p a (omega arith), one_of))
    ∙ sym (up_down (one_of row ns cs) a (0 + a) b (omega arith)) ∙ rw z (one_all ns cs))

-- a node comes to what its kind makes of its segment or its children
module _ (ns : List Node) (t : TreeOk ns) (n : ℕ) (h : n < length ns) where
  pub leaf_shape_lem : is_segment (node_at ns n).kind ≡ true → shape ns n ≡ leaf_shape (node_at ns n).segment (node_at ns n).rows
  leaf_shape_lem e =
      let rows = map_same (row_in (suc n) ns n) _ (up_from 0 (node_at ns n).rows) (λ r. row_leaf ns n r e) in
      λ i. (of_size (node_at ns n).rows (t.leaf n h e i), rows i)

  rows_made_lem : (k : Kind) → (node_at ns n).kind ≡ k → is_segment k ≡ false
      → map (row_in (suc n) ns n) (up_from 0 (node_at ns n).rows) ≡ rows_made k (map (shape ns) (kids ns n))
  rows_made_lem segment q e = clash (cc)
  rows_made_lem concat q e =
      let j = t.joined n h (ap is_segment q ∙ e) in
      let rows : (node_at ns n).rows ≡ sum_of (λ c. (node_at ns c).rows) (kids ns n) = (rw q at j.rows) ∙ concat_sum ns (kids ns n) in
      map_same (row_in (suc n) ns n) _ (up_from 0 (node_at ns n).rows) (λ r. row_concat ns (λ c p u. (t.up c p u).0) n r q)
      ∙ rw rows (one_all ns (kids ns n))
  rows_made_lem pack q e =
      let j = t.joined n h (ap is_segment q ∙ e) in
      let ps = up_from 0 (node_at ns n).rows in
      let rows : (node_at ns n).rows ≡ rows_of pack (map (node_at ns) (kids ns n)) = rw q at j.rows in
      map_same (row_in (suc n) ns n) _ ps (λ r. row_pack ns (λ c p u. (t.up c p u).0) n r q)
      ∙ all_sides (λ c. row_in (suc c) ns c) (kids ns n) ps j.some_kids
      ∙ ap sides (map_all (λ c. map (row_in (suc c) ns c) ps) (λ c. (shape ns c).1) (kids ns n)
      (All-map (λ c. (node_at ns c).rows ≡ rows_of pack (map (node_at ns) (kids ns n))) (λ c. map (row_in (suc c) ns c) ps ≡ (shape ns c).1)
      (λ c u. ap (λ k. map (row_in (suc c) ns c) (up_from 0 k)) (rows ∙ sym u)) (kids ns n) (pack_equal ns (kids ns n) (rw q at j.equal)))
      ∙ sym (map-map (λ (s : Shape). s.1) (shape ns) (kids ns n)))

  pub join_shape_lem : is_segment (node_at ns n).kind ≡ false → shape ns n ≡ join_shape (node_at ns n).kind (map (shape ns) (kids ns n))
  join_shape_lem e =
      let k : Kind = (node_at ns n).kind in
      let j = t.joined n h e in
      let xs = map (node_at ns) (kids ns n) in
      let rows = j.rows ∙ sym (ap (rows_of k) (sizes ns (kids ns n)) ∙ rows_sized sized (λ x. (refl, refl)) k xs) in
      let width = j.width ∙ sym (ap (width_of k) (sizes ns (kids ns n)) ∙ width_sized sized (λ x. (refl, refl)) k xs) in
      λ i. (of_size (rows i) (width i), rows_made_lem k refl e i)

-- an inner node with one child comes to what the child does
pub lone_shape : (ns : List Node) (k : Kind) (c : ℕ) → is_segment k ≡ false → join_shape k (shape ns c ∷ []) ≡ shape ns c
unfolding rows_of width_of sum_of flat_map sides
lone_shape ns segment c e = clash (cc)
lone_shape ns concat c e = λ i. (of_size (add-zero (node_at ns c).rows i) (node_at ns c).width, append-nil (shape ns c).1 i)
lone_shape ns pack c e = λ i. (of_size (node_at ns c).rows (add-zero (node_at ns c).width i), (shape ns c).1)

-- Two tables

-- nodes that are the same below b, but for their places, and have the same children there, come to the same there
module _ (ns ms : List Node) (t : TreeOk ns) (u : TreeOk ms) (b : ℕ) (low : b ≤ length ns) (high : b ≤ length ms)
    (bares : (i : ℕ) → i < b → bare (node_at ms i) ≡ bare (node_at ns i)) (same-kids : (q : ℕ) → q < b → kids ms q ≡ kids ns q) where
  shape_next : (n : ℕ) → n < b → All (λ c. shape ms c ≡ shape ns c) (kids ns n) → shape ms n ≡ shape ns n
  shape_next n h a =
      let k : (node_at ms n).kind ≡ (node_at ns n).kind = same_kind (node_at ms n) (node_at ns n) (bares n h) in
      let ks = ap (map (shape ms)) (same-kids n h) ∙ map_all (shape ms) (shape ns) (kids ns n) a in
      by_bool (is_segment (node_at ns n).kind)
      (λ e. leaf_shape_lem ms u n (omega (arith, high)) (ap is_segment k ∙ e)
      ∙ ap₂ leaf_shape (ap (λ (x : Node). x.segment) (bares n h)) (same_rows (node_at ms n) (node_at ns n) (bares n h))
      ∙ sym (leaf_shape_lem ns t n (omega (arith, low)) e))
      (λ e. join_shape_lem ms u n (omega (arith, high)) (ap is_segment k ∙ e) ∙ ap₂ join_shape k ks ∙ sym (join_shape_lem ns t n (omega (arith, low)) e))

  shapes_from : (f n : ℕ) → n < f → n < b → shape ms n ≡ shape ns n
  shapes_from zero n g h = absurd (omega arith)
  shapes_from (suc f) n g h =
      shape_next n h (kids_each (λ c. shape ms c ≡ shape ns c) ns n
      (λ c e. let up : c < n = (t.up c n e).0 in shapes_from f c (omega (arith, up, g)) (omega (arith, up, h))))

  pub shapes_below : (n : ℕ) → n < b → shape ms n ≡ shape ns n
  shapes_below n h = shapes_from (suc n) n (omega arith) h
