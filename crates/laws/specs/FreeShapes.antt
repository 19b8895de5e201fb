-- What a draft comes to: its leaves in sequence, and the shapes of its parentless nodes; and what one node more makes of them.
use Rattle.std.specs.Prelude.{◌≡◌, refl, Bool, true, false, ◌&&◌, ℕ, zero, suc, ◌-◌, ◌<◌, ◌≤◌, length, take, drop, eqb, ltb}
use Rattle.std.proofs.Common.{sym, ◌∙◌, arith, ltb-false}
use Rattle.std.proofs.Math.Path.{ap}
use mathlib.Core.List.{List, [], ◌∷◌, ◌++◌, map, reverse, reverse_aux, append-nil}
use Rattle.rules.specs.Table.{filter, has, any, is_empty}
use Rattle.rules.specs.Job.{Kind, Node, Draft, node_at, is_segment, max_rows, other_rows, newest, set_parents, new_leaf, new_join, joined, plan_rows, join_causes}
use Rattle.laws.specs.Table.{by_bool, by_eq, by_list, clash, or_right}
use Rattle.laws.specs.Rising.{Falling, falling_high, has_tail, has_nil, map_has}
use Rattle.laws.specs.Kids.{bare, same_kind}
use Rattle.laws.specs.Tree.{TreeOk, NewOk, last_alone}
use Rattle.laws.specs.Parents.{parents_size, parents_kept, parents_taken}
use Rattle.laws.specs.More.{with_node, newest_low, left_low, grown, newest_first, more_tree, bares_stay, kids_stay, own_kids}
use Rattle.laws.specs.Draft.{DraftOk, Passed, leaf_new, join_sound}
use Rattle.laws.specs.Shape.{Shape, shape, leaf_shape, join_shape, sized, sizes, leaf_shape_lem, join_shape_lem, lone_shape, shapes_below}

-- Leaves

abbrev leaf_of : Node → ℕ × ℕ
leaf_of x = (x.segment, x.rows)

-- the leaves of a table, each with its segment and its rows
abbrev pub leaves_in : List Node → List (ℕ × ℕ)
leaves_in ns = map leaf_of (filter (λ (x : Node). is_segment x.kind) ns)

-- of two tables, one behind the other
leaves_append : (ns ms : List Node) → leaves_in (ns ++ ms) ≡ leaves_in ns ++ leaves_in ms
unfolding filter
leaves_append [] ms = refl
leaves_append (x ∷ ns) ms = by_bool (is_segment x.kind) (λ e. rw (e, filter, leaves_append ns ms)) (λ e. rw (e, filter) (leaves_append ns ms))

-- places do not count
pub leaves_bare : (ns ms : List Node) → length ms ≡ length ns → ((i : ℕ) → i < length ns → bare (node_at ms i) ≡ bare (node_at ns i)) → leaves_in ms ≡ leaves_in ns
unfolding filter
leaves_bare [] [] e h = refl
leaves_bare [] (y ∷ ms) e h = absurd (omega arith)
leaves_bare (x ∷ ns) [] e h = absurd (omega arith)
leaves_bare (x ∷ ns) (y ∷ ms) e h =
    let b : bare y ≡ bare x = h 0 (omega arith) in
    let rest : leaves_in ms ≡ leaves_in ns = leaves_bare ns ms (omega arith) (λ i k. h (suc i) (omega arith)) in
    by_bool (is_segment x.kind)
    (λ q. rw (ap is_segment (same_kind y x b) ∙ q, q, filter, rest) (ap (λ (z : Node). leaf_of z ∷ leaves_in ns) b))
    (λ q. rw (ap is_segment (same_kind y x b) ∙ q, q, filter) rest)

-- a test that asks for leaves alone
leaves_any : (f : Node → Bool) (t : ℕ × ℕ → Bool) → ((x : Node) → f x ≡ is_segment x.kind && t (leaf_of x))
    → (ns : List Node) → any f ns ≡ any t (leaves_in ns)
unfolding filter any
leaves_any f t h [] = refl
leaves_any f t h (x ∷ ns) =
    by_bool (is_segment x.kind) (λ e. rw (h x, e, filter, leaves_any f t h ns)) (λ e. rw (h x, e, filter) (leaves_any f t h ns))

-- tells the same of tables with the same leaves
pub leaves_tell : (f : Node → Bool) (t : ℕ × ℕ → Bool) → ((x : Node) → f x ≡ is_segment x.kind && t (leaf_of x))
    → (ns ms : List Node) → leaves_in ns ≡ leaves_in ms → any f ns ≡ any f ms
leaves_tell f t h ns ms e = leaves_any f t h ns ∙ ap (any t) e ∙ sym (leaves_any f t h ms)

-- Parentless nodes

module _ {A B : Type 0} (f : A → B) where
  take_map : (n : ℕ) (l : List A) → take n (map f l) ≡ map f (take n l)
  take_map zero l = refl
  take_map (suc n) [] = refl
  take_map (suc n) (x ∷ l) = rw (take_map n l)

  drop_map : (n : ℕ) (l : List A) → drop n (map f l) ≡ map f (drop n l)
  drop_map zero l = refl
  drop_map (suc n) [] = refl
  drop_map (suc n) (x ∷ l) = drop_map n l

  onto_map : (l k : List A) → reverse_aux (map f l) (map f k) ≡ map f (reverse_aux l k)
  onto_map [] k = refl
  onto_map (x ∷ l) k = onto_map l (x ∷ k)

  newest_map : (n : ℕ) (l : List A) → reverse (take n (map f l)) ≡ map f (reverse (take n l))
  newest_map n l = ap reverse (take_map n l) ∙ onto_map (take n l) []

-- what the parentless nodes of a draft come to, the newest first
abbrev pub shapes : Draft → List Shape
shapes d = map (shape d.nodes) d.free

-- rows and widths are counted over shapes as over nodes
pub newest_sizes : (n : ℕ) (d : Draft) → map (λ (s : Shape). s.0) (reverse (take n (shapes d))) ≡ map sized (map (node_at d.nodes) (newest n d))
newest_sizes n d = ap (map (λ (s : Shape). s.0)) (newest_map (shape d.nodes) n d.free) ∙ sizes d.nodes (newest n d)

-- One node more

module _ (d : Draft) (n : ℕ) (x : Node) (v : DraftOk d) (w : NewOk d.nodes (newest n d) x) where
  abbrev ms : List Node
  ms = (with_node n x d).nodes

  size : length ms ≡ suc (length d.nodes)
  size = (grown d v.free n x).size

  last : node_at ms (length d.nodes) ≡ x
  last = (grown d v.free n x).last

  tree : TreeOk ms
  tree = more_tree d v.free n x v.tree w

  -- the other nodes come to what they did
  old_shapes : (l : List ℕ) → ((i : ℕ) → has i l ≡ true → i < length d.nodes) → map (shape ms) l ≡ map (shape d.nodes) l
  old_shapes l h = map_has (shape ms) (shape d.nodes) l
      (λ i e. shapes_below d.nodes ms v.tree tree (length d.nodes) (omega arith) (omega (arith, size))
      (bares_stay d v.free n x v.tree w) (kids_stay d v.free n x v.tree w) i (h i e))

  -- the new one comes before those that are left
  more_shapes : shapes (with_node n x d) ≡ shape ms (length d.nodes) ∷ drop n (shapes d)
  more_shapes =
      ap (map (shape ms)) (newest_first d v.free n x) ∙ ap (λ (l : List Shape). shape ms (length d.nodes) ∷ l)
      (old_shapes (drop n d.free) (left_low d v.free n) ∙ sym (drop_map (shape d.nodes) n d.free))

  -- its own shape
  new_leaf_lem : is_segment x.kind ≡ true → shape ms (length d.nodes) ≡ leaf_shape x.segment x.rows
  new_leaf_lem e =
      leaf_shape_lem ms tree (length d.nodes) (omega (arith, size)) (ap (λ (y : Node). is_segment y.kind) last ∙ e)
      ∙ ap (λ (y : Node). leaf_shape y.segment y.rows) last

  new_join_lem : is_segment x.kind ≡ false → shape ms (length d.nodes) ≡ join_shape x.kind (reverse (take n (shapes d)))
  new_join_lem e =
      let ks = ap (map (shape ms)) (own_kids d v.free n x v.tree w) ∙ old_shapes (newest n d) (newest_low d v.free n)
      ∙ sym (newest_map (shape d.nodes) n d.free) in
      join_shape_lem ms tree (length d.nodes) (omega (arith, size)) (ap (λ (y : Node). is_segment y.kind) last ∙ e)
      ∙ (λ i. join_shape (last i).kind (ks i))

  -- and its leaf, if it is one, comes last
  more_leaves : leaves_in ms ≡ leaves_in d.nodes ++ leaves_in (x ∷ [])
  more_leaves =
      let p : ℕ = length d.nodes in
      let cs : List ℕ = newest n d in
      leaves_append (set_parents p cs d.nodes) (x ∷ [])
      ∙ ap (λ (l : List (ℕ × ℕ)). l ++ leaves_in (x ∷ []))
      (leaves_bare d.nodes (set_parents p cs d.nodes) (parents_size p cs d.nodes (newest_low d v.free n))
      (λ i h. by_bool (has i cs) (λ e. ap bare (parents_taken p cs d.nodes i e)) (λ e. ap bare (parents_kept p cs d.nodes i e))))

-- A leaf

module _ (g n : ℕ) (d : Draft) (v : DraftOk d) (b : n ≤ max_rows) (o : any (other_rows g n) d.nodes ≡ false) where
  pub leaf_shapes : shapes (new_leaf g n d) ≡ leaf_shape g n ∷ shapes d
  unfolding set_parents
  leaf_shapes =
      let w = leaf_new g n d.nodes b o in
      more_shapes d 0 _ v w ∙ ap (λ (s : Shape). s ∷ shapes d) (new_leaf_lem d 0 _ v w refl)

  pub leaf_leaves : leaves_in (new_leaf g n d).nodes ≡ leaves_in d.nodes ++ (g, n) ∷ []
  unfolding set_parents filter
  leaf_leaves = more_leaves d 0 _ v (leaf_new g n d.nodes b o)

-- A join

module _ (count : ℕ) (k : Kind) (n : ℕ) (d : Draft) (v : DraftOk d) (b : is_segment k ≡ false) (p : Passed (join_causes count k n d [])) where
  sound : NewOk d.nodes (newest n d) (joined k (map (node_at d.nodes) (newest n d)))
  sound = join_sound count k n d [] b p

  pub join_shapes : shapes (new_join k n d) ≡ join_shape k (reverse (take n (shapes d))) ∷ drop n (shapes d)
  join_shapes = more_shapes d n _ v sound ∙ ap (λ (s : Shape). s ∷ drop n (shapes d)) (new_join_lem d n _ v sound b)

  pub join_leaves : leaves_in (new_join k n d).nodes ≡ leaves_in d.nodes
  unfolding filter
  join_leaves = more_leaves d n _ v sound ∙ rw (b, filter) (append-nil (leaves_in d.nodes))

  -- one child: the shape of the new node stands where the child's stood
  lone_first : (l : List ℕ) → n ≡ 1 → 1 ≤ length l
      → join_shape k (reverse (take n (map (shape d.nodes) l))) ∷ drop n (map (shape d.nodes) l) ≡ map (shape d.nodes) l
  lone_first [] i h = absurd (omega arith)
  lone_first (c ∷ l) i h = rw i (ap (λ (s : Shape). s ∷ map (shape d.nodes) l) (lone_shape d.nodes k c b))

  pub lone_shapes : n ≡ 1 → shapes (new_join k n d) ≡ shapes d
  lone_shapes i =
      let h : n ≤ length d.free = ltb-false (length d.free) n (or_right (eqb n 0) (ltb (length d.free) n) p.1.1.1.0) in
      join_shapes ∙ lone_first d.free i (omega (arith, i, h))

-- The newest node

-- the newest parentless node is the last node
pub newest_last : (d : Draft) (c : ℕ) (cs : List ℕ) → DraftOk d → d.free ≡ c ∷ cs → c ≡ length d.nodes - 1
newest_last d c cs v e =
    let last : ℕ = length d.nodes - 1 in
    let f : Falling (length d.nodes) (c ∷ cs) = rw e at v.free.falls in
    let h : has last (c ∷ cs) ≡ true = rw e at (v.free.all last (omega (arith, f.0)) (last_alone d.nodes v.tree (omega (arith, f.0)))) in
    by_eq last c (λ q. sym q) (λ q. absurd (omega (arith, f.0, falling_high c cs last f.1 (sym (has_tail last c cs q) ∙ h))))

-- there is none where there are no nodes
none_free : (d : Draft) → DraftOk d → d.free ≡ [] → d.nodes ≡ []
none_free d v e = by_list d.nodes (λ q. q)
    (λ x xs q.
    let last : ℕ = length d.nodes - 1 in
    let n : length d.nodes ≡ suc (length xs) = ap (λ (l : List Node). length l) q in
    clash (cc (has_nil last, rw e at (v.free.all last (omega (arith, n)) (last_alone d.nodes v.tree (omega (arith, n)))))))

-- the rows of the last node
abbrev pub first_rows : List Shape → ℕ
first_rows [] = 0
first_rows (s ∷ ss) = s.0.rows

pub plan_first : (d : Draft) → DraftOk d → plan_rows d ≡ first_rows (shapes d)
plan_first d v = by_list d.free
    (λ e. rw (e, none_free d v e))
    (λ c cs e. rw e (ap (λ (n : ℕ). (node_at d.nodes n).rows) (sym (newest_last d c cs v e))))

pub empty_shapes : (d : Draft) → DraftOk d → is_empty d.nodes ≡ is_empty (shapes d)
unfolding is_empty
empty_shapes d v = by_list d.free
    (λ e. rw (e, none_free d v e))
    (λ c cs e. by_list d.nodes
    (λ q.
    let f : Falling (length d.nodes) (c ∷ cs) = rw e at v.free.falls in
    absurd (omega (arith, f.0, ap (λ (l : List Node). length l) q)))
    (λ x xs q. rw (e, q)))
