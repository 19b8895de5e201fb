-- What is known of the nodes that the records so far come to, and that one more node keeps it.
use Rattle.std.specs.Prelude.{◌≡◌, refl, ◌≢◌, Bool, true, false, List, [], ◌∷◌, map, ℕ, suc, ◌-◌, ◌<◌, ◌≤◌, length, ltb}
use Rattle.std.proofs.Common.{sym, ◌∙◌, subst₂, arith, ltb-true, ltb-false}
use Rattle.std.proofs.Math.Option.{none, some}
use Rattle.rules.specs.Table.{has, is_some}
use Rattle.rules.specs.Job.{Node, no_node, node_at, is_segment, with_parent, kids, rows_of, width_of, unequal, max_rows}
use Rattle.laws.specs.Table.{by_bool, by_eq, by_list, by_option, clash, get_past}
use Rattle.laws.specs.JobOk.{Joined}
use Rattle.laws.specs.Rising.{Rising, Falling, falling_high, has_head, has_tail}
use Rattle.laws.specs.Kids.{is_some_lem, some_is, kids_has, kids_are, kids_same, bare, same_kind, same_rows, same_width, Alike, rows_alike, width_alike, unequal_alike, joined_alike}

-- one segment has one row count
abbrev pub OneCount : Node → Node → Type 0
OneCount x y = is_segment x.kind ≡ true → is_segment y.kind ≡ true → x.segment ≡ y.segment → x.rows ≡ y.rows

-- the nodes: as in `JobOk`; and the nodes under a node stand right before it
pub record TreeOk (ns : List Node) : Type 0 where
  pub up : (n q : ℕ) → (node_at ns n).parent ≡ some q → (n < q) × (q < length ns)
  pub inner : (n q : ℕ) → (node_at ns n).parent ≡ some q → is_segment (node_at ns q).kind ≡ false
  pub joined : (n : ℕ) → n < length ns → is_segment (node_at ns n).kind ≡ false → Joined ns n
  pub leaf : (n : ℕ) → n < length ns → is_segment (node_at ns n).kind ≡ true → (node_at ns n).width ≡ 1
  pub rows_high : (n : ℕ) → (node_at ns n).rows ≤ max_rows
  pub width_high : (n : ℕ) → (node_at ns n).width ≤ 4
  pub one_count : (l k : ℕ) → l < length ns → k < length ns → OneCount (node_at ns l) (node_at ns k)
  pub within : (n q i : ℕ) → (node_at ns n).parent ≡ some q → n < i → i < q → (p : ℕ) × ((node_at ns i).parent ≡ some p) × (p ≤ q)
  pub before : (q : ℕ) → q < length ns → is_segment (node_at ns q).kind ≡ false → (node_at ns (q - 1)).parent ≡ some q

-- the parentless nodes, the newest first
pub record FreeOk (ns : List Node) (free : List ℕ) : Type 0 where
  pub falls : Falling (length ns) free
  pub alone : (i : ℕ) → has i free ≡ true → (node_at ns i).parent ≡ none
  pub all : (i : ℕ) → i < length ns → (node_at ns i).parent ≡ none → has i free ≡ true

-- some of the newest, oldest first, and the rest
pub record Takes (b : ℕ) (free cs rest : List ℕ) : Type 0 where
  pub rise : Rising 0 cs
  pub from : (i : ℕ) → has i cs ≡ true → has i free ≡ true
  pub newer : (c i : ℕ) → has c cs ≡ true → c < i → has i free ≡ true → has i cs ≡ true
  pub falls : Falling b rest
  pub apart : (i : ℕ) → has i rest ≡ true → (has i free ≡ true) × (has i cs ≡ false)
  pub rest_all : (i : ℕ) → has i free ≡ true → has i cs ≡ false → has i rest ≡ true

-- the nodes with one more, which is the parent of some
pub record Grown (ns ms : List Node) (cs : List ℕ) (x : Node) : Type 0 where
  pub size : length ms ≡ suc (length ns)
  pub last : node_at ms (length ns) ≡ x
  pub taken : (i : ℕ) → i < length ns → has i cs ≡ true → node_at ms i ≡ with_parent (length ns) (node_at ns i)
  pub kept : (i : ℕ) → i < length ns → has i cs ≡ false → node_at ms i ≡ node_at ns i

pub record NewOk (ns : List Node) (cs : List ℕ) (x : Node) : Type 0 where
  pub alone : x.parent ≡ none
  pub rows_high : x.rows ≤ max_rows
  pub width_high : x.width ≤ 4
  pub inner : (i : ℕ) → has i cs ≡ true → is_segment x.kind ≡ false
  pub some_kids : is_segment x.kind ≡ false → cs ≢ []
  pub rows : is_segment x.kind ≡ false → x.rows ≡ rows_of x.kind (map (node_at ns) cs)
  pub width : is_segment x.kind ≡ false → x.width ≡ width_of x.kind (map (node_at ns) cs)
  pub equal : is_segment x.kind ≡ false → unequal x.kind (map (node_at ns) cs) ≡ false
  pub leaf : is_segment x.kind ≡ true → x.width ≡ 1
  pub one_count : is_segment x.kind ≡ true → (l : ℕ) → l < length ns → is_segment (node_at ns l).kind ≡ true → (node_at ns l).segment ≡ x.segment → (node_at ns l).rows ≡ x.rows

-- the last node is parentless
pub last_alone : (ns : List Node) → TreeOk ns → 1 ≤ length ns → (node_at ns (length ns - 1)).parent ≡ none
last_alone ns t h = by_option (node_at ns (length ns - 1)).parent (λ e. e) (λ q e. absurd (omega (arith, t.up (length ns - 1) q e)))

-- places do not count for that
pub one_bare : (x x' y y' : Node) → bare x ≡ bare x' → bare y ≡ bare y' → OneCount x' y' → OneCount x y
one_bare x x' y y' p q h = subst₂ OneCount (sym p) (sym q) h

-- two tests that tell the same
pub bool_iff : (a b : Bool) → (a ≡ true → b ≡ true) → (b ≡ true → a ≡ true) → a ≡ b
bool_iff true b f g = sym (f refl)
bool_iff false true f g = g refl
bool_iff false false f g = refl

module _ (ns ms : List Node) (free cs rest : List ℕ) (x : Node) (t : TreeOk ns) (f : FreeOk ns free) (c : Takes (length ns) free cs rest) (g : Grown ns ms cs x) (v : NewOk ns cs x) where
  -- a child is one of the nodes
  child_low : (i : ℕ) → has i cs ≡ true → i < length ns
  child_low i h = falling_high (length ns) free i f.falls (c.from i h)

  -- an old node changes at most its parent
  pub old_bare : (i : ℕ) → i < length ns → bare (node_at ms i) ≡ bare (node_at ns i)
  old_bare i h = by_bool (has i cs) (λ e. rw (g.taken i h e)) (λ e. rw (g.kept i h e))

  -- and a parent stays
  old_parent : (i q : ℕ) → (node_at ns i).parent ≡ some q → (node_at ms i).parent ≡ some q
  old_parent i q e =
      by_bool (has i cs) (λ h. clash (cc (f.alone i (c.from i h))))
      (λ h. let b : i < length ns = omega (arith, t.up i q e) in rw (g.kept i b h) e)

  -- past the new node there is none
  past : (i : ℕ) → length ns < i → node_at ms i ≡ no_node
  past i h = get_past no_node ms i (omega (arith, g.size))

  -- whose parent a node is
  module _ {ℓ} {P : Type ℓ} where
    pub by_parent : (i q : ℕ) → (node_at ms i).parent ≡ some q → (has i cs ≡ true → q ≡ length ns → P) → ((node_at ns i).parent ≡ some q → P) → P
    by_parent i q e new old =
        by_bool (has i cs) (λ h. new h (cc (e, g.taken i (child_low i h) h)))
        (λ h. by_bool (ltb i (length ns)) (λ b. old (rw (g.kept i (ltb-true i (length ns) b) h) at e))
        (λ b. by_eq i (length ns) (λ z. clash (cc (e, z, g.last, v.alone))) (λ z. clash (cc (e, past i (omega (arith, ltb-false i (length ns) b)))))))

    -- an old node or the new one
    by_node : (i : ℕ) → i < length ms → (i < length ns → P) → (i ≡ length ns → P) → P
    by_node i h old new = by_eq i (length ns) new (λ z. old (omega (arith, g.size)))

  -- parents stand behind their children
  grown_up : (n q : ℕ) → (node_at ms n).parent ≡ some q → (n < q) × (q < length ms)
  grown_up n q e =
      by_parent n q e (λ h z. omega (arith, child_low n h, g.size)) (λ h. omega (arith, t.up n q h, g.size))

  -- and are no leaves
  grown_inner : (n q : ℕ) → (node_at ms n).parent ≡ some q → is_segment (node_at ms q).kind ≡ false
  grown_inner n q e =
      by_parent n q e (λ h z. rw (z, g.last) (v.inner n h))
      (λ h. rw (same_kind (node_at ms q) (node_at ns q) (old_bare q (t.up n q h).1)) (t.inner n q h))

  -- the children of an old node stay its children
  pub old_kids : (q : ℕ) → q < length ns → kids ms q ≡ kids ns q
  old_kids q h = kids_same ns ms q (λ i. bool_iff (is_some q (node_at ms i).parent) (is_some q (node_at ns i).parent)
      (λ e. by_parent i q (is_some_lem q (node_at ms i).parent e) (λ m z. absurd (omega arith)) (λ o. some_is q (node_at ns i).parent o))
      (λ e. some_is q (node_at ms i).parent (old_parent i q (is_some_lem q (node_at ns i).parent e))))

  -- and the new node has those that it took
  new_parent : (i : ℕ) → has i cs ≡ true → (node_at ms i).parent ≡ some (length ns)
  new_parent i h = rw (g.taken i (child_low i h) h)

  -- which are its children
  pub new_kids : kids ms (length ns) ≡ cs
  new_kids = kids_are ms (length ns) cs c.rise (λ i. bool_iff (is_some (length ns) (node_at ms i).parent) (has i cs)
      (λ e. by_parent i (length ns) (is_some_lem (length ns) (node_at ms i).parent e) (λ m z. m) (λ o. absurd (omega (arith, (t.up i (length ns) o).1))))
      (λ e. some_is (length ns) (node_at ms i).parent (new_parent i e)))

  -- an old inner node stays joined
  old_joined : (n : ℕ) → n < length ns → is_segment (node_at ms n).kind ≡ false → Joined ms n
  old_joined n h e =
      joined_alike ns ms n (old_bare n h) (old_kids n h)
      (λ i k. old_bare i (omega (arith, t.up i n (is_some_lem n (node_at ns i).parent (sym (kids_has ns n i) ∙ k)))))
      (t.joined n h (rw (same_kind (node_at ms n) (node_at ns n) (old_bare n h)) at e))

  -- the children are the same but for their parent
  new_alike : Alike ns ms cs
  new_alike i h = old_bare i (child_low i h)

  -- and the new one is joined
  new_joined : is_segment x.kind ≡ false → Joined ms (length ns)
  new_joined e = record {
    some_kids = rw new_kids (v.some_kids e);
    rows = rw (new_kids, g.last, rows_alike x.kind ns ms cs new_alike) (v.rows e);
    width = rw (new_kids, g.last, width_alike x.kind ns ms cs new_alike) (v.width e);
    equal = rw (new_kids, g.last, unequal_alike x.kind ns ms cs new_alike) (v.equal e);
  }

  -- so all inner nodes are
  grown_joined : (n : ℕ) → n < length ms → is_segment (node_at ms n).kind ≡ false → Joined ms n
  grown_joined n h e = by_node n h (λ b. old_joined n b e) (λ z. rw z (new_joined (rw (z, g.last) at e)))

  -- a leaf is one column wide
  grown_leaf : (n : ℕ) → n < length ms → is_segment (node_at ms n).kind ≡ true → (node_at ms n).width ≡ 1
  grown_leaf n h e =
      by_node n h
      (λ b. rw (same_width (node_at ms n) (node_at ns n) (old_bare n b)) (t.leaf n b (rw (same_kind (node_at ms n) (node_at ns n) (old_bare n b)) at e)))
      (λ z. rw (z, g.last) (v.leaf (rw (z, g.last) at e)))

  -- what holds of the rows or the width of the old nodes and the new one holds of all
  grown_all : (P : ℕ → ℕ → Type 0) (n : ℕ) → ((n : ℕ) → P (node_at ns n).rows (node_at ns n).width) → P x.rows x.width → P 0 0 → P (node_at ms n).rows (node_at ms n).width
  grown_all P n old new past_end =
      by_bool (ltb n (length ns))
      (λ b. let h : n < length ns = ltb-true n (length ns) b in rw (same_rows (node_at ms n) (node_at ns n) (old_bare n h), same_width (node_at ms n) (node_at ns n) (old_bare n h)) (old n))
      (λ b. by_eq n (length ns) (λ z. rw (z, g.last) new) (λ z. rw (past n (omega (arith, ltb-false n (length ns) b))) past_end))

  -- one segment still has one row count
  grown_one : (l k : ℕ) → l < length ms → k < length ms → OneCount (node_at ms l) (node_at ms k)
  grown_one l k a b =
      by_node l a
      (λ h. by_node k b (λ m. one_bare (node_at ms l) (node_at ns l) (node_at ms k) (node_at ns k) (old_bare l h) (old_bare k m) (t.one_count l k h m))
      (λ z. one_bare (node_at ms l) (node_at ns l) (node_at ms k) x (old_bare l h) (rw (z, g.last)) (λ p q e. v.one_count q l h p e)))
      (λ y. by_node k b
      (λ m. one_bare (node_at ms l) x (node_at ms k) (node_at ns k) (rw (y, g.last)) (old_bare k m) (λ p q e. sym (v.one_count p k m q (sym e))))
      (λ z p q e. rw (y, z)))

  -- what stands between a node and its parent is under that parent
  grown_within : (n q i : ℕ) → (node_at ms n).parent ≡ some q → n < i → i < q → (p : ℕ) × ((node_at ms i).parent ≡ some p) × (p ≤ q)
  grown_within n q i e h k =
      by_parent n q e
      (λ m z. by_option (node_at ns i).parent (λ o. (length ns, new_parent i (c.newer n i m h (f.all i (omega arith) o)), omega arith))
      (λ p o. (p, old_parent i p o, omega (arith, (t.up i p o).1))))
      (λ o. let w : (p : ℕ) × ((node_at ns i).parent ≡ some p) × (p ≤ q) = t.within n q i o h k in (w.0, old_parent i w.0 w.1, w.2))

  -- the newest node is parentless, and taken if any is
  newest_taken : cs ≢ [] → has (length ns - 1) cs ≡ true
  newest_taken h =
      by_list cs (λ e. absurd (h e))
      (λ y ys e.
      let m : has y cs ≡ true = rw e (has_head y ys) in
      let b : y < length ns = child_low y m in
      by_eq y (length ns - 1) (λ z. rw (← z) m) (λ z. c.newer y (length ns - 1) m (omega arith) (f.all (length ns - 1) (omega arith) (last_alone ns t (omega arith)))))

  -- the node before an inner node is its child
  grown_before : (q : ℕ) → q < length ms → is_segment (node_at ms q).kind ≡ false → (node_at ms (q - 1)).parent ≡ some q
  grown_before q h e =
      by_node q h (λ b. old_parent (q - 1) q (t.before q b (rw (same_kind (node_at ms q) (node_at ns q) (old_bare q b)) at e)))
      (λ z. rw z (new_parent (length ns - 1) (newest_taken (v.some_kids (rw (z, g.last) at e)))))

  -- one more node keeps the tree
  pub grown_tree : TreeOk ms
  grown_tree = record {
    up = grown_up;
    inner = grown_inner;
    joined = grown_joined;
    leaf = grown_leaf;
    rows_high = λ n. grown_all (λ r w. r ≤ max_rows) n t.rows_high v.rows_high (omega arith);
    width_high = λ n. grown_all (λ r w. w ≤ 4) n t.width_high v.width_high (omega arith);
    one_count = grown_one;
    within = grown_within;
    before = grown_before;
  }

  -- what is left and the new node are parentless
  free_alone : (i : ℕ) → has i (length ns ∷ rest) ≡ true → (node_at ms i).parent ≡ none
  free_alone i h =
      by_eq i (length ns) (λ z. rw (z, g.last) v.alone)
      (λ z.
      let a : (has i free ≡ true) × (has i cs ≡ false) = c.apart i (sym (has_tail i (length ns) rest z) ∙ h) in
      rw (g.kept i (falling_high (length ns) free i f.falls a.0) a.1) (f.alone i a.0))

  -- and no other is
  free_all : (i : ℕ) → i < length ms → (node_at ms i).parent ≡ none → has i (length ns ∷ rest) ≡ true
  free_all i h e =
      by_node i h
      (λ b. rw (has_tail i (length ns) rest (omega arith)) (by_bool (has i cs) (λ k. clash (cc (new_parent i k)))
      (λ k. c.rest_all i (f.all i b (rw (g.kept i b k) at e)) k)))
      (λ z. rw z (has_head (length ns) rest))

  -- so they are the parentless nodes, the newest first
  pub grown_free : FreeOk ms (length ns ∷ rest)
  grown_free = record { falls = (omega (arith, g.size), c.falls); alone = free_alone; all = free_all }
