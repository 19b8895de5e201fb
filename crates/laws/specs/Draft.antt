-- Each record that is restored keeps what is known of the draft.
use Rattle.std.specs.Prelude.{◌≡◌, ◌≢◌, Bool, true, false, not, ◌||◌, length, take, eqb, leb, ltb}
use Rattle.std.proofs.Math.Path.{refl}
use Rattle.std.proofs.Common.{ap, subst, arith, length-append, length-take, ltb-false, leb-false, eqb-true, eq-eqb}
use mathlib.Core.List.{List, [], ◌∷◌, ◌++◌, map}
use Rattle.std.proofs.Math.Option.{none}
use Prim.Native.Nat.{ℕ, zero, suc, ◌-◌, ◌<◌, ◌≤◌}
use Rattle.std.proofs.lemmas.List.{length-reverse}
use Rattle.std.proofs.lemmas.Bool.{eqb-false, not-false}
use Rattle.rules.specs.Table.{any, is_empty, get}
use Rattle.rules.specs.Job.{Kind, Node, Run, Split, Draft, accepted, Record, slots, leaf, join, split, no_node, node_at, is_segment, rows_of}
use Rattle.rules.specs.Job.{width_of, unequal, max_rows, set_parents, leaf_node, newest, joined, plan_rows, unless, other_rows, childless, node_late, runs_fault}
use Rattle.rules.specs.Job.{restore, accept_slots, accept_leaf, join_causes, new_join, restore_split}
use Rattle.rules.specs.Plan.{no_split}
use Rattle.laws.specs.Table.{by_bool, by_eq, clash, get_front, get_last, or_left, or_right}
use Rattle.laws.specs.Rising.{has_nil}
use Rattle.laws.specs.Tree.{TreeOk, FreeOk, NewOk}
use Rattle.laws.specs.More.{with_node, grown, more_tree, more_free}

-- a split of a plan with so many rows
pub record SplitFits (rows : ℕ) (s : Split) : Type 0 where
  pub order : s.start ≤ s.end
  pub within : s.end ≤ rows
  pub runs : runs_fault (s.end - s.start) none s.runs ≡ false
  pub few : length s.runs ≤ 16

pub record DraftOk (d : Draft) : Type 0 where
  pub slots_high : d.slots ≤ 3
  pub nodes_high : length d.nodes ≤ 24
  pub splits_high : length d.splits ≤ 16
  pub tree : TreeOk d.nodes
  pub free : FreeOk d.nodes d.free
  pub splits : (s : ℕ) → s < length d.splits → SplitFits (plan_rows d) (get no_split d.splits s)

-- all of these causes are false
abbrev pub Passed : List (ℕ × Bool) → Type 0
Passed [] = Unit {0}
Passed (c ∷ cs) = (c.1 ≡ false) × Passed cs

module _ {A : Type 0} where
  -- what is accepted has passed, and is the value
  unless_step : (c : ℕ × Bool) (cs : List (ℕ × Bool)) (x y : A) → unless (c ∷ cs) x ≡ accepted y → (c.1 ≡ false) × (unless cs x ≡ accepted y)
  unfolding unless
  unless_step c cs x y e = by_bool c.1 (λ h. clash (cc)) (λ h. (h, rw (h, unless) at e))

  -- the same for all causes
  pub unless_passed : (cs : List (ℕ × Bool)) (x y : A) → unless cs x ≡ accepted y → Passed cs × (x ≡ y)
  unfolding unless
  unless_passed [] x y e = (tt, cc)
  unless_passed (c ∷ cs) x y e =
      let s : (c.1 ≡ false) × (unless cs x ≡ accepted y) = unless_step c cs x y e in
      let r : Passed cs × (x ≡ y) = unless_passed cs x y s.1 in
      ((s.0, r.0), r.1)

  -- where all causes are false the value is accepted
  pub passed_unless : (cs : List (ℕ × Bool)) (x : A) → Passed cs → unless cs x ≡ accepted x
  unfolding unless
  passed_unless [] x p = refl
  passed_unless (c ∷ cs) x p = rw (p.0, unless) (passed_unless cs x p.1)

  -- an empty list
  pub empty_nil : (l : List A) → is_empty l ≡ true → l ≡ []
  unfolding is_empty
  empty_nil [] e = refl
  empty_nil (x ∷ l) e = clash (cc)

  -- no entry passes a test that none passes
  pub any_none : (f : A → Bool) (d : A) (l : List A) (i : ℕ) → any f l ≡ false → i < length l → f (get d l i) ≡ false
  unfolding any
  any_none f d [] i e h = absurd (omega arith)
  any_none f d (x ∷ l) zero e h = or_left (f x) (any f l) e
  any_none f d (x ∷ l) (suc i) e h = any_none f d l i (or_right (f x) (any f l) e) (omega arith)

-- one more node
add_ok : (d : Draft) (n : ℕ) (x : Node) → DraftOk d → length d.nodes < 24 → d.splits ≡ [] → NewOk d.nodes (newest n d) x → DraftOk (with_node n x d)
add_ok d n x v b e w = record {
  slots_high = v.slots_high;
  nodes_high = omega (arith, (grown d v.free n x).size, b);
  splits_high = v.splits_high;
  tree = more_tree d v.free n x v.tree w;
  free = more_free d v.free n x v.tree w;
  splits = λ s h. absurd (omega (arith, h, ap (λ (l : List Split). length l) e));
}

-- nodes come before the splits
pub not_late : (d : Draft) → node_late d ≡ false → d.splits ≡ []
not_late d e = empty_nil d.splits (not-false (is_empty d.splits) (or_right (eqb d.slots 0) (not (is_empty d.splits)) e))

-- a leaf
other_not : (g n : ℕ) (x : Node) → other_rows g n x ≡ false → is_segment x.kind ≡ true → x.segment ≡ g → x.rows ≡ n
other_not g n x e h k = by_bool (eqb x.rows n) (λ q. eqb-true x.rows n q) (λ q. clash (cc (e, h, eq-eqb x.segment g k, q)))

-- a leaf is a sound new node
pub leaf_new : (g n : ℕ) (ns : List Node) → n ≤ max_rows → any (other_rows g n) ns ≡ false → NewOk ns [] (leaf_node g n)
leaf_new g n ns b e = record {
  alone = refl;
  rows_high = b;
  width_high = omega arith;
  inner = λ i h. clash (cc (has_nil i));
  some_kids = λ h. clash (cc);
  rows = λ h. clash (cc);
  width = λ h. clash (cc);
  equal = λ h. clash (cc);
  leaf = λ h. refl;
  one_count = λ h l k s q. other_not g n (node_at ns l) (any_none (other_rows g n) no_node ns l e k) s q;
}

-- an accepted leaf keeps the draft sound
leaf_ok : (g n : ℕ) (d e : Draft) → n ≤ max_rows → DraftOk d → accept_leaf (length d.nodes) g n d ≡ accepted e → DraftOk e
unfolding set_parents
leaf_ok g n d e b v h =
    let r = unless_passed _ _ e h in
    subst DraftOk r.1 (add_ok d 0 _ v (leb-false 24 (length d.nodes) r.0.1.0) (not_late d r.0.0) (leaf_new g n d.nodes b r.0.1.1.0))

-- an inner node: there are children
pub some_newest : (n : ℕ) (d : Draft) → childless n d ≡ false → newest n d ≢ []
some_newest n d e q =
    let a : n ≢ 0 = eqb-false n 0 (or_left (eqb n 0) (ltb (length d.free) n) e) in
    let b : n ≤ length d.free = ltb-false (length d.free) n (or_right (eqb n 0) (ltb (length d.free) n) e) in
    omega (arith, ap (λ (l : List ℕ). length l) q, length-reverse (take n d.free), length-take n d.free, a, b)

-- an inner node is a sound new node
pub join_new : (k : Kind) (cs : List ℕ) (ns : List Node) → is_segment k ≡ false → cs ≢ [] → width_of k (map (node_at ns) cs) ≤ 4
    → rows_of k (map (node_at ns) cs) ≤ max_rows → unequal k (map (node_at ns) cs) ≡ false → NewOk ns cs (joined k (map (node_at ns) cs))
join_new k cs ns b s w r u = record {
  alone = refl;
  rows_high = r;
  width_high = w;
  inner = λ i h. b;
  some_kids = λ h. s;
  rows = λ h. refl;
  width = λ h. refl;
  equal = λ h. u;
  leaf = λ h. clash (cc);
  one_count = λ h l m p q. clash (cc);
}

-- by what is asked of it
pub join_sound : (count : ℕ) (k : Kind) (n : ℕ) (d : Draft) (more : List (ℕ × Bool)) → is_segment k ≡ false → Passed (join_causes count k n d more)
    → NewOk d.nodes (newest n d) (joined k (map (node_at d.nodes) (newest n d)))
join_sound count k n d more b p =
    let xs : List Node = map (node_at d.nodes) (newest n d) in
    let c : childless n d ≡ false = p.1.1.1.0 in
    let wide : ltb 4 (width_of k xs) ≡ false = rw c at p.1.1.0 in
    let few : ltb max_rows (rows_of k xs) ≡ false = p.1.1.1.1.1.0 in
    join_new k (newest n d) d.nodes b (some_newest n d c) (ltb-false 4 (width_of k xs) wide) (ltb-false max_rows (rows_of k xs) few) p.1.1.1.1.0

-- an accepted inner node keeps the draft sound
pub join_ok : (k : Kind) (n : ℕ) (more : List (ℕ × Bool)) (d e : Draft) → is_segment k ≡ false → DraftOk d
    → unless (join_causes (length d.nodes) k n d more) (new_join k n d) ≡ accepted e → DraftOk e
join_ok k n more d e b v h =
    let r = unless_passed _ _ e h in
    subst DraftOk r.1
    (add_ok d n _ v (leb-false 24 (length d.nodes) r.0.1.0) (not_late d r.0.0) (join_sound (length d.nodes) k n d more b r.0))

-- and so does the number of slots
slots_ok : (n : ℕ) (d e : Draft) → DraftOk d → accept_slots n d ≡ accepted e → DraftOk e
slots_ok n d e v h =
    let r = unless_passed _ _ e h in
    subst DraftOk r.1 (record {
      slots_high = ltb-false 3 n (or_right (eqb n 0) (ltb 3 n) r.0.1.0);
      nodes_high = v.nodes_high;
      splits_high = v.splits_high;
      tree = v.tree;
      free = v.free;
      splits = v.splits;
    })

-- a split behind the others
fits_more : (rows : ℕ) (ss : List Split) (x : Split) → ((s : ℕ) → s < length ss → SplitFits rows (get no_split ss s)) → SplitFits rows x
    → (s : ℕ) → s < length (ss ++ x ∷ []) → SplitFits rows (get no_split (ss ++ x ∷ []) s)
fits_more rows ss x h f s b =
    by_eq s (length ss) (λ e. rw (e, get_last no_split ss x) f)
    (λ m. let k : s < length ss = omega (arith, length-append ss (x ∷ []), b) in rw (get_front no_split ss (x ∷ []) s k) (h s k))

-- and a split
split_ok_lem : (a b : ℕ) (rs : List Run) (d e : Draft) → DraftOk d → restore_split a b rs d ≡ accepted e → DraftOk e
split_ok_lem a b rs d e v h =
    let r = unless_passed _ _ e h in
    let full : Bool = is_empty d.nodes || leb 16 (length d.splits) in
    let many : length d.splits < 16 =
    leb-false 16 (length d.splits) (or_right (is_empty d.nodes) (leb 16 (length d.splits)) (or_left full (ltb 16 (length rs)) r.0.1.0)) in
    let x : Split = record { start = a; end = b; runs = rs } in
    let fits : SplitFits (plan_rows d) x =
    record {
      order = ltb-false b a (or_left (ltb b a) (ltb (plan_rows d) b) r.0.1.1.1.0);
      within = ltb-false (plan_rows d) b (or_right (ltb b a) (ltb (plan_rows d) b) r.0.1.1.1.0);
      runs = r.0.1.1.1.1.0;
      few = ltb-false 16 (length rs) (or_right full (ltb 16 (length rs)) r.0.1.0);
    } in
    subst DraftOk r.1 (record {
      slots_high = v.slots_high;
      nodes_high = v.nodes_high;
      splits_high = omega (arith, length-append d.splits (x ∷ []), many);
      tree = v.tree;
      free = v.free;
      splits = fits_more (plan_rows d) d.splits x v.splits fits;
    })

-- what reading tells of a record
abbrev pub RecordOk : Record → Type 0
RecordOk (slots n) = Unit {0}
RecordOk (leaf g n) = n ≤ max_rows
RecordOk (join k n) = is_segment k ≡ false
RecordOk (split a b rs) = Unit {0}

-- so each restored record does
pub restore_ok : (r : Record) (d e : Draft) → RecordOk r → DraftOk d → restore r d ≡ accepted e → DraftOk e
unfolding restore
restore_ok (slots n) d e o v h = slots_ok n d e v h
restore_ok (leaf g n) d e o v h = leaf_ok g n d e o v h
restore_ok (join k n) d e o v h = join_ok k n _ d e o v h
restore_ok (split a b rs) d e o v h = split_ok_lem a b rs d e v h
