-- Document 02 (k): "Any concat or pack of one child is still read, but stands for that child and makes no pipeline; it still counts to the 24". The
-- job that is read and the job as it is written are refused alike. Where they are accepted they have the same slots and splits, the same leaves in
-- sequence, the same rows of the root, and the same kept rows of every split.
use Rattle.std.specs.Prelude.{◌≡◌, refl, ◌&&◌, length, take, drop, ltb}
use Rattle.std.proofs.Math.Path.{sym, ap, subst}
use Rattle.std.proofs.Common.{◌∙◌, arith, ltb-true, ltb-false, eqb-true}
use Rattle.std.proofs.Math.Bool.{false, not, and_assoc}
use mathlib.Core.List.{List, [], ◌∷◌, ◌++◌, map, flat_map, reverse, head-eq_of_cons-eq}
use Rattle.std.proofs.Math.Option.{none}
use Prim.Native.Nat.{ℕ, suc, ◌+◌, ◌-◌, ◌<◌}
use Rattle.std.proofs.lemmas.List.{length-map}
use Rattle.std.proofs.Math.Dec.{eqb}
use Rattle.std.proofs.lemmas.Bool.{not-false}
use Rattle.rules.specs.Table.{get, any, is_empty}
use Rattle.rules.specs.Job.{Bytes, Kind, Node, Run, Split, Job, Draft, no_draft, Reading, no_reading, accepted, Record, slots, leaf, join, split}
use Rattle.rules.specs.Job.{node_at, is_segment, rows_of, width_of, unequal, set_parents, other_rows, newest, new_join, new_split, join_runs, plan_rows, unless, read_faults}
use Rattle.rules.specs.Job.{join_causes, split_causes, accept_slots, accept_leaf, accept_join, accept_split, goes_on, grows, stands_for, accept, accept_written}
use Rattle.rules.specs.Job.{restore, read_all, records, finish, parse, as_written}
use Rattle.rules.specs.Plan.{Row, row_of, node_of, root_of, no_split, kept_rows, positions}
use Rattle.laws.specs.Table.{by_bool, get_past}
use Rattle.laws.specs.Rising.{Falling}
use Rattle.laws.specs.Kids.{rows_sized, width_sized, unequal_sized}
use Rattle.laws.specs.Spots.{spots_same, spots_all, map_flat, get_numbers}
use Rattle.laws.specs.KeptRuns.{runs_within}
use Rattle.laws.specs.More.{grown}
use Rattle.laws.specs.Draft.{SplitFits, DraftOk, Passed, RecordOk, restore_ok, join_ok}
use Rattle.laws.specs.Meeting.{split_restored}
use Rattle.laws.specs.Labels.{ReadingOk, accept_reads}
use Rattle.laws.specs.Places.{placed, place_size, place_bare, place_parent, placed_tree, kids_placed}
use Rattle.laws.specs.Accepted.{by_outcome, start_ok, reading_ok}
use Rattle.laws.specs.Shape.{Shape, shape, leaf_shape, join_shape, sized, shapes_below}
use Rattle.laws.specs.FreeShapes.{leaves_in, leaves_bare, leaves_tell, shapes, newest_sizes, leaf_shapes, leaf_leaves, join_shapes, join_leaves}
use Rattle.laws.specs.FreeShapes.{lone_shapes, newest_last, first_rows, plan_first, empty_shapes}
use Rattle.laws.specs.Readers.{Same, unless_same, fault_same, then_same, known_same, read_same, all_alike}

-- Records

-- the draft that is read and the one as it is written: as many node records, and the same parentless nodes and leaves
record SameSoFar (x : Reading) (d : Draft) : Type 0 where
  slots : x.draft.slots ≡ d.slots
  splits : x.draft.splits ≡ d.splits
  count : x.count ≡ length d.nodes
  free : shapes x.draft ≡ shapes d
  leaves : leaves_in x.draft.nodes ≡ leaves_in d.nodes

module _ (x : Reading) (d : Draft) (vx : ReadingOk x) (vd : DraftOk d) (s : SameSoFar x d) where
  free_length : length x.draft.free ≡ length d.free
  free_length = sym (length-map x.draft.free (shape x.draft.nodes)) ∙ ap length s.free ∙ length-map d.free (shape d.nodes)

  -- what is counted over rows and widths is the same of the newest of both
  counted : {A : Type 0} (f : List Node → A) → ((xs : List Node) → f (map sized xs) ≡ f xs)
      → (n : ℕ) → f (map (node_at x.draft.nodes) (newest n x.draft)) ≡ f (map (node_at d.nodes) (newest n d))
  counted f h n =
      let of : List Shape → List Node = λ l. map (λ (t : Shape). t.0) (reverse (take n l)) in
      sym (h _) ∙ ap f (sym (newest_sizes n x.draft) ∙ ap of s.free ∙ newest_sizes n d) ∙ h _

  slots_same : (n : ℕ) → Same SameSoFar (accept (slots n) x) (accept_written (slots n) d)
  unfolding accept accept_written
  slots_same n = read_same SameSoFar (goes_on x) (accept_slots n x.draft) (accept_slots n d)
      (unless_same (λ a b. SameSoFar (goes_on x a) b) _ _ _ _ (rw s.slots refl)
      (λ p. record { slots = refl; splits = s.splits; count = s.count; free = s.free; leaves = s.leaves }))

  leaf_same : (g n : ℕ) → RecordOk (leaf g n) → Same SameSoFar (accept (leaf g n) x) (accept_written (leaf g n) d)
  unfolding accept accept_written set_parents
  leaf_same g n o =
      let others : any (other_rows g n) x.draft.nodes ≡ any (other_rows g n) d.nodes =
      leaves_tell (other_rows g n) (λ l. eqb l.0 g && not (eqb l.1 n))
      (λ y. and_assoc (is_segment y.kind) (eqb y.segment g) (not (eqb y.rows n))) x.draft.nodes d.nodes s.leaves in
      read_same SameSoFar (grows x) (accept_leaf x.count g n x.draft) (accept_leaf (length d.nodes) g n d)
      (unless_same (λ a b. SameSoFar (grows x a) b) _ _ _ _ (rw (s.slots, s.splits, s.count, others) refl)
      (λ p.
      let q : any (other_rows g n) x.draft.nodes ≡ false = others ∙ p.1.1.0 in
      record {
        slots = s.slots;
        splits = s.splits;
        count = ap suc s.count ∙ sym (grown d vd.free 0 _).size;
        free = leaf_shapes g n x.draft vx.draft o q ∙ ap (λ (l : List Shape). leaf_shape g n ∷ l) s.free ∙ sym (leaf_shapes g n d vd o p.1.1.0);
        leaves = leaf_leaves g n x.draft vx.draft o q ∙ ap (λ (l : List (ℕ × ℕ)). l ++ (g, n) ∷ []) s.leaves
            ∙ sym (leaf_leaves g n d vd o p.1.1.0);
      }))

  module _ (k : Kind) (n : ℕ) (b : is_segment k ≡ false) where
    -- a join is asked the same of both
    join_causes_lem : join_causes x.count k n x.draft [] ≡ join_causes (length d.nodes) k n d []
    join_causes_lem = rw (
      s.slots,
      s.splits,
      s.count,
      free_length,
      counted (width_of k) (width_sized sized (λ y. (refl, refl)) k) n,
      counted (unequal k) (unequal_sized sized (λ y. (refl, refl)) k) n,
      counted (rows_of k) (rows_sized sized (λ y. (refl, refl)) k) n,
    )

    module _ (p : Passed (join_causes (length d.nodes) k n d [])) where
      -- it joins alike
      join_grows : SameSoFar (grows x (new_join k n x.draft)) (new_join k n d)
      join_grows =
          let q : Passed (join_causes x.count k n x.draft []) = subst Passed (sym join_causes_lem) p in
          record {
            slots = s.slots;
            splits = s.splits;
            count = ap suc s.count ∙ sym (grown d vd.free n _).size;
            free = join_shapes x.count k n x.draft vx.draft b q ∙ ap (λ (l : List Shape). join_shape k (reverse (take n l)) ∷ drop n l) s.free
                ∙ sym (join_shapes (length d.nodes) k n d vd b p);
            leaves = join_leaves x.count k n x.draft vx.draft b q ∙ s.leaves ∙ sym (join_leaves (length d.nodes) k n d vd b p);
          }

      -- or stands for its child
      join_stands : n ≡ 1 → SameSoFar (stands_for x (new_join k n x.draft)) (new_join k n d)
      join_stands i = record {
        slots = s.slots;
        splits = s.splits;
        count = ap suc s.count ∙ sym (grown d vd.free n _).size;
        free = s.free ∙ sym (lone_shapes (length d.nodes) k n d vd b p i);
        leaves = s.leaves ∙ sym (join_leaves (length d.nodes) k n d vd b p);
      }

    join_same : Same SameSoFar (accept (join k n) x) (accept_written (join k n) d)
    unfolding accept accept_written
    join_same = by_bool (eqb n 1)
        (λ e. rw e (read_same SameSoFar (stands_for x) (accept_join x.count k n x.draft) (accept_join (length d.nodes) k n d)
        (unless_same (λ a e. SameSoFar (stands_for x a) e) _ _ _ _ join_causes_lem (λ p. join_stands p (eqb-true n 1 e)))))
        (λ e. rw e (read_same SameSoFar (grows x) (accept_join x.count k n x.draft) (accept_join (length d.nodes) k n d)
        (unless_same (λ a e. SameSoFar (grows x a) e) _ _ _ _ join_causes_lem (λ p. join_grows p))))

  -- both have nodes, or none
  nodes_same : is_empty x.draft.nodes ≡ is_empty d.nodes
  nodes_same = empty_shapes x.draft vx.draft ∙ ap is_empty s.free ∙ sym (empty_shapes d vd)

  split_same : (a b : ℕ) (rs : List Run) → Same SameSoFar (accept (split a b rs) x) (accept_written (split a b rs) d)
  unfolding accept accept_written
  split_same a b rs =
      let t : Split = record { start = a; end = b; runs = join_runs rs } in
      let plan = plan_first x.draft vx.draft ∙ ap first_rows s.free ∙ sym (plan_first d vd) in
      let causes : split_causes a b rs x.draft [] ≡ split_causes a b rs d [] = rw (plan, nodes_same, free_length, s.slots, s.splits) in
      read_same SameSoFar (goes_on x) (accept_split a b rs x.draft) (accept_split a b rs d)
      (fault_same (λ e f. SameSoFar (goes_on x e) f) (read_faults (b - a) 0 0 rs) (unless (split_causes a b rs x.draft []) (new_split t x.draft))
      (unless (split_causes a b rs d []) (new_split t d)) (unless_same (λ e f. SameSoFar (goes_on x e) f) _ _ _ _ causes
      (λ p. record { slots = s.slots; splits = ap (λ (l : List Split). l ++ t ∷ []) s.splits; count = s.count; free = s.free; leaves = s.leaves })))

  -- every record does the same to both
  accept_same : (r : Record) → RecordOk r → Same SameSoFar (accept r x) (accept_written r d)
  accept_same (slots n) o = slots_same n
  accept_same (leaf g n) o = leaf_same g n o
  accept_same (join k n) o = join_same k n o
  accept_same (split a b rs) o = split_same a b rs

-- a draft as it is written stays sound
written_ok : (r : Record) (d e : Draft) → RecordOk r → DraftOk d → accept_written r d ≡ accepted e → DraftOk e
unfolding accept_written restore
written_ok (slots n) d e o v h = restore_ok (slots n) d e o v h
written_ok (leaf g n) d e o v h = restore_ok (leaf g n) d e o v h
written_ok (join k n) d e o v h = join_ok k n [] d e o v h
written_ok (split a b rs) d e o v h = restore_ok (split a b (join_runs rs)) d e o v (split_restored a b rs d e h)

-- The whole job

-- the same rows of two jobs
pub record SameRows (j w : Job) : Type 0 where
  pub slots : j.slots ≡ w.slots
  pub splits : j.splits ≡ w.splits
  pub leaves : leaves_in j.nodes ≡ leaves_in w.nodes
  pub rows : (node_of j (root_of j)).rows ≡ (node_of w (root_of w)).rows
  pub row : (r : ℕ) → r < (node_of j (root_of j)).rows → row_of j (root_of j) r ≡ row_of w (root_of w) r
  pub kept : (s : ℕ) → kept_rows j s ≡ kept_rows w s

-- what a draft is finished to
abbrev made : Draft → Job
made d = record { slots = d.slots; nodes = placed d.nodes; splits = d.splits }

-- one parentless node is the root
root_shape : (d : Draft) → DraftOk d → length d.free ≡ 1 → shapes d ≡ shape (made d).nodes (root_of (made d)) ∷ []
root_shape d v o = of d.free refl o
  where
    of : (l : List ℕ) → d.free ≡ l → length l ≡ 1 → map (shape d.nodes) l ≡ shape (made d).nodes (root_of (made d)) ∷ []
    of [] e h = absurd (omega arith)
    of (c ∷ b ∷ l) e h = absurd (omega arith)
    of (c ∷ []) e h =
        let ns : List Node = d.nodes in
        let f : Falling (length ns) (c ∷ []) = rw e at v.free.falls in
        let same = shapes_below ns (placed ns) v.tree (placed_tree ns v.tree) (length ns) (omega arith) (omega (arith, place_size 0 ns ns))
        (λ i k. place_bare 0 ns ns i) (λ q k. kids_placed ns (placed ns) (place_size 0 ns ns) (place_bare 0 ns ns) (place_parent 0 ns ns) q) c f.0 in
        ap (λ (t : Shape). t ∷ []) (sym same ∙ ap (shape (placed ns)) (newest_last d c [] v e ∙ ap (λ n. n - 1) (sym (place_size 0 ns ns))))

-- functions that agree below the root's rows keep the same rows of a split
split_kept : (f g : ℕ → Row) (rows : ℕ) (t : Split) → SplitFits rows t → ((r : ℕ) → r < rows → f r ≡ g r)
    → flat_map (λ r. map f (positions t r)) t.runs ≡ flat_map (λ r. map g (positions t r)) t.runs
split_kept f g rows t v h =
    let size : ℕ = t.end - t.start in
    let all = spots_all t.start rows size t.runs (runs_within size none t.runs v.runs) (omega (arith, v.order, v.within)) in
    map_flat f (positions t) t.runs ∙ ap (map f) (sym all) ∙ spots_same f g t.start 0 rows t.runs (λ p l u. h p u) ∙ ap (map g) all
    ∙ sym (map_flat g (positions t) t.runs)

module _ (x : Reading) (d : Draft) (vx : ReadingOk x) (vd : DraftOk d) (s : SameSoFar x d) where
  abbrev j : Job
  j = made x.draft

  abbrev w : Job
  w = made d

  module _ (o : length d.free ≡ 1) where
    root_same : shape j.nodes (root_of j) ≡ shape w.nodes (root_of w)
    root_same = head-eq_of_cons-eq (sym (root_shape x.draft vx.draft (free_length x d vx vd s ∙ o)) ∙ s.free ∙ root_shape d vd o)

    row_same : (r : ℕ) → r < (node_of j (root_of j)).rows → row_of j (root_of j) r ≡ row_of w (root_of w) r
    row_same r h =
        let rows : (node_of j (root_of j)).rows ≡ (node_of w (root_of w)).rows = ap (λ (t : Shape). t.0.rows) root_same in
        let z : 0 + r ≡ r = omega arith in
        sym (ap (row_of j (root_of j)) z) ∙ sym (get_numbers (row_of j (root_of j)) [] 0 (node_of j (root_of j)).rows r h)
        ∙ ap (λ (t : Shape). get [] t.1 r) root_same
        ∙ get_numbers (row_of w (root_of w)) [] 0 (node_of w (root_of w)).rows r (omega (arith, h, rows)) ∙ ap (row_of w (root_of w)) z

    kept_same : (t : ℕ) → kept_rows j t ≡ kept_rows w t
    unfolding kept_rows flat_map
    kept_same t =
        let sp : Split = get no_split x.draft.splits t in
        let q : get no_split d.splits t ≡ sp = ap (λ (l : List Split). get no_split l t) (sym s.splits) in
        by_bool (ltb t (length x.draft.splits))
        (λ h.
        let plan : plan_rows x.draft ≡ (node_of j (root_of j)).rows = plan_first x.draft vx.draft
        ∙ ap first_rows (root_shape x.draft vx.draft (free_length x d vx vd s ∙ o)) in
        let v : SplitFits (node_of j (root_of j)).rows sp = subst (λ n. SplitFits n sp) plan (vx.draft.splits t (ltb-true t (length x.draft.splits) h)) in
        rw q (split_kept (row_of j (root_of j)) (row_of w (root_of w)) (node_of j (root_of j)).rows sp v row_same))
        (λ h. let z : sp ≡ no_split = get_past no_split x.draft.splits t (ltb-false t (length x.draft.splits) h) in rw (q, z))

    made_same : SameRows j w
    made_same = record {
      slots = s.slots;
      splits = s.splits;
      leaves = leaves_bare x.draft.nodes _ (place_size 0 x.draft.nodes x.draft.nodes) (λ i h. place_bare 0 x.draft.nodes x.draft.nodes i)
          ∙ s.leaves ∙ sym (leaves_bare d.nodes _ (place_size 0 d.nodes d.nodes) (λ i h. place_bare 0 d.nodes d.nodes i));
      rows = ap (λ (t : Shape). t.0.rows) root_same;
      row = row_same;
      kept = kept_same;
    }

  finish_same : Same SameRows (finish x.draft) (finish d)
  finish_same = unless_same SameRows _ _ _ _ (rw (nodes_same x d vx vd s, free_length x d vx vd s, s.slots) refl)
      (λ p. made_same (eqb-true (length d.free) 1 (not-false (eqb (length d.free) 1) p.1.1.0)))

-- both are refused alike, or have the same rows
pub lone_same : (bytes : List ℕ) → Bytes bytes → Same SameRows (parse bytes) (as_written bytes)
unfolding parse as_written
lone_same bytes h =
    let Both : Reading → Draft → Type 0 = λ x d. ReadingOk x × DraftOk d × SameSoFar x d in
    then_same Both SameRows (records bytes) (read_all accept_written (length bytes) no_draft bytes) (λ x. finish x.draft) finish
    (all_alike Both accept accept_written
    (λ r x d o v. known_same SameSoFar ReadingOk DraftOk (accept r x) (accept_written r d) (λ y e. (accept_reads x v.0 r y o e).ok)
    (λ c e. written_ok r d c o v.1 e) (accept_same x d v.0 v.1 v.2 r o))
    (length bytes) no_reading no_draft bytes h (reading_ok, start_ok, record { slots = refl; splits = refl; count = refl; free = refl; leaves = refl }))
    (λ x d v. finish_same x d v.0 v.1 v.2)

-- so a job that is accepted is accepted as it is written too
pub lone_written_lem : (bytes : List ℕ) (j : Job) → Bytes bytes → parse bytes ≡ accepted j → (w : Job) × (as_written bytes ≡ accepted w) × SameRows j w
lone_written_lem bytes j h e =
    let s : Same SameRows (accepted j) (as_written bytes) = rw e at (lone_same bytes h) in
    by_outcome (as_written bytes) (λ r o. absurd (rw o at s)) (λ w o. (w, o, rw o at s))
