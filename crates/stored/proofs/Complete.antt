-- A stored job whose records are restored fits.
use Rattle.std.specs.Prelude.{◌≡◌, refl, ◌≢◌, true, false, List, [], ◌∷◌, reverse, ℕ, zero, suc, ◌+◌, ◌<◌, ◌≤◌, length, take, drop, eqb}
use Rattle.std.proofs.Common.{ap, ◌∙◌, subst, arith, length-take-le}
use Rattle.std.proofs.Math.Option.{some}
use Rattle.std.proofs.lemmas.List.{length-reverse}
use borrow.Author.Tests.{eq-eqb, eqb-true, le-leb}
use Rattle.rules.specs.Table.{given, is_some}
use Rattle.rules.specs.Job.{Node, Job, is_segment, kids, other_rows, max_rows}
use Rattle.rules.specs.Plan.{node_of, root_of, split_of}
use Rattle.rules.specs.Check.{job_ok}
use Rattle.laws.specs.Table.{by_bool, by_eq, clash}
use Rattle.laws.specs.JobOk.{JobOk, Joined, SplitOk}
use Rattle.laws.specs.RowIn.{by_kind}
use Rattle.laws.specs.Rising.{falling_high}
use Rattle.laws.specs.Kids.{is_some_lem}
use Rattle.laws.specs.Tree.{TreeOk}
use Rattle.laws.specs.Places.{placed_tree}
use Rattle.laws.specs.Accepted.{Finished}
use Rattle.laws.specs.Stored.{stored_draft, stored_ok}
use Rattle.stored.specs.Walk.{leaf_fits, join_step, leaf_step, step, walk, ends, whole}
use Rattle.stored.specs.Lists.{none_up}
use Rattle.stored.specs.Count.{count, count_low, two_count, pops_is}
use Rattle.stored.specs.Stand.{Fit, job_stand}
use Rattle.stored.specs.Chains.{fit_chain}
use Rattle.stored.specs.Joins.{joined_fit}
use Rattle.stored.proofs.Splits.{splits_are}
use Rattle.stored.specs.Unnamed.{Unnamed, stored_unnamed}
use Rattle.stored.specs.Two.{stored_two}
use Rattle.stored.specs.Stack.{Waits, waits_start, waits_next, front_kids, no_kids, only_one}
use Rattle.stored.proofs.Sound.{Fits}

-- a job whose nodes are a tree in postfix order, as opening leaves them
record Opened (j : Job) : Type 0 where
  job : JobOk j
  tree : TreeOk j.nodes
  unnamed : (n : ℕ) → Unnamed (node_of j n)
  two : (i : ℕ) → i < length j.nodes → is_segment (node_of j i).kind ≡ false → length (kids j.nodes i) ≢ 1

-- a stored job that passes is such a job
stored_opened : (j : Job) → ((n : ℕ) → (node_of j n).rows ≤ max_rows) → job_ok j ≡ true → Opened j
stored_opened j b h =
    let s = stored_draft j b h in
    let f : Finished s.0 j = s.2 in
    record {
      job = stored_ok j b h;
      tree = subst (λ (k : Job). TreeOk k.nodes) f.is (placed_tree s.0.nodes f.draft.tree);
      unnamed = stored_unnamed j b h;
      two = stored_two j b h;
    }

-- another row count than that of a segment
same_rows_not : (g n : ℕ) (x : Node) → (is_segment x.kind ≡ true → x.segment ≡ g → x.rows ≡ n) → other_rows g n x ≡ false
same_rows_not g n x h =
    by_bool (is_segment x.kind)
    (λ s. by_bool (eqb x.segment g) (λ e. rw (s, e, eq-eqb x.rows n (h s (eqb-true x.segment g e)))) (λ e. rw (s, e)))
    (λ s. rw s)

module _ (j : Job) (v : Opened j) (i : ℕ) (low : i < length j.nodes) (free : List ℕ) (w : Waits j.nodes i free) where
  -- a leaf fits
  leaf_fits_lem : is_segment (node_of j i).kind ≡ true → leaf_fits j.nodes i ≡ true
  leaf_fits_lem s =
      rw (
        eq-eqb (node_of j i).width 1 (v.job.leaf i low s),
        none_up (λ k. other_rows (node_of j i).segment (node_of j i).rows (node_of j k)) 0 i
            (λ k p q. same_rows_not (node_of j i).segment (node_of j i).rows (node_of j k) (λ t e. v.job.one_count k i (omega arith) low t s e)),
      )

  -- and takes nothing off the stack
  leaf_takes : is_segment (node_of j i).kind ≡ true → count j.nodes i free ≡ 0
  leaf_takes s = no_kids j.nodes i free
      (λ k. by_bool (is_some i (node_of j k).parent) (λ e. clash (cc (v.job.inner k i (is_some_lem i (node_of j k).parent e)))) (λ e. e))

  -- so it comes on top
  leaf_comes : is_segment (node_of j i).kind ≡ true → leaf_step j.nodes i free ≡ some (i ∷ drop (count j.nodes i free) free)
  unfolding leaf_step
  leaf_comes s = rw (leaf_fits_lem s, leaf_takes s, leaf_step)

  -- the children of an inner node fit it
  join_fit : is_segment (node_of j i).kind ≡ false → Fit j.nodes (node_of j i).kind (node_of j i) (reverse (take (count j.nodes i free) free))
  join_fit s =
      let f : Joined j.nodes i = v.job.joined i low s in
      rw (← front_kids j.nodes v.tree i free w)
      (joined_fit j.nodes (node_of j i) (node_of j i).kind (kids j.nodes i) s f.some_kids f.rows f.width f.equal (job_stand j v.job i))

  -- it has two at least
  join_two : is_segment (node_of j i).kind ≡ false → 2 ≤ count j.nodes i free
  join_two s =
      let n : ℕ = count j.nodes i free in
      let k : List ℕ = kids j.nodes i in
      let e : length k ≡ n = ap length (front_kids j.nodes v.tree i free w) ∙ length-reverse (take n free)
      ∙ length-take-le n free (count_low j.nodes i free) in
      omega (arith, e, v.two i low s, some_long k (v.job.joined i low s).some_kids)
    where
      some_long : (l : List ℕ) → l ≢ [] → 1 ≤ length l
      some_long [] h = absurd (h refl)
      some_long (x ∷ l) h = omega arith

  -- so they are taken off, and it comes on top
  join_comes : is_segment (node_of j i).kind ≡ false → join_step j.nodes i free ≡ some (i ∷ drop (count j.nodes i free) free)
  unfolding join_step
  join_comes s =
      rw (
        eq-eqb (node_of j i).segment 0 (v.unnamed i s),
        le-leb (node_of j i).width 4 (v.job.width_high i),
        two_count j.nodes i free (join_two s),
        join_step,
        pops_is j.nodes i (whole (node_of j i).kind (node_of j i)) free (fit_chain j.nodes (node_of j i) (node_of j i).kind (take (count j.nodes i free) free) s (join_fit s)),
      )

  -- every node comes
  node_comes : step j.nodes i free ≡ some (i ∷ drop (count j.nodes i free) free)
  node_comes =
      by_kind (node_of j i).kind (λ k. rw (k, step) (leaf_comes (rw k))) (λ k. rw (k, step) (join_comes (rw k))) (λ k. rw (k, step) (join_comes (rw k)))

-- n nodes come
walks : (j : Job) → Opened j → (n i : ℕ) (free : List ℕ) → i + n ≡ length j.nodes → Waits j.nodes i free
    → (after : List ℕ) × (walk j.nodes i n free ≡ some after) × Waits j.nodes (length j.nodes) after
unfolding walk
walks j v zero i free e w = let q : i ≡ length j.nodes = omega arith in (free, refl, rw q at w)
walks j v (suc n) i free e w =
    let t = walks j v n (suc i) (i ∷ drop (count j.nodes i free) free) (omega arith) (waits_next j.nodes v.tree i free w) in
    (t.0, rw (node_comes j v i (omega arith) free w, walk) t.1, t.2)

-- only the root is left
root_left : (j : Job) → Opened j → (free : List ℕ) → Waits j.nodes (length j.nodes) free → free ≡ root_of j ∷ []
root_left j v free w =
    only_one (length j.nodes) (root_of j) free w.falls
    (w.all (root_of j) (omega (arith, v.job.nodes_low)) (λ q e. clash (cc v.job.root)))
    (λ k h.
    let l : k < length j.nodes = falling_high (length j.nodes) free k w.falls h in
    by_eq k (root_of j) (λ e. e)
    (λ e.
    let p : (q : ℕ) × ((node_of j k).parent ≡ some q) = v.job.under k (omega arith) in
    absurd (omega (arith, w.waits k p.0 h p.1, (v.job.up k p.0 p.1).1))))

-- so the walk ends well
walk_ends : (j : Job) → Opened j → ends j.nodes (walk j.nodes 0 (length j.nodes) []) ≡ true
unfolding given
walk_ends j v =
    let t = walks j v (length j.nodes) 0 [] (omega arith) (waits_start j.nodes) in
    rw (t.1, root_left j v t.0 t.2, v.job.root, v.job.at_root)

-- a stored job that passes fits
pub ok_fits : (j : Job) → ((n : ℕ) → (node_of j n).rows ≤ max_rows) → job_ok j ≡ true → Fits j
ok_fits j b h =
    let v : Opened j = stored_opened j b h in
    record {
      slots_low = v.job.slots_low;
      slots_high = v.job.slots_high;
      nodes_low = v.job.nodes_low;
      nodes_high = v.job.nodes_high;
      splits_high = v.job.splits_high;
      walks = walk_ends j v;
      splits = splits_are (node_of j (root_of j)).rows j.splits
          (λ s l. let f : SplitOk j (split_of j s) = v.job.splits s l in record { order = f.order; within = f.within; runs = f.runs; few = f.few });
    }
