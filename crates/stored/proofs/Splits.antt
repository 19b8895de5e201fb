-- Splits that fit are accepted one after another, and those of a sound job fit.
use Rattle.std.specs.Prelude.{◌≡◌, refl, ◌≢◌, true, false, ◌&&◌, not, List, [], ◌∷◌, ◌++◌, ℕ, suc, ◌+◌, ◌-◌, ◌<◌, ◌≤◌, length, leb}
use Rattle.std.proofs.Common.{sym, ◌∙◌, append-nil, append_assoc, arith, length-append, leb-true, le-leb, le-ltb, eq-eqb, ne_eqb}
use Rattle.std.proofs.Math.Option.{none}
use Rattle.std.proofs.lemmas.Bool.{lt-leb, not-true}
use Rattle.rules.specs.Table.{get, all, is_empty}
use Rattle.rules.specs.Job.{Split, Draft, accepted, plan_rows, runs_fault, max_runs, new_split, restore}
use Rattle.rules.specs.Plan.{no_split}
use Rattle.rules.specs.Check.{split_record}
use Rattle.laws.specs.Draft.{SplitFits, passed_unless}
use Rattle.laws.specs.Again.{Written, written_keep}
use Rattle.laws.specs.Stored.{both}
use Rattle.stored.specs.Walk.{split_fits}

-- what a split that fits tells
pub split_told : (rows : ℕ) (x : Split) → split_fits rows x ≡ true → SplitFits rows x
split_told rows x h =
    let a = both (leb x.start x.end && leb x.end rows && leb (length x.runs) max_runs) (not (runs_fault (x.end - x.start) none x.runs)) h in
    let b = both (leb x.start x.end && leb x.end rows) (leb (length x.runs) max_runs) a.0 in
    let c = both (leb x.start x.end) (leb x.end rows) b.0 in
    record { order = leb-true _ _ c.0; within = leb-true _ _ c.1; runs = not-true _ a.1; few = leb-true _ _ b.1 }

-- the other way
pub split_is : (rows : ℕ) (x : Split) → SplitFits rows x → split_fits rows x ≡ true
split_is rows x f = rw (le-leb _ _ f.order, le-leb _ _ f.within, le-leb _ _ f.few, f.runs)

-- all splits fit where each does
pub splits_are : (rows : ℕ) (ss : List Split) → ((s : ℕ) → s < length ss → SplitFits rows (get no_split ss s)) → all (split_fits rows) ss ≡ true
unfolding all
splits_are rows [] h = refl
splits_are rows (x ∷ ss) h = rw (split_is rows x (h 0 (omega arith))) (splits_are rows ss (λ s k. h (suc s) (omega arith)))

-- some nodes are not none
pub not_empty : {A : Type 0} (l : List A) → 1 ≤ length l → is_empty l ≡ false
unfolding is_empty
not_empty [] h = absurd (omega arith)
not_empty (x ∷ l) h = refl

-- a draft that may take splits
pub record Rooted (d : Draft) : Type 0 where
  pub written : Written d
  pub slots : d.slots ≢ 0
  pub nodes : 1 ≤ length d.nodes
  pub one : length d.free ≡ 1

-- the same draft with more splits
pub record More (d e : Draft) (ss : List Split) : Type 0 where
  pub slots : e.slots ≡ d.slots
  pub nodes : e.nodes ≡ d.nodes
  pub free : e.free ≡ d.free
  pub splits : e.splits ≡ d.splits ++ ss

-- a split that fits is accepted
split_accepted : (x : Split) (d : Draft) → Rooted d → length d.splits < 16 → SplitFits (plan_rows d) x → restore (split_record x) d ≡ accepted (new_split x d)
unfolding restore
split_accepted x d v l f =
    passed_unless _ _ (
      ne_eqb d.slots 0 v.slots,
      (
        rw (not_empty d.nodes v.nodes, lt-leb 16 (length d.splits) l, le-ltb 16 (length x.runs) f.few),
        (
          rw (eq-eqb (length d.free) 1 v.one),
          (rw (le-ltb x.end x.start f.order, le-ltb (plan_rows d) x.end f.within), (f.runs, tt)),
        ),
      ),
    )

-- and leaves a draft that may take more
split_rooted : (x : Split) (d : Draft) → Rooted d → length d.splits < 16 → SplitFits (plan_rows d) x → Rooted (new_split x d)
split_rooted x d v l f = record {
  written = written_keep (split_record x) d (new_split x d) tt v.written (split_accepted x d v l f);
  slots = v.slots;
  nodes = v.nodes;
  one = v.one;
}

-- all of them
pub splits_next : (ss : List Split) (d : Draft) → Rooted d → length d.splits + length ss ≤ 16 → all (split_fits (plan_rows d)) ss ≡ true → (e : Draft) × Rooted e × More d e ss
unfolding all
splits_next [] d v l h = (d, v, record { slots = refl; nodes = refl; free = refl; splits = sym (append-nil d.splits) })
splits_next (x ∷ ss) d v l h =
    let b = both (split_fits (plan_rows d) x) (all (split_fits (plan_rows d)) ss) h in
    let r = splits_next ss (new_split x d) (split_rooted x d v (omega arith) (split_told (plan_rows d) x b.0))
    (omega (arith, length-append d.splits (x ∷ []))) b.1 in
    let m : More (new_split x d) r.0 ss = r.2 in
    (r.0, r.1, record { slots = m.slots; nodes = m.nodes; free = m.free; splits = m.splits ∙ append_assoc d.splits (x ∷ []) ss })
