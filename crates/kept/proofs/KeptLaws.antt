-- A node, a split and their runs, by value and by the rules.
use mathlib.Core.Path.{◌≡◌, refl, ap, sym, ◌∙◌}
use mathlib.Core.Bool.{false, ◌&&◌}
use mathlib.Core.List.{List, [], ◌∷◌, ◌++◌, map, flat_map, append_assoc, append-nil}
use Prim.Native.Nat.{ℕ, zero, suc, ◌+◌, ◌-◌, ◌≤◌, ◌<◌, min, max}
use native.Mathlib.Omega.{arith}
use native.Mathlib.Numerals.{add-one}
use lib.ListN.{length, take, drop, get_or, set}
use lib.Seq.{drop-cons}
use Rattle.numbers.specs.Loops.{drop_past}
use lib.Dec.{eqb}
use borrow.Author.Tests.{lt-ltb, le-ltb}
use Rattle.rules.specs.Job as rule
use Rattle.rules.specs.Plan as plan
use Rattle.jobs.specs.Job.{front, run_of}
use Rattle.jobs.specs.declared.Run.{Run}
use Rattle.jobs.proofs.Front.{front_min, front_more, front_none}
use Rattle.kept.specs.Kept.{runs_of, Sized}
use Rattle.kept.specs.declared.Kept.{Kept}

-- a run cut to the rows from lo to hi
module _ (base lo hi : ℕ) (r : rule.Run) where
  pub cut_none : min (base + r.start + r.size) hi ≤ max (base + r.start) lo → [] ≡ plan.cut base lo hi r
  cut_none h = rw (le-ltb (max (base + r.start) lo) (min (base + r.start + r.size) hi) h)

  pub cut_some : (a n : ℕ) → max (base + r.start) lo < min (base + r.start + r.size) hi
      → a ≡ max (base + r.start) lo - lo → n ≡ min (base + r.start + r.size) hi - max (base + r.start) lo
      → record { start = a; size = n } ∷ [] ≡ plan.cut base lo hi r
  cut_some a n h e f =
      rw (lt-ltb (max (base + r.start) lo) (min (base + r.start + r.size) hi) h, e, f)

-- the rows from x on, both of a run that ends at e and of a node that has rows from lo on
pub meet : (e x lo u rows n : ℕ) → x ≡ lo + u → u < rows → x < e → n ≡ min (e - x) (rows - u) → n ≡ min e (lo + rows) - x
meet e x lo u rows n p h k q = omega arith

-- a run of zeros
abbrev pub no_run : Run
no_run = record { start = 0; size = 0 }

pub flat_none : {A : Type 0} (g : A → List rule.Run) (xs : List A) (k : Kept) → k.count ≡ 0 → flat_map g xs ≡ runs_of k ++ flat_map g xs
flat_none g xs k e = rw (e, front_none run_of k.runs)

-- a loop that gathers what each run gives
module _ (g : rule.Run → List rule.Run) (xs : List Run) (i : ℕ) (acc : List rule.Run) where
  pub flat_more : (d : Run) (piece : List rule.Run) → i < length xs → piece ≡ g (run_of (get_or xs i d))
      → acc ++ flat_map g (map run_of (drop i xs)) ≡ (acc ++ piece) ++ flat_map g (map run_of (drop (i + 1) xs))
  unfolding flat_map
  flat_more d piece k e =
      rw (add-one i, drop-cons xs i d k, e) (sym (append_assoc acc (g (run_of (get_or xs i d))) (flat_map g (map run_of (drop (suc i) xs)))))

  pub flat_end : length xs ≤ i → acc ++ flat_map g (map run_of (drop i xs)) ≡ acc
  unfolding flat_map
  flat_end k = rw (drop_past xs i k) (append-nil acc)

-- no more than the table has
pub taken : (xs : List Run) (n : ℕ) → length xs ≡ 16 → map run_of (take (min n 16) xs) ≡ front run_of xs n
unfolding front
taken xs n h = sym (front_min run_of xs n 16 h)

-- one more run
pub push_one : (k : Kept) (x : Run) → Sized k → k.count < 16 → front run_of (set k.runs k.count x) (k.count + 1) ≡ runs_of k ++ run_of x ∷ []
push_one k x p h = front_more run_of k.runs k.count x (omega (arith, p.run_table))

-- the whole of a segment
module _ (rows : ℕ) (d : Run) where
  pub whole_one : (xs : List Run) (n : ℕ) → 0 < length xs → n ≡ 1
      → plan.is_whole rows (front run_of xs n) ≡ (eqb (get_or xs 0 d).start 0 && eqb (get_or xs 0 d).size rows)
  unfolding front
  whole_one [] n h e = absurd (omega arith)
  whole_one (x ∷ xs) n h e = rw e

pub not_whole : (rows : ℕ) (xs : List Run) (n : ℕ) → 1 < length xs → (n ≡ 1 → ⊥) → plan.is_whole rows (front run_of xs n) ≡ false
unfolding front
not_whole rows xs zero h e = refl
not_whole rows xs (suc zero) h e = absurd (e refl)
not_whole rows [] (suc (suc n)) h e = absurd (omega arith)
not_whole rows (x ∷ []) (suc (suc n)) h e = absurd (omega arith)
not_whole rows (x ∷ y ∷ xs) (suc (suc n)) h e = refl

-- the runs within a node, from the node and the split by value
pub kept_is : (j : rule.Job) (n s : ℕ) (x : rule.Node) (p : rule.Split) → x ≡ plan.node_of j n → p ≡ plan.split_of j s
    → flat_map (plan.cut p.start x.at (x.at + x.rows)) p.runs ≡ plan.kept j n s
unfolding plan.kept
kept_is j n s x p e f =
    ap (λ (y : rule.Node). flat_map (plan.cut p.start y.at (y.at + y.rows)) p.runs) e
    ∙ ap (λ (q : rule.Split). flat_map (plan.cut q.start (plan.node_of j n).at ((plan.node_of j n).at + (plan.node_of j n).rows)) q.runs) f
