-- The record SP: what it is checked against, the faults of its runs, and one law for each answer.
use Rattle.std.specs.Prelude.{Ok, Err, OnOk}
use mathlib.Core.Path.{◌≡◌, refl, ap, sym, ◌∙◌}
use mathlib.Core.Bool.{Bool, true, false, ◌||◌}
use mathlib.Core.List.{List, [], ◌∷◌}
use mathlib.Core.Option.{Option, none, some}
use Prim.Native.Nat.{ℕ, zero, suc, ◌+◌, ◌*◌, ◌-◌, ◌≤◌, ◌<◌}
use native.Mathlib.Omega.{arith}
use native.Mathlib.Numerals.{add-one}
use lib.ListN.{length, get_or}
use lib.Dec.{eqb, leb, ltb}
use borrow.Author.Tests.{eq-eqb, ne_eqb, ltb-false, lt-ltb, le-ltb}
use Rattle.rules.specs.Table.{is_empty}
use Rattle.rules.specs.Job as rule
use Rattle.laws.specs.Table.{or_left, or_right}
use Rattle.records.specs.Read.{run_at, runs_at}
use Rattle.jobs.specs.Job.{front, node_of, run_of}
use Rattle.node_records.specs.Draft.{draft_of, draft_with, Fine}
use Rattle.split_records.specs.Split.{Heads, Lies}
use Rattle.jobs.specs.Refusal.{Verdict, fault_of, judged}
use Rattle.jobs.specs.declared.Run.{Run}
use Rattle.node_records.specs.declared.Draft.{Draft}
use Rattle.split_records.specs.declared.Head.{Head}
use Rattle.split_records.specs.declared.Outline.{Outline}
use Rattle.jobs.proofs.Front.{front_length, front_at, front_none}
use Rattle.node_records.proofs.Stack.{newest_length}
use Rattle.node_records.proofs.KidLaws.{blank}

-- What a split is checked against

-- the rows of the last node
plan_rows : (d : Draft) → Fine d → 0 < d.node_count → rule.plan_rows (draft_of d) ≡ (get_or d.nodes (d.node_count - 1) blank).rows
plan_rows d p h =
    ap (λ (m : ℕ). (rule.node_at (front node_of d.nodes d.node_count) (m - 1)).rows)
    (front_length node_of d.nodes d.node_count (omega (arith, p.node_table, p.node_fit, p.record_fit)))
    ∙ ap (λ (x : rule.Node). x.rows)
    (front_at node_of d.nodes blank rule.no_node d.node_count (d.node_count - 1) (omega (arith, p.node_table, p.node_fit, p.record_fit))
    (omega arith))

-- there are none without a node
plan_none : (d : Draft) → Fine d → d.node_count ≤ 0 → rule.plan_rows (draft_of d) ≡ 0
plan_none d p h = let e : d.node_count ≡ 0 = omega arith in rw (e, front_none node_of d.nodes) refl

module _ (d : Draft) (p : Fine d) (h : Head) (s : h.slots ≡ d.slots) (n : h.nodes ≡ d.node_count) (f : h.free ≡ d.free_count) where
  heads : h.rows ≡ rule.plan_rows (draft_of d) → (xs : List rule.Split) → Heads (draft_with d xs) h (length xs)
  heads r xs =
      record {
        slots_are = sym s;
        nodes_are = front_length node_of d.nodes d.node_count (omega (arith, p.node_table, p.node_fit, p.record_fit)) ∙ sym n;
        free_are = newest_length d.free d.free_count (omega (arith, p.free_table, p.free_fit, p.node_fit, p.record_fit)) ∙ sym f;
        rows_are = sym r;
        splits_are = refl;
      }

  pub heads_some : 0 < d.node_count → h.rows ≡ (get_or d.nodes (d.node_count - 1) blank).rows → (xs : List rule.Split) →
      Heads (draft_with d xs) h (length xs)
  heads_some k e = heads (e ∙ sym (plan_rows d p k))

  pub heads_none : d.node_count ≤ 0 → h.rows ≡ 0 → (xs : List rule.Split) → Heads (draft_with d xs) h (length xs)
  heads_none k e = heads (e ∙ sym (plan_none d p k))

-- Faults of runs as they are read

pub runs_number : (xs : List ℕ) (at n : ℕ) → length (runs_at xs at n) ≡ n
unfolding runs_at
runs_number xs at zero = refl
runs_number xs at (suc n) = ap suc (runs_number xs (at + 8) n)

pub fault_start : (size : ℕ) (xs : List ℕ) (at n : ℕ) → rule.read_faults size 0 0 (runs_at xs at n) ≡ rule.read_faults size 0 0 (runs_at xs at (n - 0))
fault_start size xs at n = let e : n - 0 ≡ n = omega arith in rw e

module _ (size last : ℕ) (xs : List ℕ) (p n i : ℕ) where
  pub fault_end : n ≤ i → rule.read_faults size i last (runs_at xs p (n - i)) ≡ none
  unfolding rule.read_faults runs_at
  fault_end k = let f : n - i ≡ 0 = omega arith in rw f refl

  module _ (k : i < n) (x : Run) (e : run_of x ≡ run_at xs p) where
    same_fault : (v : Option ℕ) → rule.read_fault size last (run_of x) ≡ v → rule.read_fault size last (run_at xs p) ≡ v
    same_fault v h = ap (λ (y : rule.Run). rule.read_fault size last y) (sym e) ∙ h

    fault_hit : (m : ℕ) → rule.read_fault size last (run_of x) ≡ some m
        → rule.read_faults size i last (runs_at xs p (n - i)) ≡ some (record { number = m; index = some i })
    unfolding rule.read_faults runs_at
    fault_hit m h = let f : n - i ≡ suc (n - (i + 1)) = omega arith in rw (f, same_fault (some m) h, rule.read_faults)

    pub fault_empty : x.size ≡ 0 → rule.read_faults size i last (runs_at xs p (n - i)) ≡ some (record { number = 17; index = some i })
    fault_empty h = fault_hit 17 (rw (eq-eqb x.size 0 h))

    module _ (s : x.size ≡ 0 → ⊥) where
      pub fault_late : x.start < last → rule.read_faults size i last (runs_at xs p (n - i)) ≡ some (record { number = 18; index = some i })
      fault_late h = fault_hit 18 (rw (ne_eqb x.size 0 s, lt-ltb x.start last h))

      module _ (l : last ≤ x.start) (end : ℕ) (g : end ≡ x.start + x.size) where
        pub fault_past : size < end → rule.read_faults size i last (runs_at xs p (n - i)) ≡ some (record { number = 19; index = some i })
        fault_past h = fault_hit 19 (rw (ne_eqb x.size 0 s, le-ltb x.start last l, ← g, lt-ltb size end h))

        pub fault_none : end ≤ size → rule.read_faults size i last (runs_at xs p (n - i)) ≡ rule.read_faults size (i + 1) end (runs_at xs (p + 8) (n - (i + 1)))
        unfolding rule.read_faults runs_at
        fault_none h =
            let f : n - i ≡ suc (n - (i + 1)) = omega arith in
            let o : (run_at xs p).start + (run_at xs p).size ≡ end = ap (λ (y : rule.Run). y.start + y.size) (sym e) ∙ sym g in
            let w : rule.read_fault size last (run_of x) ≡ none = rw (ne_eqb x.size 0 s, le-ltb x.start last l, ← g, le-ltb size end h) in
            rw (f, same_fault none w, rule.read_faults, o, add-one i)

-- Answers

-- no node, no room, or too many runs
abbrev pub over : Head → ℕ → ℕ → Bool
over h count n = eqb h.nodes 0 || leb rule.max_splits count || ltb rule.max_runs n

-- a start after the end, or an end past the plan
abbrev pub beyond : Head → ℕ → ℕ → Bool
beyond h a b = ltb b a || ltb h.rows b

empty_number : (ns : List rule.Node) (n : ℕ) → length ns ≡ n → is_empty ns ≡ eqb n 0
unfolding is_empty
empty_number [] n e = sym (eq-eqb n 0 (sym e))
empty_number (x ∷ ns) n e = sym (ne_eqb n 0 (λ z. absurd (omega (arith, e, z))))

fault_judged : {A : Type 0} (v : Verdict) (x : A) → judged v x ≡ rule.unless_fault (fault_of v) (rule.accepted x)
fault_judged (Ok u) x = refl
fault_judged (Err r) x = refl

-- an outline whose runs were read without a fault lies as it should
pub lies_by : (b : List ℕ) (x : Outline) → x.count ≤ 16 → x.at + 8 * x.count ≤ length b → (v : Verdict)
    → fault_of v ≡ rule.read_faults (x.end - x.start) 0 0 (runs_at b x.at x.count) → OnOk v (Lies b x)
lies_by b x few within (Ok u) e = record { few = few; within = within; sound = sym e }
lies_by b x few within (Err r) e = tt

module _ (d : rule.Draft) (h : Head) (count a b n : ℕ) (rs : List rule.Run) (q : length rs ≡ n) (p : Heads d h count) where
  pub split_early : h.slots ≡ 0 → rule.accept_split a b rs d ≡ rule.refused 2
  unfolding rule.unless
  split_early e = rw (p.slots_are, eq-eqb h.slots 0 e)

  module _ (e : h.slots ≡ 0 → ⊥) where
    pub split_over : over h count n ≡ true → rule.accept_split a b rs d ≡ rule.refused 3
    unfolding rule.unless
    split_over o = rw (p.slots_are, ne_eqb h.slots 0 e, empty_number d.nodes h.nodes p.nodes_are, p.splits_are, q, o)

    module _ (o : over h count n ≡ false) where
      pub split_rootless : (h.free ≡ 1 → ⊥) → rule.accept_split a b rs d ≡ rule.refused 4
      unfolding rule.unless
      split_rootless r =
          rw (p.slots_are, ne_eqb h.slots 0 e, empty_number d.nodes h.nodes p.nodes_are, p.splits_are, q, o, p.free_are, ne_eqb h.free 1 r)

      module _ (r : h.free ≡ 1) where
        pub split_beyond : beyond h a b ≡ true → rule.accept_split a b rs d ≡ rule.refused 8
        unfolding rule.unless
        split_beyond x =
            rw (
              p.slots_are,
              ne_eqb h.slots 0 e,
              empty_number d.nodes h.nodes p.nodes_are,
              p.splits_are,
              q,
              o,
              p.free_are,
              eq-eqb h.free 1 r,
              p.rows_are,
              x,
            )

        module _ (x : beyond h a b ≡ false) where
          left : rule.accept_split a b rs d ≡ rule.unless_fault (rule.read_faults (b - a) 0 0 rs)
              (rule.accepted (rule.new_split (record { start = a; end = b; runs = rule.join_runs rs }) d))
          unfolding rule.unless
          left =
              rw (
                p.slots_are,
                ne_eqb h.slots 0 e,
                empty_number d.nodes h.nodes p.nodes_are,
                p.splits_are,
                q,
                o,
                p.free_are,
                eq-eqb h.free 1 r,
                p.rows_are,
                x,
              )

          -- what is left are its runs
          pub split_by_runs : (v : Verdict) → fault_of v ≡ rule.read_faults (b - a) 0 0 rs
              → judged v (rule.new_split (record { start = a; end = b; runs = rule.join_runs rs }) d) ≡ rule.accept_split a b rs d
          split_by_runs v f =
              let y = rule.new_split (record { start = a; end = b; runs = rule.join_runs rs }) d in
              fault_judged v y ∙ ap (λ (o : Option rule.Refusal). rule.unless_fault o (rule.accepted y)) f ∙ sym left

-- what the tests say
pub few_runs : (h : Head) (count n : ℕ) → over h count n ≡ false → n ≤ 16
few_runs h count n o = ltb-false 16 n (or_right (eqb h.nodes 0 || leb rule.max_splits count) (ltb rule.max_runs n) o)

pub in_order : (h : Head) (a b : ℕ) → beyond h a b ≡ false → a ≤ b
in_order h a b x = ltb-false b a (or_left (ltb b a) (ltb h.rows b) x)
