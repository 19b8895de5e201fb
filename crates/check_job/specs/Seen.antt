-- Segments that have come mark a place each. One whose place has no mark is new.
use Rattle.std.specs.Prelude.{◌≡◌, refl, Bool, true, false, ◌&&◌, ◌||◌, not, ◌≢◌, List, ℕ, zero, suc, ◌+◌, ◌-◌, ◌%◌, ◌<◌, length, get_or, set, eqb}
use Rattle.std.proofs.Common.{sym, ◌∙◌, arith, get_or-set_same, get_or-set_other, ne_eqb, eqb-true}
use Rattle.rules.specs.Job.{Node, node_at, is_segment}
use Rattle.laws.specs.Table.{by_eq, and_left, and_right}
use Rattle.stored.specs.Walk.{one_count}
use Rattle.check_job.specs.Leaf.{count_from, count_start, count_miss, count_end}

-- the segments of the first i nodes have marked their places
abbrev pub Marked : List Node → ℕ → List ℕ → Type 0
Marked ns i marks = (k : ℕ) → k < i → get_or marks ((node_at ns k).segment % 64) 0 ≡ 1

-- one more
pub marked_next : (ns : List Node) (i : ℕ) (x : Node) (marks after : List ℕ) → x ≡ node_at ns i → length marks ≡ 64 → Marked ns i marks
    → after ≡ set marks (x.segment % 64) 1 → Marked ns (i + 1) after
marked_next ns i x marks after e l v f k h =
    let m : x.segment % 64 < length marks = omega arith in
    by_eq k i
    (λ q. rw (f, q, ← e) (get_or-set_same marks (x.segment % 64) 1 0 m))
    (λ o. rw f
    (by_eq ((node_at ns k).segment % 64) (x.segment % 64)
    (λ q. rw q (get_or-set_same marks (x.segment % 64) 1 0 m))
    (λ n. get_or-set_other marks (x.segment % 64) ((node_at ns k).segment % 64) 1 0 n ∙ v k (omega arith))))

-- a leaf that is fresh has a segment that none before it has
abbrev pub SurelyNew : Bool → List Node → ℕ → Type 0
SurelyNew fresh ns i = fresh ≡ true → one_count ns i ≡ true

-- the second of three fails
no_second : (a b c : Bool) → b ≡ false → a && b && c ≡ false
no_second true b c h = rw h
no_second false b c h = refl

module _ (ns : List Node) (i : ℕ) (x : Node) (marks : List ℕ) (fresh : Bool) (e : x ≡ node_at ns i) (v : Marked ns i marks)
    (f : fresh ≡ eqb (get_or marks (x.segment % 64) 0) 0) (t : fresh ≡ true) where
  -- no node before i has its segment
  not_same : (k : ℕ) → k < i → (node_at ns k).segment ≢ x.segment
  not_same k h q =
      let a : get_or marks (x.segment % 64) 0 ≡ 1 = rw q at (v k h) in
      let b : get_or marks (x.segment % 64) 0 ≡ 0 = eqb-true (get_or marks (x.segment % 64) 0) 0 (sym f ∙ t) in
      omega arith

  new_from : (n k : ℕ) → n ≡ i - k → count_from ns i k ≡ true
  new_from zero k d = count_end ns i k (omega arith)
  new_from (suc n) k d =
      let h : k < i = omega arith in
      count_miss ns i k h x (node_at ns k) e refl
      (no_second (is_segment (node_at ns k).kind) (eqb (node_at ns k).segment x.segment) _ (ne_eqb (node_at ns k).segment x.segment (not_same k h)))
      ∙ new_from n (k + 1) (omega arith)

  -- so none has it with other rows
  pub new_count : one_count ns i ≡ true
  new_count = count_start ns i ∙ new_from (i - 0) 0 refl

-- Distinct leaves

-- no node has the segment of a leaf that comes after it, among the first i
abbrev pub DistinctTo : List Node → ℕ → Type 0
DistinctTo ns i = (g k : ℕ) → g < i → k < g → is_segment (node_at ns g).kind ≡ true → (node_at ns k).segment ≢ (node_at ns g).segment

abbrev pub Distinct : List Node → Type 0
Distinct ns = DistinctTo ns (length ns)

-- a leaf is fresh, or not all are
fresh_leaf : (fresh leaf : Bool) → (fresh || not leaf) ≡ true → leaf ≡ true → fresh ≡ true
fresh_leaf true leaf e h = refl
fresh_leaf false true e h = e
fresh_leaf false false e h = h

-- one node more
pub distinct_next : (ns : List Node) (i : ℕ) (x : Node) (marks : List ℕ) (fresh before after : Bool) → x ≡ node_at ns i → Marked ns i marks
    → fresh ≡ eqb (get_or marks (x.segment % 64) 0) 0 → after ≡ (before && (fresh || not (is_segment x.kind)))
    → (before ≡ true → DistinctTo ns i) → after ≡ true → DistinctTo ns (i + 1)
distinct_next ns i x marks fresh before after e v f a d t g k h l s =
    let b : before && (fresh || not (is_segment x.kind)) ≡ true = sym a ∙ t in
    by_eq g i
    (λ q. rw (q, ← e) (not_same ns i x marks fresh e v f (fresh_leaf fresh (is_segment x.kind) (and_right before (fresh || not (is_segment x.kind)) b)
    (rw (e, ← q) s)) k (omega arith)))
    (λ n. d (and_left before (fresh || not (is_segment x.kind)) b) g k (omega arith) l s)
