-- How far a node stands from its parent and from the root: one node further, and the largest numbers.
use Rattle.std.specs.Prelude.{if◌then◌else◌}
use mathlib.Core.Path.{◌≡◌, sym}
use mathlib.Core.Bool.{false}
use mathlib.Core.List.{List, [], ◌∷◌}
use mathlib.Core.Option.{none, some}
use Prim.Native.Nat.{ℕ, zero, suc, ◌+◌, ◌*◌, ◌≤◌, ◌<◌}
use native.Mathlib.Omega.{arith}
use native.Mathlib.Numerals.{add-one}
use lib.ListN.{length}
use lib.Dec.{ltb}
use borrow.Author.Tests.{ltb-true, ltb-false}
use Rattle.rules.specs.Table.{has, is_some}
use Rattle.rules.specs.Job as rule
use Rattle.laws.specs.Table.{by_bool, by_eq, by_option}
use Rattle.laws.specs.Rising.{Rising, rising_low, has_nil, has_head, has_tail}
use Rattle.laws.specs.Kids.{is_some_lem, some_is, kids_rise, kids_has}
use Rattle.laws.specs.KidPlaces.{before, before_none, before_more}
use Rattle.laws.specs.Tree.{TreeOk}
use Rattle.laws.specs.Places.{row_none, row_some, row_fuel}
use Rattle.plan.specs.Place.{share_of, start_of}

-- Among the parent's rows

-- the rows before a number and its own are those before the next
module _ (rows : ℕ → ℕ) (n c : ℕ) (cs : List ℕ) (r : Rising (suc c) cs) where
  head_next : n ≡ c → before rows (suc n) (c ∷ cs) ≡ before rows n (c ∷ cs) + (if has n (c ∷ cs) then rows n else 0)
  head_next e =
      rw (e, has_head c cs)
      (omega (
        arith,
        before_more rows (suc c) c cs (omega arith),
        before_none rows (suc c) (suc c) cs r (omega arith),
        before_none rows c c (c ∷ cs) (omega arith, r) (omega arith),
      ))

  low_next : n < c → before rows (suc n) (c ∷ cs) ≡ before rows n (c ∷ cs) + (if has n (c ∷ cs) then rows n else 0)
  low_next h =
      rw (rising_low c (c ∷ cs) n (omega arith, r) h)
      (omega (arith, before_none rows (suc n) c (c ∷ cs) (omega arith, r) (omega arith), before_none rows n c (c ∷ cs) (omega arith, r) (omega arith)))

  tail_next : c < n → before rows (suc n) cs ≡ before rows n cs + (if has n cs then rows n else 0)
      → before rows (suc n) (c ∷ cs) ≡ before rows n (c ∷ cs) + (if has n (c ∷ cs) then rows n else 0)
  tail_next h ih = rw (has_tail n c cs (omega arith)) (omega (arith, before_more rows (suc n) c cs (omega arith), before_more rows n c cs h, ih))

rows_next : (rows : ℕ → ℕ) (n i : ℕ) (cs : List ℕ) → Rising i cs → before rows (suc n) cs ≡ before rows n cs + (if has n cs then rows n else 0)
rows_next rows n i [] r = rw (has_nil n) (omega (arith, before_none rows (suc n) (suc n) [] tt (omega arith), before_none rows n n [] tt (omega arith)))
rows_next rows n i (c ∷ cs) r =
    by_eq n c (head_next rows n c cs r.1)
    (λ e. by_bool (ltb n c) (λ l. low_next rows n c cs r.1 (ltb-true n c l))
    (λ l. tail_next rows n c cs r.1 (omega (arith, ltb-false n c l)) (rows_next rows n (suc c) cs r.1)))

module _ (ns : List rule.Node) where
  -- no node stands before the first
  pub offset_first : (p : ℕ) → rule.offset ns p 0 ≡ 0
  offset_first p = by_bool (rule.is_pack (rule.node_at ns p).kind) (λ e. rw e)
      (λ e. rw e (before_none (λ c. (rule.node_at ns c).rows) 0 0 (rule.kids ns p) (kids_rise 0 p ns) (omega arith)))

  -- a child moves those behind it
  pub offset_kid : (p i : ℕ) → (rule.node_at ns i).parent ≡ some p → rule.offset ns p (i + 1) ≡ rule.offset ns p i + share_of (rule.node_at ns p).kind
      (rule.node_at ns i).rows
  offset_kid p i e =
      by_bool (rule.is_pack (rule.node_at ns p).kind) (λ k. rw k (omega arith))
      (λ k. rw (
        k,
        add-one i,
        rows_next (λ c. (rule.node_at ns c).rows) i 0 (rule.kids ns p) (kids_rise 0 p ns),
        kids_has ns p i,
        some_is p (rule.node_at ns i).parent e,
      ))

  -- and no other node does
  pub offset_other : (p i : ℕ) → is_some p (rule.node_at ns i).parent ≡ false → rule.offset ns p (i + 1) ≡ rule.offset ns p i
  offset_other p i e =
      by_bool (rule.is_pack (rule.node_at ns p).kind) (λ k. rw k)
      (λ k. rw (k, add-one i, rows_next (λ c. (rule.node_at ns c).rows) i 0 (rule.kids ns p) (kids_rise 0 p ns), kids_has ns p i, e) (omega arith))

  share_low : TreeOk ns → (p i : ℕ) → share_of (rule.node_at ns p).kind (rule.node_at ns i).rows ≤ rule.max_rows
  share_low t p i = by_bool (rule.is_pack (rule.node_at ns p).kind) (λ k. rw k (omega arith)) (λ k. rw k (t.rows_high i))

  -- each by its rows at most
  pub offset_low : TreeOk ns → (p i : ℕ) → rule.offset ns p i ≤ rule.max_rows * i
  offset_low t p zero = omega (arith, offset_first p)
  offset_low t p (suc i) =
      rw (← add-one i)
      (by_bool (is_some p (rule.node_at ns i).parent)
      (λ e. omega (arith, offset_kid p i (is_some_lem p (rule.node_at ns i).parent e), share_low t p i, offset_low t p i))
      (λ e. omega (arith, offset_other p i e, offset_low t p i)))

-- Among the root's rows

module _ (ns : List rule.Node) (t : TreeOk ns) (few : length ns ≤ 24) where
  -- a parentless node stands at row 0
  pub row_alone : (n : ℕ) → (rule.node_at ns n).parent ≡ none → start_of ns n ≡ rule.row_at rule.max_nodes ns n
  row_alone n e = rw (e, start_of) (sym (row_none 24 ns n e))

  -- a child at its start from its parent
  pub row_kid : (n q : ℕ) → (rule.node_at ns n).parent ≡ some q → start_of ns n + rule.row_at rule.max_nodes ns q ≡ rule.row_at rule.max_nodes ns n
  row_kid n q e = rw (e, start_of) (rw (← row_fuel 23 ns q t (omega (arith, t.up n q e))) (sym (row_some 23 ns n q e)))

  -- each node on the way adds the rows of fewer than 24 others
  up_low : (f n q : ℕ) → (rule.node_at ns n).parent ≡ some q → rule.row_at f ns q ≤ rule.max_rows * 24 * f → rule.row_at (suc f) ns n ≤ rule.max_rows * 24 * suc f
  up_low f n q e h = omega (arith, row_some f ns n q e, offset_low ns t q n, t.up n q e, h)

  rows_low : (f n : ℕ) → rule.row_at f ns n ≤ rule.max_rows * 24 * f
  unfolding rule.row_at
  rows_low zero n = omega arith
  rows_low (suc f) n = by_option (rule.node_at ns n).parent (λ e. omega (arith, row_none (suc f) ns n e)) (λ q e. up_low f n q e (rows_low f q))

  pub row_low : (n : ℕ) → rule.row_at rule.max_nodes ns n ≤ rule.max_rows * 576
  row_low n = omega (arith, rows_low 24 n)
