-- No node before i has the segment of node i and other rows: a test of one after another.
use Rattle.std.specs.Prelude.{◌≡◌, Bool, true, false, not, List}
use Prim.Native.Nat.{ℕ, suc, ◌+◌, ◌-◌, ◌<◌, ◌≤◌}
use native.Mathlib.Omega.{arith}
use Rattle.rules.specs.Table.{any, up_from}
use Rattle.rules.specs.Job.{Node, node_at, other_rows}
use Rattle.stored.specs.Walk.{one_count}

-- none from node k on
abbrev pub count_from : List Node → ℕ → ℕ → Bool
count_from ns i k = not (any (λ j. other_rows (node_at ns i).segment (node_at ns i).rows (node_at ns j)) (up_from k (i - k)))

-- all of them
pub count_start : (ns : List Node) (i : ℕ) → one_count ns i ≡ count_from ns i 0
count_start ns i = let e : i - 0 ≡ i = omega arith in rw e

-- no node is left
pub count_end : (ns : List Node) (i k : ℕ) → i ≤ k → count_from ns i k ≡ true
unfolding any up_from
count_end ns i k h = let e : i - k ≡ 0 = omega arith in rw e

module _ (ns : List Node) (i k : ℕ) (h : k < i) (x y : Node) (e : x ≡ node_at ns i) (f : y ≡ node_at ns k) where
  -- one less after it
  less_one : i - k ≡ suc (i - (k + 1))
  less_one = omega arith

  -- node k has other rows
  pub count_hit : other_rows x.segment x.rows y ≡ true → count_from ns i k ≡ false
  unfolding any up_from
  count_hit t = rw (less_one, ← e, ← f, t)

  -- or not
  pub count_miss : other_rows x.segment x.rows y ≡ false → count_from ns i k ≡ count_from ns i (k + 1)
  unfolding any up_from
  count_miss t = let b : k + 1 ≡ suc k = omega arith in
      let s : other_rows (node_at ns i).segment (node_at ns i).rows (node_at ns k) ≡ false = rw (← e, ← f) t in rw (less_one, s, b)
