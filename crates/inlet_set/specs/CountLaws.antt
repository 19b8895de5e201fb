-- Why the answers on the numbers of a set are right, where n is how many there are.
use Rattle.std.specs.Prelude.{◌≡◌, reverse, ℕ, ◌-◌, ◌≤◌, ◌<◌, min, length, get_or, set, Option, Some, None}
use Rattle.std.specs.Option.{is_some}
use Rattle.std.proofs.Common.{sym, ◌∙◌, arith}
use Rattle.std.proofs.Math.Option.{none, some}
use Rattle.std.proofs.Math.ListN.{get_elem?}
use Rattle.rules.specs.Table.{has, given}
use Rattle.rules.specs.InletSet as rules
use Rattle.inlet_set.specs.declared.set.InletSet.{InletSet}
use Rattle.inlet_set.specs.InletSet.{set_of, last_at}
use Rattle.inlet_set.specs.Pop.{Pop}
use Rattle.inlet_set.specs.InsertLaws.{count_is}
use Rattle.inlet_set.specs.SetLaws.{has_last, remove_last, remove_none, oldest_at, oldest_past}
use Rattle.numbers.specs.Newest.{newest_some, newest_rest}
use Rattle.numbers.specs.Opt.{option_of}

module _ (s : InletSet) (n : ℕ) (c : n ≡ length (set_of s)) where
  clamped : min s.len 23 ≡ n
  clamped = sym (c ∙ count_is s)

  pub few : n ≤ 23
  few = omega (arith, clamped)

  -- whether there is one
  pub has_is : (i : ℕ) (r : Option ℕ) → option_of r ≡ last_at i s.indices n → is_some r ≡ has i (set_of s)
  unfolding given
  has_is i None e = rw (clamped, has_last i s.indices n, ← e)
  has_is i (Some k) e = rw (clamped, has_last i s.indices n, ← e)

  pub remove_yes : (i k : ℕ) → length s.indices ≡ 23 → some k ≡ last_at i s.indices n
      → set_of (record { indices = set s.indices k (get_or s.indices (n - 1) 0); len = n - 1 }) ≡ rules.remove i (set_of s)
  remove_yes i k long e =
      let m : min (n - 1) 23 ≡ n - 1 = omega (arith, few) in
      rw (m, clamped) (remove_last i s.indices n k (sym e) (omega (arith, few)))

  pub remove_no : (i : ℕ) → none ≡ last_at i s.indices n → set_of s ≡ rules.remove i (set_of s)
  remove_no i e = rw clamped (remove_none i s.indices n (sym e))

  -- the newest
  pub last_some : 0 < n → some (get_or s.indices (n - 1) 0) ≡ get_elem? (set_of s) 0
  last_some h = rw (clamped, newest_some s.indices n h)

  pub pop_is : (r : Option ℕ) → option_of r ≡ get_elem? (set_of s) 0 → Pop s r (record { indices = s.indices; len = n - 1 })
  pop_is r e =
      let m : min (n - 1) 23 ≡ n - 1 = omega (arith, few) in
      record { inlet = e; set = rw (m, clamped) (newest_rest s.indices n) }

  -- from the oldest
  pub get_in : (k : ℕ) → length s.indices ≡ 23 → k < n → some (get_or s.indices k 0) ≡ get_elem? (reverse (set_of s)) k
  get_in k long h = rw clamped (sym (oldest_at s.indices n k h (omega (arith, few))))

  pub get_past : (k : ℕ) → length s.indices ≡ 23 → n ≤ k → none ≡ get_elem? (reverse (set_of s)) k
  get_past k long h = rw clamped (sym (oldest_past s.indices n k h (omega (arith, few))))
