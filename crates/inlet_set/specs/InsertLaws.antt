-- Why the answers of an insertion are right.
use Rattle.std.specs.Prelude.{◌≡◌, true, false, ℕ, suc, ◌+◌, ◌<◌, min, length, set}
use Rattle.std.proofs.Common.{sym, ◌∙◌, arith, lt-ltb}
use Rattle.rules.specs.Table.{has}
use Rattle.inlet_set.specs.declared.set.InletSet.{InletSet}
use Rattle.inlet_set.specs.InletSet.{set_of}
use Rattle.inlet_set.specs.Insert.{Insert}
use Rattle.numbers.specs.Newest.{newest_length, newest_more}

pub count_is : (s : InletSet) → length (set_of s) ≡ min s.len 23
count_is s = newest_length s.indices (min s.len 23)

module _ (i : ℕ) (s : InletSet) where
  pub insert_new : (n : ℕ) → i < 23 → has i (set_of s) ≡ false → n ≡ length (set_of s) → n < 23 → length s.indices ≡ 23
      → Insert i s true (record { indices = set s.indices n i; len = n + 1 })
  insert_new n h e c f long =
      let t = lt-ltb i 23 h in
      let u = lt-ltb (length (set_of s)) 23 (omega arith) in
      let a : min (n + 1) 23 ≡ suc n = omega arith in
      let b : min s.len 23 ≡ n = sym (c ∙ count_is s) in
      record {
        ok = rw (t, e, u);
        set = rw (t, e, u, a, b) (newest_more s.indices n i (omega arith));
      }
