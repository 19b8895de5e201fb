-- A loop over the first n entries of a table that looks for one.
use mathlib.Core.Path.{◌≡◌}
use mathlib.Core.Bool.{Bool, true, false}
use mathlib.Core.List.{List}
use Prim.Native.Nat.{ℕ, ◌+◌, ◌≤◌, ◌<◌}
use lib.ListN.{length, drop, get_or}
use Rattle.rules.specs.Table.{any}
use Rattle.jobs.specs.Job.{front}
use Rattle.jobs.proofs.Front.{front_cons, front_end}

module _ {A B : Type 0} (f : A → B) (t : B → Bool) (xs : List A) (d : A) (n i : ℕ) (h : n ≤ length xs) where
  pub any_hit : i < n → t (f (get_or xs i d)) ≡ true → any t (drop i (front f xs n)) ≡ true
  unfolding any
  any_hit k e = rw (front_cons f xs d n i h k, e)

  pub any_miss : i < n → t (f (get_or xs i d)) ≡ false → any t (drop i (front f xs n)) ≡ any t (drop (i + 1) (front f xs n))
  unfolding any
  any_miss k e = rw (front_cons f xs d n i h k, e)

module _ {A B : Type 0} (f : A → B) (t : B → Bool) (xs : List A) (n i : ℕ) where
  pub any_end : n ≤ length xs → n ≤ i → any t (drop i (front f xs n)) ≡ false
  unfolding any
  any_end h k = rw (front_end f xs n i h k)
