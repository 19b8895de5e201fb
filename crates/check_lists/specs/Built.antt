-- No source is still to be made.
use Rattle.std.specs.Prelude.{ℕ, zero, suc, ◌+◌, ◌<◌, ◌≡◌, refl, Bool, true, false, ◌||◌, not}
use Rattle.std.proofs.Common.{arith, sym}
use Rattle.rules.specs.Table.{get, all, up_from}
use Rattle.rules.specs.Machine.{Machine}
use Rattle.rules.specs.Check.{is_first}
use Rattle.table_lists.specs.Built.{AllBuilt}

-- a test that the n numbers from k on pass
all_pass : (f : ℕ → Bool) (k n : ℕ) → ((g : ℕ) → g < k + n → f g ≡ true) → all f (up_from k n) ≡ true
unfolding all up_from
all_pass f k zero h = refl
all_pass f k (suc n) h = rw (h k (omega arith)) (all_pass f (suc k) n (λ g l. h g (omega arith)))

pub built_ok : (m : Machine) → AllBuilt m → true ≡ all (λ g. not (get false m.unbuilt g) || is_first m g) (up_from 0 24)
built_ok m h = sym (all_pass (λ g. not (get false m.unbuilt g) || is_first m g) 0 24 (λ g l. rw (h g (omega arith)) refl))
