-- What a pack notes, inlet by inlet.
use Rattle.std.specs.Prelude.{◌≡◌, refl, Bool, true, false, ◌&&◌, List, [], ◌∷◌, map, ℕ, zero, suc, ◌+◌, ◌-◌, ◌≤◌, ◌<◌, length, get_or, take, eqb}
use Rattle.std.proofs.Common.{not-suc-le-zero, add-one, arith}
use mathlib.Core.Bool.{beq}
use Rattle.rules.specs.Table.{get, all, up_from, has}
use Rattle.rules.specs.InletSet.{InletSet}
use Rattle.rules.specs.Port.{Seen, ended}
use Rattle.rules.specs.Check.{same_bool, is_waiting_seen, set_ok}
use Rattle.pack_source.specs.Pack.{View}

-- an inlet is in the waiting set just if it was last seen waiting
abbrev pub note_ok : List Seen → InletSet → ℕ → Bool
note_ok seen w i = same_bool (has i w) (is_waiting_seen (get ended seen i))

-- what is tested of a pack with n inlets
abbrev pub notes_ok : View → ℕ → Bool
notes_ok v n = eqb (length v.seen) n && set_ok (length v.seen) v.waits && all (note_ok v.seen v.waits) (up_from 0 (length v.seen))

-- as the code compares two answers
pub beq_is : (a b : Bool) → beq a b ≡ same_bool a b
beq_is true true = refl
beq_is true false = refl
beq_is false true = refl
beq_is false false = refl

-- an entry of the first n of a table
pub entry_at : {A B : Type 0} (f : A → B) (e : B) (n : ℕ) (l : List A) (i : ℕ) (d : A) → i < length (map f (take n l)) →
    get e (map f (take n l)) i ≡ f (get_or l i d)
entry_at f e zero l i d h = absurd (not-suc-le-zero h)
entry_at f e (suc n) [] i d h = absurd (not-suc-le-zero h)
entry_at f e (suc n) (x ∷ l) zero d h = refl
entry_at f e (suc n) (x ∷ l) (suc i) d h = entry_at f e n l i d (omega arith)

-- one number, then the others
pub up_first : (f : ℕ → Bool) (n i : ℕ) → i < n → all f (up_from i (n - i)) ≡ (f i && all f (up_from (i + 1) (n - (i + 1))))
unfolding all up_from
up_first f n i h = let e : n - i ≡ suc (n - (i + 1)) = omega arith in rw (e, add-one i)

pub up_none : (f : ℕ → Bool) (n i : ℕ) → n ≤ i → true ≡ all f (up_from i (n - i))
unfolding all up_from
up_none f n i h = let e : n - i ≡ 0 = omega arith in rw e
