-- The stacks of a lent state, by their bytes.
use Rattle.std.specs.Prelude.{◌≡◌, refl, Bool, true, false, List, [], ◌∷◌, ℕ, zero, suc, ◌+◌, ◌-◌, ◌≤◌, ◌<◌, ◌||◌, eqb, length, get_or, take, drop}
use Rattle.std.proofs.Common.{sym, ap, ◌∙◌, arith, get_or-drop, length-drop, length-take-le, take-suc}
use Rattle.std.specs.List.{list_any}
use Rattle.std.proofs.lemmas.List.Folds.{list_any-append}
use Rattle.rules.specs.Table.{get, has}
use Rattle.numbers.specs.Newest.{newest}
use Rattle.layout.specs.Cut.{cut}
use Rattle.layout.specs.Numbers.{byte, stack}
use Rattle.layout.specs.Stack.{Room, stack_in, stack_out, length_in}
use Rattle.rules.specs.Machine.{Machine, with_ready, with_freed, with_dirty}
use Rattle.layout.specs.Cut.{splice}
use Rattle.tables.specs.View.{view, Sized, machine_len}
use Rattle.tables.specs.Change.{Becomes}
use Rattle.tables.specs.Written.{Leaves, ready_written, freed_written, dirty_written}
use Rattle.numbers.specs.Tests.{or_none, eqb_sym}

abbrev pub ready_of : Machine → List ℕ
ready_of m = m.ready

abbrev pub freed_of : Machine → List ℕ
freed_of m = m.freed

abbrev pub dirty_of : Machine → List ℕ
dirty_of m = m.dirty

-- what a stack of a state keeps: its bytes are those from a up to b, with room for n numbers, and say a field of the machine
pub record StackLaws (a b n : ℕ) (of : Machine → List ℕ) (with : List ℕ → Machine → Machine) : Type 0 where
  pub ends : b ≡ a + suc n
  pub within : b ≤ machine_len
  pub most : n ≤ 255
  pub least : 2 ≤ n
  pub loaded : (s : List ℕ) → of (view s) ≡ stack (take (b - a) (drop a s))
  pub written : (s ys v : List ℕ) → Sized s → length ys ≡ b - a → stack ys ≡ v → Leaves s (splice s a (b - a) ys) (with v (view s))

pub ready_laws : StackLaws 82 179 96 ready_of with_ready
unfolding view cut
ready_laws = record {
  ends = refl;
  within = omega arith;
  most = omega arith;
  least = omega arith;
  loaded = λ s. refl;
  written = λ s ys v z l e. ready_written s z ys v l e;
}

pub freed_laws : StackLaws 179 276 96 freed_of with_freed
unfolding view cut
freed_laws = record {
  ends = refl;
  within = omega arith;
  most = omega arith;
  least = omega arith;
  loaded = λ s. refl;
  written = λ s ys v z l e. freed_written s z ys v l e;
}

pub dirty_laws : StackLaws 52 56 3 dirty_of with_dirty
unfolding view cut
dirty_laws = record {
  ends = refl;
  within = omega arith;
  most = omega arith;
  least = omega arith;
  loaded = λ s. refl;
  written = λ s ys v z l e. dirty_written s z ys v l e;
}

-- The part of a state that a stack is: p and q are its ends.
module _ {a b n : ℕ} {of : Machine → List ℕ} {with : List ℕ → Machine → Machine} (laws : StackLaws a b n of with) (s : List ℕ)
    (p q : ℕ) (x : p ≡ a) (y : q ≡ b) where
  pub part_says : of (view s) ≡ stack (take (q - p) (drop p s))
  part_says = rw (x, y) (laws.loaded s)

  pub part_length : Sized s → length (take (q - p) (drop p s)) ≡ suc n
  part_length z =
      length-take-le (q - p) (drop p s) (rw (length-drop p s) (omega (arith, laws.ends, laws.within, laws.most))) ∙ omega (arith, laws.ends)

  pub part_room : Sized s → Room (take (q - p) (drop p s))
  part_room z = let e = part_length z in (omega (arith, e, laws.least), omega (arith, e, laws.most))

  -- the part is changed by f and comes back as t
  pub part_becomes : (f : List ℕ → List ℕ) (t : List ℕ) → Sized s → length t ≡ length (take (q - p) (drop p s)) → stack t ≡ f (stack (take (q - p) (drop p s)))
      → Becomes (λ m. with (f (of m)) m) s (splice s p (q - p) t)
  part_becomes f t z l e =
      let k : length t ≡ b - a = l ∙ part_length z ∙ omega (arith, laws.ends) in
      rw (x, y) (laws.written s t (f (of (view s))) z k (e ∙ ap f (sym part_says)))

-- Whether it holds a number.

-- a count past the table
pub holds_out : (r : List ℕ) (n k : ℕ) → Room r → n ≡ byte r 0 → length r ≤ n → eqb k 255 ≡ has k (stack r)
unfolding has
holds_out r n k m e h = rw (stack_out r (omega (arith, m.0)) (omega arith)) (or_none (eqb k 255))

or_swap : (a b : Bool) → (a || b) ≡ (b || a)
or_swap true true = refl
or_swap true false = refl
or_swap false true = refl
or_swap false false = refl

-- the first n of a list, in either order
holds_any : (xs : List ℕ) (n k : ℕ) → n ≤ length xs → list_any (λ y. eqb y k) (take n xs) ≡ has k (newest xs n)
unfolding has newest
holds_any xs zero k h = refl
holds_any xs (suc n) k h =
    let x : ℕ = get_or xs n 0 in
    rw (
      take-suc xs n 0 (omega arith),
      list_any-append (λ y. eqb y k) (take n xs) (x ∷ []),
      holds_any xs n k (omega arith),
      or_swap (has k (newest xs n)) (eqb x k || false),
      ← (or_none (eqb x k)),
      eqb_sym x k,
    )
    refl

-- all that a count says
pub holds_in : (r : List ℕ) (n k : ℕ) → n ≡ byte r 0 → n < length r → list_any (λ y. eqb y k) (take n (drop 1 r)) ≡ has k (stack r)
holds_in r n k e h =
    rw (stack_in r (rw (← e) h), ← e) (holds_any (drop 1 r) n k (rw (length-drop 1 r) (omega arith)))

-- the number at place suc i
at_suc : (r : List ℕ) (i : ℕ) → get_or (drop 1 r) i 0 ≡ get_or r (suc i) 0
at_suc r i = let s : 1 + i ≡ suc i = omega arith in get_or-drop 1 r i 0 ∙ ap (λ (j : ℕ). get_or r j 0) s

-- Entry k, counted from the newest: n is the count.

-- a count past the table
pub entry_out : (r : List ℕ) (n k : ℕ) → Room r → n ≡ byte r 0 → length r ≤ n → k < length (stack r) → 255 ≡ get 0 (stack r) k
entry_out r n k m e h l = only (stack r) k (stack_out r (omega (arith, m.0)) (omega arith)) l
  where
    only : (xs : List ℕ) (i : ℕ) → xs ≡ 255 ∷ [] → i < length xs → 255 ≡ get 0 xs i
    only xs zero q g = rw q
    only xs (suc i) q g = let w : length xs ≡ 1 = ap length q in absurd (omega arith)

-- of the newest n
newest_at : (xs : List ℕ) (n k : ℕ) → k < n → get 0 (newest xs n) k ≡ get_or xs (n - suc k) 0
unfolding newest
newest_at xs zero k h = absurd (omega arith)
newest_at xs (suc n) zero h = let e : suc n - 1 ≡ n = omega arith in rw e refl
newest_at xs (suc n) (suc k) h = let e : suc n - suc (suc k) ≡ n - suc k = omega arith in rw e (newest_at xs n k (omega arith))

-- fewer than the count
pub entry_few : (r : List ℕ) (n k : ℕ) → n ≡ byte r 0 → n < length r → k < length (stack r) → k < n
entry_few r n k e h l = let q = length_in r (rw (← e) h) in omega (arith, q)

-- a count within the table
pub entry_in : (r : List ℕ) (n k : ℕ) → n ≡ byte r 0 → n < length r → k < length (stack r) → get_or r (n - k) 0 ≡ get 0 (stack r) k
entry_in r n k e h l =
    let f : k < n = entry_few r n k e h l in
    let i : suc (n - suc k) ≡ n - k = omega arith in
    ap (λ (j : ℕ). get_or r j 0) (sym i) ∙ sym (at_suc r (n - suc k)) ∙ sym (newest_at (drop 1 r) n k f)
    ∙ rw e (ap (λ (t : List ℕ). get 0 t k) (sym (stack_in r (rw (← e) h))))
