-- A stack with so many places, and what is done to its bytes.
use Rattle.std.specs.Prelude.{◌≡◌, refl, true, false, List, [], ◌∷◌, ℕ, zero, suc, ◌+◌, ◌-◌, ◌≤◌, ◌<◌, ltb, length, get_or, set, drop, if◌then◌else◌}
use Rattle.std.proofs.Common.{sym, ap, ◌∙◌, arith, length-set, le-leb, lt-ltb, le-ltb}
use Rattle.std.proofs.Math.Option.{none, some}
use Rattle.std.proofs.Math.ListN.{get_elem?}
use Rattle.std.proofs.lemmas.Bool.{lt-leb}
use Rattle.numbers.specs.Newest.{newest}
use Rattle.numbers.specs.Newest.{newest_length, newest_none, newest_some, newest_more}
use Rattle.layout.specs.Numbers.{byte, stack}

-- a count, and places for some numbers that a byte can count
abbrev pub Room : List ℕ → Type 0
Room r = (3 ≤ length r) × (length r ≤ 256)

-- one more where there is a place
abbrev pub pushed : ℕ → ℕ → List ℕ → List ℕ
pushed x n s = if ltb (length s) n then x ∷ s else s

-- a count within the table
pub stack_in : (r : List ℕ) → byte r 0 < length r → stack r ≡ newest (drop 1 r) (byte r 0)
unfolding stack
stack_in [] h = absurd (omega arith)
stack_in (c ∷ xs) h = rw (le-leb c (length xs) (omega arith)) refl

-- a count past it
pub stack_out : (r : List ℕ) → 1 ≤ length r → length r ≤ byte r 0 → stack r ≡ 255 ∷ []
unfolding stack
stack_out [] h l = absurd (omega arith)
stack_out (c ∷ xs) h l = rw (lt-leb c (length xs) (omega arith)) refl

-- how many
pub length_in : (r : List ℕ) → byte r 0 < length r → length (stack r) ≡ byte r 0
length_in r h = rw (stack_in r h) (newest_length (drop 1 r) (byte r 0))

-- a count past the table, as the number that it reads as
pub settled : (r : List ℕ) → 3 ≤ length r → length r ≤ byte r 0
    → (stack (set (set r 0 1) 1 255) ≡ stack r) × (byte (set (set r 0 1) 1 255) 0 < length (set (set r 0 1) 1 255))
settled [] h l = absurd (omega arith)
settled (c ∷ []) h l = absurd (omega arith)
settled (c ∷ d ∷ xs) h l =
    let within : byte (1 ∷ 255 ∷ xs) 0 < length (1 ∷ 255 ∷ xs) = omega arith in (
      stack_in (1 ∷ 255 ∷ xs) within ∙ newest_some (255 ∷ xs) 1 (omega arith) ∙ ap (λ (t : List ℕ). 255 ∷ t) (newest_none (255 ∷ xs) 0 refl)
          ∙ sym (stack_out (c ∷ d ∷ xs) (omega arith) l),
      within,
    )

-- one more on top
pub stack_push : (r : List ℕ) (x : ℕ) → byte r 0 < length r → byte r 0 + 1 < length r → stack (set (set r (byte r 0 + 1) x) 0 (byte r 0 + 1)) ≡ x ∷ stack r
stack_push [] x h l = absurd (omega arith)
stack_push (c ∷ xs) x h l =
    let e : c + 1 ≡ suc c = omega arith in
    rw e
    (stack_in (suc c ∷ set xs c x) (rw (length-set xs c x) (omega arith)) ∙ newest_more xs c x (omega arith)
    ∙ ap (λ (t : List ℕ). x ∷ t) (sym (stack_in (c ∷ xs) h)))

-- without the newest
pub stack_pop : (r : List ℕ) → byte r 0 < length r → 0 < byte r 0 → stack (set r 0 (byte r 0 - 1)) ≡ drop 1 (stack r)
stack_pop [] h l = absurd (omega arith)
stack_pop (c ∷ xs) h l = stack_in ((c - 1) ∷ xs) (omega arith) ∙ sym (ap (drop 1) (stack_in (c ∷ xs) h ∙ newest_some xs c l))

-- nothing to pop
pub stack_none : (r : List ℕ) → byte r 0 < length r → byte r 0 ≡ 0 → stack r ≡ []
stack_none r h l = stack_in r h ∙ newest_none (drop 1 r) (byte r 0) l

-- the newest
pub newest_in : (r : List ℕ) → byte r 0 < length r → 0 < byte r 0 → some (get_or r (byte r 0) 0) ≡ get_elem? (stack r) 0
newest_in [] h l = absurd (omega arith)
newest_in (zero ∷ xs) h l = absurd (omega arith)
newest_in (suc c ∷ xs) h l = let e : suc c - 1 ≡ c = omega arith in rw (stack_in (suc c ∷ xs) h, newest_some xs (suc c) l, e) refl

-- What the functions answer: n is the count, and t the record with its count settled.

pub len_out : (r : List ℕ) (n : ℕ) → Room r → n ≡ byte r 0 → length r ≤ n → 1 ≡ length (stack r)
len_out r n m e h = rw (stack_out r (omega (arith, m.0)) (omega arith)) refl

pub len_in : (r : List ℕ) (n : ℕ) → n ≡ byte r 0 → n < length r → n ≡ length (stack r)
len_in r n e h = e ∙ sym (length_in r (omega arith))

pub top_none : (r : List ℕ) (n : ℕ) → Room r → n ≡ byte r 0 → n ≡ 0 → none ≡ get_elem? (stack r) 0
top_none r n m e z = rw (stack_none r (omega (arith, m.0)) (omega arith)) refl

pub top_out : (r : List ℕ) (n : ℕ) → Room r → n ≡ byte r 0 → length r ≤ n → some 255 ≡ get_elem? (stack r) 0
top_out r n m e h = rw (stack_out r (omega (arith, m.0)) (omega arith)) refl

pub top_in : (r : List ℕ) (n : ℕ) → n ≡ byte r 0 → (n ≡ 0 → ⊥) → n < length r → some (get_or r n 0) ≡ get_elem? (stack r) 0
top_in r n e z h = rw e (newest_in r (omega arith) (pos (byte r 0) (λ q. z (e ∙ q))))
  where
    pos : (k : ℕ) → (k ≡ 0 → ⊥) → 0 < k
    pos k q = omega arith

pub push_in : (r t : List ℕ) (n x : ℕ) → stack t ≡ stack r → byte t 0 < length t → length t ≡ length r → n ≡ byte t 0 → n + 1 < length t
    → (true ≡ ltb (length (stack r)) (length r - 1)) × (stack (set (set t (n + 1) x) 0 (n + 1)) ≡ pushed x (length r - 1) (stack r))
push_in r t n x e h l k m =
    let c : length (stack r) ≡ n = ap length (sym e) ∙ length_in t h ∙ sym k in
    let y : ltb (length (stack r)) (length r - 1) ≡ true = lt-ltb (length (stack r)) (length r - 1) (omega arith) in
    (sym y, rw (y, k, ← e) (stack_push t x h (omega arith)))

pub push_full : (r t : List ℕ) (n x : ℕ) → stack t ≡ stack r → byte t 0 < length t → length t ≡ length r → n ≡ byte t 0 → length t ≤ n + 1
    → (false ≡ ltb (length (stack r)) (length r - 1)) × (stack t ≡ pushed x (length r - 1) (stack r))
push_full r t n x e h l k m =
    let c : length (stack r) ≡ n = ap length (sym e) ∙ length_in t h ∙ sym k in
    let y : ltb (length (stack r)) (length r - 1) ≡ false = le-ltb (length (stack r)) (length r - 1) (omega arith) in
    (sym y, rw y e)
