-- What an inlet showed as a code, and back.
use Rattle.std.specs.Prelude.{◌≡◌, refl, ◌≢◌, Bool, true, false, List, [], ◌∷◌, map, ℕ, zero, suc, ◌+◌, ◌*◌, ◌≤◌, ◌<◌, eqb, ltb, length, get_or, take, drop, if◌then◌else◌}
use Rattle.std.proofs.Common.{sym, ap, ap₂, ◌∙◌, arith, drop-cons, take_all, lt-ltb, ne_eqb}
use Rattle.rules.specs.Table.{get}
use Rattle.rules.specs.InletSet.{InletSet}
use Rattle.rules.specs.Port.{Seen, waiting, ready, ended}
use Rattle.laws.specs.Table.{by_bool}
use Rattle.queue.specs.declared.seen.Seen as code
use Rattle.queue.specs.Seen as queue
use Rattle.pack_source.specs.Pack.{View}
use Rattle.tables.specs.Decode.{seen_of}
use Rattle.tables.specs.View.{view, Sized}
use Rattle.tables.specs.Loaded.{seen_loaded}

-- a byte that is no code counts for nothing
abbrev pub seen_from : ℕ → Seen
seen_from b = if eqb b 1 then waiting else if eqb b 2 then ready else if eqb b 3 then ended else waiting

-- one more than the rest, or none where a byte is no code
abbrev pub counted : ℕ → ℕ → ℕ
counted b n = if eqb b 1 then n + 1 else if eqb b 2 then n + 1 else if eqb b 3 then n + 1 else 0

-- the code of what an inlet showed
abbrev pub code_of : Seen → ℕ
code_of waiting = 1
code_of ready = 2
code_of ended = 3

-- 0 where an entry does not count
abbrev pub code_if : Bool → Seen → ℕ
code_if true x = code_of x
code_if false x = 0

-- a byte that is neither of the last two codes
pub seen_else : (b : ℕ) → b ≢ 2 → b ≢ 3 → waiting ≡ seen_from b
seen_else b y z = by_bool (eqb b 1) (λ t. rw t) (λ t. rw (t, ne_eqb b 2 y, ne_eqb b 3 z))

pub counted_else : (b n : ℕ) → b ≢ 1 → b ≢ 2 → b ≢ 3 → 0 ≡ counted b n
counted_else b n x y z = rw (ne_eqb b 1 x, ne_eqb b 2 y, ne_eqb b 3 z)

-- one code and the rest
module _ (b : ℕ) (r : List ℕ) (x : code.Seen) (n : ℕ) (l : List code.Seen) (e : queue.seen_of x ≡ seen_from b) (h : map queue.seen_of (take n l) ≡ seen_of r) where
  one_more : map queue.seen_of (take (n + 1) (x ∷ l)) ≡ seen_from b ∷ seen_of r
  one_more = let z : n + 1 ≡ suc n = omega arith in rw z (ap₂ ◌∷◌ e h)

  pub seen_next : map queue.seen_of (take (counted b n) (x ∷ l)) ≡ seen_of (b ∷ r)
  unfolding seen_of
  seen_next =
      by_bool (eqb b 1)
      (λ t. rw t (one_more ∙ rw t))
      (λ t. by_bool (eqb b 2)
      (λ u. rw (t, u) (one_more ∙ rw (t, u)))
      (λ u. by_bool (eqb b 3)
      (λ v. rw (t, u, v) (one_more ∙ rw (t, u, v)))
      (λ v. rw (t, u, v))))

-- the bytes from a on
take_next : (s : List ℕ) (n a b : ℕ) → a + 1 ≡ b → b ≤ length s → take (suc n) (drop a s) ≡ get_or s a 0 ∷ take n (drop b s)
take_next s n a b e h =
    let p : suc a ≡ b = omega arith in
    ap (take (suc n)) (drop-cons s a 0 (omega arith)) ∙ ap (λ (k : ℕ). get_or s a 0 ∷ take n (drop k s)) p

four_bytes : (s : List ℕ) (a : ℕ) → a + 4 ≤ length s → take 4 (drop a s) ≡ get_or s a 0 ∷ get_or s (a + 1) 0 ∷ get_or s (a + 2) 0 ∷ get_or s (a + 3) 0 ∷ []
four_bytes s a h =
    take_next s 3 a (a + 1) refl (omega arith)
    ∙ ap (λ (r : List ℕ). get_or s a 0 ∷ r)
    (take_next s 2 (a + 1) (a + 2) (omega arith) (omega arith)
    ∙ ap (λ (r : List ℕ). get_or s (a + 1) 0 ∷ r)
    (take_next s 1 (a + 2) (a + 3) (omega arith) (omega arith)
    ∙ ap (λ (r : List ℕ). get_or s (a + 2) 0 ∷ r) (take_next s 0 (a + 3) (a + 4) (omega arith) h)))

-- a code is read
code_back : (x : Seen) (r : List ℕ) → seen_of (code_of x ∷ r) ≡ x ∷ seen_of r
unfolding seen_of
code_back waiting r = refl
code_back ready r = refl
code_back ended r = refl

-- no code, and no byte
code_none : (r : List ℕ) → seen_of (0 ∷ r) ≡ []
unfolding seen_of
code_none r = refl

no_code : seen_of [] ≡ []
unfolding seen_of
no_code = refl

-- four codes, of which the first n count
codes_back : (a b c d : code.Seen) (n : ℕ)
    → seen_of (code_if (ltb 0 n) (queue.seen_of a) ∷ code_if (ltb 1 n) (queue.seen_of b) ∷ code_if (ltb 2 n) (queue.seen_of c) ∷ code_if (ltb 3 n) (queue.seen_of d) ∷ [])
    ≡ map queue.seen_of (take n (a ∷ b ∷ c ∷ d ∷ []))
codes_back a b c d zero = code_none _
codes_back a b c d (suc zero) = simp (code_back, code_none)
codes_back a b c d (suc (suc zero)) = simp (code_back, code_none)
codes_back a b c d (suc (suc (suc zero))) = simp (code_back, code_none)
codes_back a b c d (suc (suc (suc (suc n)))) =
    let k : ℕ = suc (suc (suc (suc n))) in
    simp (lt-ltb 0 k (omega arith), lt-ltb 1 k (omega arith), lt-ltb 2 k (omega arith), lt-ltb 3 k (omega arith), code_back, no_code)
    (ap (map queue.seen_of) (sym (take_all k (a ∷ b ∷ c ∷ d ∷ []) (omega arith))))

-- as entries of a table of four
pub codes_of : (l : List code.Seen) (n : ℕ) (e : code.Seen) → length l ≡ 4
    → seen_of (code_if (ltb 0 n) (queue.seen_of (get_or l 0 e)) ∷ code_if (ltb 1 n) (queue.seen_of (get_or l 1 e)) ∷ code_if (ltb 2 n) (queue.seen_of (get_or l 2 e)) ∷ code_if (ltb 3 n)
    (queue.seen_of (get_or l 3 e)) ∷ [])
    ≡ map queue.seen_of (take n l)
codes_of [] n e h = absurd (omega arith)
codes_of (a ∷ []) n e h = absurd (omega arith)
codes_of (a ∷ b ∷ []) n e h = absurd (omega arith)
codes_of (a ∷ b ∷ c ∷ []) n e h = absurd (omega arith)
codes_of (a ∷ b ∷ c ∷ d ∷ []) n e h = codes_back a b c d n
codes_of (a ∷ b ∷ c ∷ d ∷ x ∷ l) n e h = absurd (omega arith)

-- what the four bytes of a pack's place say, from the last to the first
pub seen_at : (s : List ℕ) (z : Sized s) (p : ℕ) (g : p < 96) (a b c d : code.Seen) (i j k n : ℕ)
    → queue.seen_of a ≡ seen_from (get_or s (14367 + p * 4) 0) → queue.seen_of b ≡ seen_from (get_or s (14367 + p * 4 + 1) 0)
    → queue.seen_of c ≡ seen_from (get_or s (14367 + p * 4 + 2) 0) → queue.seen_of d ≡ seen_from (get_or s (14367 + p * 4 + 3) 0)
    → i ≡ counted (get_or s (14367 + p * 4 + 3) 0) 0 → j ≡ counted (get_or s (14367 + p * 4 + 2) 0) i
    → k ≡ counted (get_or s (14367 + p * 4 + 1) 0) j → n ≡ counted (get_or s (14367 + p * 4) 0) k
    → map queue.seen_of (take n (a ∷ b ∷ c ∷ d ∷ [])) ≡ get [] (view s).seen p
seen_at s z p g a b c d i j k n x y u v ei ej ek en =
    let q : ℕ = 14367 + p * 4 in
    let r3 : List ℕ = get_or s (q + 3) 0 ∷ [] in
    let r2 : List ℕ = get_or s (q + 2) 0 ∷ r3 in
    let r1 : List ℕ = get_or s (q + 1) 0 ∷ r2 in
    let l3 : map queue.seen_of (take i (d ∷ [])) ≡ seen_of r3 = rw ei (seen_next (get_or s (q + 3) 0) [] d 0 [] v (sym no_code)) in
    let l2 : map queue.seen_of (take j (c ∷ d ∷ [])) ≡ seen_of r2 = rw ej (seen_next (get_or s (q + 2) 0) r3 c i (d ∷ []) u l3) in
    let l1 : map queue.seen_of (take k (b ∷ c ∷ d ∷ [])) ≡ seen_of r1 = rw ek (seen_next (get_or s (q + 1) 0) r2 b j (c ∷ d ∷ []) y l2) in
    rw en (seen_next (get_or s q 0) r1 a k (b ∷ c ∷ d ∷ []) x l1)
    ∙ sym (ap seen_of (four_bytes s q (omega arith)))
    ∙ sym (seen_loaded s z p g)

-- both parts of what a pack notes
pub both : {a b : List Seen} {v w : InletSet} → a ≡ b → v ≡ w → ◌≡◌ {A = View} (record { seen = a; waits = v }) (record { seen = b; waits = w })
both e f = rw (e, f)
