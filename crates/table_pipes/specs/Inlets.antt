-- The ports of a pipeline's inlets, and the bytes that they take.
use Rattle.std.specs.Prelude.{◌≡◌, List, [], ◌∷◌, ℕ, ◌+◌, ◌*◌, ◌^◌, ◌≤◌, ◌<◌, length, get_or, take, drop, set, leb}
use Rattle.std.proofs.Math.Path.{refl}
use Rattle.std.proofs.Common.{sym, ap, ◌∙◌, add-one, arith, length-drop, get_or-take, length-take-le, take-suc, take-suc-set}
use Rattle.std.specs.Int.{w16, to_le_bytes}
use borrow.Author.Tests.{leb-true, leb-false, le-leb, lt-leb, lt-ltb}
use Rattle.rules.specs.Table.{get}
use Rattle.rules.specs.Machine.{inlets_at}
use Rattle.laws.specs.Table.{by_bool, get_get_or, put_set}
use Rattle.layout.specs.Numbers.{half}
use Rattle.layout.specs.Cut.{cut}
use Rattle.layout.specs.Records.{table, length_table}
use Rattle.layout.specs.Stored.{lent, loaded, stored_lent, byte_at, first_at}
use Rattle.tables.specs.Decode.{inlets}
use Rattle.tables.specs.Inner.{first_kept}
use Rattle.tables.specs.View.{view, Sized}
use Rattle.tables.specs.Loaded.{inlets_loaded}
use Rattle.table_pipes.specs.declared.inlets.Inlets.{Inlets}

-- the first `len` ports
abbrev pub inlets_of : Inlets → List ℕ
inlets_of x = take x.len x.ports

-- the ports in a record's bytes
abbrev pub ports_in : List ℕ → List ℕ
ports_in r = table half 2 23 (cut 1 47 r)

module _ (s : List ℕ) (z : Sized s) (p : ℕ) (h : p < 96) where
  -- a count past the table
  pub inlets_past : 23 < get_or s (4767 + p * 47) 0 → inlets_at (view s) p ≡ 65535 ∷ []
  unfolding inlets
  inlets_past g = inlets_loaded s z p h ∙ rw (first_at s (4767 + p * 47) 47 refl, lt-leb (get_or s (4767 + p * 47) 0) 23 g)

  -- a count within it
  pub inlets_in : get_or s (4767 + p * 47) 0 ≤ 23 → inlets_at (view s) p ≡ take (get_or s (4767 + p * 47) 0) (ports_in (take 47 (drop (4767 + p * 47) s)))
  unfolding inlets
  inlets_in g = inlets_loaded s z p h ∙ rw (first_at s (4767 + p * 47) 47 refl, le-leb (get_or s (4767 + p * 47) 0) 23 g)

  -- how many there are
  pub inlets_count : (n : ℕ) → n ≡ get_or s (4767 + p * 47) 0 → n ≤ 23 → n ≡ length (inlets_at (view s) p)
  inlets_count n e g = rw (inlets_in (rw e at g), ← e)
      (sym (length-take-le n (ports_in (take 47 (drop (4767 + p * 47) s))) (rw (length_table half 2 23 (cut 1 47 (take 47 (drop (4767 + p * 47) s)))) g)))

  -- in either case
  pub inlets_few : length (inlets_at (view s) p) ≤ 23
  inlets_few =
      by_bool (leb (get_or s (4767 + p * 47) 0) 23)
      (λ t. let g = leb-true (get_or s (4767 + p * 47) 0) 23 t in omega (arith, inlets_count (get_or s (4767 + p * 47) 0) refl g))
      (λ t. rw (inlets_past (leb-false (get_or s (4767 + p * 47) 0) 23 t)) (omega arith))

  -- the one port of a count past the table
  pub inlet_past : (i : ℕ) → 23 < get_or s (4767 + p * 47) 0 → i < length (inlets_at (view s) p) → 65535 ≡ get 0 (inlets_at (view s) p) i
  inlet_past i g l =
      let e = inlets_past g in
      let n : i ≡ 0 = omega (arith, rw e at l) in
      rw (e, n)

  -- one port
  pub inlet_in : (i : ℕ) → get_or s (4767 + p * 47) 0 ≤ 23 → i < length (inlets_at (view s) p)
      → get 0 (inlets_at (view s) p) i ≡ get_or s (4767 + p * 47 + (1 + i * 2)) 0 + 256 * get_or s (4767 + p * 47 + (1 + i * 2 + 1)) 0
  inlet_in i g l =
      let n : i < get_or s (4767 + p * 47) 0 = rw (← inlets_count (get_or s (4767 + p * 47) 0) refl g) at l in
      let r : List ℕ = take 47 (drop (4767 + p * 47) s) in
      let w : length r ≡ 47 = length-take-le 47 (drop (4767 + p * 47) s) (rw (length-drop (4767 + p * 47) s) (omega arith)) in
      rw (inlets_in g)
      (get_get_or 0 (take (get_or s (4767 + p * 47) 0) (ports_in r)) i
      ∙ get_or-take (get_or s (4767 + p * 47) 0) (ports_in r) i 0 n
      ∙ sym (get_get_or 0 (ports_in r) i)
      ∙ loaded half 1 2 23 r i 0 (omega arith) (omega arith)
      ∙ rw (
        first_at r (1 + i * 2) 2 refl,
        byte_at r (1 + i * 2) 2 1 refl,
        byte_at s (4767 + p * 47) 47 (1 + i * 2) (lt-ltb (1 + i * 2) 47 (omega arith)),
        byte_at s (4767 + p * 47) 47 (1 + i * 2 + 1) (lt-ltb (1 + i * 2 + 1) 47 (omega arith)),
      ))

-- one port more of a list
pub taken_more : (xs ys : List ℕ) (i v : ℕ) → i < length xs → i < length ys → v ≡ get 0 ys i → take i xs ≡ take i ys →
    take (i + 1) (set xs i v) ≡ take (i + 1) ys
taken_more xs ys i v h l q e = rw (add-one i, take-suc-set xs i v h, e, take-suc ys i 0 l, q, get_get_or 0 ys i)

-- a number of 16 bits is two bytes
half_back : (v : ℕ) → v < 2 ^ 16 → half (to_le_bytes w16 v) ≡ v
half_back v fits = omega arith

-- one port more in the bytes
pub bytes_more : (r ports ys : List ℕ) (i : ℕ) → i < 23 → length r ≡ 47 → length ports ≡ 23 → ys ≡ to_le_bytes w16 (get_or ports i 0)
    → get_or ports i 0 < 2 ^ 16 → take i (ports_in r) ≡ take i ports → take (i + 1) (ports_in (lent 1 2 i r ys)) ≡ take (i + 1) ports
bytes_more r ports ys i h l m e b q =
    let t : length (ports_in r) ≡ 23 = length_table half 2 23 (cut 1 47 r) in
    let w : half ys ≡ get_or ports i 0 = ap half e ∙ half_back (get_or ports i 0) b in
    rw (
      (stored_lent 1 2 23 r i ys h (omega arith) (ap length e)).own half 0,
      put_set 0 (ports_in r) i (half ys) (omega arith),
      add-one i,
      take-suc-set (ports_in r) i (half ys) (omega arith),
      take-suc ports i 0 (omega arith),
      q,
      w,
    )

-- the count stays
pub bytes_count : (r ys : List ℕ) (i : ℕ) → i < 23 → length r ≡ 47 → length ys ≡ 2 → get_or (lent 1 2 i r ys) 0 0 ≡ get_or r 0 0
bytes_count r ys i h l n = first_kept r (lent 1 2 i r ys) ((stored_lent 1 2 23 r i ys h (omega arith) n).others 0 1 refl)

-- all of them
pub bytes_all : (r ports : List ℕ) (n : ℕ) → n ≤ 23 → get_or r 0 0 ≡ n → take n (ports_in r) ≡ take n ports → inlets r ≡ take n ports
unfolding inlets
bytes_all r ports n h c e = rw (c, le-leb n 23 h) e
