-- The reads of a state: how many, then 24 records, in 97 bytes.
use Rattle.std.specs.Prelude.{ℕ, zero, suc, ◌+◌, ◌*◌, ◌≤◌, ◌<◌, ◌≡◌, false, leb, take, drop, set}
use Rattle.std.proofs.Common.{arith, ap₂, ◌∙◌, add-one, length-take-le, le-leb, leb-true, leb-false}
use Rattle.std.proofs.Math.Path.{refl, sym, ap}
use mathlib.Core.List.{List, [], ◌∷◌, ◌++◌}
use Rattle.std.proofs.Math.Option.{none}
use Rattle.std.proofs.Math.ListN.{length, get_or}
use Rattle.std.proofs.Math.Seq.{take-nil, get_or-set_same}
use Rattle.std.proofs.lemmas.Bool.{lt-leb}
use Rattle.rules.specs.Table.{get, put}
use Rattle.rules.specs.Machine.{Read, no_read, with_reads}
use Rattle.laws.specs.Table.{by_bool}
use Rattle.layout.specs.Cut.{cut, splice, length_splice}
use Rattle.layout.specs.Records.{table, length_table}
use Rattle.layout.specs.Numbers.{flag, option}
use Rattle.layout.specs.Stored.{wrote, wrote_byte, stored_lent, lent, loaded, first_at, byte_at}
use Rattle.tables.specs.Decode.{read_record}
use Rattle.tables.specs.View.{view, Sized, machine_len, reads_from}
use Rattle.tables.specs.Written.{Leaves}
use Rattle.tables.specs.Inner.{cut_cut, first_kept, length_lent}

-- what the 97 bytes say
abbrev pub reads_in : List ℕ → List Read
reads_in r = reads_from (cut 0 1 r) (cut 1 97 r)

-- the read that a count past the table reads as
abbrev pub bad_read : Read
bad_read = record { leaf = 255; owner = none; delivered = false }

-- In a state

module _ (s : List ℕ) (z : Sized s) where
  pub reads_loaded : (view s).reads ≡ reads_in (take 97 (drop 276 s))
  unfolding view cut
  reads_loaded = sym (ap₂ reads_from (cut_cut 276 373 0 1 s (omega arith) (omega arith) (omega arith))
      (cut_cut 276 373 1 97 s (omega arith) (omega arith) (omega arith)))

  pub reads_written : (ys : List ℕ) (v : List Read) → length ys ≡ 97 → reads_in ys ≡ v → Leaves s (splice s 276 97 ys) (with_reads v (view s))
  unfolding view
  reads_written ys v l e =
      let w = wrote 276 373 s ys (omega arith) (omega arith) l in
      let t = splice s 276 97 ys in
      let k : length t ≡ length s = length_splice s 276 97 ys (omega arith) l in
      let c : cut 276 277 t ≡ cut 0 1 ys = sym (cut_cut 276 373 0 1 t (omega arith) (omega arith) (omega arith)) ∙ ap (cut 0 1) w.own in
      let d : cut 277 373 t ≡ cut 1 97 ys = sym (cut_cut 276 373 1 97 t (omega arith) (omega arith) (omega arith)) ∙ ap (cut 1 97) w.own in
      (simp (w.others, c, d, e), w.past machine_len refl)

-- A front of a table

module _ {A : Type 0} (d : A) where
  get_take : (l : List A) (n i : ℕ) → i < n → get d (take n l) i ≡ get d l i
  get_take l zero i h = absurd (omega arith)
  get_take [] (suc n) i h = refl
  get_take (x ∷ l) (suc n) zero h = refl
  get_take (x ∷ l) (suc n) (suc i) h = get_take l n i (omega arith)

  take_put : (l : List A) (n i : ℕ) (v : A) → i < n → take n (put d l i v) ≡ put d (take n l) i v
  take_put l zero i v h = absurd (omega arith)
  take_put [] (suc n) zero v h = ap (λ (r : List A). v ∷ r) (take-nil n)
  take_put [] (suc n) (suc i) v h = ap (λ (r : List A). d ∷ r) (take_put [] n i v (omega arith) ∙ ap (λ (r : List A). put d r i v) (take-nil n))
  take_put (x ∷ l) (suc n) zero v h = refl
  take_put (x ∷ l) (suc n) (suc i) v h = ap (λ (r : List A). x ∷ r) (take_put l n i v (omega arith))

  take_more : (l : List A) (n : ℕ) (v : A) → n < length l → take (suc n) (put d l n v) ≡ take n l ++ v ∷ []
  take_more [] n v h = absurd (omega arith)
  take_more (x ∷ l) zero v h = refl
  take_more (x ∷ l) (suc n) v h = ap (λ (r : List A). x ∷ r) (take_more l n v (omega arith))

-- In the 97 bytes

-- the records, whether they count or not
abbrev records : List ℕ → List Read
records r = table read_record 4 24 (cut 1 97 r)

-- a count in its range
reads_few : (r : List ℕ) → get_or r 0 0 ≤ 24 → reads_in r ≡ take (get_or r 0 0) (records r)
unfolding reads_from cut
reads_few r h = rw (first_at r 0 1 refl, le-leb (get_or r 0 0) 24 h)

-- a count past the table
pub reads_many : (r : List ℕ) → 24 < get_or r 0 0 → reads_in r ≡ bad_read ∷ []
unfolding reads_from cut
reads_many r h = rw (first_at r 0 1 refl, lt-leb (get_or r 0 0) 24 h)

-- and the one that there is
pub reads_only : (r : List ℕ) (i : ℕ) → 24 < get_or r 0 0 → i < length (reads_in r) → bad_read ≡ get no_read (reads_in r) i
reads_only r zero h m = rw (reads_many r h)
reads_only r (suc i) h m = absurd (omega (arith, ap length (reads_many r h)))

-- how many there are
pub reads_count : (r : List ℕ) → get_or r 0 0 ≤ 24 → length (reads_in r) ≡ get_or r 0 0
reads_count r h = ap length (reads_few r h) ∙ length-take-le (get_or r 0 0) (records r) (rw (length_table read_record 4 24 (cut 1 97 r)) h)

-- there are at most 24
pub reads_short : (r : List ℕ) → length (reads_in r) ≤ 24
reads_short r =
    by_bool (leb (get_or r 0 0) 24)
    (λ t. let h : get_or r 0 0 ≤ 24 = leb-true (get_or r 0 0) 24 t in rw (reads_count r h) h)
    (λ t. rw (reads_many r (leb-false (get_or r 0 0) 24 t)) (omega arith))

module _ (r : List ℕ) (l : length r ≡ 97) where
  -- read i, by its bytes
  pub reads_get : (i : ℕ) → get_or r 0 0 ≤ 24 → i < length (reads_in r)
      → get no_read (reads_in r) i ≡ record {
        leaf = get_or r (1 + i * 4) 0;
        owner = option (get_or r (1 + i * 4 + 1) 0) (get_or r (1 + i * 4 + 2) 0);
        delivered = flag (get_or r (1 + i * 4 + 3) 0);
      }
  unfolding read_record
  reads_get i h m =
      let k : i < get_or r 0 0 = rw (reads_count r h) at m in
      ap (λ (x : List Read). get no_read x i) (reads_few r h)
      ∙ get_take no_read (records r) (get_or r 0 0) i k
      ∙ loaded read_record 1 4 24 r i no_read (omega arith) (omega arith)
      ∙ simp (first_at, byte_at)

  -- another read i
  pub reads_put : (i : ℕ) (ys : List ℕ) (v : Read) → get_or r 0 0 ≤ 24 → i < length (reads_in r) → length ys ≡ 4 → read_record ys ≡ v
      → reads_in (lent 1 4 i r ys) ≡ put no_read (reads_in r) i v
  reads_put i ys v h m e q =
      let k : i < get_or r 0 0 = rw (reads_count r h) at m in
      let t = lent 1 4 i r ys in
      let w = stored_lent 1 4 24 r i ys (omega arith) (omega arith) e in
      let c : get_or t 0 0 ≡ get_or r 0 0 = first_kept r t (w.others 0 1 refl) in
      let n : get_or t 0 0 ≤ 24 = rw c h in
      reads_few t n
      ∙ ap₂ take c (w.own read_record no_read)
      ∙ rw q (take_put no_read (records r) (get_or r 0 0) i v k)
      ∙ ap (λ (x : List Read). put no_read x i v) (sym (reads_few r h))

  -- record c, and a count of c + 1
  reads_next : (c : ℕ) (ys : List ℕ) → c < 24 → length ys ≡ 4 → reads_in (set (lent 1 4 c r ys) 0 (c + 1)) ≡ take c (records r) ++ read_record ys ∷ []
  reads_next c ys h e =
      let t = lent 1 4 c r ys in
      let w = stored_lent 1 4 24 r c ys h (omega arith) e in
      let k : length t ≡ length r = length_lent 1 4 24 r c ys h (omega arith) e in
      let u = wrote_byte 0 t (c + 1) (omega arith) in
      let b : get_or (set t 0 (c + 1)) 0 0 ≡ c + 1 = get_or-set_same t 0 (c + 1) 0 (omega arith) in
      let n : get_or (set t 0 (c + 1)) 0 0 ≤ 24 = omega arith in
      reads_few (set t 0 (c + 1)) n
      ∙ ap₂ take (b ∙ add-one c) (ap (table read_record 4 24) (u.others 1 97 refl) ∙ w.own read_record no_read)
      ∙ take_more no_read (records r) c (read_record ys) (rw (length_table read_record 4 24 (cut 1 97 r)) h)

  -- one read more
  pub reads_more : (ys : List ℕ) (v : Read) → get_or r 0 0 < 24 → length ys ≡ 4 → read_record ys ≡ v
      → reads_in (set (lent 1 4 (get_or r 0 0) r ys) 0 (get_or r 0 0 + 1)) ≡ reads_in r ++ v ∷ []
  reads_more ys v h e q =
      let n : get_or r 0 0 ≤ 24 = omega arith in
      reads_next (get_or r 0 0) ys h e ∙ ap₂ (λ (x : List Read) (y : Read). x ++ y ∷ []) (sym (reads_few r n)) q

  -- a count past the table, written as what it reads as
  pub reads_settled : 24 < get_or r 0 0
      → (reads_in (set (splice r 1 4 (255 ∷ 0 ∷ 0 ∷ 0 ∷ [])) 0 1) ≡ reads_in r) × (get_or (set (splice r 1 4 (255 ∷ 0 ∷ 0 ∷ 0 ∷ [])) 0 1) 0 0 ≤ 24)
  unfolding read_record
  reads_settled h =
      let t = splice r 1 4 (255 ∷ 0 ∷ 0 ∷ 0 ∷ []) in
      let k : length t ≡ length r = length_splice r 1 4 (255 ∷ 0 ∷ 0 ∷ 0 ∷ []) (omega arith) refl in
      (reads_next 0 (255 ∷ 0 ∷ 0 ∷ 0 ∷ []) (omega arith) refl ∙ sym (reads_many r h), omega (arith, get_or-set_same t 0 1 0 (omega arith)))
