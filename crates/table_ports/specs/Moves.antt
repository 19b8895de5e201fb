-- What the bytes of a bounded port's queue say and what a store to them leaves, in the terms of the rules.
use Rattle.std.specs.Prelude.{ℕ, zero, suc, ◌+◌, ◌*◌, ◌-◌, ◌≤◌, ◌<◌, ◌≡◌, refl, true, false, List, [], ◌∷◌, ltb, get_or, take, drop, replicate}
use Rattle.std.proofs.Common.{mod-lt, arith, sym, ◌∙◌, drop-cons, lt-ltb, le-ltb}
use Rattle.std.proofs.Math.Path.{ap, ap₂}
use Rattle.std.proofs.Math.Bool.{◌||◌}
use Rattle.std.proofs.Math.Dec.{leb}
use Rattle.std.proofs.Math.ListN.{length}
use Rattle.rules.specs.Table.{get, put}
use Rattle.rules.specs.Port.{Batch, no_batch, capacity, row_limit, row_sum, is_full}
use Rattle.rules.specs.Machine.{Machine, queue_at, set_queue}
use Rattle.laws.specs.Table.{same}
use Rattle.batches.specs.Cells.{cells_of}
use Rattle.queue.specs.declared.capacity.Queue.{Queue}
use Rattle.queue.specs.Ring.{ring}
use Rattle.queue.specs.Queue.{fresh, sound, place_of, pushed, popped, settled, held}
use Rattle.queue.specs.Held.{sound_count, held_bad, held_length, held_none, held_entry, settled_not, settled_capacity, settled_sound, settled_length}
use Rattle.layout.specs.Cut.{cut}
use Rattle.layout.specs.Records.{table}
use Rattle.layout.specs.Stored.{lent}
use Rattle.tables.specs.Decode.{columns, batch}
use Rattle.tables.specs.Rings.{appended}
use Rattle.tables.specs.View.{ring_of, queue_from, view, machine_len, Sized}
use Rattle.tables.specs.Written.{Leaves}
use Rattle.tables.specs.Inner.{length_lent}
use Rattle.tables.specs.Queues.{lent_back, batches_of, queue_loaded, batch_loaded, ring_written, batch_written, both_written, queue_own}
use Rattle.table_ports.specs.Rings.{bytes_of, at, ring_back, queue_push, queue_pop, queue_front}

-- two bytes in a row
pub two_bytes : (s : List ℕ) (a : ℕ) → a + 1 < length s → take 2 (drop a s) ≡ get_or s a 0 ∷ get_or s (a + 1) 0 ∷ []
two_bytes s a h =
    let e : suc a ≡ a + 1 = omega arith in
    rw (drop-cons s a 0 (omega arith), drop-cons s (suc a) 0 (omega arith), e)

-- one batch, at the first place
queue_one : (bs : List Batch) (x : ℕ) (v : Batch) → queue_from (put no_batch bs (capacity * x + 0) v) x (0 ∷ 1 ∷ []) ≡ v ∷ []
unfolding queue_from held ring
queue_one bs x v = ap (λ (b : Batch). b ∷ []) (same no_batch bs (capacity * x + 0) v)

-- a batch of zeros has no rows
batch_zeros : batch (replicate 37 0) ≡ no_batch
unfolding batch columns table cut cells_of
batch_zeros = refl

-- what is read of a batch without rows, alone in a queue
pub get_none : (i : ℕ) → get no_batch (no_batch ∷ []) i ≡ no_batch
get_none zero = refl
get_none (suc i) = refl

-- the same bytes leave the same
pub leaves_of : (s t u : List ℕ) (m : Machine) → t ≡ u → Leaves s u m → Leaves s t m
leaves_of s t u m e w = (ap view e ∙ w.0, ap (drop machine_len) e ∙ w.1)

module _ (s : List ℕ) (z : Sized s) (x : ℕ) (b : x < 72) (q : Queue) (r : q ≡ ring_of capacity (take 2 (drop (17487 + x * 2) s))) where
  places : q.capacity ≡ capacity
  places = λ i. (r i).capacity

  ring_bytes : take 2 (drop (17487 + x * 2) s) ≡ bytes_of q
  ring_bytes =
      let w = two_bytes s (17487 + x * 2) (omega arith) in
      w ∙ sym (ap bytes_of (r ∙ ap (ring_of capacity) w))

  -- by the ring
  pub queue_is : queue_at (view s) x ≡ held no_batch (at (batches_of s) x) q
  unfolding queue_from
  queue_is = queue_loaded s z x b ∙ ap (held no_batch (at (batches_of s) x)) (sym r)

  -- a ring that is not sound
  pub bad_is : sound q ≡ false → queue_at (view s) x ≡ no_batch ∷ []
  bad_is e = queue_is ∙ held_bad no_batch (at (batches_of s) x) q e

  -- how many batches, be it sound or not
  pub count_is : (settled q).count ≡ length (queue_at (view s) x)
  count_is = settled_length no_batch (at (batches_of s) x) q ∙ ap length (sym queue_is)

  -- no more than there are places
  pub count_most : length (queue_at (view s) x) ≤ capacity
  count_most = omega (arith, count_is, sound_count (settled q) (settled_sound q (omega (arith, places))), settled_capacity q, places)

  -- whether they are as many as may be, or their rows
  pub full_is : (o : Queue) (n : ℕ) → o ≡ settled q → n ≡ row_sum (queue_at (view s) x)
      → (leb o.capacity o.count || leb row_limit n) ≡ is_full capacity (queue_at (view s) x)
  unfolding is_full
  full_is o n e r =
      let k : o.capacity ≡ capacity = (λ i. (e i).capacity) ∙ settled_capacity q ∙ places in
      let c : o.count ≡ length (queue_at (view s) x) = (λ i. (e i).count) ∙ count_is in
      ap₂ ◌||◌ (ap₂ leb k c) (ap (leb row_limit) r)

  module _ (e : sound q ≡ true) where
    -- the count is the queue's length
    pub length_is : length (queue_at (view s) x) ≡ q.count
    length_is = ap length queue_is ∙ held_length no_batch (at (batches_of s) x) q e

    -- batch number n is the one i behind the oldest: its bytes, by their ends
    pub entry_is : (i n : ℕ) → n ≡ capacity * x + place_of q i → n < 576 → i < length (queue_at (view s) x)
        → get no_batch (queue_at (view s) x) i ≡ batch (take (18015 + n * 37 + 37 - (18015 + n * 37)) (drop (18015 + n * 37) s))
    entry_is i n m l k =
        let w : 18015 + n * 37 + 37 - (18015 + n * 37) ≡ 37 = omega arith in
        rw w
        (ap (λ (y : List Batch). get no_batch y i) queue_is
        ∙ held_entry no_batch (at (batches_of s) x) q e no_batch i (omega (arith, length_is))
        ∙ ap (get no_batch (batches_of s)) (sym m)
        ∙ batch_loaded s z n l)

    -- a port with room for a batch
    pub room_is : q.count < capacity → ltb (length (queue_at (view s) x)) capacity ≡ true
    room_is l = rw length_is (lt-ltb q.count capacity l)

    -- a port without
    pub none_is : capacity ≤ q.count → ltb (length (queue_at (view s) x)) capacity ≡ false
    none_is l = rw length_is (le-ltb q.count capacity l)

    -- where a batch stands is one of the places
    place_below : (i : ℕ) → place_of q i < capacity
    place_below i = let w : place_of q i < q.capacity = mod-lt (q.head + i) (omega (arith, places)) in omega (arith, places)

    -- a batch at the place behind the last, and the count
    pub push_leaves : (ys : List ℕ) (v : Batch) → q.count < capacity → length ys ≡ 37 → batch ys ≡ v
        → (i n : ℕ) → i ≡ q.count → n ≡ capacity * x + place_of q i → (o : Queue) → o ≡ pushed q
        → (t : List ℕ) → t ≡ lent 17487 2 x (lent 18015 37 n s ys) (bytes_of o) → Leaves s t (set_queue x (appended capacity v (queue_at (view s) x)) (view s))
    push_leaves ys v l k w i n j m o g t h =
        let u = both_written s z x (place_of q q.count) ys v (bytes_of (pushed q)) b (place_below q.count) k w refl in
        let d : n ≡ capacity * x + place_of q q.count = m ∙ ap (λ (y : ℕ). capacity * x + place_of q y) j in
        leaves_of s t (lent 17487 2 x (lent 18015 37 (capacity * x + place_of q q.count) s ys) (bytes_of (pushed q))) _
        (h ∙ (λ i. lent 17487 2 x (lent 18015 37 (d i) s ys) (bytes_of (g i))))
        (rw (room_is l, queue_is) (rw (queue_push (batches_of s) x q places e v l) at u))

    -- no batch goes to a full port
    pub full_leaves : (v : Batch) → capacity ≤ q.count → Leaves s s (set_queue x (appended capacity v (queue_at (view s) x)) (view s))
    full_leaves v l = (rw (none_is l) (sym (queue_own s z x (omega arith))), refl)

    -- the head and the count without the oldest
    pub pop_leaves : 0 < q.count → (o : Queue) → o ≡ popped q → (t : List ℕ) → t ≡ lent 17487 2 x s (bytes_of o)
        → Leaves s t (set_queue x (drop 1 (queue_at (view s) x)) (view s))
    pop_leaves l o g t h =
        leaves_of s t (lent 17487 2 x s (bytes_of (popped q))) _ (h ∙ (λ i. lent 17487 2 x s (bytes_of (g i))))
        (rw queue_is (rw (queue_pop (batches_of s) x q places e l) at (ring_written s z x (bytes_of (popped q)) b refl)))

    -- another batch at the oldest's place
    pub front_leaves : (ys : List ℕ) (v : Batch) → 0 < length (queue_at (view s) x) → length ys ≡ 37 → batch ys ≡ v
        → (n : ℕ) → n ≡ capacity * x + place_of q 0 → Leaves s (lent 18015 37 n s ys) (set_queue x (v ∷ drop 1 (queue_at (view s) x)) (view s))
    front_leaves ys v k l w n m =
        let u = batch_written s z x (place_of q 0) ys v b (place_below 0) l w in
        let h = queue_front (batches_of s) x q places e v (omega (arith, length_is)) in
        leaves_of s (lent 18015 37 n s ys) (lent 18015 37 (capacity * x + place_of q 0) s ys) _ (λ i. lent 18015 37 (m i) s ys)
        (rw queue_is (rw (ring_bytes, h) at u))

    -- no batch goes where there is none
    pub none_leaves : q.count ≡ 0 → Leaves s s (set_queue x (drop 1 (queue_at (view s) x)) (view s))
    none_leaves w =
        let n : queue_at (view s) x ≡ [] = queue_is ∙ held_none no_batch (at (batches_of s) x) q e w in
        let d : drop 1 (queue_at (view s) x) ≡ queue_at (view s) x = rw n in
        (sym (rw d (queue_own s z x (omega arith))), refl)

  -- a ring that is not sound, as it should be
  pub settle_leaves : sound q ≡ false → (o : Queue) → o ≡ settled q
      → (t : List ℕ) → t ≡ lent 17487 2 x (lent 18015 37 (capacity * x) s (replicate 37 0)) (bytes_of o)
      → Leaves s t (view s) × (o ≡ ring_of capacity (take 2 (drop (17487 + x * 2) t))) × (sound o ≡ true)
  settle_leaves e o f t d =
      let k : capacity * x + 0 ≡ capacity * x = omega arith in
      let g = f ∙ settled_not q e in
      let w = both_written s z x 0 (replicate 37 0) no_batch (0 ∷ 1 ∷ []) b (omega arith) refl batch_zeros refl in
      let u = lent 18015 37 (capacity * x) s (replicate 37 0) in
      let l = length_lent 18015 37 576 s (capacity * x) (replicate 37 0) (omega arith) (omega arith) refl in
      let v = lent_back 17487 2 x u (bytes_of o) (omega (arith, l)) refl in (
        leaves_of s t (lent 17487 2 x u (0 ∷ 1 ∷ [])) (view s) (d ∙ (λ i. lent 17487 2 x u (bytes_of (g i))))
            (rw (queue_one (batches_of s) x no_batch, ← bad_is e, queue_own s z x (omega arith), k) at w),
        ring_back o ((λ i. (f i).capacity) ∙ settled_capacity q ∙ places) (take 2 (drop (17487 + x * 2) t))
            (ap (λ (r : List ℕ). take 2 (drop (17487 + x * 2) r)) d ∙ v),
        ap sound f ∙ settled_sound q (omega (arith, places)),
      )

-- what is left of bytes that read as others do
pub after_leaves : (s₀ s t : List ℕ) (f : Machine → Machine) → view s ≡ view s₀ → drop machine_len s ≡ drop machine_len s₀ → Leaves s t (f (view s)) →
    Leaves s₀ t (f (view s₀))
after_leaves s₀ s t f e d w = (w.0 ∙ ap f e, w.1 ∙ d)

-- a fresh queue holds no batch
pub clear_leaves : (s : List ℕ) → Sized s → (x : ℕ) → x < 72 → (o : Queue) → o ≡ fresh capacity → (t : List ℕ) → t ≡ lent 17487 2 x s (bytes_of o)
    → Leaves s t (set_queue x [] (view s))
unfolding queue_from held ring
clear_leaves s z x b o g t h =
    leaves_of s t (lent 17487 2 x s (0 ∷ 0 ∷ [])) (set_queue x [] (view s)) (h ∙ (λ i. lent 17487 2 x s (bytes_of (g i))))
    (ring_written s z x (0 ∷ 0 ∷ []) b refl)
