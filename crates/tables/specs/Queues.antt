-- The queues of a state: what a bounded port's ring and a shared port's flag say, and what a store to them leaves.
use Prim.Native.Nat.{ℕ, zero, suc, ◌+◌, ◌*◌, ◌-◌, ◌%◌, ◌≤◌, ◌<◌}
use native.Mathlib.Omega.{arith}
use Rattle.std.specs.Prelude.{◌≡◌, ◌≢◌, Bool, get_or, take, drop}
use Rattle.std.proofs.Math.Path.{refl, sym, ap, ap₂}
use Rattle.std.proofs.Common.{◌∙◌, length-take-le, take_at, drop_at}
use Rattle.std.proofs.Math.Bool.{false}
use mathlib.Core.List.{List, [], ◌∷◌, ◌++◌}
use Rattle.std.proofs.Math.ListN.{length, set, length-append}
use Rattle.rules.specs.Table.{get, put}
use Rattle.rules.specs.Job.{Job}
use Rattle.rules.specs.Port.{Batch, no_batch, capacity}
use Rattle.rules.specs.Machine.{queue_at, set_queue}
use Rattle.laws.specs.Table.{other, get_front}
use Rattle.queue.specs.Held.{held_same}
use Rattle.layout.specs.Numbers.{byte, flag}
use Rattle.layout.specs.Cut.{cut}
use Rattle.layout.specs.Records.{table, length_table}
use Rattle.layout.specs.Stored.{stored_lent, stored_byte, lent, loaded, first_at}
use Rattle.tables.specs.Decode.{batch, flag_record}
use Rattle.tables.specs.View.{indexed, ring_of, queue_from, share_from, self, queues_from, view, machine_len, Sized}
use Rattle.tables.specs.Indexed.{get_behind, put_front, put_behind, length_indexed, indexed_get, indexed_put}
use Rattle.tables.specs.Written.{Leaves}
use Rattle.tables.specs.Inner.{length_lent}

-- the batches at the places of all bounded ports
abbrev pub batches_of : List ℕ → List Batch
batches_of s = table batch 37 576 (cut 18015 39327 s)

module _ {A : Type 0} where
  -- an entry that is put back
  pub put_own : (d : A) (l : List A) (i : ℕ) → i < length l → put d l i (get d l i) ≡ l
  put_own d [] i h = absurd (omega arith)
  put_own d (x ∷ l) zero h = refl
  put_own d (x ∷ l) (suc i) h = ap (λ (r : List A). x ∷ r) (put_own d l i (omega arith))

-- what was lent and came back is there
pub lent_back : (base size i : ℕ) (s ys : List ℕ) → base + i * size ≤ length s → length ys ≡ size →
    take size (drop (base + i * size) (lent base size i s ys)) ≡ ys
lent_back base size i s ys h e =
    let a : ℕ = base + i * size in
    ap (take size) (drop_at (take a s) (ys ++ drop (a + size - a) (drop a s)) a (length-take-le a s h)) ∙ take_at ys (drop (a + size - a) (drop a s)) size e

-- another port's batch
pub queue_other : (bs : List Batch) (x k : ℕ) (v : Batch) (n : ℕ) (h : List ℕ) → k < capacity → n ≢ x →
    queue_from (put no_batch bs (capacity * x + k) v) n h ≡ queue_from bs n h
unfolding queue_from
queue_other bs x k v n h l e =
    held_same no_batch (λ j. get no_batch bs (capacity * n + j)) (ring_of capacity h) (λ j. get no_batch (put no_batch bs (capacity * x + k) v) (capacity * n + j))
    (λ i. other no_batch bs (capacity * x + k) (capacity * n + (byte h 0 + i) % capacity) v (λ q. omega arith))

module _ (j : Job) (rings full bs : List ℕ) where
  -- the rings come first, 72 of them
  length_rings : length (indexed (queue_from (table batch 37 576 bs)) 0 (table self 2 72 rings)) ≡ 72
  length_rings = length_indexed (queue_from (table batch 37 576 bs)) 0 (table self 2 72 rings) ∙ length_table self 2 72 rings

  -- the queue of a bounded port
  pub queues_get : (x : ℕ) → x < 72 → get [] (queues_from j rings full bs) x ≡ queue_from (table batch 37 576 bs) x (get [] (table self 2 72 rings) x)
  unfolding queues_from
  queues_get x h =
      let f = queue_from (table batch 37 576 bs) in
      let t = table self 2 72 rings in
      let z : 0 + x ≡ x = omega arith in
      get_front [] (indexed f 0 t) (indexed (share_from j) 0 (table flag_record 1 384 full)) x (omega (arith, length_rings))
      ∙ indexed_get f 0 t x [] [] (omega (arith, length_table self 2 72 rings))
      ∙ ap (λ (n : ℕ). f n (get [] t x)) z

  -- the queue of a shared port
  pub queues_share : (i : ℕ) → i < 384 → get [] (queues_from j rings full bs) (72 + i) ≡ share_from j i (get false (table flag_record 1 384 full) i)
  unfolding queues_from
  queues_share i h =
      let a = indexed (queue_from (table batch 37 576 bs)) 0 (table self 2 72 rings) in
      let t = table flag_record 1 384 full in
      let z : 0 + i ≡ i = omega arith in
      ap (λ (n : ℕ). get [] (a ++ indexed (share_from j) 0 t) (n + i)) (sym length_rings)
      ∙ get_behind [] a (indexed (share_from j) 0 t) i
      ∙ indexed_get (share_from j) 0 t i [] false (omega (arith, length_table flag_record 1 384 full))
      ∙ ap (λ (n : ℕ). share_from j n (get false t i)) z

  -- another ring at x, and other batches, which only x's ring shows
  pub queues_put : (rings' bs' : List ℕ) (x : ℕ) (h : List ℕ) → x < 72 → table self 2 72 rings' ≡ put [] (table self 2 72 rings) x h
      → ((n : ℕ) (r : List ℕ) → n ≢ x → queue_from (table batch 37 576 bs') n r ≡ queue_from (table batch 37 576 bs) n r)
      → queues_from j rings' full bs' ≡ put [] (queues_from j rings full bs) x (queue_from (table batch 37 576 bs') x h)
  unfolding queues_from
  queues_put rings' bs' x h l e o =
      let f = queue_from (table batch 37 576 bs) in
      let g = queue_from (table batch 37 576 bs') in
      let t = table self 2 72 rings in
      let c = indexed (share_from j) 0 (table flag_record 1 384 full) in
      let z : 0 + x ≡ x = omega arith in
      ap (λ (r : List (List ℕ)). indexed g 0 r ++ c) e
      ∙ ap (λ (r : List (List Batch)). r ++ c) (indexed_put f g 0 t x h [] [] (omega (arith, length_table self 2 72 rings))
      (λ n r q. o n r (λ p. q (p ∙ sym z))))
      ∙ ap (λ (n : ℕ). put [] (indexed f 0 t) x (g n h) ++ c) z
      ∙ sym (put_front [] (indexed f 0 t) c x (g x h) (omega (arith, length_rings)))

  -- another flag
  pub shares_put : (full' : List ℕ) (i : ℕ) (b : Bool) → i < 384 → table flag_record 1 384 full' ≡ put false (table flag_record 1 384 full) i b
      → queues_from j rings full' bs ≡ put [] (queues_from j rings full bs) (72 + i) (share_from j i b)
  unfolding queues_from
  shares_put full' i b l e =
      let a = indexed (queue_from (table batch 37 576 bs)) 0 (table self 2 72 rings) in
      let t = table flag_record 1 384 full in
      let z : 0 + i ≡ i = omega arith in
      ap (λ (r : List Bool). a ++ indexed (share_from j) 0 r) e
      ∙ ap (λ (r : List (List Batch)). a ++ r) (indexed_put (share_from j) (share_from j) 0 t i b [] false (omega (arith, length_table flag_record 1 384 full))
      (λ n r q. refl))
      ∙ ap (λ (n : ℕ). a ++ put [] (indexed (share_from j) 0 t) i (share_from j n b)) z
      ∙ sym (put_behind [] a (indexed (share_from j) 0 t) i (share_from j i b))
      ∙ ap (λ (n : ℕ). put [] (a ++ indexed (share_from j) 0 t) (n + i) (share_from j i b)) length_rings

module _ (s : List ℕ) (z : Sized s) where
  -- the queue of bounded port x, by its ring's two bytes
  pub queue_loaded : (x : ℕ) → x < 72 → queue_at (view s) x ≡ queue_from (batches_of s) x (take 2 (drop (17487 + x * 2) s))
  unfolding view
  queue_loaded x h =
      queues_get (view s).job (cut 17487 17631 s) (cut 17631 18015 s) (cut 18015 39327 s) x h
      ∙ ap (queue_from (batches_of s) x) (loaded self 17487 2 72 s x [] h (omega arith))

  -- batch number n of all
  pub batch_loaded : (n : ℕ) → n < 576 → get no_batch (batches_of s) n ≡ batch (take 37 (drop (18015 + n * 37) s))
  batch_loaded n h = loaded batch 18015 37 576 s n no_batch h (omega arith)

  -- the queue of a shared port, by its flag
  pub share_loaded : (i : ℕ) → i < 384 → queue_at (view s) (72 + i) ≡ share_from (view s).job i (flag (get_or s (17631 + i) 0))
  unfolding view flag_record
  share_loaded i h =
      let one : i * 1 ≡ i = omega arith in
      queues_share (view s).job (cut 17487 17631 s) (cut 17631 18015 s) (cut 18015 39327 s) i h
      ∙ ap (share_from (view s).job i) (loaded flag_record 17631 1 384 s i false h (omega arith) ∙ simp (first_at, one))

  -- a store of a ring's head and count
  pub ring_written : (x : ℕ) (ys : List ℕ) → x < 72 → length ys ≡ 2 → Leaves s (lent 17487 2 x s ys) (set_queue x (queue_from (batches_of s) x ys) (view s))
  unfolding view
  ring_written x ys h l =
      let t = lent 17487 2 x s ys in
      let w = stored_lent 17487 2 72 s x ys h (omega arith) l in
      let q = queues_put (view s).job (cut 17487 17631 s) (cut 17631 18015 s) (cut 18015 39327 s) (cut 17487 17631 t) (cut 18015 39327 s) x ys h
      (w.own self []) (λ n r e. refl) in
      (simp (w.others, q), w.past machine_len refl)

  -- a store of the batch at place k of port x
  pub batch_written : (x k : ℕ) (ys : List ℕ) (v : Batch) → x < 72 → k < capacity → length ys ≡ 37 → batch ys ≡ v
      → Leaves s (lent 18015 37 (capacity * x + k) s ys)
      (set_queue x (queue_from (put no_batch (batches_of s) (capacity * x + k) v) x (take 2 (drop (17487 + x * 2) s))) (view s))
  unfolding view
  batch_written x k ys v h d l e =
      let t = lent 18015 37 (capacity * x + k) s ys in
      let w = stored_lent 18015 37 576 s (capacity * x + k) ys (omega arith) (omega arith) l in
      let b : batches_of t ≡ put no_batch (batches_of s) (capacity * x + k) v = w.own batch no_batch ∙ ap (put no_batch (batches_of s) (capacity * x + k)) e in
      let r = loaded self 17487 2 72 s x [] h (omega arith) in
      let same = put_own [] (table self 2 72 (cut 17487 17631 s)) x (omega (arith, length_table self 2 72 (cut 17487 17631 s))) in
      let q = queues_put (view s).job (cut 17487 17631 s) (cut 17631 18015 s) (cut 18015 39327 s) (cut 17487 17631 s) (cut 18015 39327 t) x
      (take 2 (drop (17487 + x * 2) s)) h
      (sym (rw r at same)) (λ n g p. rw b (queue_other (batches_of s) x k v n g d p)) in
      (simp (w.others, q, b), w.past machine_len refl)

  -- a store of the batch at place k of port x, then of the ring's head and count
  pub both_written : (x k : ℕ) (ys : List ℕ) (v : Batch) (hs : List ℕ) → x < 72 → k < capacity → length ys ≡ 37 → batch ys ≡ v → length hs ≡ 2
      → Leaves s (lent 17487 2 x (lent 18015 37 (capacity * x + k) s ys) hs)
      (set_queue x (queue_from (put no_batch (batches_of s) (capacity * x + k) v) x hs) (view s))
  unfolding view
  both_written x k ys v hs h d l e m =
      let t = lent 18015 37 (capacity * x + k) s ys in
      let u = lent 17487 2 x t hs in
      let w = stored_lent 18015 37 576 s (capacity * x + k) ys (omega arith) (omega arith) l in
      let n : length t ≡ length s = length_lent 18015 37 576 s (capacity * x + k) ys (omega arith) (omega arith) l in
      let o = stored_lent 17487 2 72 t x hs h (omega (arith, n)) m in
      let b : batches_of t ≡ put no_batch (batches_of s) (capacity * x + k) v = w.own batch no_batch ∙ ap (put no_batch (batches_of s) (capacity * x + k)) e in
      let r : table self 2 72 (cut 17487 17631 u) ≡ put [] (table self 2 72 (cut 17487 17631 s)) x hs =
      o.own self [] ∙ ap (λ (c : List ℕ). put [] (table self 2 72 c) x hs) (w.others 17487 17631 refl) in
      let q = queues_put (view s).job (cut 17487 17631 s) (cut 17631 18015 s) (cut 18015 39327 s) (cut 17487 17631 u) (cut 18015 39327 t) x hs h
      r (λ i g p. rw b (queue_other (batches_of s) x k v i g d p)) in
      (simp (o.others, w.others, q, b), o.past machine_len refl ∙ w.past machine_len refl)

  -- a store of a shared port's flag
  pub share_written : (i b : ℕ) → i < 384 → Leaves s (set s (17631 + i) b) (set_queue (72 + i) (share_from (view s).job i (flag b)) (view s))
  unfolding view flag_record
  share_written i b h =
      let t = set s (17631 + i) b in
      let w = stored_byte 17631 384 s i b h (omega arith) in
      let q = shares_put (view s).job (cut 17487 17631 s) (cut 17631 18015 s) (cut 18015 39327 s) (cut 17631 18015 t) i (flag b) h (w.own flag_record false) in
      (simp (w.others, q), w.past machine_len refl)

  -- as many queues as ports
  pub length_queues : length (view s).queues ≡ 456
  unfolding view queues_from
  length_queues =
      let a = indexed (queue_from (batches_of s)) 0 (table self 2 72 (cut 17487 17631 s)) in
      let b = indexed (share_from (view s).job) 0 (table flag_record 1 384 (cut 17631 18015 s)) in
      length-append a b
      ∙ ap₂ ◌+◌ (length_rings (view s).job (cut 17487 17631 s) (cut 17631 18015 s) (cut 18015 39327 s))
      (length_indexed (share_from (view s).job) 0 (table flag_record 1 384 (cut 17631 18015 s)) ∙ length_table flag_record 1 384 (cut 17631 18015 s))

  -- a queue that is put back
  pub queue_own : (x : ℕ) → x < 456 → set_queue x (queue_at (view s) x) (view s) ≡ view s
  queue_own x h = rw (put_own [] (view s).queues x (omega (arith, length_queues)))
