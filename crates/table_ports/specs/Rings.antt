-- What a change of a bounded port's ring does to its queue: one batch more at the end, the oldest gone, another oldest.
use Rattle.std.specs.Prelude.{ℕ, ◌+◌, ◌*◌, ◌<◌, ◌≡◌, true, List, [], ◌∷◌, ◌++◌, drop}
use Rattle.std.proofs.Common.{arith, sym, ap, ◌∙◌}
use Rattle.rules.specs.Table.{get, put}
use Rattle.rules.specs.Port.{Batch, no_batch, capacity}
use Rattle.laws.specs.Table.{same, other}
use Rattle.queue.specs.declared.capacity.Queue.{Queue}
use Rattle.queue.specs.Queue.{sound, place_of, pushed, popped, held}
use Rattle.queue.specs.Held.{held_popped, held_pushed, held_front}
use Rattle.tables.specs.View.{ring_of, queue_from}

-- the two bytes of a ring
abbrev pub bytes_of : Queue → List ℕ
bytes_of q = q.head ∷ q.count ∷ []

-- what stands at the places of port x
abbrev pub at : List Batch → ℕ → ℕ → Batch
at bs x k = get no_batch bs (capacity * x + k)

-- the queue of a ring
pub queue_held : (bs : List Batch) (x : ℕ) (q : Queue) → q.capacity ≡ capacity → queue_from bs x (bytes_of q) ≡ held no_batch (at bs x) q
unfolding queue_from
queue_held bs x q f = ap (held no_batch (at bs x)) (λ i. record { head = q.head; count = q.count; capacity = sym f i })

module _ (bs : List Batch) (x : ℕ) (q : Queue) (f : q.capacity ≡ capacity) (e : sound q ≡ true) where
  -- a batch is written to the place behind the last, and counted
  pub queue_push : (v : Batch) → q.count < capacity
      → queue_from (put no_batch bs (capacity * x + place_of q q.count) v) x (bytes_of (pushed q)) ≡ held no_batch (at bs x) q ++ v ∷ []
  queue_push v l =
      let p : ℕ = capacity * x + place_of q q.count in
      queue_held (put no_batch bs p v) x (pushed q) f
      ∙ held_pushed no_batch (at bs x) q e (at (put no_batch bs p v) x) v (omega arith)
      (λ k d. other no_batch bs p (capacity * x + k) v (λ g. d (omega arith))) (same no_batch bs p v)

  -- the head moves on
  pub queue_pop : 0 < q.count → queue_from bs x (bytes_of (popped q)) ≡ drop 1 (held no_batch (at bs x) q)
  queue_pop l = queue_held bs x (popped q) f ∙ held_popped no_batch (at bs x) q e l

  -- a batch is written to the oldest's place
  pub queue_front : (v : Batch) → 0 < q.count
      → queue_from (put no_batch bs (capacity * x + place_of q 0) v) x (bytes_of q) ≡ v ∷ drop 1 (held no_batch (at bs x) q)
  queue_front v l =
      let p : ℕ = capacity * x + place_of q 0 in
      queue_held (put no_batch bs p v) x q f
      ∙ held_front no_batch (at bs x) q e (at (put no_batch bs p v) x) v l
      (λ k d. other no_batch bs p (capacity * x + k) v (λ g. d (omega arith))) (same no_batch bs p v)

-- bytes that are a ring's
pub ring_back : (q : Queue) → q.capacity ≡ capacity → (r : List ℕ) → r ≡ bytes_of q → q ≡ ring_of capacity r
ring_back q f r e = (λ i. record { head = q.head; count = q.count; capacity = f i }) ∙ ap (ring_of capacity) (sym e)
