-- What a queue holds, by its head and its count, and what each change of it does to that.
use Rattle.std.specs.Prelude.{◌≡◌, refl, ◌≢◌, true, false, List, [], ◌∷◌, ◌++◌, ℕ, zero, suc, ◌+◌, ◌-◌, ◌%◌, ◌≤◌, ◌<◌, eqb, ltb, leb, length, drop}
use Rattle.std.proofs.Math.Path.{sym, ap}
use Rattle.std.proofs.Common.{◌∙◌, mod-lt, mod-eq_of_lt, add-one, arith, ltb-true, leb-true, lt-ltb, le-leb}
use Rattle.std.proofs.lemmas.Bool.{eqb-false}
use Rattle.rules.specs.Table.{get}
use Rattle.laws.specs.Table.{by_bool, and_left, and_right, and_both}
use Rattle.queue.specs.declared.capacity.Queue.{Queue}
use Rattle.queue.specs.Ring.{ring, length_ring, get_ring, ring_same, ring_pop, ring_push, ring_front}
use Rattle.queue.specs.Queue.{sound, place_of, pushed, popped, settled, held}

-- a queue is sound, by its head and its count
pub sound_head : (q : Queue) → sound q ≡ true → q.head < q.capacity
sound_head q e = ltb-true q.head q.capacity (and_left (ltb q.head q.capacity) (leb q.count q.capacity) e)

pub sound_count : (q : Queue) → sound q ≡ true → q.count ≤ q.capacity
sound_count q e = leb-true q.count q.capacity (and_right (ltb q.head q.capacity) (leb q.count q.capacity) e)

sound_by : (q : Queue) → q.head < q.capacity → q.count ≤ q.capacity → sound q ≡ true
sound_by q h c = and_both (ltb q.head q.capacity) (leb q.count q.capacity) (lt-ltb q.head q.capacity h) (le-leb q.count q.capacity c)

-- something waits in a queue that is not empty
pub some_left : (n : ℕ) → eqb n 0 ≡ false → 0 < n
some_left zero e = absurd (eqb-false 0 0 e refl)
some_left (suc n) e = omega arith

pub settled_not : (q : Queue) → sound q ≡ false → settled q ≡ record { head = 0; count = 1; capacity = q.capacity }
settled_not q e = rw e

pub settled_capacity : (q : Queue) → (settled q).capacity ≡ q.capacity
settled_capacity q = by_bool (sound q) (λ e. rw e) (λ e. rw e)

pub settled_sound : (q : Queue) → 0 < q.capacity → sound (settled q) ≡ true
settled_sound q z =
    let s : Queue = record { head = 0; count = 1; capacity = q.capacity } in
    by_bool (sound q) (λ e. rw e e) (λ e. rw e (sound_by s z z))

module _ {A : Type 0} (bad : A) where
  -- one that is not
  pub held_bad : (at : ℕ → A) (q : Queue) → sound q ≡ false → held bad at q ≡ bad ∷ []
  unfolding held
  held_bad at q e = rw e

  held_ring : (at : ℕ → A) (q : Queue) → sound q ≡ true → held bad at q ≡ ring at q.capacity q.head q.count
  unfolding held
  held_ring at q e = rw e

  module _ (at : ℕ → A) (q : Queue) (e : sound q ≡ true) where
    pub held_length : length (held bad at q) ≡ q.count
    held_length = ap length (held_ring at q e) ∙ length_ring at q.capacity q.head q.count

    pub held_none : q.count ≡ 0 → held bad at q ≡ []
    unfolding ring
    held_none z = held_ring at q e ∙ ap (ring at q.capacity q.head) z

    -- the one i behind the oldest
    pub held_entry : (d : A) (i : ℕ) → i < q.count → get d (held bad at q) i ≡ at (place_of q i)
    held_entry d i l = ap (λ (x : List A). get d x i) (held_ring at q e) ∙ get_ring at q.capacity q.head q.count i d l

    -- the oldest has gone
    pub held_popped : 0 < q.count → held bad at (popped q) ≡ drop 1 (held bad at q)
    held_popped l =
        let n = q.capacity in
        let h = q.head in
        let c = q.count - 1 in
        let z : 0 < n = omega (arith, sound_head q e) in
        let k : suc c ≡ q.count = omega arith in
        held_ring at (popped q) (sound_by (popped q) (mod-lt (h + 1) z) (omega (arith, sound_count q e)))
        ∙ ap (λ (x : ℕ). ring at n (x % n) c) (add-one h)
        ∙ ring_pop at n h c
        ∙ ap (drop 1) (ap (ring at n h) k ∙ sym (held_ring at q e))

    -- one more, at the place behind the last
    pub held_pushed : (bt : ℕ → A) (v : A) → q.count < q.capacity → ((k : ℕ) → k ≢ place_of q q.count → bt k ≡ at k) → bt (place_of q q.count) ≡ v
        → held bad bt (pushed q) ≡ held bad at q ++ v ∷ []
    held_pushed bt v l o w =
        let n = q.capacity in
        let h = q.head in
        let c = q.count in
        held_ring bt (pushed q) (sound_by (pushed q) (sound_head q e) (omega arith))
        ∙ ap (ring bt n h) (add-one c)
        ∙ ring_push at bt n h c v l o w
        ∙ ap (λ (x : List A). x ++ v ∷ []) (sym (held_ring at q e))

    -- another for the oldest
    pub held_front : (bt : ℕ → A) (v : A) → 0 < q.count → ((k : ℕ) → k ≢ place_of q 0 → bt k ≡ at k) → bt (place_of q 0) ≡ v
        → held bad bt q ≡ v ∷ drop 1 (held bad at q)
    held_front bt v l o w =
        held_ring bt q e ∙ ring_front at bt q.capacity q.head q.count v l (sound_count q e) o w
        ∙ ap (λ (x : List A). v ∷ drop 1 x) (sym (held_ring at q e))

  module _ (at : ℕ → A) (q : Queue) where
    -- how many, sound or not
    pub settled_length : (settled q).count ≡ length (held bad at q)
    settled_length = by_bool (sound q) (λ e. rw e (sym (held_length at q e))) (λ e. rw e (sym (ap length (held_bad at q e))))

    -- the same at every place that counts
    pub held_same : (bt : ℕ → A) → ((i : ℕ) → bt (place_of q i) ≡ at (place_of q i)) → held bad bt q ≡ held bad at q
    held_same bt o =
        by_bool (sound q)
        (λ e. held_ring bt q e ∙ ring_same bt at q.capacity q.head q.count (λ i l. o i) ∙ sym (held_ring at q e))
        (λ e. held_bad bt q e ∙ sym (held_bad at q e))

    -- a queue that is not sound, written as what it is read as
    pub held_settled : (bt : ℕ → A) → sound q ≡ false → 0 < q.capacity → bt 0 ≡ bad → held bad bt (settled q) ≡ held bad at q
    unfolding ring
    held_settled bt e z w =
        let s : Queue = record { head = 0; count = 1; capacity = q.capacity } in
        ap (held bad bt) (settled_not q e)
        ∙ held_ring bt s (sound_by s z z) ∙ ap (λ (x : ℕ). bt x ∷ []) (mod-eq_of_lt z) ∙ ap (λ (x : A). x ∷ []) w ∙ sym (held_bad at q e)
