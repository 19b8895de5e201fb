-- Small moves keep the ranges: a pipeline's entry, a port, a queue, waking, a number.
use Rattle.std.specs.Prelude.{◌≡◌, refl, ◌⊎◌, Bool, true, List, [], ℕ, ◌<◌, ◌≤◌, length}
use Rattle.std.proofs.Common.{sym, ap, ◌∙◌, inl, inr, arith}
use Rattle.rules.specs.Table.{get, put}
use Rattle.rules.specs.Plan.{root_of}
use Rattle.rules.specs.Machine.{Machine, Pipeline, Port, nobody, slot, pipe, Read, Output, node_at_place, slot_places, places, port_places, no_pipe, no_port, set_pipe, set_port, set_queue}
use Rattle.rules.specs.Check.{state_ok}
use Rattle.laws.specs.Table.{same, other, by_eq, put_length}
use Rattle.order.specs.Inv.{Live, There, pipe_of, state_of, inlets_of, reader_of}
use Rattle.order.specs.Ranged.{ListRange}
use Rattle.order.specs.Ranging.{PortBody, ReadBy, Ranging, body_alike, port_alike, queue_alike, queue_empty, sizes_alike, lists_alike}

-- what was written is read there
pub at_same : {A : Type 0} (d : A) (l : List A) (i j : ℕ) (v : A) → j ≡ i → get d (put d l i v) j ≡ v
at_same d l i j v e = rw (e, same)

module _ (lax : Type 0) (to : ℕ → ℕ → ℕ → Type 0) (m : Machine) (r : Ranging lax to m) where
  -- a pipeline's entry that stays in use or not, with a number and a state in range
  pub pipe_set : (p : ℕ) (v : Pipeline) → p < places → v.live ≡ (pipe_of m.pipes p).live
      → (Live m.pipes p → (v.number < m.made) ⊎ (lax × (v.number ≡ 0)))
      → (Live m.pipes p → state_ok p (length (inlets_of m.inlets p)) v.state ≡ true)
      → Ranging lax to (set_pipe p v m)
  pipe_set p v h e n s = record {
    job = r.job;
    sizes = sizes_alike m _ r.sizes (put_length no_pipe m.pipes p v (rw r.sizes.pipes h)) refl refl refl refl refl refl refl refl refl refl refl refl;
    lists = lists_alike m _ _ _ _ _ _ _ _ _ _ _ _ r.lists;
    pipes = λ q l. body_alike m (set_pipe p v m) q (search) (stated q (down q l)) (r.pipes q (down q l));
    numbers = λ q l. by_eq q p (λ i. rw (i, same) (n (rw i at (down q l)))) (λ d. rw other (r.numbers q (down q l)));
    ports = λ x t. port_alike m _ x refl (λ h. refl) (r.ports x t);
    readers = λ x q i t d. reads x q i (r.readers x q i t d);
    vacant = r.vacant;
    slots = r.slots;
    queues = λ x. queue_alike m _ x refl refl (r.queues x);
  }
    where
      down : (q : ℕ) → Live (put no_pipe m.pipes p v) q → Live m.pipes q
      down q l = by_eq q p (λ i. rw i (sym e ∙ (rw (i, same) at l))) (λ n. rw other at l)

      stated : (q : ℕ) → Live m.pipes q → state_ok q (length (inlets_of m.inlets q)) (state_of (put no_pipe m.pipes p v) q) ≡ true
      stated q l = by_eq q p
          (λ i. rw (ap (λ (w : Pipeline). w.state) (at_same no_pipe m.pipes p q v i), i) (s (rw i at l)))
          (λ d. rw (ap (λ (w : Pipeline). w.state) (other no_pipe m.pipes p q v d)) (r.pipes q l).state)

      up : (q : ℕ) → Live m.pipes q → Live (put no_pipe m.pipes p v) q
      up q l = by_eq q p (λ i. rw (i, same) (e ∙ (rw i at l))) (λ n. rw other l)

      reads : (x q i : ℕ) → ReadBy m x q i ⊎ to x q i → ReadBy (set_pipe p v m) x q i ⊎ to x q i
      reads x q i (inl a) = inl (a.0, up q a.1, a.2)
      reads x q i (inr a) = inr a

  -- a port with its place and its reader in range
  pub port_set : (to' : ℕ → ℕ → ℕ → Type 0) (x : ℕ) (v : Port) → x < port_places → ((y p i : ℕ) → to y p i → to' y p i)
      → (v.there ≡ true → PortBody m x)
      → ((p i : ℕ) → v.there ≡ true → v.reader ≡ pipe p i → ReadBy m x p i ⊎ to' x p i)
      → (v.there ≡ true → v.reader ≡ slot → (x < slot_places) × (node_at_place x ≡ root_of m.job))
      → (v.there ≡ true) ⊎ (v.reader ≡ nobody)
      → Ranging lax to' (set_port x v m)
  port_set to' x v h w b a s n = record {
    job = r.job;
    sizes = sizes_alike m _ r.sizes refl refl refl refl refl refl refl refl (put_length no_port m.ports x v (rw r.sizes.ports h)) refl refl refl refl;
    lists = lists_alike m _ _ _ _ _ _ _ _ _ _ _ _ r.lists;
    pipes = λ q l. body_alike m (set_port x v m) q (search) (r.pipes q l).state (r.pipes q l);
    numbers = r.numbers;
    ports = λ y t. port_alike m (set_port x v m) y refl (λ h. refl) (by_eq y x (λ i. rw i (b (rw (i, same) at t))) (λ d. r.ports y (rw other at t)));
    vacant = λ y. by_eq y x (λ d. rw (d, same, ap (λ (w : Port). w.reader) (same no_port m.ports x v)) n) (λ d. rw (other, ap (λ (w : Port). w.reader) (other no_port m.ports x y v d)) (r.vacant y));
    readers = reads;
    slots = slotted;
    queues = λ y. queue_alike m _ y refl refl (r.queues y);
  }
    where
      wide : (y p i : ℕ) → ReadBy m y p i ⊎ to y p i → ReadBy m y p i ⊎ to' y p i
      wide y p i (inl c) = inl c
      wide y p i (inr c) = inr (w y p i c)

      reads : (y p i : ℕ) → There (put no_port m.ports x v) y → reader_of (put no_port m.ports x v) y ≡ pipe p i → ReadBy m y p i ⊎ to' y p i
      reads y p i t e = by_eq y x (λ d. rw d (a p i (rw (d, same) at t) (sym (ap (λ (w : Port). w.reader) (at_same no_port m.ports x y v d)) ∙ e))) (λ d. wide y p i (r.readers y p i (rw other at t) (sym (ap (λ (w : Port). w.reader) (other no_port m.ports x y v d)) ∙ e)))

      slotted : (y : ℕ) → There (put no_port m.ports x v) y → reader_of (put no_port m.ports x v) y ≡ slot → (y < slot_places) × (node_at_place y ≡ root_of m.job)
      slotted y t e = by_eq y x (λ d. rw d (s (rw (d, same) at t) (sym (ap (λ (w : Port). w.reader) (at_same no_port m.ports x y v d)) ∙ e))) (λ d. r.slots y (rw other at t) (sym (ap (λ (w : Port). w.reader) (other no_port m.ports x y v d)) ∙ e))

  -- a queue that is emptied
  pub queue_clear : (x : ℕ) → x < port_places → Ranging lax to (set_queue x [] m)
  queue_clear x h = record {
    job = r.job;
    sizes = sizes_alike m _ r.sizes refl refl refl refl refl refl refl refl refl (put_length [] m.queues x [] (rw r.sizes.queues h)) refl refl refl;
    lists = lists_alike m _ _ _ _ _ _ _ _ _ _ _ _ r.lists;
    pipes = λ q l. body_alike m (set_queue x [] m) q (search) (r.pipes q l).state (r.pipes q l);
    numbers = r.numbers;
    ports = λ y t. port_alike m _ y refl (λ h. refl) (r.ports y t);
    readers = r.readers;
    vacant = r.vacant;
    slots = r.slots;
    queues = λ y. by_eq y x (λ e. queue_empty (set_queue x [] m) y (rw (e, same))) (λ n. queue_alike m (set_queue x [] m) y refl (rw other) (r.queues y));
  }

  -- other lists, in range
  pub lists_set : (ready freed : List ℕ) (made : ℕ) (reads : List Read) (news dirty : List ℕ) (next : ℕ) (fin unb : List Bool) (outs : List Output) (f : Bool)
      → m.made ≤ made → length fin ≡ length m.finished → length unb ≡ length m.unbuilt
      → ListRange (record { job = m.job; pipes = m.pipes; sources = m.sources; stages = m.stages; inlets = m.inlets; touched = m.touched; changed = m.changed; waits = m.waits; seen = m.seen; ports = m.ports; queues = m.queues; ready = ready; freed = freed; made = made; reads = reads; news = news; dirty = dirty; next = next; active = m.active; finished = fin; unbuilt = unb; outputs = outs; fault = f })
      → Ranging lax to (record { job = m.job; pipes = m.pipes; sources = m.sources; stages = m.stages; inlets = m.inlets; touched = m.touched; changed = m.changed; waits = m.waits; seen = m.seen; ports = m.ports; queues = m.queues; ready = ready; freed = freed; made = made; reads = reads; news = news; dirty = dirty; next = next; active = m.active; finished = fin; unbuilt = unb; outputs = outs; fault = f })
  lists_set ready freed made reads news dirty next fin unb outs f h a b l = record {
    job = r.job;
    sizes = sizes_alike m _ r.sizes refl refl refl refl refl refl refl refl refl refl refl a b;
    lists = l;
    pipes = λ q k. body_alike m _ q (search) (r.pipes q k).state (r.pipes q k);
    numbers = λ q k. more q (r.numbers q k);
    ports = λ y t. port_alike m _ y refl (λ h. refl) (r.ports y t);
    readers = r.readers;
    vacant = r.vacant;
    slots = r.slots;
    queues = λ y. queue_alike m _ y refl refl (r.queues y);
  }
    where
      more : (q : ℕ) → ((pipe_of m.pipes q).number < m.made) ⊎ (lax × ((pipe_of m.pipes q).number ≡ 0)) → ((pipe_of m.pipes q).number < made) ⊎ (lax × ((pipe_of m.pipes q).number ≡ 0))
      more q (inl c) = inl (omega arith)
      more q (inr c) = inr c
