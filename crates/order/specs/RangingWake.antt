-- Waking, freeing a port and numbering a pipeline keep the ranges.
use Rattle.std.specs.Prelude.{◌≡◌, Bool, ◌&&◌, leb}
use Rattle.std.proofs.Math.Path.{refl, ap}
use Rattle.std.proofs.Math.Logic.{inl}
use Rattle.std.proofs.Common.{inr, leb-false}
use Rattle.std.proofs.Math.Bool.{true, not}
use mathlib.Core.List.{List, [], ◌∷◌}
use Prim.Native.Nat.{ℕ, suc, ◌<◌, ◌≤◌}
use native.Mathlib.Omega.{arith}
use Rattle.std.proofs.Math.ListN.{length}
use Rattle.rules.specs.Operators.{runnable}
use Rattle.rules.specs.Machine.{Machine, places, port_places, no_port, pipe_at, live, is_share_port, set_pipe, set_port, with_ready, with_freed, with_made, fault_if}
use Rattle.rules.specs.Ports.{free_port}
use Rattle.rules.specs.Wake.{with_state, with_queued, set_state, enqueue, make_runnable, wake_writer, at_outlet, any_full}
use Rattle.rules.specs.Pipelines.{numbered, take_number, add}
use Rattle.laws.specs.Table.{by_bool, clash}
use Rattle.laws.specs.Rows.{All}
use Rattle.laws.specs.KidPlaces.{All-map}
use Rattle.order.specs.Each.{both4}
use Rattle.order.specs.Ranged.{ListRange}
use Rattle.order.specs.Ranging.{Ranging, lists_alike}
use Rattle.order.specs.RangingMoves.{pipe_set, port_set, queue_clear, lists_set}

module _ (lax : Type 0) (to : ℕ → ℕ → ℕ → Type 0) where
  -- another ready stack
  pub ready_set : (m : Machine) (ps : List ℕ) → length ps ≤ places → All (λ p. p < places) ps → Ranging lax to m → Ranging lax to (with_ready ps m)
  ready_set m ps h a r = let l : ListRange m = r.lists in lists_set lax to m r _ _ _ _ _ _ _ _ _ _ _ (omega arith) refl refl (record {
    is_next = l.is_next;
    made = l.made;
    freed_size = l.freed_size;
    ready_size = h;
    reads_size = l.reads_size;
    news_size = l.news_size;
    dirty_size = l.dirty_size;
    outputs_size = l.outputs_size;
    active = l.active;
    freed = l.freed;
    ready = a;
    reads = l.reads;
    owners = l.owners;
    news = l.news;
    dirty = l.dirty;
    outputs = l.outputs;
    unbuilt = l.unbuilt;
  })

  -- other pipeline numbers
  pub freed_set : (m : Machine) (ns : List ℕ) (n : ℕ) → m.made ≤ n → n ≤ places → length ns ≤ places → All (λ k. k < n) ns → Ranging lax to m → Ranging lax to (with_made n (with_freed ns m))
  freed_set m ns n b h k a r = let l : ListRange m = r.lists in lists_set lax to m r _ _ _ _ _ _ _ _ _ _ _ b refl refl (record {
    is_next = l.is_next;
    made = h;
    freed_size = k;
    ready_size = l.ready_size;
    reads_size = l.reads_size;
    news_size = l.news_size;
    dirty_size = l.dirty_size;
    outputs_size = l.outputs_size;
    active = l.active;
    freed = a;
    ready = l.ready;
    reads = l.reads;
    owners = l.owners;
    news = l.news;
    dirty = l.dirty;
    outputs = l.outputs;
    unbuilt = l.unbuilt;
  })

  -- a fault
  pub fault_set : (m : Machine) (b : Bool) → Ranging lax to m → Ranging lax to (fault_if b m)
  fault_set m b r = lists_set lax to m r _ _ _ _ _ _ _ _ _ _ _ (omega arith) refl refl (lists_alike m _ _ _ _ _ _ _ _ _ _ _ _ r.lists)

  enqueue_ranging : (m : Machine) (p : ℕ) → p < places → Ranging lax to m → Ranging lax to (enqueue p m)
  enqueue_ranging m p h r = by_bool (leb places (length m.ready))
      (λ e. rw (e, enqueue) (fault_set m true r))
      (λ e. rw (e, enqueue) (ready_set (set_pipe p (with_queued true (pipe_at m p)) m) (p ∷ m.ready) (leb-false places (length m.ready) e) (h, r.lists.ready)
      (pipe_set lax to m r p (with_queued true (pipe_at m p)) h refl (λ l. r.numbers p l) (λ l. (r.pipes p l).state))))

  -- a pipeline made runnable
  pub runnable_ranging : (m : Machine) (p : ℕ) → p < places → Ranging lax to m → Ranging lax to (make_runnable p m)
  unfolding make_runnable
  runnable_ranging m p h r =
      let s : Ranging lax to (set_state p runnable m) = pipe_set lax to m r p (with_state runnable (pipe_at m p)) h refl (λ l. r.numbers p l) (λ l. refl) in
      by_bool (pipe_at m p).queued (λ e. rw (e, make_runnable) s) (λ e. rw (e, make_runnable) (enqueue_ranging (set_state p runnable m) p h s))

  pub writer_ranging : (m : Machine) (x : ℕ) → Ranging lax to m → Ranging lax to (wake_writer x m)
  unfolding wake_writer
  writer_ranging m x r = by_bool (not (is_share_port x) && live m x && at_outlet (pipe_at m x).state && not (any_full m x))
      (λ e. let a = both4 (not (is_share_port x)) (live m x) (at_outlet (pipe_at m x).state) (not (any_full m x)) e in rw (e, wake_writer) (runnable_ranging m x (r.pipes x a.1).bound r)) (λ e. rw (e, wake_writer) r)

  -- a port that is not in use any more
  pub free_ranging : (m : Machine) (x : ℕ) → x < port_places → Ranging lax to m → Ranging lax to (free_port x m)
  free_ranging m x h r =
      queue_clear lax to (set_port x no_port m) (port_set lax to m r to x no_port h (λ y p i a. a) (λ t. clash (cc)) (λ p i t. clash (cc)) (λ t. clash (cc)) (inr refl)) x h

  -- a pipeline gets its number
  taken_ranging : (m : Machine) (p : ℕ) (ns : List ℕ) → m.freed ≡ ns → p < places → Ranging lax to m → Ranging lax to (take_number p ns m)
  unfolding take_number
  taken_ranging m p (n ∷ ns) e h r =
      let a : All (λ k. k < m.made) (n ∷ ns) = rw e at r.lists.freed in
      freed_set (set_pipe p (numbered n (pipe_at m p)) m) ns m.made (omega arith) r.lists.made (few m.freed n ns e r.lists.freed_size) a.1
      (pipe_set lax to m r p (numbered n (pipe_at m p)) h refl (λ l. inl a.0) (λ l. (r.pipes p l).state))
    where
      few : (xs : List ℕ) (n : ℕ) (ns : List ℕ) → xs ≡ n ∷ ns → length xs ≤ places → length ns ≤ places
      few xs n ns e h = let z : length xs ≡ suc (length ns) = ap (λ (l : List ℕ). length l) e in omega arith
  taken_ranging m p [] e h r = by_bool (leb places m.made)
      (λ b. rw (b, take_number) (fault_set m true r))
      (λ b. rw (b, take_number) (pipe_set lax to (with_made (suc m.made) m)
      (freed_set m m.freed (suc m.made) (omega arith) (leb-false places m.made b) r.lists.freed_size (All-map _ _ (λ k l. omega arith) m.freed r.lists.freed) r)
      p (numbered m.made (pipe_at m p)) h refl (λ l. inl (omega arith)) (λ l. (r.pipes p l).state)))

  pub add_ranging : (m : Machine) (p : ℕ) → p < places → Ranging lax to m → Ranging lax to (add p m)
  unfolding add
  add_ranging m p h r = runnable_ranging (take_number p m.freed m) p h (taken_ranging m p m.freed refl h r)
