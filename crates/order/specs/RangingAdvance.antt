-- A dirty slot's turn keeps the ranges.
use Rattle.std.specs.Prelude.{◌≡◌, refl, ◌≢◌, true, false, not, List, [], ◌∷◌, ◌++◌, map, ℕ, zero, suc, ◌+◌, ◌<◌, ◌≤◌, length, eqb}
use Rattle.std.proofs.Common.{sym, ap, ◌∙◌, subst, arith, eq-eqb, ne_eqb}
use Rattle.std.proofs.Math.Option.{Option, none, some}
use Rattle.std.proofs.lemmas.List.{length-map}
use Rattle.rules.specs.Table.{get, put, filter, has, up_from}
use Rattle.rules.specs.Job.{max_nodes}
use Rattle.rules.specs.Plan.{node_of, root_of}
use Rattle.rules.specs.Port.{Batch}
use Rattle.rules.specs.Machine.{Machine, Port, place, share_port, node_at_place, slot_at_place, slot_places, places, port_places, no_port, port_at, queue_at, set_queue, with_ready, with_active, with_finished, with_dirty, with_outputs}
use Rattle.rules.specs.Ports.{free_port, free_each}
use Rattle.rules.specs.Wake.{wake_writer}
use Rattle.rules.specs.Pipelines.{retire, without, by_number, retire_each}
use Rattle.rules.specs.Scan.{is_unread, split_ports, end_split, places_of, empty_slot, output_of, serve, advance}
use Rattle.rules.specs.Check.{batch_ok}
use Rattle.laws.specs.Table.{other, by_bool, by_eq, by_option, clash, put_length, and_right, and_both}
use Rattle.laws.specs.Rows.{All}
use Rattle.laws.specs.KidPlaces.{All-map}
use Rattle.order.specs.Inv.{Live, There, split_in, pipe_of, Differ}
use Rattle.order.specs.Base.{place_node, place_bound}
use Rattle.order.specs.Each.{All-image, All-filter}
use Rattle.order.specs.Lists.{has_later}
use Rattle.order.specs.Clear.{clear_in, clear_out}
use Rattle.order.specs.Retires.{has_none, none_has, one_has, number_has, number_differ, free_is}
use Rattle.order.specs.Leave.{differ_up, differ_filter, differ_numbers}
use Rattle.order.specs.Ranged.{ListRange, Ranged}
use Rattle.order.specs.Ranging.{Ranging, Alike, body_alike, port_alike, queue_alike, sizes_alike, of_ranged, to_ranged, lists_alike}
use Rattle.order.specs.RangingMoves.{queue_clear, at_same, lists_set}
use Rattle.order.specs.RangingWake.{writer_ranging, free_ranging, ready_set}
use Rattle.order.specs.RangingCalls.{OutputRange, outputs_set, dirty_set}
use Rattle.order.specs.RangingRetire.{Less, retire_ranging, retire_less, retire_lives}
use Rattle.order.specs.Lowers.{none_to}

-- A slot's split is another one, or none: nothing stands in the slot

module _ (lax : Type 0) (to : ℕ → ℕ → ℕ → Type 0) where
  pub active_set : (m : Machine) (k : ℕ) (o : Option ℕ) → k < 3 → ((p : ℕ) → Live m.pipes p → slot_at_place p ≢ k) → ((x : ℕ) → There m.ports x → x < slot_places → slot_at_place x ≢ k)
      → ((s : ℕ) → o ≡ some s → (k < m.job.slots) × (s < length m.job.splits)) → Ranging lax to m → Ranging lax to (with_active (put none m.active k o) m)
  active_set m k o h a b c r = let l : ListRange m = r.lists in record {
    job = r.job;
    sizes = sizes_alike m _ r.sizes refl refl refl refl refl refl refl refl refl refl (put_length none m.active k o (rw r.sizes.active h)) refl refl;
    lists = record {
      is_next = l.is_next;
      made = l.made;
      freed_size = l.freed_size;
      ready_size = l.ready_size;
      reads_size = l.reads_size;
      news_size = l.news_size;
      dirty_size = l.dirty_size;
      outputs_size = l.outputs_size;
      active = actives;
      freed = l.freed;
      ready = l.ready;
      reads = l.reads;
      owners = l.owners;
      news = l.news;
      dirty = l.dirty;
      outputs = l.outputs;
      unbuilt = l.unbuilt;
    };
    pipes = λ p e. body_alike m (with_active (put none m.active k o) m) p (alike p (a p e)) (r.pipes p e).state (r.pipes p e);
    numbers = r.numbers;
    ports = λ x t. port_alike m (with_active (put none m.active k o) m) x refl (λ i. other none m.active k (slot_at_place x) o (b x t i)) (r.ports x t);
    readers = r.readers;
    vacant = r.vacant;
    slots = r.slots;
    queues = λ x. queue_alike m _ x refl refl (r.queues x);
  }
    where
      actives : (i s : ℕ) → split_in (put none m.active k o) i ≡ some s → (i < m.job.slots) × (s < length m.job.splits)
      actives i s e = by_eq i k (λ d. rw d (c s (sym (at_same none m.active k i o d) ∙ e))) (λ d. r.lists.active i s (sym (other none m.active k i o d) ∙ e))

      alike : (p : ℕ) → slot_at_place p ≢ k → Alike m (with_active (put none m.active k o) m) p
      alike p n = record {
        near = record { job = refl; active = other none m.active k (slot_at_place p) o n; inlets = refl; seen = refl; waits = refl };
        source = refl;
        stage = refl;
        changed = refl;
        touched = refl;
      }

without_size : (p : ℕ) (xs : List ℕ) → length (without p xs) ≤ length xs
unfolding filter
without_size p [] = omega arith
without_size p (x ∷ xs) = let t = without_size p xs in by_eq p x
    (λ e. rw (eq-eqb p x e, filter) (omega (arith, t))) (λ d. rw (ne_eqb p x d, filter) (omega (arith, t)))

-- one pipeline leaves the ready stack and retires
pub leaves_ranging : (m : Machine) (p : ℕ) → Live m.pipes p → Ranging ⊥ none_to m → Ranging ⊥ none_to (retire p (with_ready (without p m.ready) m))
leaves_ranging m p l r =
    retire_ranging (with_ready (without p m.ready) m) p l
    (ready_set ⊥ none_to m (without p m.ready) (omega (arith, without_size p m.ready, r.lists.ready_size))
    (All-filter (λ q. q < places) (λ q. not (eqb p q)) m.ready r.lists.ready) r)

-- one, then the others
retires_on : (p : ℕ) (ps : List ℕ) (m : Machine) → Differ (p ∷ ps) → ((q : ℕ) → has q (p ∷ ps) ≡ true → Live m.pipes q) → Ranging ⊥ none_to m
    → ((c : Machine) → Differ ps → ((q : ℕ) → has q ps ≡ true → Live c.pipes q) → Ranging ⊥ none_to c → Ranging ⊥ none_to (retire_each ps c)
    × Less ps c (retire_each ps c))
    → Ranging ⊥ none_to (retire_each (p ∷ ps) m) × Less (p ∷ ps) m (retire_each (p ∷ ps) m)
unfolding retire_each
retires_on p ps m u l r ih =
    let k : Machine = with_ready (without p m.ready) m in
    let c : Machine = retire p k in
    let f : Less (p ∷ []) k c = retire_less k p in
    let t = ih c u.1 (λ q h. retire_lives k p q (λ d. clash (cc (u.0, rw d at h))) (l q (has_later q p ps h)))
    (leaves_ranging m p (l p (one_has p ps)) r) in (
      t.0,
      record {
        job = t.1.job ∙ f.job;
        active = t.1.active ∙ f.active;
        live = λ q h. let a = t.1.live q h in let b = f.live q a.0 in (b.0, none_has q p ps (has_none q p [] b.1).0 a.1);
        there = λ x h. f.there x (t.1.there x h);
      },
    )

-- Ports and pipelines go

pub frees_ranging : (xs : List ℕ) (m : Machine) → All (λ x. x < port_places) xs → Ranging ⊥ none_to m → Ranging ⊥ none_to (free_each xs m)
unfolding free_each
frees_ranging [] m h r = r
frees_ranging (x ∷ xs) m h r = frees_ranging xs (free_port x m) h.1 (free_ranging ⊥ none_to m x h.0 r)

pub frees_less : (xs : List ℕ) (m : Machine) → ((free_each xs m).job ≡ m.job) × ((free_each xs m).active ≡ m.active) × ((free_each xs m).pipes ≡ m.pipes)
    × ((x : ℕ) → There (free_each xs m).ports x → There m.ports x × (has x xs ≡ false))
frees_less xs m = rw (free_is xs m) (
  refl,
  refl,
  refl,
  λ x t. by_bool (has x xs)
      (λ e. clash (cc (t, ap (λ (z : Port). z.there) (clear_in no_port xs m.ports x e))))
      (λ e. (sym (ap (λ (z : Port). z.there) (clear_out no_port xs m.ports x e)) ∙ t, e)),
)

pub retires_ranging : (ps : List ℕ) (m : Machine) → Differ ps → ((p : ℕ) → has p ps ≡ true → Live m.pipes p) → Ranging ⊥ none_to m
    → Ranging ⊥ none_to (retire_each ps m) × Less ps m (retire_each ps m)
unfolding retire_each has
retires_ranging [] m u l r = (r, record { job = refl; active = refl; live = λ q k. (k, refl); there = λ x t. t })
retires_ranging (p ∷ ps) m u l r = retires_on p ps m u l r (retires_ranging ps)

-- The places of a slot

slot_has : (k i n j : ℕ) → j < n → has (place k (i + j)) (map (place k) (up_from i n)) ≡ true
unfolding up_from has
slot_has k i zero j h = absurd (omega arith)
slot_has k i (suc n) zero h = let e : i + 0 ≡ i = omega arith in rw (e, eq-eqb (place k i) (place k i) refl)
slot_has k i (suc n) (suc j) h =
    let e : i + suc j ≡ suc i + j = omega arith in
    let d : place k (suc i + j) ≢ place k i = omega arith in
    subst (λ l. has (place k l) (map (place k) (up_from i (suc n))) ≡ true) (sym e)
    (rw (ne_eqb (place k (suc i + j)) (place k i) d) (slot_has k (suc i) n j (omega arith)))

slot_places_lem : (k p : ℕ) → slot_at_place p ≡ k → has p (map (place k) (up_from 0 max_nodes)) ≡ true
slot_places_lem k p e =
    let d : place k (0 + node_at_place p) ≡ p = omega arith in
    rw d at (slot_has k 0 24 (node_at_place p) (omega arith))

slot_low : (k i n : ℕ) → k < 3 → i + n ≤ 24 → All (λ p. p < port_places) (map (place k) (up_from i n))
unfolding up_from
slot_low k i zero h e = tt
slot_low k i (suc n) h e = (omega arith, slot_low k (suc i) n h (omega arith))

pub clear_ranging : (m : Machine) (k : ℕ) → k < 3 → Ranging ⊥ none_to m → Ranging ⊥ none_to (empty_slot k m)
unfolding empty_slot
clear_ranging m k h r =
    let ps = by_number m.pipes (places_of k) in
    let c : Machine = retire_each ps m in
    let n : Machine = free_each (places_of k) c in
    let d = retires_ranging ps m (number_differ m.pipes (places_of k) (differ_up (place k) (λ a b e. omega arith) 0 24))
    (λ p e. and_right (has p (places_of k)) (pipe_of m.pipes p).live (sym (number_has m.pipes p (places_of k)) ∙ e)) r in
    let f = frees_less (places_of k) c in
    let live : (p : ℕ) → Live n.pipes p → slot_at_place p ≢ k = λ p l e.
    let t = d.1.live p (rw f.2 at l) in
    clash (cc (t.1, number_has m.pipes p (places_of k) ∙ and_both (has p (places_of k)) (pipe_of m.pipes p).live (slot_places_lem k p e) t.0))
    in
    active_set ⊥ none_to n k none h live (λ x t i e. clash (cc (slot_places_lem k x e, (f.3 x t).1))) (λ s e. clash (cc))
    (frees_ranging (places_of k) c (slot_low k 0 24 h (omega arith)) d.0)

-- The end of a split

shares_below : (s i n : ℕ) → s < 16 → i + n ≤ 24 → All (λ x. x < port_places) (map (λ l. share_port l s) (up_from i n))
unfolding up_from
shares_below s i zero h k = tt
shares_below s i (suc n) h k = (omega arith, shares_below s (suc i) n h (omega arith))

-- the split is finished, and its ports go
pub ports_ranging : (m : Machine) (s : ℕ) → s < 16 → Ranging ⊥ none_to m
    → Ranging ⊥ none_to (free_each (split_ports s) (with_finished (put false m.finished s true) m))
ports_ranging m s h r =
    let k : Machine = with_finished (put false m.finished s true) m in
    let w : Ranging ⊥ none_to k = lists_set ⊥ none_to m r _ _ _ _ _ _ _ _ _ _ _ (omega arith)
    (put_length false m.finished s true (rw r.sizes.finished h)) refl (lists_alike m _ _ _ _ _ _ _ _ _ _ _ _ r.lists) in
    frees_ranging (split_ports s) k (shares_below s 0 24 h (omega arith)) w

pub finish_ranging : (m : Machine) (s : ℕ) → s < 16 → Ranging ⊥ none_to m → Ranging ⊥ none_to (end_split s m)
unfolding end_split
finish_ranging m s h r =
    let n : Machine = free_each (split_ports s) (with_finished (put false m.finished s true) m) in
    let xs = filter (is_unread n) (up_from slot_places 24) in
    (retires_ranging (by_number n.pipes xs) n (number_differ n.pipes xs
    (differ_filter (is_unread n) (up_from slot_places 24) (differ_numbers slot_places 24)))
    (λ p e. and_right (has p xs) (pipe_of n.pipes p).live (sym (number_has n.pipes p xs) ∙ e)) (ports_ranging m s h r)).0

-- Serving

-- the root's batches become outputs
outs_range : (m : Machine) (s : ℕ) (q : List Batch) → s < length m.job.splits
    → All (λ b. batch_ok m.job (node_of m.job (root_of m.job)).width b ≡ true) q → All (OutputRange m) (map (output_of s) q)
outs_range m s q h a = All-image (OutputRange m) (output_of s) q (All-map _ _ (λ b e. (h, e)) q a)

pub served_ranging : (m : Machine) (k s : ℕ) → split_in m.active k ≡ some s → m.outputs ≡ [] → Ranging ⊥ none_to m
    → Ranging ⊥ none_to (set_queue (place k (root_of m.job)) [] (with_outputs (m.outputs ++ map (output_of s) (queue_at m (place k (root_of m.job)))) m))
served_ranging m k s e o r =
    let x : ℕ = place k (root_of m.job) in
    let a : (k < m.job.slots) × (s < length m.job.splits) = r.lists.active k s e in
    let h : k < 3 = omega (arith, a.0, r.job.slots_high) in
    let n : root_of m.job < 24 = omega (arith, r.job.nodes_low, r.job.nodes_high) in
    let b = (r.queues x).bounded (place_bound k (root_of m.job) h n) in
    let w : node_at_place x ≡ root_of m.job = place_node k (root_of m.job) n in
    queue_clear ⊥ none_to (with_outputs (m.outputs ++ map (output_of s) (queue_at m x)) m)
    (outputs_set ⊥ none_to m (m.outputs ++ map (output_of s) (queue_at m x)) (rw (o, length-map (queue_at m x) (output_of s)) b.0) (rw o (outs_range m s (queue_at m x) a.1 (rw w at b.1))) r)
    x (omega arith)

serve_ranging : (m : Machine) (k s : ℕ) → split_in m.active k ≡ some s → m.outputs ≡ [] → Ranging ⊥ none_to m → Ranging ⊥ none_to (serve k s (place k (root_of m.job)) m)
unfolding serve
serve_ranging m k s e o r =
    let x : ℕ = place k (root_of m.job) in
    let a : (k < m.job.slots) × (s < length m.job.splits) = r.lists.active k s e in
    let c : Machine = wake_writer x (set_queue x [] (with_outputs (m.outputs ++ map (output_of s) (queue_at m x)) m)) in
    let w : Ranging ⊥ none_to c = writer_ranging ⊥ none_to (set_queue x [] (with_outputs (m.outputs ++ map (output_of s) (queue_at m x)) m)) x (served_ranging m k s e o r) in
    by_bool (port_at m x).closed
    (λ q. rw (q, serve) (finish_ranging (empty_slot k c) s (omega (arith, a.1, r.job.splits_high))
    (clear_ranging c k (omega (arith, a.0, r.job.slots_high)) w)))
    (λ q. rw (q, serve) w)

-- a dirty slot's turn
pub advance_ranged : (m : Machine) (k : ℕ) (ks : List ℕ) → m.dirty ≡ k ∷ ks → m.outputs ≡ [] → Ranged m → Ranged (advance k (with_dirty ks m))
unfolding advance
advance_ranged m k ks e o r =
    let a : All (λ i. i < m.job.slots) (k ∷ ks) = rw e at r.lists.dirty in
    let n : suc (length ks) ≤ 3 = rw e at r.lists.dirty_size in
    let d : Ranging ⊥ none_to (with_dirty ks m) = dirty_set ⊥ none_to m ks (omega arith) a.1 (of_ranged m r) in
    by_option (get none m.active k)
    (λ q. rw (q, advance) (to_ranged (with_dirty ks m) d))
    (λ s q. rw (q, advance) (to_ranged _ (serve_ranging (with_dirty ks m) k s q o d)))
