-- Ports and pipelines that go take their part of the measure with them.
use Rattle.std.specs.Prelude.{◌≡◌, ◌≢◌, true, false, ◌&&◌, ◌||◌, not, List, [], ◌∷◌, ℕ, ◌<◌, ◌≤◌, length}
use Rattle.std.proofs.Math.Path.{refl}
use Rattle.std.proofs.Common.{◌∙◌, arith, eq-eqb, ne_eqb}
use Rattle.std.proofs.Math.Option.{none}
use Rattle.rules.specs.Table.{put, filter, has, up_from}
use Rattle.rules.specs.Machine.{Machine, Port, no_pipe, no_port, places, place, slot_places, node_at_place, slot_at_place, is_share_port, pipe_at, port_at, inlets_at, set_port, set_queue, with_ready, with_active, with_finished}
use Rattle.rules.specs.Ports.{free_port, free_each, close_to, close_each, is_nobody, readerless, drop_inlet, drop_each}
use Rattle.rules.specs.Pipelines.{gone, retire, without, by_number, retire_each}
use Rattle.rules.specs.Scan.{is_unread, retire_unread, split_ports, end_split, places_of, empty_slot}
use Rattle.laws.specs.Table.{by_bool, by_eq, same, other, clash, and_both}
use Rattle.order.specs.Inv.{Live, pipe_of}
use Rattle.order.specs.Lists.{by_has, has_map, has_up}
use Rattle.order.specs.Retires.{number_has}
use Rattle.order.specs.Base.{place_of, node_below}
use Rattle.order.specs.Measure.{load, run_count, pipes_fewer, gone_less, queue_less, state_raise, mark_less, runs_same}
use Rattle.order.specs.Pushes.{Stays}
use Rattle.order.specs.Wakings.{Near, Woken, near_then, woken_then, woken_none}

-- Ports

-- a port emptied, and marked no more than before
empty_woken : (x : ℕ) (v : Port) (m : Machine) → (v.changed ≡ true → (port_at m x).changed ≡ true) → Woken 0 m (set_queue x [] (set_port x v m))
empty_woken x v m h = ((omega (arith, queue_less m.queues x [] (omega arith)), omega (arith, mark_less m.ports x v h), refl, refl, λ q l. l), refl, λ q l. l)

-- a port that is freed
pub free_woken : (x : ℕ) (m : Machine) → Woken 0 m (free_port x m)
free_woken x m = empty_woken x no_port m (λ e. clash (cc))

-- a port that loses its reader
drop_woken : (x : ℕ) (m : Machine) → Woken 0 m (drop_inlet x m)
drop_woken x m = by_bool ((port_at m x).closed || is_share_port x)
    (λ e. rw (e, drop_inlet) (free_woken x m))
    (λ e. rw (e, drop_inlet) (empty_woken x (readerless (port_at m x)) m (λ d. d)))

drops_woken : (xs : List ℕ) (m : Machine) → Woken 0 m (drop_each xs m)
unfolding drop_each
drops_woken [] m = woken_none 0 m
drops_woken (x ∷ xs) m = woken_then 0 0 0 m (drop_inlet x m) (drop_each xs (drop_inlet x m)) (drop_woken x m) (drops_woken xs (drop_inlet x m)) (omega arith)

-- ports that go
frees_woken : (xs : List ℕ) (m : Machine) → Woken 0 m (free_each xs m)
unfolding free_each
frees_woken [] m = woken_none 0 m
frees_woken (x ∷ xs) m = woken_then 0 0 0 m (free_port x m) (free_each xs (free_port x m)) (free_woken x m) (frees_woken xs (free_port x m)) (omega arith)

-- ports that are closed
abbrev Closed : Machine → Machine → Type 0
Closed m m' = (load m' ≤ load m) × Stays m m' × (m'.pipes ≡ m.pipes)

-- a port that is closed, or freed
close_one : (x : ℕ) (m : Machine) → Closed m (close_to x m)
close_one x m = by_bool (is_nobody (port_at m x).reader && not (is_share_port x))
    (λ e. rw (e, close_to) ((free_woken x m).0.0, (refl, refl), refl))
    (λ e. rw (e, close_to) (omega arith, (refl, refl), refl))

-- all of a list
pub closes : (xs : List ℕ) (m : Machine) → (load (close_each xs m) ≤ load m) × Stays m (close_each xs m) × ((close_each xs m).pipes ≡ m.pipes)
unfolding close_each
closes [] m = (omega arith, (refl, refl), refl)
closes (x ∷ xs) m =
    let a = close_one x m in
    let t = closes xs (close_to x m) in
    (omega (arith, t.0, a.0), (t.1.0 ∙ a.1.0, t.1.1 ∙ a.1.1), t.2 ∙ a.2)

-- Pipelines

module _ (p : ℕ) (m : Machine) where
  -- its inlets are dropped first
  abbrev dropped : Machine
  dropped = drop_each (inlets_at m p) m

  -- the others live as before
  gone_back : (q : ℕ) → Live (put no_pipe dropped.pipes p (gone (pipe_at dropped p))) q → (q ≢ p) × Live dropped.pipes q
  gone_back q l = by_eq q p (λ e. let d : false ≡ true = rw (e, same) at l in clash (cc)) (λ d. (d, rw other at l))

  -- a pipeline that goes
  pub retire_near : Near 0 m (retire p m)
  unfolding retire
  retire_near =
      let t = drops_woken (inlets_at m p) m in
      let a = pipes_fewer (run_count dropped) dropped.pipes (put no_pipe dropped.pipes p (gone (pipe_at dropped p))) dropped.sources dropped.stages (λ q l. (gone_back q l).1) in
      let b = state_raise dropped.pipes dropped.touched p (gone (pipe_at dropped p)) 0 (λ e. clash (cc)) (omega arith) in
      (omega (arith, t.0.0, a), omega (arith, t.0.1, b), t.0.2, t.0.3, λ q l. t.0.4 q (gone_back q l).1)

  -- it lives no more
  pub retire_dead : Live (retire p m).pipes p → ⊥
  unfolding retire
  retire_dead l = (gone_back p l).0 refl

  -- a live one was worth something
  pub retire_less : p < places → Live m.pipes p → load (retire p m) < load m
  unfolding retire
  retire_less low is =
      let t = drops_woken (inlets_at m p) m in
      let a = gone_less (run_count dropped) dropped.pipes dropped.sources dropped.stages p low (t.2 p is) (gone (pipe_at dropped p)) refl in
      omega (arith, t.0.0, a)

-- Several pipelines

without_less : (p : ℕ) (xs : List ℕ) → length (without p xs) ≤ length xs
unfolding filter
without_less p [] = omega arith
without_less p (x ∷ xs) = let t = without_less p xs in by_eq p x
    (λ e. rw (eq-eqb p x e, filter) (omega (arith, t))) (λ d. rw (ne_eqb p x d, filter) (omega (arith, t)))

-- all of a list
retires_near : (ps : List ℕ) (m : Machine) → Near 0 m (retire_each ps m) × ((q : ℕ) → has q ps ≡ true → Live (retire_each ps m).pipes q → ⊥)
unfolding retire_each has
retires_near [] m = ((woken_none 0 m).0, λ q e. clash (cc))
retires_near (p ∷ ps) m =
    let k : Machine = with_ready (without p m.ready) m in
    let n : Machine = retire p k in
    let a : Near 0 m k = (omega arith, omega (arith, without_less p m.ready), refl, refl, λ q l. l) in
    let t = retires_near ps n in (
      near_then 0 0 0 m n (retire_each ps n) (near_then 0 0 0 m k n a (retire_near p k) (omega arith)) t.0 (omega arith),
      λ q e l. by_has q p ps e (λ d. retire_dead p k (rw d at (t.0.4 q l))) (λ d. t.1 q d l),
    )

-- The end of a split

pub finish_near : (s : ℕ) (m : Machine) → Near 0 m (end_split s m)
unfolding end_split
finish_near s m =
    let k : Machine = with_finished (put false m.finished s true) m in
    let n : Machine = free_each (split_ports s) k in
    near_then 0 0 0 m n (retire_unread n) (near_then 0 0 0 m k n (omega arith, omega arith, refl, refl, λ q l. l) (frees_woken (split_ports s) k).0
    (omega arith))
    (retires_near (by_number n.pipes (filter (is_unread n) (up_from slot_places 24))) n).0 (omega arith)

-- a slot becomes free
pub slot_near : (k : ℕ) (m : Machine) → Near 0 m (empty_slot k m)
unfolding empty_slot
slot_near k m =
    let ps = by_number m.pipes (places_of k) in
    let c : Machine = retire_each ps m in
    let n : Machine = free_each (places_of k) c in
    let t = retires_near ps m in
    let u = near_then 0 0 0 m c n t.0 (frees_woken (places_of k) c).0 (omega arith) in
    let apart : (p : ℕ) → Live n.pipes p → slot_at_place p ≢ k = λ p l e.
    t.1 p (number_has m.pipes p (places_of k) ∙ and_both (has p (places_of k)) (pipe_of m.pipes p).live
    (rw (place_of p, e) (has_map (place k) (up_from 0 24) (node_at_place p) (has_up 0 24 (node_at_place p) (omega arith) (omega (arith, node_below p)))))
    (u.4 p l)) ((frees_woken (places_of k) c).0.4 p l)
    in
    let runs : (p : ℕ) → Live n.pipes p → run_count (with_active (put none n.active k none) n) p ≡ run_count n p = λ p l.
    let d = apart p l in rw other
    in
    let s = runs_same (run_count (with_active (put none n.active k none) n)) (run_count n) n.pipes n.sources n.stages runs in
    (omega (arith, u.0, s), u.1, u.2, u.3, u.4)
