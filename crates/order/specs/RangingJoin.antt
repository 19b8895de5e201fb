-- Children that are connected to their parent's inlets keep the ranges.
use Rattle.std.specs.Prelude.{◌≡◌, true, length, leb, ltb}
use Rattle.std.proofs.Math.Path.{refl}
use Rattle.std.proofs.Common.{sym, ap, ◌∙◌, inl, inr, leb-true, eq-eqb, lt-ltb}
use mathlib.Core.List.{List, [], ◌∷◌, map}
use Rattle.std.proofs.Math.Option.{some}
use Prim.Native.Nat.{ℕ, suc, ◌+◌, ◌<◌, ◌≤◌}
use native.Mathlib.Omega.{arith}
use Rattle.rules.specs.Table.{is_some}
use Rattle.rules.specs.Job.{Job, kids}
use Rattle.rules.specs.Plan.{node_of, root_of, keeps, kept_kids}
use Rattle.rules.specs.Operators.{runnable}
use Rattle.rules.specs.Machine.{Machine, Pipeline, Reader, slot, pipe, place, node_at_place, slot_at_place, slot_places, places, pipe_at, live, set_pipe, set_port, set_queue}
use Rattle.rules.specs.Wake.{with_state, with_queued, set_state, enqueue, make_runnable}
use Rattle.rules.specs.Pipelines.{numbered, take_number, add}
use Rattle.rules.specs.Shares.{empty_port}
use Rattle.rules.specs.Lower.{connect, join_from}
use Rattle.rules.specs.Check.{fed_below}
use Rattle.laws.specs.Table.{by_bool, clash, and_both}
use Rattle.laws.specs.JobOk.{JobOk}
use Rattle.laws.specs.Rows.{All}
use Rattle.laws.specs.Rising.{Rising}
use Rattle.laws.specs.Kids.{some_is, kids_rise}
use Rattle.laws.specs.KidPlaces.{kids_each, rising_all, All-map}
use Rattle.order.specs.Inv.{pipe_of, split_in, At}
use Rattle.order.specs.Base.{place_node, place_slot, place_bound}
use Rattle.order.specs.Each.{all_true, All-image, All-filter}
use Rattle.order.specs.Ranged.{PlaceRange}
use Rattle.order.specs.Ranging.{Ranging}
use Rattle.order.specs.RangingMoves.{port_set, queue_clear}
use Rattle.order.specs.RangingWake.{add_ranging}
use Rattle.order.specs.Among.{rising_filter}
use Rattle.order.specs.Views.{live_put}

-- What stays

-- the job, the active splits, and which pipelines of slots are in use
pub record Stays (m m' : Machine) : Type 0 where
  pub job : m'.job ≡ m.job
  pub active : m'.active ≡ m.active
  pub lives : (q : ℕ) → q < slot_places → live m' q ≡ live m q

-- one after another
pub stays_on : (m c e : Machine) → Stays m c → Stays c e → Stays m e
stays_on m c e a b = record { job = b.job ∙ a.job; active = b.active ∙ a.active; lives = λ q h. b.lives q h ∙ a.lives q h }

-- an entry that stays in use or not
entry_stays : (m : Machine) (p : ℕ) (v : Pipeline) → v.live ≡ (pipe_of m.pipes p).live → Stays m (set_pipe p v m)
entry_stays m p v e = record { job = refl; active = refl; lives = λ q h. live_put m.pipes p q v e }

-- nothing of it is changed
abbrev pub SameEnds : Machine → Machine → Type 0
SameEnds m m' = (m'.job ≡ m.job) × (m'.active ≡ m.active) × (m'.pipes ≡ m.pipes)

-- then it stays
pub ends_stay : (m m' : Machine) → SameEnds m m' → Stays m m'
ends_stay m m' e = record { job = e.0; active = e.1; lives = λ q h. ap (λ (P : List Pipeline). (pipe_of P q).live) e.2 }

-- onto the ready stack
enqueue_stays : (m : Machine) (p : ℕ) → Stays m (enqueue p m)
enqueue_stays m p = by_bool (leb places (length m.ready))
    (λ e. rw (e, enqueue) (ends_stay m _ (refl, refl, refl)))
    (λ e. rw (e, enqueue) (stays_on m (set_pipe p (with_queued true (pipe_at m p)) m) _ (entry_stays m p (with_queued true (pipe_at m p)) refl) (ends_stay (set_pipe p (with_queued true (pipe_at m p)) m) _ (refl, refl, refl))))

-- a pipeline made runnable
runnable_stays : (m : Machine) (p : ℕ) → Stays m (make_runnable p m)
unfolding make_runnable
runnable_stays m p =
    let a : Stays m (set_state p runnable m) = entry_stays m p (with_state runnable (pipe_at m p)) refl in
    by_bool (pipe_at m p).queued (λ e. rw (e, make_runnable) a) (λ e. rw (e, make_runnable) (stays_on m (set_state p runnable m) _ a (enqueue_stays (set_state p runnable m) p)))

-- one that gets a number
taken_stays : (m : Machine) (p : ℕ) (ns : List ℕ) → Stays m (take_number p ns m)
unfolding take_number
taken_stays m p (n ∷ ns) = stays_on m (set_pipe p (numbered n (pipe_at m p)) m) _ (entry_stays m p (numbered n (pipe_at m p)) refl) (ends_stay (set_pipe p (numbered n (pipe_at m p)) m) _ (refl, refl, refl))
taken_stays m p [] = by_bool (leb places m.made)
    (λ e. rw (e, take_number) (ends_stay m _ (refl, refl, refl)))
    (λ e. rw (e, take_number) (stays_on m (set_pipe p (numbered m.made (pipe_at m p)) m) _ (entry_stays m p (numbered m.made (pipe_at m p)) refl) (ends_stay (set_pipe p (numbered m.made (pipe_at m p)) m) _ (refl, refl, refl))))

-- both
pub add_stays : (m : Machine) (p : ℕ) → Stays m (add p m)
unfolding add
add_stays m p = stays_on m (take_number p m.freed m) _ (taken_stays m p m.freed) (runnable_stays (take_number p m.freed m) p)

-- Numbers that were made

-- waking makes none
runnable_made : (m : Machine) (p : ℕ) → (make_runnable p m).made ≡ m.made
unfolding make_runnable
runnable_made m p = by_bool (pipe_at m p).queued (λ e. rw (e, make_runnable))
    (λ e. rw (e, make_runnable) (by_bool (leb places (length m.ready)) (λ f. rw (f, enqueue)) (λ f. rw (f, enqueue))))

-- a number was made
taken_made : (m : Machine) (p : ℕ) (ns : List ℕ) → All (λ k. k < m.made) ns → 1 ≤ (take_number p ns m).made
unfolding take_number
taken_made m p (n ∷ ns) a = omega (arith, a.0)
taken_made m p [] a = by_bool (leb places m.made) (λ e. rw (e, take_number) (let b : places ≤ m.made = leb-true places m.made e in omega arith)) (λ e. rw (e, take_number) (omega arith))

-- where a pipeline is connected, one was made
pub connect_made : (lax : Type 0) (to : ℕ → ℕ → ℕ → Type 0) (m : Machine) (p : ℕ) (a : Reader) → Ranging lax to m → 1 ≤ (connect p a m).made
unfolding add
connect_made lax to m p a r =
    let c : Machine = set_queue p [] (set_port p (empty_port a) m) in rw (runnable_made (take_number p m.freed c) p) (taken_made c p m.freed r.lists.freed)

-- Connecting

-- the place of a node of the job in an active slot
pub slot_place : (m : Machine) (k s n : ℕ) → n < length m.job.nodes → n < 24 → k < 3 → split_in m.active k ≡ some s → PlaceRange m (place k n)
slot_place m k s n h b l e = (rw (place_node k n b) h, (λ i. (s, rw (place_slot k n b) e)), λ i. absurd (omega arith))

-- a port with its reader, and its writer
pub connect_ranging : (to to' : ℕ → ℕ → ℕ → Type 0) (m : Machine) (p : ℕ) (a : Reader) → p < slot_places → PlaceRange m p → ((x q i : ℕ) → to x q i → to' x q i)
    → ((q i : ℕ) → a ≡ pipe q i → to' p q i) → (a ≡ slot → node_at_place p ≡ root_of m.job) → Ranging Unit to m → Ranging Unit to' (connect p a m)
connect_ranging to to' m p a h g w f s r =
    add_ranging Unit to' (set_queue p [] (set_port p (empty_port a) m)) p (omega arith)
    (queue_clear Unit to' (set_port p (empty_port a) m)
    (port_set Unit to m r to' p (empty_port a) (omega arith) w (λ t. record { bound = omega arith; place = λ i. g; share = λ i. absurd (omega arith) }) (λ q i t e. inr (f q i e)) (λ t e. (h, s e)) (inl refl))
    p (omega arith))

-- leaves the slots
pub connect_stays : (m : Machine) (p : ℕ) (a : Reader) → Stays m (connect p a m)
connect_stays m p a = stays_on m (set_queue p [] (set_port p (empty_port a) m)) _ (ends_stay m _ (refl, refl, refl)) (add_stays (set_queue p [] (set_port p (empty_port a) m)) p)

-- Joining

-- the inlets that the pipeline of node n will have
abbrev pub InletOf : ℕ → ℕ → List ℕ → ℕ → ℕ → ℕ → Type 0
InletOf k n cs x q i = (q ≡ place k n) × At (map (place k) cs) i x

module _ (k s n : ℕ) (all : List ℕ) (below : k < 3) where
  -- after joining
  abbrev JoinOk : List ℕ → ℕ → Machine → Type 0
  JoinOk cs i m = Ranging Unit (InletOf k n all) (join_from k n i cs m) × Stays m (join_from k n i cs m)

  -- a child
  join_step : (c : ℕ) (cs : List ℕ) (i : ℕ) (m : Machine) → c < length m.job.nodes → c < 24 → split_in m.active k ≡ some s → At (map (place k) all) i (place k c) → Ranging Unit (InletOf k n all) m
      → ((e : Machine) → Stays m e → Ranging Unit (InletOf k n all) e → JoinOk cs (suc i) e) → JoinOk (c ∷ cs) i m
  unfolding join_from
  join_step c cs i m h b e a r ih =
      let p : ℕ = place k c in
      let t : Stays m (connect p (pipe (place k n) i) m) = connect_stays m p (pipe (place k n) i) in
      let d = ih (connect p (pipe (place k n) i) m) t
      (connect_ranging (InletOf k n all) (InletOf k n all) m p (pipe (place k n) i) (place_bound k c below b) (slot_place m k s c h b below e) (λ x q j u. u) named (λ u. clash (cc)) r) in
      (d.0, stays_on m (connect p (pipe (place k n) i) m) _ t d.1)
    where
      named : (q j : ℕ) → pipe (place k n) i ≡ pipe q j → InletOf k n all (place k c) q j
      named q j u = let v : i ≡ j = cc in let w : place k n ≡ q = cc in (sym w, rw (← v) a)

  -- all children
  join_all : (cs : List ℕ) (i : ℕ) (m : Machine) → All (λ c. (c < length m.job.nodes) × (c < 24)) cs → split_in m.active k ≡ some s
      → ((h x : ℕ) → At (map (place k) cs) h x → At (map (place k) all) (i + h) x) → Ranging Unit (InletOf k n all) m → JoinOk cs i m
  unfolding join_from
  join_all [] i m h e a r = (r, ends_stay m m (refl, refl, refl))
  join_all (c ∷ cs) i m h e a r =
      join_step c cs i m h.0.0 h.0.1 e (let z : i + 0 ≡ i = omega arith in rw z at (a 0 (place k c) refl)) r
      (λ d t q. join_all cs (suc i) d (rw t.job h.1) (rw t.active e) (λ j x u. let z : suc i + j ≡ i + suc j = omega arith in rw z (a (suc j) x u)) q)

-- the children of a node are joined
pub join_ranging : (k s n : ℕ) (cs : List ℕ) (m : Machine) → k < 3 → All (λ c. (c < length m.job.nodes) × (c < 24)) cs → split_in m.active k ≡ some s → Ranging Unit (InletOf k n cs) m
    → Ranging Unit (InletOf k n cs) (join_from k n 0 cs m) × Stays m (join_from k n 0 cs m)
join_ranging k s n cs m b h e r = join_all k s n cs b cs 0 m h e (λ j x a. let z : 0 + j ≡ j = omega arith in rw z a) r

-- The children of a node

-- children of n in rising order feed it
fed_kids : (m : Machine) (k n a : ℕ) (cs : List ℕ) → n < 24 → Rising a cs → All (λ c. (c < 24) × ((node_of m.job c).parent ≡ some n)) cs → fed_below m (place k n) (map (place k) cs) ≡ true
unfolding fed_below
fed_kids m k n a [] h r b = refl
fed_kids m k n a (c ∷ cs) h r b =
    let p : is_some (node_at_place (place k n)) (node_of m.job (node_at_place (place k c))).parent ≡ true =
    rw (place_node k c b.0.0, place_node k n h) (some_is n (node_of m.job c).parent b.0.1) in
    and_both _ _ (and_both _ _ (and_both _ _
    (eq-eqb (slot_at_place (place k c)) (slot_at_place (place k n)) (place_slot k c b.0.0 ∙ sym (place_slot k n h))) p)
    (all_true (ltb (place k c)) (map (place k) cs) (All-image (λ y. ltb (place k c) y ≡ true) (place k) cs (All-map (λ y. suc c ≤ y) (λ y. ltb (place k c) (place k y) ≡ true) (λ y l. lt-ltb (place k c) (place k y) (omega arith)) cs (rising_all (suc c) cs r.1)))))
    (fed_kids m k n (suc c) cs h r.1 b.1)

module _ (j : Job) (ok : JobOk j) (n s : ℕ) where
  -- the kept children of a node are nodes
  pub kids_in : All (λ c. (c < length j.nodes) × (c < 24) × ((node_of j c).parent ≡ some n)) (kept_kids j n s)
  kids_in =
      All-filter (λ c. (c < length j.nodes) × (c < 24) × ((node_of j c).parent ≡ some n)) (λ c. keeps j c s) (kids j.nodes n)
      (kids_each (λ c. (c < length j.nodes) × (c < 24) × ((node_of j c).parent ≡ some n)) j.nodes n (λ c e. let u = ok.up c n e in (omega (arith, u.0, u.1), omega (arith, u.0, u.1, ok.nodes_high), e)))

  -- and rise
  pub kids_rising : Rising 0 (kept_kids j n s)
  kids_rising = rising_filter (λ c. keeps j c s) 0 (kids j.nodes n) (kids_rise 0 n j.nodes)

-- the inlets of an inner node feed it
pub fed_kept : (m : Machine) (k n s : ℕ) → n < 24 → JobOk m.job → fed_below m (place k n) (map (place k) (kept_kids m.job n s)) ≡ true
fed_kept m k n s h ok = fed_kids m k n 0 (kept_kids m.job n s) h (kids_rising m.job ok n s) (All-map _ _ (λ c b. (b.1, b.2)) (kept_kids m.job n s) (kids_in m.job ok n s))
