-- What a slot's turn and an activation do to the job and the reads: nothing that is seen.
use Rattle.std.specs.Prelude.{◌≡◌, refl, Bool, true, false, List, [], ◌∷◌, ◌++◌, map, ℕ, suc, ◌+◌, ◌*◌, length, leb}
use Rattle.std.proofs.Common.{ap, ◌∙◌}
use Rattle.std.proofs.Math.Option.{Option, none, some}
use Rattle.rules.specs.Table.{get, put, filter, up_from}
use Rattle.rules.specs.Job.{Kind, segment as aSegment, concat as aConcat, pack as aPack, max_nodes}
use Rattle.rules.specs.Plan.{root_of, keeps, kept_kids, first_leaf}
use Rattle.rules.specs.Operators.{Source, segment}
use Rattle.rules.specs.Machine.{Machine, Reader, slot, pipe, place, slot_places, live, port_at, queue_at, set_port, set_queue, with_finished, with_active, with_next, with_outputs, with_ready, with_unbuilt, places}
use Rattle.rules.specs.Ports.{free_port, free_each}
use Rattle.rules.specs.Wake.{wake_writer}
use Rattle.rules.specs.Pipelines.{lay, take_number, add, retire, without, by_number, retire_each}
use Rattle.rules.specs.Shares.{newest_waiting, claimants, make_ports, port_of, claim_port, first_for, build, claim, empty_port}
use Rattle.rules.specs.Lower.{connect, join_from, lower_leaf, lower_kind, lower_node}
use Rattle.rules.specs.Scan.{is_unread, split_ports, end_split, places_of, empty_slot, activate, serve, advance, output_of}
use Rattle.laws.specs.Table.{by_bool, by_option}
use Rattle.order.specs.Inv.{read_at}
use Rattle.order.specs.Still.{Still, still_same, still_then, still_if, runnable_still, writer_still}
use Rattle.order.specs.Cycle.{node_keeps}
use Rattle.order.specs.Reading.{Keeps, keeps_still, keeps_then, retire_keeps}

-- Lowering

lay_still : (p : ℕ) (s : Source) (cut : Option ℕ) (xs : List ℕ) (m : Machine) → Still m (lay p s cut xs m)
unfolding lay
lay_still p s cut xs m = still_if (live m p) m _ _ (record { job = refl; reads = refl; news = refl; outputs = refl }) (record { job = refl; reads = refl; news = refl; outputs = refl })

number_still : (p : ℕ) (ns : List ℕ) (m : Machine) → Still m (take_number p ns m)
unfolding take_number
number_still p (n ∷ ns) m = record { job = refl; reads = refl; news = refl; outputs = refl }
number_still p [] m = still_if (leb places m.made) m _ _ (record { job = refl; reads = refl; news = refl; outputs = refl }) (record { job = refl; reads = refl; news = refl; outputs = refl })

add_still : (p : ℕ) (m : Machine) → Still m (add p m)
unfolding add
add_still p m = still_then (number_still p m.freed m) (runnable_still p (take_number p m.freed m))

connect_still : (p : ℕ) (r : Reader) (m : Machine) → Still m (connect p r m)
connect_still p r m = let s = add_still p (set_queue p [] (set_port p (empty_port r) m)) in record { job = s.job; reads = s.reads; news = s.news; outputs = s.outputs }

join_still : (k n i : ℕ) (cs : List ℕ) (m : Machine) → Still m (join_from k n i cs m)
unfolding join_from
join_still k n i [] m = still_same m
join_still k n i (c ∷ cs) m = still_then (connect_still (place k c) (pipe (place k n) i) m) (join_still k n (suc i) cs (connect (place k c) (pipe (place k n) i) m))

ports_still : (xs : List ℕ) (m : Machine) → Still m (make_ports xs m)
unfolding make_ports
ports_still [] m = still_same m
ports_still (x ∷ xs) m = let s = ports_still xs _ in record { job = s.job; reads = s.reads; news = s.news; outputs = s.outputs }

port_still : (p : ℕ) (o : Option ℕ) (m : Machine) → Still m (claim_port p o m).1
port_still p none m = still_same m
port_still p (some x) m = record { job = refl; reads = refl; news = refl; outputs = refl }

build_still : (p l s : ℕ) (cs : List (ℕ × ℕ)) (m : Machine) → Still m (build p l s cs m).1
unfolding build
build_still p l s cs m =
    let q = slot_places + l in
    let a = ports_still (map port_of cs) m in
    let n = make_ports (map port_of cs) m in
    let b = lay_still q (segment false false 0) none [] n in
    let c = add_still q (lay q (segment false false 0) none [] n) in
    pair (leb (length cs) 1) _ _ (still_same m) (still_then (still_then (still_then a b) c) (port_still p (first_for s cs) (add q (lay q (segment false false 0) none [] n))))
  where
    pair : (b : Bool) (x y : Option ℕ × Machine) → Still m x.1 → Still m y.1 → Still m (elim b as (λ t. Option ℕ × Machine) [ true ↦ x | false ↦ y ]).1
    pair true x y p q = p
    pair false x y p q = q

claim_still : (p l s : ℕ) (m : Machine) → Still m (claim p l s m).1
unfolding claim
claim_still p l s m = by_option (newest_waiting m l s)
    (λ e. by_bool (get false m.unbuilt (first_leaf m.job l))
    (λ f. rw (e, claim, f) (let t = build_still p l s (claimants m l) (with_unbuilt (put false m.unbuilt (first_leaf m.job l) false) m) in record { job = t.job; reads = t.reads; news = t.news; outputs = t.outputs }))
    (λ f. rw (e, claim, f) (still_same m)))
    (λ x e. rw (e, claim) (port_still p (some x) m))

leaf_still : (p s : ℕ) (c : Option ℕ × Machine) → Still c.1 (lower_leaf p s c)
unfolding lower_leaf
leaf_still p s (none, m) = lay_still p _ _ _ m
leaf_still p s (some x, m) = lay_still p _ _ _ m

kind_still : (t : Kind) (k s n : ℕ) (m : Machine) → Still m (lower_kind t k s n m)
kind_still aSegment k s n m = still_then (claim_still (place k n) n s m) (leaf_still (place k n) s (claim (place k n) n s m))
kind_still aConcat k s n m = still_then (join_still k n 0 (kept_kids m.job n s) m) (lay_still (place k n) _ _ _ (join_from k n 0 (kept_kids m.job n s) m))
kind_still aPack k s n m = still_then (join_still k n 0 (kept_kids m.job n s) m) (lay_still (place k n) _ _ _ (join_from k n 0 (kept_kids m.job n s) m))

node_still : (f k s n : ℕ) (m : Machine) → Still m (lower_node f k s n m)
node_still = node_keeps Still still_same (λ a b c. still_then) kind_still

-- Splits

frees_still : (xs : List ℕ) (m : Machine) → Still m (free_each xs m)
unfolding free_each
frees_still [] m = still_same m
frees_still (x ∷ xs) m = let t = frees_still xs (free_port x m) in record { job = t.job; reads = t.reads; news = t.news; outputs = t.outputs }

retires_keeps : (ps : List ℕ) (m : Machine) → Keeps m (retire_each ps m)
unfolding retire_each
retires_keeps [] m = keeps_still (still_same m)
retires_keeps (p ∷ ps) m = let k = with_ready (without p m.ready) m in
    keeps_then (keeps_then (keeps_still (record { job = refl; reads = refl; news = refl; outputs = refl })) (retire_keeps p k))
    (retires_keeps ps (retire p k))

finish_keeps : (s : ℕ) (m : Machine) → Keeps m (end_split s m)
unfolding end_split
finish_keeps s m =
    let k = with_finished (put false m.finished s true) m in
    let n = free_each (split_ports s) k in
    keeps_then (keeps_then (keeps_still (record { job = refl; reads = refl; news = refl; outputs = refl })) (keeps_still (frees_still (split_ports s) k)))
    (retires_keeps (by_number n.pipes (filter (is_unread n) (up_from slot_places max_nodes))) n)

slot_keeps : (k : ℕ) (m : Machine) → Keeps m (empty_slot k m)
unfolding empty_slot
slot_keeps k m =
    let ps = by_number m.pipes (places_of k) in
    let t = keeps_then (retires_keeps ps m) (keeps_still (frees_still (places_of k) (retire_each ps m))) in
    record { job = t.job; size = t.size; leaf = t.leaf; delivered = t.delivered; news = t.news; outputs = t.outputs }

pub activate_keeps : (k : ℕ) (m : Machine) → Keeps m (activate k m)
unfolding activate
activate_keeps k m =
    let s = m.next in
    let a = with_next (suc s) (with_active (put none m.active k (some s)) m) in
    by_bool (keeps m.job (root_of m.job) s)
    (λ e. rw (e, activate) (let f = 2 * length m.job.nodes in
    let t = still_then (node_still f k s (root_of m.job) a)
    (connect_still (place k (root_of m.job)) slot (lower_node f k s (root_of m.job) a)) in keeps_still
    (record { job = t.job; reads = t.reads; news = t.news; outputs = t.outputs })))
    (λ e. rw (e, activate) (keeps_then (keeps_still (record { job = refl; reads = refl; news = refl; outputs = refl }))
    (finish_keeps s (with_next (suc s) m))))

-- as `Keeps`, but that rows may go to the outputs
pub record Serves (m m' : Machine) : Type 0 where
  pub job : m'.job ≡ m.job
  pub size : length m'.reads ≡ length m.reads
  pub leaf : (r : ℕ) → (read_at m'.reads r).leaf ≡ (read_at m.reads r).leaf
  pub delivered : (r : ℕ) → (read_at m'.reads r).delivered ≡ (read_at m.reads r).delivered
  pub news : m'.news ≡ m.news

serves : {a b c : Machine} → Serves a b → Keeps b c → Serves a c
serves p q = record { job = q.job ∙ p.job; size = q.size ∙ p.size; leaf = λ r. q.leaf r ∙ p.leaf r; delivered = λ r. q.delivered r ∙ p.delivered r; news = q.news ∙ p.news }

serve_keeps : (k s x : ℕ) (m : Machine) → Serves m (serve k s x m)
unfolding serve
serve_keeps k s x m =
    let n = set_queue x [] (with_outputs (m.outputs ++ map (output_of s) (queue_at m x)) m) in
    let a : Serves m (wake_writer x n) = let t = writer_still x n in record { job = t.job; size = ap (λ l. length l) t.reads; leaf = λ r. rw t.reads; delivered = λ r. rw t.reads; news = t.news } in
    by_bool (port_at m x).closed
    (λ e. rw (e, serve) (serves a (keeps_then (slot_keeps k (wake_writer x n)) (finish_keeps s (empty_slot k (wake_writer x n))))))
    (λ e. rw (e, serve) a)

pub advance_keeps : (k : ℕ) (m : Machine) → Serves m (advance k m)
unfolding advance
advance_keeps k m = by_option (get none m.active k) (λ e. rw (e, advance) (record { job = refl; size = refl; leaf = λ r. refl; delivered = λ r. refl; news = refl })) (λ s e. rw (e, advance) (serve_keeps k s (place k (root_of m.job)) m))
