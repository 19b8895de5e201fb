-- Lowering leaves the job as it is, and an activation takes the next split.
use Rattle.std.specs.Prelude.{◌≡◌, refl, false, List, [], ◌∷◌, map, ℕ, suc, ◌+◌, ◌*◌, length, leb}
use Rattle.std.proofs.Common.{◌∙◌}
use Rattle.std.proofs.Math.Option.{Option, none, some}
use Rattle.rules.specs.Table.{get, put}
use Rattle.rules.specs.Job.{Kind, segment as aSegment, concat as aConcat, pack as aPack}
use Rattle.rules.specs.Plan.{root_of, keeps, kept_kids, first_leaf}
use Rattle.rules.specs.Operators.{Source, segment, concat, pack}
use Rattle.rules.specs.Machine.{Machine, Reader, nobody, slot, pipe, place, places, slot_places, node_at_place, live, port_at, set_port, set_queue, with_active, with_next, with_unbuilt, fault_if}
use Rattle.rules.specs.Pipelines.{lay, take_number, add}
use Rattle.rules.specs.Shares.{newest_waiting, claimants, port_of, empty_port, make_ports, claim_port, first_for, build, claim}
use Rattle.rules.specs.Lower.{connect, join_from, stage_for, lower_leaf, lower_join, lower_kind, lower_node, lower_list}
use Rattle.rules.specs.Scan.{activate}
use Rattle.laws.specs.Table.{by_bool, by_option}
use Rattle.order.specs.Pushes.{Stays}
use Rattle.order.specs.Cycle.{node_keeps, list_keeps}
use Rattle.order.specs.Wakings.{run_any}
use Rattle.order.specs.Clears.{finish_near}

-- one after the other
stays_then : (m k n : Machine) → Stays m k → Stays k n → Stays m n
stays_then m k n a b = (b.0 ∙ a.0, b.1 ∙ a.1)

-- A pipeline is made
lay_stays : (p : ℕ) (s : Source) (cut : Option ℕ) (xs : List ℕ) (m : Machine) → Stays m (lay p s cut xs m)
unfolding lay
lay_stays p s cut xs m = by_bool (live m p) (λ e. rw (e, lay) (refl, refl)) (λ e. rw (e, lay) (refl, refl))

number_stays : (p : ℕ) (ns : List ℕ) (m : Machine) → Stays m (take_number p ns m)
unfolding take_number
number_stays p (n ∷ ns) m = (refl, refl)
number_stays p [] m = by_bool (leb places m.made) (λ e. rw (e, take_number) (refl, refl)) (λ e. rw (e, take_number) (refl, refl))

add_stays : (p : ℕ) (m : Machine) → Stays m (add p m)
unfolding add
add_stays p m =
    let k : Machine = take_number p m.freed m in
    let t = run_any p k in
    stays_then m k (add p m) (number_stays p m.freed m) (t.0.2, t.0.3)

connect_stays : (p : ℕ) (r : Reader) (m : Machine) → Stays m (connect p r m)
connect_stays p r m = add_stays p (set_queue p [] (set_port p (empty_port r) m))

-- A split is lowered
pub join_stays : (k n i : ℕ) (cs : List ℕ) (m : Machine) → Stays m (join_from k n i cs m)
unfolding join_from
join_stays k n i [] m = (refl, refl)
join_stays k n i (c ∷ cs) m =
    let m' : Machine = connect (place k c) (pipe (place k n) i) m in
    stays_then m m' (join_from k n (suc i) cs m') (connect_stays (place k c) (pipe (place k n) i) m) (join_stays k n (suc i) cs m')

ports_stay : (xs : List ℕ) (m : Machine) → Stays m (make_ports xs m)
unfolding make_ports
ports_stay [] m = (refl, refl)
ports_stay (x ∷ xs) m = ports_stay xs (fault_if (port_at m x).there (set_queue x [] (set_port x (empty_port nobody) m)))

claim_port_stays : (p : ℕ) (o : Option ℕ) (m : Machine) → Stays m (claim_port p o m).1
claim_port_stays p none m = (refl, refl)
claim_port_stays p (some x) m = (refl, refl)

build_stays : (p l s : ℕ) (cs : List (ℕ × ℕ)) (m : Machine) → Stays m (build p l s cs m).1
unfolding build
build_stays p l s cs m =
    let a : Machine = make_ports (map port_of cs) m in
    let b : Machine = lay (slot_places + l) (segment false false 0) none [] a in
    let c : Machine = add (slot_places + l) b in
    by_bool (leb (length cs) 1)
    (λ e. rw (e, build) (refl, refl))
    (λ e. rw (e, build)
    (stays_then m a (claim_port p (first_for s cs) c).1 (ports_stay (map port_of cs) m)
    (stays_then a b (claim_port p (first_for s cs) c).1 (lay_stays (slot_places + l) (segment false false 0) none [] a)
    (stays_then b c (claim_port p (first_for s cs) c).1 (add_stays (slot_places + l) b) (claim_port_stays p (first_for s cs) c)))))

pub claim_stays : (p l s : ℕ) (m : Machine) → Stays m (claim p l s m).1
unfolding claim
claim_stays p l s m =
    let g = first_leaf m.job l in
    by_option (newest_waiting m l s)
    (λ e. by_bool (get false m.unbuilt g)
    (λ d. rw (e, claim, d) (build_stays p l s (claimants m l) (with_unbuilt (put false m.unbuilt g false) m)))
    (λ d. rw (e, claim, d) (refl, refl)))
    (λ x e. rw (e, claim) (refl, refl))

leaf_stays : (p s : ℕ) (o : Option ℕ) (m : Machine) → Stays m (lower_leaf p s (o, m))
unfolding lower_leaf
leaf_stays p s none m = lay_stays p (segment false false 0) none [] m
leaf_stays p s (some x) m = lay_stays p (concat 0) (stage_for m (node_at_place p) s) (x ∷ []) m

lower_join_stays : (source : Source) (k s n : ℕ) (m : Machine) → Stays m (lower_join source k s n m)
lower_join_stays source k s n m =
    let cs = kept_kids m.job n s in
    let m' : Machine = join_from k n 0 cs m in
    stays_then m m' (lower_join source k s n m) (join_stays k n 0 cs m) (lay_stays (place k n) source none (map (place k) cs) m')

kind_stays : (x : Kind) (k s n : ℕ) (m : Machine) → Stays m (lower_kind x k s n m)
kind_stays aSegment k s n m =
    let c = claim (place k n) n s m in
    stays_then m c.1 (lower_leaf (place k n) s c) (claim_stays (place k n) n s m) (leaf_stays (place k n) s c.0 c.1)
kind_stays aConcat k s n m = lower_join_stays (concat 0) k s n m
kind_stays aPack k s n m = lower_join_stays pack k s n m

-- the functions that call each other
pub node_stays : (f k s n : ℕ) (m : Machine) → Stays m (lower_node f k s n m)
node_stays = node_keeps Stays (λ m. (refl, refl)) stays_then kind_stays

pub list_stays : (f k s : ℕ) (cs : List ℕ) (m : Machine) → Stays m (lower_list f k s cs m)
list_stays = list_keeps Stays (λ m. (refl, refl)) stays_then kind_stays

-- an activation takes the next split
pub activate_next : (k : ℕ) (m : Machine) → ((activate k m).job ≡ m.job) × ((activate k m).next ≡ suc m.next)
unfolding activate
activate_next k m =
    let s = m.next in
    let root = root_of m.job in
    by_bool (keeps m.job root s)
    (λ e.
    let a : Machine = with_next (suc s) (with_active (put none m.active k (some s)) m) in
    let f = 2 * length m.job.nodes in
    let b : Machine = lower_node f k s root a in
    rw (e, activate) (stays_then a b (connect (place k root) slot b) (node_stays f k s root a) (connect_stays (place k root) slot b)))
    (λ e.
    let a : Machine = with_next (suc s) m in
    let t = finish_near s a in
    rw (e, activate) (t.2, t.3))
