-- A leaf that claims a port of its segment keeps the ranges: the port names the pipeline that is laid next.
use Rattle.std.specs.Prelude.{◌≡◌, refl, ◌≢◌, true, false, List, [], ◌∷◌, map, ℕ, ◌+◌, ◌<◌, ◌≤◌, length, eqb, leb}
use Rattle.std.proofs.Common.{sym, ap, ◌∙◌, inl, inr, arith, eq-eqb}
use Rattle.std.proofs.Math.Option.{Option, none, some}
use Rattle.rules.specs.Table.{get, put, filter, find, up_from}
use Rattle.rules.specs.Job.{Job}
use Rattle.rules.specs.Plan.{node_of, is_leaf, leaves, leaves_of, names, first_leaf, overlaps, pairs}
use Rattle.rules.specs.Operators.{Source, segment}
use Rattle.rules.specs.Machine.{pipe_at, places, Machine, Pipeline, nobody, node_at_place, share_port, leaf_of_port, slot_places, port_places, no_pipe, port_at, live, set_port, set_queue, with_unbuilt, fault_if}
use Rattle.rules.specs.Pipelines.{take_number, fresh, lay, add}
use Rattle.rules.specs.Wake.{enqueue, make_runnable}
use Rattle.rules.specs.Shares.{newest_waiting, claimants, port_of, empty_port, make_ports, claimed, claim_port, first_for, build, claim}
use Rattle.laws.specs.Table.{same, other, by_bool, by_eq, by_option, clash, and_left, and_both, put_length}
use Rattle.laws.specs.JobOk.{JobOk}
use Rattle.laws.specs.Rows.{All}
use Rattle.laws.specs.Stored.{both}
use Rattle.laws.specs.KidPlaces.{All-map}
use Rattle.order.specs.Inv.{There}
use Rattle.order.specs.Leaves.{leaf_below, leaf_kind, first_leaf_lem}
use Rattle.order.specs.ClaimLaws.{newest_some}
use Rattle.order.specs.Each.{All-back, All-both, All-filter, All-kept, All-find, All-image, All-flat, All-up}
use Rattle.order.specs.Ranging.{PortBody, Ranging, widen}
use Rattle.order.specs.RangingMoves.{at_same, port_set, queue_clear}
use Rattle.order.specs.RangingWake.{add_ranging, fault_set}
use Rattle.order.specs.RangingCalls.{unbuilt_set}
use Rattle.order.specs.RangingLay.{laid_ranging}
use Rattle.order.specs.RangingJoin.{Stays, stays_on, add_stays, ends_stay}
use Rattle.order.specs.Lowers.{none_to}

-- Shared ports

-- a port of a leaf and a split
abbrev pub ShareAt : Job → ℕ → Type 0
ShareAt j x = (l : ℕ) × (t : ℕ) × (x ≡ share_port l t) × (t < length j.splits) × (is_leaf j l ≡ true)

-- one of the segment of leaf g
abbrev OwnAt : Job → ℕ → ℕ → Type 0
OwnAt j g x = ShareAt j x × (names j g (leaf_of_port x) ≡ true)

-- it stands among the shared ports
share_bound : (j : Job) (x : ℕ) → JobOk j → ShareAt j x → (slot_places ≤ x) × (x < port_places)
share_bound j x ok h = let b : h.0 < length j.nodes = leaf_below j h.0 h.4 in
    (omega (arith, h.2), omega (arith, h.2, h.3, b, ok.nodes_high, ok.splits_high))

-- and is in range
share_body : (m : Machine) (x : ℕ) → JobOk m.job → ShareAt m.job x → PortBody m x
share_body m x ok h = let b = share_bound m.job x ok h in record { bound = b.1; place = λ i. absurd (omega (arith, b.0)); share = λ i. h }

-- the ports of the claimants of a segment
leaves_own : (j : Job) (g : ℕ) → All (λ i. names j g i ≡ true) (leaves_of j g)
leaves_own j g = All-map (λ i. (is_leaf j i ≡ true) × (eqb (node_of j i).segment (node_of j g).segment ≡ true)) _ (λ i h. and_both _ _ h.0 h.1)
    (leaves_of j g)
    (All-both (λ i. is_leaf j i ≡ true) _ (leaves j) (All-kept (is_leaf j) (up_from 0 (length j.nodes))))

leaf_of : (i s : ℕ) → s < 16 → leaf_of_port (share_port i s) ≡ i
leaf_of i s h = omega arith

claimants_own : (m : Machine) (l : ℕ) → JobOk m.job → All (λ c. OwnAt m.job l (port_of c)) (claimants m l)
claimants_own m l ok =
    let j : Job = m.job in
    All-filter (λ c. OwnAt j l (port_of c)) _ (pairs j l)
    (All-flat (λ c. OwnAt j l (port_of c)) (λ i. map (λ s. (i, s)) (filter (overlaps j i) (up_from 0 (length j.splits)))) (leaves_of j l)
    (All-map (λ i. names j l i ≡ true) _ (λ i e.
    All-image (λ c. OwnAt j l (port_of c)) (λ s. (i, s)) (filter (overlaps j i) (up_from 0 (length j.splits)))
    (All-filter (λ s. OwnAt j l (share_port i s)) (overlaps j i) (up_from 0 (length j.splits))
    (All-up (λ s. OwnAt j l (share_port i s)) 0 (length j.splits) (λ s a b.
    ((i, s, refl, omega arith, and_left _ _ e), rw (leaf_of i s (omega (arith, ok.splits_high))) e))))) (leaves_of j l) (leaves_own j l)))

-- a port more
make_step : (x : ℕ) (xs : List ℕ) (m : Machine) → ShareAt m.job x → Ranging Unit none_to m
    → (let c : Machine = fault_if (port_at m x).there (set_queue x [] (set_port x (empty_port nobody) m)) in Ranging Unit none_to c → Ranging Unit none_to (make_ports xs c) × Stays c (make_ports xs c))
    → Ranging Unit none_to (make_ports (x ∷ xs) m) × Stays m (make_ports (x ∷ xs) m)
unfolding make_ports
make_step x xs m h r ih =
    let b : x < port_places = (share_bound m.job x r.job h).1 in
    let c : Machine = fault_if (port_at m x).there (set_queue x [] (set_port x (empty_port nobody) m)) in
    let d = ih (fault_set Unit none_to (set_queue x [] (set_port x (empty_port nobody) m)) (port_at m x).there
    (queue_clear Unit none_to (set_port x (empty_port nobody) m)
    (port_set Unit none_to m r none_to x (empty_port nobody) b (λ y p i a. a) (λ t. share_body m x r.job h) (λ p i t e. clash (cc)) (λ t e. clash (cc)) (inl refl)) x b)) in
    (d.0, stays_on m c _ (ends_stay m c (refl, refl, refl)) d.1)

-- one port for each
make_ranging : (xs : List ℕ) (m : Machine) → All (ShareAt m.job) xs → Ranging Unit none_to m → Ranging Unit none_to (make_ports xs m) × Stays m (make_ports xs m)
unfolding make_ports
make_ranging [] m h r = (r, ends_stay m m (refl, refl, refl))
make_ranging (x ∷ xs) m h r = make_step x xs m h.0 r (λ e. make_ranging xs _ h.1 e)

-- a port that was made is there
make_on : (xs : List ℕ) (m : Machine) (y : ℕ) → There m.ports y → There (make_ports xs m).ports y
unfolding make_ports
make_on [] m y t = t
make_on (x ∷ xs) m y t = make_on xs _ y (by_eq y x (λ d. rw (d, same)) (λ d. rw other t))

made_there : (xs : List ℕ) (m : Machine) → All (There (make_ports xs m).ports) xs
unfolding make_ports
made_there [] m = tt
made_there (x ∷ xs) m = (make_on xs _ x (rw same), made_there xs _)

-- laying and queueing a pipeline leave the ports
runnable_ports : (p : ℕ) (m : Machine) → (make_runnable p m).ports ≡ m.ports
unfolding make_runnable
runnable_ports p m = by_bool (pipe_at m p).queued (λ e. rw (e, make_runnable))
    (λ e. rw (e, make_runnable) (by_bool (leb places (length m.ready)) (λ f. rw (f, enqueue)) (λ f. rw (f, enqueue))))

taken_ports : (p : ℕ) (ns : List ℕ) (m : Machine) → (take_number p ns m).ports ≡ m.ports
unfolding take_number
taken_ports p [] m = by_bool (leb places m.made) (λ e. rw (e, take_number)) (λ e. rw (e, take_number))
taken_ports p (n ∷ ns) m = refl

add_ports : (p : ℕ) (m : Machine) → (add p m).ports ≡ m.ports
unfolding add
add_ports p m = runnable_ports p (take_number p m.freed m) ∙ taken_ports p m.freed m

laid_ports : (p : ℕ) (s : Source) (m : Machine) → (add p (lay p s none [] m)).ports ≡ m.ports
unfolding lay
laid_ports p s m = by_bool (live m p) (λ e. rw (e, lay) (add_ports p _)) (λ e. rw (e, lay) (add_ports p _))

-- The shared source

-- it is laid, or stands there already, which is a fault
source_ranging : (m : Machine) (l : ℕ) → is_leaf m.job l ≡ true → Ranging Unit none_to m
    → Ranging Unit none_to (lay (slot_places + l) (segment false false 0) none [] m) × Stays m (lay (slot_places + l) (segment false false 0) none [] m)
unfolding lay
source_ranging m l h r =
    let b : l < length m.job.nodes = leaf_below m.job l h in
    let c : l < 24 = omega (arith, b, r.job.nodes_high) in
    let p : ℕ = slot_places + l in
    let n : node_at_place p ≡ l = omega arith in
    by_bool (live m p)
    (λ e. rw (e, lay) (fault_set Unit none_to m true r, ends_stay m _ (refl, refl, refl)))
    (λ e. rw (e, lay) (
      laid_ranging none_to m p (segment false false 0) none [] e (omega arith) (rw n b, (λ i. absurd (omega arith)), λ i. rw n h) (rw n (leaf_kind m.job l h), refl, refl, refl) (λ x q i a. absurd a) r,
      record { job = refl; active = refl; lives = λ q i. let d : q ≢ p = omega arith in ap (λ (w : Pipeline). w.live) (other no_pipe m.pipes p q fresh d) },
    ))

-- Claims

-- what a claim comes to: the port claimed is of the segment of leaf l, and names inlet 0 of the pipeline at p
pub record ClaimOk (p l : ℕ) (m : Machine) (o : Option ℕ) (m' : Machine) : Type 0 where
  pub ranging : Ranging Unit (λ x q i. (o ≡ some x) × (q ≡ p) × (i ≡ 0)) m'
  pub stays : Stays m m'
  pub port : (x : ℕ) → o ≡ some x → (slot_places ≤ x) × (x < port_places) × (names m.job l (leaf_of_port x) ≡ true)

-- no port
unclaimed : (p l : ℕ) (m m' : Machine) → Ranging Unit none_to m' → Stays m m' → ClaimOk p l m none m'
unclaimed p l m m' r t = record { ranging = widen Unit Unit none_to _ m' (λ u. u) (λ x q i a. absurd a) r; stays = t; port = λ x e. clash (cc) }

-- a claim after what leaves the slots
claim_from : (p l : ℕ) (m c : Machine) (o : Option ℕ) (m' : Machine) → Stays m c → ClaimOk p l c o m' → ClaimOk p l m o m'
claim_from p l m c o m' t k = record {
  ranging = k.ranging;
  stays = stays_on m c m' t k.stays;
  port = λ x e. rw (← ap (λ (j : Job). names j l (leaf_of_port x)) t.job) (k.port x e);
}

-- a port that a claim of leaf l may take
abbrev Claimable : Machine → ℕ → ℕ → Machine → Type 0
Claimable m l x m' = (slot_places ≤ x) × (x < port_places) × There m'.ports x × (names m.job l (leaf_of_port x) ≡ true)

-- a port
claim_port_lem : (p l x : ℕ) (m m' : Machine) → Claimable m l x m' → Ranging Unit none_to m' → Stays m m'
    → ClaimOk p l m (some x) (set_port x (claimed (port_at m' x) p) m')
claim_port_lem p l x m m' b r t = record {
  ranging = port_set Unit none_to m' r (λ y q i. (some x ≡ some y) × (q ≡ p) × (i ≡ 0)) x (claimed (port_at m' x) p) b.1 (λ y q i a. absurd a) (λ e. r.ports x e)
      (λ q i e d. let u : p ≡ q = cc in let v : 0 ≡ i = cc in inr (refl, sym u, sym v)) (λ e d. clash (cc)) (inl b.2);
  stays = stays_on m m' _ t (ends_stay m' _ (refl, refl, refl));
  port = λ y e. let u : x ≡ y = cc in rw (← u) (b.0, b.1, b.3);
}

-- either
claim_ok : (p l : ℕ) (o : Option ℕ) (m m' : Machine) → ((x : ℕ) → o ≡ some x → Claimable m l x m') → Ranging Unit none_to m' → Stays m m'
    → ClaimOk p l m (claim_port p o m').0 (claim_port p o m').1
claim_ok p l none m m' b r t = unclaimed p l m m' r t
claim_ok p l (some x) m m' b r t = claim_port_lem p l x m m' (b x refl) r t

-- the first port made for a split is one of those made
first_for_lem : (P : ℕ → Type 0) (s x : ℕ) (cs : List (ℕ × ℕ)) → All (λ c. P (port_of c)) cs → first_for s cs ≡ some x → P x
first_for_lem P s x cs h e = by_option (find (λ (c : ℕ × ℕ). eqb c.1 s) cs)
    (λ d. clash (cc))
    (λ c d. let u : port_of c ≡ x = cc in rw (← u) (All-find (λ c. P (port_of c)) (λ (c : ℕ × ℕ). eqb c.1 s) cs c h d).0)

-- ports and a source are made
build_ok : (p l s : ℕ) (m : Machine) (cs : List (ℕ × ℕ)) → is_leaf m.job l ≡ true → All (λ c. OwnAt m.job l (port_of c)) cs → Ranging Unit none_to m
    → ClaimOk p l m (build p l s cs m).0 (build p l s cs m).1
unfolding build
build_ok p l s m cs h a r = by_bool (leb (length cs) 1)
    (λ e. rw (e, build) (unclaimed p l m m r (ends_stay m m (refl, refl, refl))))
    (λ e. rw (e, build) made)
  where
    made : let c : Machine = add (slot_places + l) (lay (slot_places + l) (segment false false 0) none []
        (make_ports (map port_of cs) m)) in ClaimOk p l m (claim_port p (first_for s cs) c).0 (claim_port p (first_for s cs) c).1
    made =
        let b : l < length m.job.nodes = leaf_below m.job l h in
        let c1 : Machine = make_ports (map port_of cs) m in
        let c2 : Machine = lay (slot_places + l) (segment false false 0) none [] c1 in
        let r1 = make_ranging (map port_of cs) m (All-image (ShareAt m.job) port_of cs (All-map _ _ (λ c h. h.0) cs a)) r in
        let r2 = source_ranging c1 l (rw r1.1.job h) r1.0 in
        claim_ok p l (first_for s cs) m (add (slot_places + l) c2)
        (λ x e. let o = first_for_lem (OwnAt m.job l) s x cs a e in let b = share_bound m.job x r.job o.0 in (
          b.0,
          b.1,
          rw (laid_ports (slot_places + l) (segment false false 0) c1)
              (first_for_lem (There c1.ports) s x cs (All-back (There c1.ports) port_of cs (made_there (map port_of cs) m)) e),
          o.1,
        ))
        (add_ranging Unit none_to c2 (slot_places + l) (omega (arith, b, r.job.nodes_high)) r2.0)
        (stays_on m c1 _ r1.1 (stays_on c1 c2 _ r2.1 (add_stays c2 (slot_places + l))))

-- the segment is not to be built any more
built_ranging : (m : Machine) (g : ℕ) → g < 24 → Ranging Unit none_to m → Ranging Unit none_to (with_unbuilt (put false m.unbuilt g false) m)
built_ranging m g h r = unbuilt_set Unit none_to m (put false m.unbuilt g false) (put_length false m.unbuilt g false (rw r.sizes.unbuilt h))
    (λ i e. by_eq i g (λ d. clash (cc (e, at_same false m.unbuilt g i false d))) (λ d. r.lists.unbuilt i (sym (other false m.unbuilt g i false d) ∙ e))) r

-- a waiting port is a shared port
waiting_bound : (m : Machine) (l s x : ℕ) → s < 16 → Ranging Unit none_to m → newest_waiting m l s ≡ some x → Claimable m l x m
waiting_bound m l s x h r e =
    let w = newest_some m l s x e in
    let t = both (port_at m x).there _ w.4 in
    let q = w.3 in
    (omega (arith, q), (r.ports x t.0).bound, t.0, rw (q, leaf_of w.0 s h) (and_both _ _ w.1 (eq-eqb _ _ w.2)))

-- a leaf claims a port that waits, has ports and a source made, or has none
pub claim_ranging : (p l s : ℕ) (m : Machine) → s < 16 → is_leaf m.job l ≡ true → Ranging Unit none_to m → ClaimOk p l m (claim p l s m).0 (claim p l s m).1
unfolding claim
claim_ranging p l s m few h r = by_option (newest_waiting m l s)
    (λ e. by_bool (get false m.unbuilt (first_leaf m.job l))
    (λ u. rw (e, claim, u) (claim_from p l m c _ _ (ends_stay m c (refl, refl, refl))
    (build_ok p l s c (claimants m l) h (claimants_own m l r.job)
    (built_ranging m (first_leaf m.job l) (omega (arith, first, r.job.nodes_high)) r))))
    (λ u. rw (e, claim, u) (unclaimed p l m m r (ends_stay m m (refl, refl, refl)))))
    (λ x e. rw (e, claim) (claim_port_lem p l x m m (waiting_bound m l s x few r e) r (ends_stay m m (refl, refl, refl))))
  where
    c : Machine
    c = with_unbuilt (put false m.unbuilt (first_leaf m.job l) false) m

    first : first_leaf m.job l < length m.job.nodes
    first = leaf_below m.job (first_leaf m.job l) (first_leaf_lem m.job l h).0
