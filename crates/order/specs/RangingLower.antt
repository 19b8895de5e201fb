-- A split that is lowered into a free slot keeps the ranges.
use Rattle.std.specs.Prelude.{◌≡◌, ◌≢◌, length, ltb}
use Rattle.std.proofs.Math.Path.{refl, ap}
use Rattle.std.proofs.Common.{sym, ◌∙◌, inl, lt-ltb, le-leb, ltb-true, ltb-false}
use Rattle.std.proofs.Math.Logic.{inr}
use Rattle.std.proofs.Math.Bool.{true, false}
use mathlib.Core.List.{List, [], ◌∷◌, map}
use Rattle.std.proofs.Math.Option.{Option, none, some}
use Prim.Native.Nat.{ℕ, zero, suc, ◌+◌, ◌<◌, ◌≤◌}
use native.Mathlib.Omega.{arith}
use Rattle.rules.specs.Table.{put}
use Rattle.rules.specs.Job.{Job, Kind, is_segment, segment as aSegment, concat as aConcat, pack as aPack}
use Rattle.rules.specs.Plan.{node_of, root_of, is_leaf, kept, keeps, kept_kids, is_whole, names}
use Rattle.rules.specs.Operators.{Source, segment, concat, pack}
use Rattle.rules.specs.Machine.{Machine, Pipeline, slot, place, node_at_place, slot_at_place, slot_places, port_places, no_pipe, live, with_next, with_active, leaf_of_port}
use Rattle.rules.specs.Pipelines.{fresh, lay}
use Rattle.rules.specs.Shares.{claim}
use Rattle.rules.specs.Lower.{connect, join_from, stage_for, lower_leaf, lower_join, lower_kind}
use Rattle.rules.specs.Scan.{activate}
use Rattle.rules.specs.Check.{fed_below, fed_shared, is_concat}
use Rattle.laws.specs.Table.{same, other, by_bool, clash, and_both}
use Rattle.laws.specs.JobOk.{JobOk}
use Rattle.laws.specs.KidPlaces.{All-map}
use Rattle.order.specs.Inv.{Live, There, split_in, At}
use Rattle.order.specs.Base.{place_node, place_slot, place_bound, place_apart}
use Rattle.order.specs.Ranged.{Ranged}
use Rattle.order.specs.Ranging.{Ranging, widen, all_numbered, below_alike, of_ranged, to_ranged}
use Rattle.order.specs.RangingCalls.{next_set}
use Rattle.order.specs.RangingAdvance.{active_set, finish_ranging}
use Rattle.order.specs.RangingLay.{Fits, laid_ranging, lay_free}
use Rattle.order.specs.RangingJoin.{Stays, connect_made, slot_place, connect_ranging, InletOf, join_ranging, kids_in, fed_kept}
use Rattle.order.specs.RangingClaim.{ClaimOk, claim_ranging}
use Rattle.order.specs.Lowers.{none_to}
use Rattle.order.specs.LowerFrom.{lower_one, lower_from, by_nodes}

-- one shared port feeds a claimed leaf
fed_one : (c : Machine) (p x : ℕ) → slot_places ≤ x → x < port_places → p < slot_places → names c.job (node_at_place p) (leaf_of_port x) ≡ true
    → fed_shared c p (x ∷ []) ≡ true
unfolding fed_shared
fed_one c p x a b d e = and_both _ _ (and_both _ _ (and_both _ _ (le-leb slot_places x a) (lt-ltb x port_places b)) (lt-ltb p slot_places d)) e

-- it is inlet 0
at_first : (y x u : ℕ) → some y ≡ some x → u ≡ 0 → At (y ∷ []) u x
at_first y x u e z = rw z (let q : y ≡ x = cc in q)

-- the nodes below i of job j are lowered, for split s, into slot k
record Low (j : Job) (k s i : ℕ) (m : Machine) : Type 0 where
  ranging : Ranging Unit none_to m
  job : m.job ≡ j
  split : split_in m.active k ≡ some s
  unlaid : (n : ℕ) → i ≤ n → n < 24 → live m (place k n) ≡ false

module _ (j : Job) (ok : JobOk j) (k s : ℕ) (below : k < 3) where
  -- the node's pipeline is laid, after what leaves the slots
  laid_low : (to : ℕ → ℕ → ℕ → Type 0) (n : ℕ) (m c : Machine) (src : Source) (cut : Option ℕ) (xs : List ℕ) → n < length j.nodes → Low j k s n m → Stays m c → Ranging Unit to c
      → Fits c (place k n) (node_of j n).kind src cut xs → ((x q i : ℕ) → to x q i → (q ≡ place k n) × At xs i x) → Low j k s (suc n) (lay (place k n) src cut xs c)
  laid_low to n m c src cut xs h v t r f w =
      let p : ℕ = place k n in
      let b : n < 24 = omega (arith, h, ok.nodes_high) in
      let d : live c p ≡ false = t.lives p (place_bound k n below b) ∙ v.unlaid n (omega arith) b in
      let e : c.job ≡ j = t.job ∙ v.job in
      let a : split_in c.active k ≡ some s = rw t.active v.split in
      rw (lay_free p src cut xs c d) (record {
        ranging = laid_ranging to c p src cut xs d (let z : p < slot_places = place_bound k n below b in omega arith) (slot_place c k s n (rw e h) b below a) (rw (place_node k n b, ap (λ (i : Job). (node_of i n).kind) e) f)
            (λ x q i u. ((w x q i u).0, place_bound k n below b, (w x q i u).1)) r;
        job = e;
        split = a;
        unlaid = λ i l g. let o : place k i ≢ p = place_apart k i n (omega arith) in
            ap (λ (y : Pipeline). y.live) (other no_pipe c.pipes p (place k i) fresh o) ∙ t.lives (place k i) (place_bound k i below g) ∙ v.unlaid i (omega arith) g;
      })

  -- a leaf: a source of its own, or a port that it has claimed
  stage_zero : (m : Machine) (n c : ℕ) → stage_for m n s ≡ some c → c ≡ 0
  stage_zero m n c e = by_bool (is_whole (node_of m.job n).rows (kept m.job n s)) (λ w. clash (cc (rw w at e))) (λ w. let z : some 0 ≡ some c = rw w at e in cc)

  -- so a leaf is lowered
  leaf_low : (n : ℕ) (m : Machine) (o : Option ℕ) (c : Machine) → n < length j.nodes → is_segment (node_of j n).kind ≡ true
      → is_concat (node_of j n).kind ≡ false → Low j k s n m → ClaimOk (place k n) n m o c
      → Low j k s (suc n) (lower_leaf (place k n) s (o, c))
  unfolding lower_leaf
  leaf_low n m none c h g i v a =
      laid_low _ n m c (segment false false 0) none [] h v a.stays a.ranging (g, refl, refl, refl) (λ x q u w. clash (cc w.0))
  leaf_low n m (some y) c h g i v a =
      let b : n < 24 = omega (arith, h, ok.nodes_high) in
      let p : ℕ = place k n in
      let w = a.port y refl in
      let z : names c.job (node_at_place p) (leaf_of_port y) ≡ true = rw (place_node k n b, ap (λ (i : Job). names i n (leaf_of_port y)) a.stays.job) w.2 in
      laid_low _ n m c (concat 0) (stage_for c (node_at_place p) s) (y ∷ []) h v a.stays a.ranging
      (refl, place_bound k n below b, inr (i, g, fed_one c p y w.0 w.1 (place_bound k n below b) z, stage_zero c (node_at_place p)))
      (λ x q u e. (e.1, at_first y x u e.0 e.2))

  -- an inner node: its children are joined to it
  join_low : (src : Source) (n : ℕ) (m : Machine) → n < length j.nodes → Low j k s n m
      → ((c : Machine) (xs : List ℕ) → fed_below c (place k n) xs ≡ true → Fits c (place k n) (node_of j n).kind src none xs) → Low j k s (suc n) (lower_join src k s n m)
  join_low src n m h v f =
      let b : n < 24 = omega (arith, h, ok.nodes_high) in
      let cs : List ℕ = kept_kids m.job n s in
      let r : Ranging Unit none_to m = v.ranging in
      let d = join_ranging k s n cs m below (All-map _ _ (λ c u. (u.0, u.1)) cs (kids_in m.job r.job n s)) v.split (widen Unit Unit none_to (InletOf k n cs) m (λ u. u) (λ x q i a. absurd a) r) in
      let c : Machine = join_from k n 0 cs m in
      laid_low (InletOf k n cs) n m c src none (map (place k) cs) h v d.1 d.0
      (f c (map (place k) cs) (below_alike m c (place k n) (map (place k) cs) d.1.job ∙ fed_kept m k n s b r.job)) (λ x q i u. u)

  -- by the kind of node
  kind_low : (a : Kind) (n : ℕ) (m : Machine) → (node_of j n).kind ≡ a → n < length j.nodes → Low j k s n m → Low j k s (suc n) (lower_kind a k s n m)
  kind_low aSegment n m e h v =
      let g : is_segment (node_of j n).kind ≡ true = rw e in
      let few : s < 16 = omega (arith, (v.ranging.lists.active k s v.split).1, v.ranging.job.splits_high) in
      let l : is_leaf m.job n ≡ true = rw v.job (and_both _ _ (lt-ltb n (length j.nodes) h) g) in
      leaf_low n m (claim (place k n) n s m).0 (claim (place k n) n s m).1 h g (rw e) v (claim_ranging (place k n) n s m few l v.ranging)
  kind_low aConcat n m e h v = join_low (concat 0) n m h v (λ c xs f. (refl, place_bound k n below (omega (arith, h, ok.nodes_high)), inl (rw e, f, refl)))
  kind_low aPack n m e h v = join_low pack n m h v (λ c xs f. (rw e, place_bound k n below (omega (arith, h, ok.nodes_high)), f, refl))

  -- a node is lowered, if it keeps rows
  node_low : (n : ℕ) (m : Machine) → n < length j.nodes → Low j k s n m → Low j k s (suc n) (lower_one k s n m)
  unfolding lower_one
  node_low n m h v = by_bool (keeps m.job n s)
      (λ e. rw (e, lower_one) (kind_low (node_of m.job n).kind n m (ap (λ (i : Job). (node_of i n).kind) (sym v.job)) h v))
      (λ e. rw (e, lower_one) (record { ranging = v.ranging; job = v.job; split = v.split; unlaid = λ i l g. v.unlaid i (omega arith) g }))

  -- all nodes
  from_low : (n i : ℕ) (m : Machine) → i + n ≤ length j.nodes → Low j k s i m → Low j k s (i + n) (lower_from k s i n m)
  unfolding lower_from
  from_low zero i m h v = let e : i + 0 ≡ i = omega arith in rw e v
  from_low (suc n) i m h v = let e : i + suc n ≡ suc i + n = omega arith in rw e
      (from_low n (suc i) (lower_one k s i m) (omega arith) (node_low i m (omega arith) v))

-- Activation

-- nothing stands in a free slot
free_pipes : (m : Machine) (k p : ℕ) → k < 3 → split_in m.active k ≡ none → Ranging ⊥ none_to m → Live m.pipes p → slot_at_place p ≢ k
free_pipes m k p h e r l q = by_bool (ltb p slot_places)
    (λ b. let a = (r.pipes p l).place.1 (ltb-true p slot_places b) in clash (cc (e, rw q at a.1)))
    (λ b. let c : slot_places ≤ p = ltb-false p slot_places b in absurd (omega arith))

-- no port either
free_ports : (m : Machine) (k x : ℕ) → split_in m.active k ≡ none → Ranging ⊥ none_to m → There m.ports x → x < slot_places → slot_at_place x ≢ k
free_ports m k x e r t h q = let a = ((r.ports x t).place h).1 h in clash (cc (e, rw q at a.1))

-- a split that keeps rows is lowered
lowered_ranging : (m : Machine) (k : ℕ) → k < m.job.slots → split_in m.active k ≡ none → m.next < length m.job.splits → Ranging ⊥ none_to m
    → Ranging ⊥ none_to (connect (place k (root_of m.job)) slot (lower_from k m.next 0 (length m.job.nodes) (with_next (suc m.next) (with_active (put none m.active k (some m.next)) m))))
lowered_ranging m k h e b r =
    let s : ℕ = m.next in
    let j : Job = m.job in
    let l : k < 3 = omega (arith, h, r.job.slots_high) in
    let n : root_of j < 24 = omega (arith, r.job.nodes_low, r.job.nodes_high) in
    let c : Machine = with_next (suc s) (with_active (put none m.active k (some s)) m) in
    let a : Ranging ⊥ none_to c =
    next_set ⊥ none_to (with_active (put none m.active k (some s)) m) (suc s) b
    (active_set ⊥ none_to m k (some s) l (λ p q. free_pipes m k p l e r q) (λ x t i. free_ports m k x e r t i) (λ t q. let z : s ≡ t = cc in (h, rw (← z) b)) r) in
    let v : Low j k s 0 c = record {
      ranging = widen ⊥ Unit none_to none_to c (λ u. tt) (λ x p i u. u) a;
      job = refl;
      split = same none m.active k (some s);
      unlaid = λ i u g. by_bool (live m (place k i)) (λ q. absurd (free_pipes m k (place k i) l e r q (place_slot k i g))) (λ q. q);
    } in
    let d : Machine = lower_from k s 0 (length j.nodes) c in
    let w : Low j k s (0 + length j.nodes) d = from_low j r.job k s l (length j.nodes) 0 c (omega arith) v in
    let p : ℕ = place k (root_of j) in
    all_numbered Unit none_to (connect p slot d) (connect_made Unit none_to d p slot w.ranging)
    (connect_ranging none_to none_to d p slot (place_bound k (root_of j) l n) (slot_place d k s (root_of j) (rw w.job (omega (arith, r.job.nodes_low))) n l w.split) (λ x q i u. u) (λ q i u. clash (cc))
    (λ u. rw w.job (place_node k (root_of j) n)) w.ranging)

-- so the next split is activated
pub activate_ranged : (m : Machine) (k : ℕ) → k < m.job.slots → split_in m.active k ≡ none → m.next < length m.job.splits → Ranged m → Ranged (activate k m)
unfolding activate
activate_ranged m k h e b r =
    let s : ℕ = m.next in
    let g : Ranging ⊥ none_to m = of_ranged m r in
    by_bool (keeps m.job (root_of m.job) s)
    (λ d.
    let c = with_next (suc s) (with_active (put none m.active k (some s)) m) in
    rw (d, activate, by_nodes k s c r.job) (to_ranged _ (lowered_ranging m k h e b g)))
    (λ d. rw (d, activate) (to_ranged _ (finish_ranging (with_next (suc s) m) s (omega (arith, b, r.job.splits_high)) (next_set ⊥ none_to m (suc s) b g))))
