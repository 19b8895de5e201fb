-- The leaves of a segment, and the ports that a pipeline writes.
use Rattle.std.specs.Prelude.{◌≡◌, ◌⊎◌, true, false, ◌||◌, ℕ, zero, suc, ◌+◌, ◌<◌, ◌≤◌, length, eqb, ltb}
use Rattle.std.proofs.Common.{sym, ap, ◌∙◌, inl, inr, arith, ltb-true, ltb-false, lt-ltb, le-ltb, eqb-true, eq-eqb, le-leb}
use Rattle.std.proofs.Math.Bool.{or-false}
use mathlib.Core.List.{List, [], ◌∷◌, map, flat_map}
use Rattle.std.proofs.lemmas.Bool.{lt-leb}
use Rattle.rules.specs.Port.{is_full, capacity}
use Rattle.rules.specs.Table.{filter, any, up_from}
use Rattle.rules.specs.Job.{Job, is_segment}
use Rattle.rules.specs.Plan.{node_of, is_leaf, leaves, leaves_of, first_leaf}
use Rattle.rules.specs.Machine.{Machine, port_at, share_ports, share_port, slot_places, node_at_place, outlets, queue_at}
use Rattle.rules.specs.Wake.{full, any_full}
use Rattle.laws.specs.Table.{by_bool, and_both}
use Rattle.laws.specs.Rising.{Rising, rising_weak}
use Rattle.order.specs.Inv.{There}
use Rattle.order.specs.State.{OutletOf}
use Rattle.order.specs.Among.{Among, among_up, up_among, among_filter, filter_among, among_map, map_among, among_each, each_among, any_none, rising_up, rising_filter, rising_append}
use Rattle.order.specs.Leaves.{leaf_below, first_leaf_lem}

-- Leaves

pub leaf_is : (j : Job) (l : ℕ) → l < length j.nodes → is_segment (node_of j l).kind ≡ true → is_leaf j l ≡ true
leaf_is j l h k = and_both (ltb l (length j.nodes)) (is_segment (node_of j l).kind) (lt-ltb l (length j.nodes) h) k

-- the leaves of the segment of g are the leaves that name it
pub leaf_among : (j : Job) (g l : ℕ) → is_leaf j l ≡ true → (node_of j l).segment ≡ (node_of j g).segment → Among l (leaves_of j g)
leaf_among j g l h e =
    among_filter (λ k. eqb (node_of j k).segment (node_of j g).segment) l (leaves j)
    (among_filter (is_leaf j) l (up_from 0 (length j.nodes)) (among_up l 0 (length j.nodes) (omega arith) (omega (arith, leaf_below j l h))) h)
    (eq-eqb (node_of j l).segment (node_of j g).segment e)

pub among_leaf : (j : Job) (g l : ℕ) → Among l (leaves_of j g) → (is_leaf j l ≡ true) × ((node_of j l).segment ≡ (node_of j g).segment)
among_leaf j g l a =
    let r : Among l (leaves j) × (eqb (node_of j l).segment (node_of j g).segment ≡ true) = filter_among (λ k. eqb (node_of j k).segment (node_of j g).segment) l (leaves j) a in
    ((filter_among (is_leaf j) l (up_from 0 (length j.nodes)) r.0).1, eqb-true (node_of j l).segment (node_of j g).segment r.1)

-- the leaves rise
pub leaves_rise : (j : Job) (g : ℕ) → Rising 0 (leaves_of j g)
leaves_rise j g =
    rising_filter (λ k. eqb (node_of j k).segment (node_of j g).segment) 0 (leaves j) (rising_filter (is_leaf j) 0 (up_from 0 (length j.nodes)) (rising_up 0 (length j.nodes)))

-- The first leaf of a segment

-- and leaves with one first leaf name one segment
pub first_apart : (j : Job) (l k : ℕ) → is_leaf j l ≡ true → is_leaf j k ≡ true → first_leaf j l ≡ first_leaf j k → (node_of j l).segment ≡ (node_of j k).segment
first_apart j l k h i e = sym (first_leaf_lem j l h).1 ∙ ap (λ (n : ℕ). (node_of j n).segment) e ∙ (first_leaf_lem j k i).1

-- Outlets

-- a slot's pipeline writes its own port
pub outlets_slot : (m : Machine) (me : ℕ) → me < slot_places → outlets m me ≡ me ∷ []
outlets_slot m me h = rw (lt-ltb me slot_places h)

pub outlets_share : (m : Machine) (me : ℕ) → slot_places ≤ me → outlets m me ≡ filter (λ x. (port_at m x).there) (share_ports m.job (node_at_place me))
outlets_share m me h = rw (le-ltb me slot_places h)

-- a shared source writes the ports of its segment that are there
pub among_outlets : (m : Machine) (me x : ℕ) → There m.ports x → OutletOf m.job me x → Among x (outlets m me)
among_outlets m me x h (inl o) = rw (outlets_slot m me o.0) (inl o.1)
among_outlets m me x h (inr (s, (l, t, k, e, i, g))) =
    rw (outlets_share m me s)
    (among_filter (λ y. (port_at m y).there) x (share_ports m.job (node_at_place me))
    (among_each (λ n. map (share_port n) (up_from 0 (length m.job.splits))) l x (leaves_of m.job (node_at_place me)) (leaf_among m.job (node_at_place me) l i g)
    (rw e (among_map (share_port l) t (up_from 0 (length m.job.splits)) (among_up t 0 (length m.job.splits) (omega arith) (omega arith))))) h)

ports_among : (j : Job) (g x : ℕ) → Among x (share_ports j g) → (l : ℕ) × (t : ℕ) × (t < length j.splits) × (x ≡ share_port l t) × (is_leaf j l ≡ true) × ((node_of j l).segment ≡ (node_of j g).segment)
ports_among j g x a =
    let f : ℕ → List ℕ = λ n. map (share_port n) (up_from 0 (length j.splits)) in
    let r : (l : ℕ) × Among l (leaves_of j g) × Among x (f l) = each_among f x (leaves_of j g) a in
    let s : (t : ℕ) × Among t (up_from 0 (length j.splits)) × (x ≡ share_port r.0 t) = map_among (share_port r.0) x (up_from 0 (length j.splits)) r.2 in
    (r.0, s.0, omega (arith, (up_among s.0 0 (length j.splits) s.1).1), s.2, (among_leaf j g r.0 r.1).0, (among_leaf j g r.0 r.1).1)

pub outlets_among : (m : Machine) (me x : ℕ) → Among x (outlets m me) → OutletOf m.job me x
outlets_among m me x a = by_bool (ltb me slot_places)
    (λ d. inl (ltb-true me slot_places d, mine (rw d at a)))
    (λ d. inr (ltb-false me slot_places d, ports_among m.job (node_at_place me) x (filter_among (λ y. (port_at m y).there) x (share_ports m.job (node_at_place me)) (rw d at a)).0))
  where
    mine : (x ≡ me) ⊎ ⊥ → x ≡ me
    mine (inl e) = e
    mine (inr b) = absurd b

-- and they are there
pub outlets_there : (m : Machine) (me x : ℕ) → slot_places ≤ me → Among x (outlets m me) → There m.ports x
outlets_there m me x h a = (filter_among (λ y. (port_at m y).there) x (share_ports m.job (node_at_place me)) (rw (outlets_share m me h) at a)).1

-- a shared source's outlets are shared ports, a slot's outlet is not
pub outlet_share : (j : Job) (me x : ℕ) → slot_places ≤ me → OutletOf j me x → slot_places ≤ x
outlet_share j me x h (inl o) = omega (arith, o.0)
outlet_share j me x h (inr (s, (l, t, k, e, i, g))) = omega arith

pub outlet_slot : (j : Job) (me x : ℕ) → me < slot_places → OutletOf j me x → x ≡ me
outlet_slot j me x h (inl o) = o.1
outlet_slot j me x h (inr o) = absurd (omega (arith, o.0))

-- they rise, so no port is written twice
rise_block : (l n i : ℕ) → Rising (share_port l i) (map (share_port l) (up_from i n))
unfolding up_from
rise_block l zero i = tt
rise_block l (suc n) i = (omega arith, rising_weak (share_port l (suc i)) (suc (share_port l i)) (map (share_port l) (up_from (suc i) n)) (omega arith) (rise_block l n (suc i)))

block_low : (l n x : ℕ) → n ≤ 16 → Among x (map (share_port l) (up_from 0 n)) → x < share_port (suc l) 0
block_low l n x h a =
    let s : (t : ℕ) × Among t (up_from 0 n) × (x ≡ share_port l t) = map_among (share_port l) x (up_from 0 n) a in
    let k : s.0 < 0 + n = (up_among s.0 0 n s.1).1 in
    omega (arith, s.2)

ports_rise : (n lo : ℕ) (ls : List ℕ) → n ≤ 16 → Rising lo ls → Rising (share_port lo 0) (flat_map (λ l. map (share_port l) (up_from 0 n)) ls)
unfolding flat_map
ports_rise n lo [] h r = tt
ports_rise n lo (l ∷ ls) h r =
    rising_append (share_port lo 0) (share_port (suc l) 0) (map (share_port l) (up_from 0 n)) (flat_map (λ k. map (share_port k) (up_from 0 n)) ls)
    (rising_weak (share_port l 0) (share_port lo 0) (map (share_port l) (up_from 0 n)) (omega (arith, r.0)) (rise_block l n 0)) (λ x a. block_low l n x h a) (omega (arith, r.0)) (ports_rise n (suc l) ls h r.1)

pub outlets_rise : (m : Machine) (me : ℕ) → length m.job.splits ≤ 16 → Rising 0 (outlets m me)
outlets_rise m me h = by_bool (ltb me slot_places)
    (λ d. rw d (omega arith, tt))
    (λ d. rw d (rising_filter (λ y. (port_at m y).there) 0 (share_ports m.job (node_at_place me))
    (rising_weak (share_port 0 0) 0 (share_ports m.job (node_at_place me)) (omega arith) (ports_rise (length m.job.splits) 0 (leaves_of m.job (node_at_place me)) h (leaves_rise m.job (node_at_place me))))))

-- a shared source never stops at an outlet
pub never_full : (m : Machine) (me : ℕ) → slot_places ≤ me → any_full m me ≡ false
never_full m me h = any_none (full m) (outlets m me) (λ x a. rw (le-leb slot_places x (outlet_share m.job me x h (outlets_among m me x a))))

-- a slot's pipeline does if its port is full
pub full_slot : (m : Machine) (me : ℕ) → me < slot_places → any_full m me ≡ full m me || false
unfolding any
full_slot m me h = rw (outlets_slot m me h)

-- a slot's pipeline has one outlet, its own port
pub full_me : (me : ℕ) (m : Machine) → me < slot_places → any_full m me ≡ is_full capacity (queue_at m me)
unfolding any
full_me me m h = rw (lt-ltb me slot_places h, lt-leb slot_places me h) (or-false (is_full capacity (queue_at m me)))
