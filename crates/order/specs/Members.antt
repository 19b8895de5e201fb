-- Members of lists: the outlets of a pipeline, and the inlets that it has touched.
use Rattle.std.proofs.Common.{◌∙◌, inl, inr, arith, eq-eqb, lt-ltb, le-ltb, ltb-true}
use Rattle.std.specs.Prelude.{◌≡◌, true, [], map, reverse, ℕ, ◌<◌, length, eqb, ltb}
use Rattle.rules.specs.Table.{get, has, up_from}
use Rattle.rules.specs.Job.{Job, is_segment}
use Rattle.rules.specs.Plan.{node_of, is_leaf, leaves, leaves_of}
use Rattle.rules.specs.Machine.{Machine, node_at_place, share_port, slot_places, port_at, share_ports, outlets}
use Rattle.rules.specs.Drive.{touched_ports}
use Rattle.laws.specs.Table.{and_left}
use Rattle.laws.specs.Rising.{has_head, has_reverse}
use Rattle.order.specs.Inv.{There, inlets_of}
use Rattle.order.specs.State.{OutletOf, Touched}
use Rattle.order.specs.Base.{at_get}
use Rattle.order.specs.Lists.{has_map, has_flat, has_filter, has_up}

-- members of a list that is made of others

-- the leaves that name a segment
pub has_leaf : (j : Job) (g l : ℕ) → is_leaf j l ≡ true → (node_of j l).segment ≡ (node_of j g).segment → has l (leaves_of j g) ≡ true
has_leaf j g l a e =
    let h : l < length j.nodes = ltb-true l (length j.nodes) (and_left (ltb l (length j.nodes)) (is_segment (node_of j l).kind) a) in
    has_filter (λ l. eqb (node_of j l).segment (node_of j g).segment) (leaves j) l
    (has_filter (is_leaf j) (up_from 0 (length j.nodes)) l (has_up 0 (length j.nodes) l (omega arith) (omega arith)) a) (eq-eqb (node_of j l).segment (node_of j g).segment e)

-- the ports that a pipeline writes are among its outlets
pub has_outlet : (m : Machine) (p x : ℕ) → OutletOf m.job p x → There m.ports x → has x (outlets m p) ≡ true
has_outlet m p x (inl (h, i)) t = rw (lt-ltb p slot_places h, i) (has_head p [])
has_outlet m p x (inr (h, (l, s, b, i, a, g))) t = rw (le-ltb p slot_places h)
    (has_filter (λ x. (port_at m x).there) (share_ports m.job (node_at_place p)) x
    (has_flat (λ l. map (share_port l) (up_from 0 (length m.job.splits))) (leaves_of m.job (node_at_place p)) l x (has_leaf m.job (node_at_place p) l a g)
    (rw i (has_map (share_port l) (up_from 0 (length m.job.splits)) s (has_up 0 (length m.job.splits) s (omega arith) (omega arith))))) t)

-- the inlets that were read are among those whose writers are woken
pub has_touched : (m : Machine) (p x : ℕ) → Touched m p x → has x (touched_ports p m) ≡ true
has_touched m p x (i, h, a) = rw (← (at_get 0 (inlets_of m.inlets p) i x a))
    (has_map (get 0 (inlets_of m.inlets p)) (reverse (get [] m.touched p)) i (has_reverse i (get [] m.touched p) ∙ h))
