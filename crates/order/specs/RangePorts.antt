-- Ports that are written, closed and left keep `Fits`.
use Rattle.std.specs.Prelude.{◌≡◌, refl, ◌≢◌, true, ◌&&◌, not, List, [], ◌∷◌, ◌++◌, ℕ, ◌<◌, ◌≤◌, length, eqb, ltb, if◌then◌else◌}
use Rattle.std.proofs.Common.{◌∙◌, inl, inr, arith, length-append, ltb-true, ltb-false, le-leb}
use Rattle.std.proofs.lemmas.Bool.{eqb-false}
use Rattle.rules.specs.Table.{is_empty}
use Rattle.rules.specs.Job.{Job}
use Rattle.rules.specs.Plan.{node_of, is_leaf}
use Rattle.rules.specs.Port.{Batch}
use Rattle.rules.specs.Machine.{Machine, no_port, node_at_place, share_port, slot_places, port_places, is_share_port, port_at, queue_at, set_port, outlets}
use Rattle.rules.specs.Ports.{marked, closed_now, has_place, push_to, push_each, push_out, is_nobody, free_port, close_to, close_each}
use Rattle.laws.specs.Table.{by_bool, clash}
use Rattle.laws.specs.JobOk.{JobOk}
use Rattle.laws.specs.Rows.{All}
use Rattle.order.specs.Inv.{Live, whole}
use Rattle.order.specs.State.{OutletOf}
use Rattle.order.specs.Base.{share_above, share_leaf}
use Rattle.order.specs.Among.{all_among}
use Rattle.order.specs.Outlets.{outlets_slot, outlets_among}
use Rattle.order.specs.RangeParts.{BatchFits, QueueFits, Fits}
use Rattle.order.specs.RangeMoves.{set_port_lem, set_queue_lem}
use Rattle.order.specs.RangeWake.{port_fits}
use Rattle.order.specs.RangeBatch.{none_fits}
use Rattle.order.specs.Leaves.{leaf_below, leaf_kind}

pub all_more : {A : Type 0} (P : A → Type 0) (xs : List A) (y : A) → All P xs → P y → All P (xs ++ y ∷ [])
all_more P [] y a h = (h, tt)
all_more P (x ∷ xs) y a h = (a.0, all_more P xs y a.1 h)

-- what a round of a pipeline leaves as it is
abbrev pub Calm : Machine → Machine → Type 0
Calm m m' = (m'.job ≡ m.job) × (m'.pipes ≡ m.pipes) × (m'.news ≡ m.news) × (m'.dirty ≡ m.dirty)

pub calm_then : (m m' n : Machine) → Calm m m' → Calm m' n → Calm m n
calm_then m m' n a b = (b.0 ∙ a.0, b.1 ∙ a.1, b.2 ∙ a.2, b.3 ∙ a.3)

-- Pushing

-- what a pipeline may write: a batch of its node's width, or the whole segment
abbrev pub OutFits : Job → ℕ → Batch → Type 0
OutFits j p b = (p < slot_places → BatchFits j (node_of j (node_at_place p)).width b) × (slot_places ≤ p → b ≡ whole j (node_at_place p))

push_to_lem : (m : Machine) (x : ℕ) (b : Batch) → Fits m → x < port_places → (has_place x (queue_at m x) ≡ true → QueueFits m.job x (queue_at m x ++ b ∷ [])) → Fits (push_to b x m)
push_to_lem m x b f h k =
    let q = queue_at m x in
    set_queue_lem (set_port x (marked (port_at m x)) m) x (if has_place x q then q ++ b ∷ [] else q) (port_fits m x (marked (port_at m x)) f h refl refl) h
    (by_bool (has_place x q) (λ e. rw e (k e)) (λ e. rw e (f.queues x)))

-- one more batch in a slot's port
own_more : (j : Job) (x : ℕ) (b : Batch) (q : List Batch) → x < slot_places → length q < 8 → BatchFits j (node_of j (node_at_place x)).width b
    → QueueFits j x q → QueueFits j x (q ++ b ∷ [])
own_more j x b q s h k f = record {
  bounded = λ r. (omega (arith, length-append q (b ∷ [])), all_more (BatchFits j (node_of j (node_at_place x)).width) q b (f.bounded r).1 k);
  share = λ l t r e. absurd (omega (arith, share_above l t));
}

-- leaves of one segment are one whole
pub whole_same : (j : Job) (l k : ℕ) → JobOk j → is_leaf j l ≡ true → is_leaf j k ≡ true → (node_of j l).segment ≡ (node_of j k).segment → whole j k ≡ whole j l
whole_same j l k ok a b e =
    let r = ok.one_count l k (leaf_below j l a) (leaf_below j k b) (leaf_kind j l a) (leaf_kind j k b) e in
    rw (r, e)

-- the whole segment in a shared port that had none
share_more : (j : Job) (l t : ℕ) (b : Batch) → t < 16 → b ≡ whole j l → 1 ≤ b.rows → QueueFits j (share_port l t) (b ∷ [])
share_more j l t b h e s = record {
  bounded = λ r. absurd (omega (arith, share_above l t));
  share = λ k u r q. let d : l ≡ k = share_leaf l t k u h r q in inr (rw (e, d), rw (← d) (rw e at s));
}

has_none : (x : ℕ) (q : List Batch) → slot_places ≤ x → has_place x q ≡ true → q ≡ []
unfolding is_empty
has_none x [] h e = refl
has_none x (b ∷ q) h e = clash (cc (le-leb slot_places x h))

-- a shared port of the segment of leaf k
abbrev ShareOf : Job → ℕ → ℕ → Type 0
ShareOf j k x = (l : ℕ) × (t : ℕ) × (t < length j.splits) × (x ≡ share_port l t) × (is_leaf j l ≡ true) × ((node_of j l).segment ≡ (node_of j k).segment)

share_bound : (j : Job) (k x : ℕ) → JobOk j → ShareOf j k x → x < port_places
share_bound j k x ok s = omega (arith, s.2, s.3, leaf_below j s.0 s.4, ok.nodes_high, ok.splits_high)

share_push : (m : Machine) (x k : ℕ) (b : Batch) → Fits m → is_leaf m.job k ≡ true → ShareOf m.job k x → b ≡ whole m.job k → 1 ≤ b.rows → Fits (push_to b x m)
share_push m x k b f i s e r =
    let w : b ≡ whole m.job s.0 = e ∙ whole_same m.job s.0 k f.job s.4 i s.5 in
    let q = s.3 in
    push_to_lem m x b f (share_bound m.job k x f.job s) (λ h.
    let n = has_none x (queue_at m x) (omega (arith, q, share_above s.0 s.1)) h in
    rw (n, q) (share_more m.job s.0 s.1 b (omega (arith, s.2, f.job.splits_high)) w r))

shares_push : (xs : List ℕ) (k : ℕ) (b : Batch) (m : Machine) → Fits m → is_leaf m.job k ≡ true → All (ShareOf m.job k) xs → b ≡ whole m.job k → 1 ≤ b.rows → Fits (push_each b xs m)
unfolding push_each
shares_push [] k b m f i a e r = f
shares_push (x ∷ xs) k b m f i a e r = shares_push xs k b (push_to b x m) (share_push m x k b f i a.0 e r) i a.1 e r

pub pushes_calm : (xs : List ℕ) (b : Batch) (m : Machine) → Calm m (push_each b xs m)
unfolding push_each
pushes_calm [] b m = (refl, refl, refl, refl)
pushes_calm (x ∷ xs) b m = pushes_calm xs b (push_to b x m)

pub out_calm : (p : ℕ) (b : Batch) (m : Machine) → Calm m (push_out p b m)
out_calm p b m = by_bool (eqb b.rows 0) (λ e. rw (e, push_out) (refl, refl, refl, refl)) (λ e. rw (e, push_out) (pushes_calm (outlets m p) b m))

outlet_share : (j : Job) (p x : ℕ) → slot_places ≤ p → OutletOf j p x → ShareOf j (node_at_place p) x
outlet_share j p x h (inl o) = absurd (omega (arith, o.0))
outlet_share j p x h (inr o) = o.1

-- a pipeline writes a batch
pub out_fits : (p : ℕ) (b : Batch) (m : Machine) → Fits m → Live m.pipes p → OutFits m.job p b → (p < slot_places → length (queue_at m p) < 8) → Fits (push_out p b m)
unfolding push_each
out_fits p b m f l o h = by_bool (eqb b.rows 0) (λ e. rw (e, push_out) f) (λ e. rw (e, push_out) (by_bool (ltb p slot_places)
    (λ d. let s = ltb-true p slot_places d in
    rw (outlets_slot m p s) (push_to_lem m p b f (omega arith) (λ _. own_more m.job p b (queue_at m p) s (h s) (o.0 s) (f.queues p))))
    (λ d. let s = ltb-false p slot_places d in
    let n : b.rows ≢ 0 = eqb-false b.rows 0 e in
    shares_push (outlets m p) (node_at_place p) b m f ((f.pipes p l).place.2 s)
    (all_among (ShareOf m.job (node_at_place p)) (outlets m p) (λ x a. outlet_share m.job p x s (outlets_among m p x a))) (o.1 s) (omega arith))))

-- Closing

-- a place whose port is not in use any more
pub free_fits : (m : Machine) (x : ℕ) → Fits m → x < port_places → Fits (free_port x m)
free_fits m x f h = set_queue_lem (set_port x no_port m) x [] (set_port_lem m x no_port f h (λ e. clash (cc)) (inr refl)) h (none_fits m.job x)

pub close_fits : (m : Machine) (x : ℕ) → Fits m → x < port_places → Fits (close_to x m)
close_fits m x f h = by_bool (is_nobody (port_at m x).reader && not (is_share_port x))
    (λ e. rw (e, close_to) (free_fits m x f h))
    (λ e. rw (e, close_to) (port_fits m x (closed_now (port_at m x)) f h refl refl))

close_calm : (m : Machine) (x : ℕ) → Calm m (close_to x m)
close_calm m x = by_bool (is_nobody (port_at m x).reader && not (is_share_port x)) (λ e. rw (e, close_to) (refl, refl, refl, refl)) (λ e. rw (e, close_to) (refl, refl, refl, refl))

pub closes_fits : (xs : List ℕ) (m : Machine) → Fits m → All (λ x. x < port_places) xs → Fits (close_each xs m)
unfolding close_each
closes_fits [] m f a = f
closes_fits (x ∷ xs) m f a = closes_fits xs (close_to x m) (close_fits m x f a.0) a.1

pub closes_calm : (xs : List ℕ) (m : Machine) → Calm m (close_each xs m)
unfolding close_each
closes_calm [] m = (refl, refl, refl, refl)
closes_calm (x ∷ xs) m = calm_then m (close_to x m) (close_each xs (close_to x m)) (close_calm m x) (closes_calm xs (close_to x m))

outlet_bound : (j : Job) (p x : ℕ) → JobOk j → OutletOf j p x → x < port_places
outlet_bound j p x ok (inl o) = omega (arith, o.0, o.1)
outlet_bound j p x ok (inr o) = share_bound j (node_at_place p) x ok o.1

-- every port that a pipeline writes has its place
pub outlets_bound : (m : Machine) (p : ℕ) → Fits m → All (λ x. x < port_places) (outlets m p)
outlets_bound m p f = all_among (λ x. x < port_places) (outlets m p) (λ x a. outlet_bound m.job p x f.job (outlets_among m p x a))
