-- A machine at rest is not stuck: while a split is active a read is in flight, and at the end all has been put out.
use Rattle.std.specs.Prelude.{◌≡◌, refl, ◌⊎◌, Bool, true, false, ◌||◌, not, ℕ, zero, suc, ◌+◌, ◌<◌, ◌≤◌, length, eqb, ltb}
use Rattle.std.proofs.Math.Path.{sym}
use Rattle.std.proofs.Common.{ap, ◌∙◌, arith}
use mathlib.Core.List.{List, [], ◌∷◌, map, flat_map, append-nil}
use Rattle.std.proofs.Math.Option.{Option, none, some}
use borrow.Author.Tests.{eqb-true, eq-eqb, ltb-true, ltb-false}
use Rattle.rules.specs.Table.{has, up_from, any, all as every, find, is_some, given}
use Rattle.rules.specs.Job.{Kind, segment as aSegment, concat as aConcat, pack as aPack, Node, Job, node_at, kids, kids_from}
use Rattle.rules.specs.Plan.{Row, node_of, root_of, no_split, kept_kids, kept_rows, keeps}
use Rattle.rules.specs.Port.{is_full, capacity}
use Rattle.rules.specs.Operators.{io, inlet, State, runnable, blocked, outlet, Source, segment, concat, pack}
use Rattle.rules.specs.Machine.{Machine, Stage, Read, place, node_at_place, slot_at_place, share_port, slot_places}
use Rattle.rules.specs.Scan.{in_flight, is_free, slots_of, Turn, read, output, waits, done, Answer, says, refuses, at_rest}
use Rattle.laws.specs.Table.{by_bool, by_eq, by_option, clash, get_past, and_left, and_right}
use Rattle.laws.specs.Full.{full_none}
use Rattle.laws.specs.Kids.{is_some_lem}
use Rattle.order.specs.Base.{share_above, place_node, place_bound, slot_below, node_below}
use Rattle.order.specs.Inv.{Live, There, shut, state_of, source_of, stage_of, inlets_of, queue_of, split_in, At, read_at, Form, Idle, Full, is_io}
use Rattle.order.specs.State.{Rests}
use Rattle.order.specs.Leaves.{either, or-true, or_inl, or_inr, filter_has}

-- Children

kid_from : (i n c : ℕ) (ns : List Node) → has c (kids_from i n ns) ≡ true → (d : ℕ) × (c ≡ i + d) × (is_some n (node_at ns d).parent ≡ true)
unfolding has kids_from
kid_from i n c [] e = clash (cc)
kid_from i n c (x ∷ ns) e =
    let ih : has c (kids_from (suc i) n ns) ≡ true → (d : ℕ) × (c ≡ i + d) × (is_some n (node_at (x ∷ ns) d).parent ≡ true) =
    λ h. let r : (d : ℕ) × (c ≡ suc i + d) × (is_some n (node_at ns d).parent ≡ true) = kid_from (suc i) n c ns h in (suc r.0, (let q : c ≡ suc i + r.0 = r.1 in omega arith), r.2) in
    by_bool (is_some n x.parent)
    (λ h. let d : eqb c i || has c (kids_from (suc i) n ns) ≡ true = rw (h, kids_from) at e in
    either (or-true (eqb c i) (has c (kids_from (suc i) n ns)) d) (λ g. (0, (let q : c ≡ i = eqb-true c i g in omega arith), h)) ih)
    (λ h. ih (rw (h, kids_from) at e))

pub kid_parent : (j : Job) (n c : ℕ) → has c (kids j.nodes n) ≡ true → (node_of j c).parent ≡ some n
kid_parent j n c e =
    let r : (d : ℕ) × (c ≡ 0 + d) × (is_some n (node_at j.nodes d).parent ≡ true) = kid_from 0 n c j.nodes e in
    let q : c ≡ r.0 = let z : c ≡ 0 + r.0 = r.1 in omega arith in
    rw q (is_some_lem n (node_of j r.0).parent r.2)

-- an entry of a mapped list
pub at_mapped : (f : ℕ → ℕ) (xs : List ℕ) (i x : ℕ) → At (map f xs) i x → (c : ℕ) × (has c xs ≡ true) × (x ≡ f c)
unfolding has
at_mapped f [] i x a = absurd a
at_mapped f (y ∷ ys) zero x a = (y, or_inl (eqb y y) (has y ys) (eq-eqb y y refl), sym a)
at_mapped f (y ∷ ys) (suc i) x a = let r : (c : ℕ) × (has c ys ≡ true) × (x ≡ f c) = at_mapped f ys i x a in (r.0, or_inr (eqb r.0 y) (has r.0 ys) r.1, r.2)

-- Reads in flight

abbrev pub Flies : List Read → Type 0
Flies R = (r : ℕ) × (r < length R) × ((read_at R r).delivered ≡ false)

pub flies_any : (R : List Read) (r : ℕ) → r < length R → (read_at R r).delivered ≡ false → any in_flight R ≡ true
unfolding any
flies_any [] r h e = absurd (omega arith)
flies_any (x ∷ R) zero h e = rw e
flies_any (x ∷ R) (suc r) h e = or_inr (in_flight x) (any in_flight R) (flies_any R r (omega arith) e)

pub claimed_above : (l s i x : ℕ) → At (share_port l s ∷ []) i x → slot_places ≤ x
claimed_above l s zero x a = rw (← a) (share_above l s)
claimed_above l s (suc i) x a = absurd a

-- tests of numbers from i on
every_at : (f : ℕ → Bool) (i n : ℕ) → every f (up_from i n) ≡ true → (k : ℕ) → i ≤ k → k < i + n → f k ≡ true
unfolding every up_from
every_at f i zero e k h g = absurd (omega arith)
every_at f i (suc n) e k h g = by_eq k i (λ q. rw q (and_left (f i) (every f (up_from (suc i) n)) e))
    (λ q. every_at f (suc i) n (and_right (f i) (every f (up_from (suc i) n)) e) k (omega arith) (omega arith))

every_fails : (f : ℕ → Bool) (xs : List ℕ) → every f xs ≡ false → (k : ℕ) × (f k ≡ false)
unfolding every
every_fails f [] e = clash (cc)
every_fails f (x ∷ xs) e = by_bool (f x) (λ h. every_fails f xs (rw h at e)) (λ h. (x, h))

find_none : (f : ℕ → Bool) (i n : ℕ) → 1 ≤ n → find f (up_from i n) ≡ none → f i ≡ false
unfolding find up_from
find_none f i zero h e = absurd (omega arith)
find_none f i (suc n) h e = by_bool (f i) (λ g. clash (cc (rw (g, find) at e))) (λ g. g)

none_given : (o : Option ℕ) → not (given o) ≡ true → o ≡ none
unfolding given
none_given none e = refl
none_given (some s) e = clash (cc)

some_given : (o : Option ℕ) → not (given o) ≡ false → (s : ℕ) × (o ≡ some s)
unfolding given
some_given none e = clash (cc)
some_given (some s) e = (s, refl)

-- a split that is not there keeps nothing
no_rows : (j : Job) (s : ℕ) → length j.splits ≤ s → kept_rows j s ≡ []
unfolding kept_rows flat_map
no_rows j s h = rw (get_past no_split j.splits s h)

module _ (out : ℕ → List Row) (told : ℕ) (m : Machine) (v : Rests out told m) (y : m.ready ≡ []) where
  -- a live pipeline that nobody runs: it waits for a read or on an empty inlet, or its outlet is full
  stalls : (p : ℕ) → Live m.pipes p → (t : State) → state_of m.pipes p ≡ t
      → ((i x : ℕ) → At (inlets_of m.inlets p) i x → queue_of m.queues x ≡ [] → shut m.ports x ≡ false → Flies m.reads)
      → (p < slot_places → is_full capacity (queue_of m.queues p) ≡ true → Flies m.reads) → Flies m.reads
  stalls p l runnable e f g = clash (cc (v.queued.flags p l tt, v.queued.counts p, y, l))
  stalls p l (blocked io) e f g =
      let r : (r : ℕ) × (r < length m.reads) × ((read_at m.reads r).delivered ≡ false) × ((read_at m.reads r).owner ≡ some p) = v.reads.pended p l (v.waits.on_io p l tt ∙ ap is_io e) in
      (r.0, r.1, r.2)
  stalls p l (blocked (inlet i)) e f g =
      let w : (x : ℕ) × At (inlets_of m.inlets p) i x × Idle m.ports m.queues x = v.waits.on_inlet p i l e in
      either w.2 (λ c. f i w.0 w.1 c.0 c.1) (λ c. absurd (v.quiet.marks w.0 c))
  stalls p l outlet e f g =
      let w : (p < slot_places) × Full (λ x. ⊥) m.queues p = v.waits.on_outlet p l e in
      either w.1 (λ c. g w.0 c) (λ c. absurd c)

  -- a shared source waits for a read
  share_flies : (p : ℕ) → Live m.pipes p → slot_places ≤ p → Flies m.reads
  share_flies p l h = stalls p l (state_of m.pipes p) refl (λ i x a. none (rw (v.pipes.shares p l h).none_in at a)) (λ g. absurd (omega arith))
    where
      none : {P : Type 0} → ⊥ → P
      none a = absurd a

  -- an open and empty port's writer
  abbrev Below : ℕ → Type 0
  Below n = (p : ℕ) → Live m.pipes p → p < slot_places → node_at_place p < n → is_full capacity (queue_of m.queues p) ≡ false → Flies m.reads

  -- an inlet of a joined node is a child's port
  join_flies : (p s i x : ℕ) → Below (node_at_place p) → p < slot_places → node_at_place p < length m.job.nodes → At (map (place (slot_at_place p)) (kept_kids m.job (node_at_place p) s)) i x
      → There m.ports x → queue_of m.queues x ≡ [] → shut m.ports x ≡ false → Flies m.reads
  join_flies p s i x ih h n a t q c =
      let j = m.job in
      let r : (c : ℕ) × (has c (kept_kids j (node_at_place p) s) ≡ true) × (x ≡ place (slot_at_place p) c) = at_mapped (place (slot_at_place p)) (kept_kids j (node_at_place p) s) i x a in
      let k : has r.0 (kids j.nodes (node_at_place p)) ≡ true = and_left (has r.0 (kids j.nodes (node_at_place p))) (keeps j r.0 s) (sym (filter_has (λ z. keeps j z s) (kids j.nodes (node_at_place p)) r.0) ∙ r.1) in
      let u : (r.0 < node_at_place p) × (node_at_place p < length j.nodes) = v.job.up r.0 (node_at_place p) (kid_parent j (node_at_place p) r.0 k) in
      let b : r.0 < 24 = omega (arith, u.0, u.1, v.job.nodes_high) in
      let g : x < slot_places = rw r.2 (place_bound (slot_at_place p) r.0 (slot_below p h) b) in
      ih x (v.ports.opens x g t c) g (rw (r.2, place_node (slot_at_place p) r.0 b) u.0) (rw q full_none)

  -- an inlet of a leaf is a shared port
  claim_flies : (x : ℕ) → There m.ports x → slot_places ≤ x → shut m.ports x ≡ false → Flies m.reads
  claim_flies x t h c = let o = (v.shares.ports x h t).opens c in share_flies o.0 o.1.0 o.1.1

  inlet_flies : (p i x s : ℕ) → Below (node_at_place p) → p < slot_places → node_at_place p < length m.job.nodes → (k : Kind) (src : Source) (st : Stage) (xs : List ℕ)
      → Form m.job p s k src st xs → At xs i x → There m.ports x → queue_of m.queues x ≡ [] → shut m.ports x ≡ false → Flies m.reads
  inlet_flies p i x s ih h n aSegment (segment a b e) st xs o at t q c = none (rw o.0 at at)
    where
      none : {P : Type 0} → ⊥ → P
      none a = absurd a
  inlet_flies p i x s ih h n aSegment (concat g) st xs o at t q c = claim_flies x t (claimed_above o.leaf s i x (rw o.is at at)) c
  inlet_flies p i x s ih h n aSegment pack st xs o at t q c = absurd o
  inlet_flies p i x s ih h n aConcat (segment a b e) st xs o at t q c = absurd o
  inlet_flies p i x s ih h n aConcat (concat g) st xs o at t q c = join_flies p s i x ih h n (rw o.0 at at) t q c
  inlet_flies p i x s ih h n aConcat pack st xs o at t q c = absurd o
  inlet_flies p i x s ih h n aPack (segment a b e) st xs o at t q c = absurd o
  inlet_flies p i x s ih h n aPack (concat g) st xs o at t q c = absurd o
  inlet_flies p i x s ih h n aPack pack st xs o at t q c = join_flies p s i x ih h n (rw o.0 at at) t q c

  -- a pipeline with room at its outlet waits, in the end, for a read
  pipe_next : (f : ℕ) → Below f → Below (suc f)
  pipe_next f ih p l h d q =
      let w = v.pipes.slots p l h in
      stalls p l (state_of m.pipes p) refl
      (λ i x a e c. inlet_flies p i x w.split (λ z lz hz dz qz. ih z lz hz (omega arith) qz) h w.node (node_of m.job (node_at_place p)).kind (source_of m.sources p) (stage_of m.stages p)
      (inlets_of m.inlets p) w.form a (v.ports.inlets p i x l a).0 e c)
      (λ g e. clash (cc))

  pipe_flies : (f : ℕ) → Below f
  pipe_flies zero p l h d q = absurd (omega arith)
  pipe_flies (suc f) p l h d q = pipe_next f (pipe_flies f) p l h d q

  -- while a split is active a read is in flight
  pub active_flies : m.dirty ≡ [] → (k s : ℕ) → split_in m.active k ≡ some s → any in_flight m.reads ≡ true
  unfolding has
  active_flies d k s e =
      let r = v.ports.roots k s e in
      let h : k < m.job.slots = (v.slots.active k s e).0 in
      let x = place k (root_of m.job) in
      let g : x < slot_places = place_bound k (root_of m.job) (omega (arith, v.job.slots_high)) (omega (arith, v.job.nodes_high, v.job.nodes_low)) in
      let flies : Flies m.reads = either (v.dirt.clean k s e (rw d))
      (λ c. pipe_flies 24 x (v.ports.opens x g r.0 c.1) g (node_below x) (rw c.0 full_none)) (λ c. absurd (v.quiet.marks x c)) in
      flies_any m.reads flies.0 flies.1 flies.2

  -- no split is active and none is left: all has been put out
  pub all_out : m.outputs ≡ [] → m.next ≡ length m.job.splits → ((k : ℕ) → split_in m.active k ≡ none) → (s : ℕ) → out s ≡ kept_rows m.job s
  unfolding kept_rows flat_map
  all_out o n a s = by_bool (ltb s m.next)
      (λ h. sym (append-nil (out s)) ∙ rw o at (v.splits.over s (ltb-true s m.next h) (λ k e. clash (cc (a k)))))
      (λ h. let g : m.next ≤ s = ltb-false s m.next h in
      sym (append-nil (out s)) ∙ rw o at (v.splits.later s g) ∙ sym (no_rows m.job s (rw n at g)))

  -- a machine with nothing left to do
  abbrev pub RestOk : Answer Turn → Type 0
  RestOk (says (read r g) n) = ⊥
  RestOk (says (output s b) n) = ⊥
  RestOk (says waits n) = (n ≡ m) × (any in_flight m.reads ≡ true)
  RestOk (says done n) = (n ≡ m) × ((s : ℕ) → out s ≡ kept_rows m.job s)
  RestOk (refuses k n) = ⊥

  free_none : every (is_free m) (slots_of m) ≡ true → (k : ℕ) → split_in m.active k ≡ none
  free_none e k = by_option (split_in m.active k) (λ h. h)
      (λ s h. let g : k < m.job.slots = (v.slots.active k s h).0 in none_given (split_in m.active k) (every_at (is_free m) 0 m.job.slots e k (omega arith) (omega arith)))

  pub rest_ok : m.outputs ≡ [] → m.dirty ≡ [] → (ltb m.next (length m.job.splits) ≡ false) ⊎ (find (is_free m) (slots_of m) ≡ none) → RestOk (at_rest m)
  rest_ok o d n = by_bool (every (is_free m) (slots_of m))
      (λ h. let l : ltb m.next (length m.job.splits) ≡ false = either n (λ g. g) (λ g.
      clash (cc (find_none (is_free m) 0 m.job.slots v.job.slots_low g, every_at (is_free m) 0 m.job.slots h 0 (omega arith) (omega (arith, v.job.slots_low))))) in
      let b : length m.job.splits ≤ m.next = ltb-false m.next (length m.job.splits) l in
      rw h (refl, all_out o (omega (arith, v.slots.bound, b)) (free_none h)))
      (λ h. let k = every_fails (is_free m) (slots_of m) h in
      let g : (s : ℕ) × (split_in m.active k.0 ≡ some s) = some_given (split_in m.active k.0) k.1 in
      let a : any in_flight m.reads ≡ true = active_flies d k.0 g.0 g.1 in
      rw (h, a) (refl, a))
