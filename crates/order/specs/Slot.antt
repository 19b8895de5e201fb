-- A slot whose root's port is closed has no pipeline.
use Rattle.std.specs.Prelude.{◌≡◌, refl, ◌≢◌, true, List, [], ◌∷◌, map, ℕ, zero, suc, ◌+◌, ◌<◌, ◌≤◌, length, ltb}
use Rattle.std.proofs.Common.{sym, ◌∙◌, arith, ltb-true, ltb-false}
use Rattle.rules.specs.Table.{has}
use Rattle.rules.specs.Job.{Kind, segment as aSegment, concat as aConcat, pack as aPack, Job, kids}
use Rattle.rules.specs.Plan.{Row, node_of, root_of, kept_kids, keeps}
use Rattle.rules.specs.Operators.{Source, segment, concat, pack}
use Rattle.rules.specs.Machine.{Machine, Stage, Reader, nobody, slot, pipe, place, node_at_place, slot_at_place, slot_places, places}
use Rattle.laws.specs.Table.{by_bool, by_eq, clash, and_left}
use Rattle.laws.specs.JobOk.{JobOk}
use Rattle.order.specs.Base.{place_node, place_slot, place_of}
use Rattle.order.specs.Inv.{Live, There, shut, reader_of, source_of, stage_of, inlets_of, At, Form}
use Rattle.order.specs.State.{Inv, Rests, all, no}
use Rattle.order.specs.Leaves.{filter_has}
use Rattle.order.specs.Rest.{kid_parent, at_mapped, claimed_above}

-- an inlet that stands in a slot is a child's port, in the same slot
abbrev pub Child : Job → ℕ → ℕ → Type 0
Child j p y = (slot_at_place y ≡ slot_at_place p) × (node_at_place y < node_at_place p)

pub join_child : (j : Job) → JobOk j → (p s i y : ℕ) → At (map (place (slot_at_place p)) (kept_kids j (node_at_place p) s)) i y → Child j p y
join_child j ok p s i y a =
    let n = node_at_place p in
    let k = slot_at_place p in
    let r : (c : ℕ) × (has c (kept_kids j n s) ≡ true) × (y ≡ place k c) = at_mapped (place k) (kept_kids j n s) i y a in
    let h : has r.0 (kids j.nodes n) ≡ true = and_left (has r.0 (kids j.nodes n)) (keeps j r.0 s) (sym (filter_has (λ z. keeps j z s) (kids j.nodes n) r.0) ∙ r.1) in
    let u : (r.0 < n) × (n < length j.nodes) = ok.up r.0 n (kid_parent j n r.0 h) in
    let b : r.0 < 24 = omega (arith, u.0, u.1, ok.nodes_high) in
    (rw r.2 (place_slot k r.0 b), rw (r.2, place_node k r.0 b) u.0)

pub form_child : (j : Job) → JobOk j → (p s i y : ℕ) (k : Kind) (src : Source) (st : Stage) (xs : List ℕ) → Form j p s k src st xs → At xs i y
    → y < slot_places → Child j p y
form_child j ok p s i y aSegment (segment a b e) st xs o at h = none (rw o.0 at at)
  where
    none : ⊥ → Child j p y
    none a = absurd a
form_child j ok p s i y aSegment (concat g) st xs o at h = let c : slot_places ≤ y = claimed_above o.leaf s i y (rw o.is at at) in absurd (omega arith)
form_child j ok p s i y aSegment pack st xs o at h = absurd o
form_child j ok p s i y aConcat (segment a b e) st xs o at h = absurd o
form_child j ok p s i y aConcat (concat g) st xs o at h = join_child j ok p s i y (rw o.0 at at)
form_child j ok p s i y aConcat pack st xs o at h = absurd o
form_child j ok p s i y aPack (segment a b e) st xs o at h = absurd o
form_child j ok p s i y aPack (concat g) st xs o at h = absurd o
form_child j ok p s i y aPack pack st xs o at h = join_child j ok p s i y (rw o.0 at at)

pub by_reader : {P : Type 0} (r : Reader) → (r ≡ nobody → P) → (r ≡ slot → P) → ((p i : ℕ) → r ≡ pipe p i → P) → P
by_reader nobody f g h = f refl
by_reader slot f g h = g refl
by_reader (pipe p i) f g h = h p i refl

pub none_at : {P : Type 0} (i y : ℕ) (xs : List ℕ) → xs ≡ [] → At xs i y → P
none_at i y [] e a = absurd a
none_at i y (x ∷ xs) e a = clash (cc)

module _ (me : ℕ) (hand : List Row) (who «open» loud freed busy : ℕ → Type 0) (out : ℕ → List Row) (told : ℕ) (m : Machine)
    (v : Inv me hand who «open» loud freed busy out told m) where
  -- the reader of a port in a slot, other than the root's, and which of its inlets it is
  pub reader_above : (y : ℕ) → y < slot_places → There m.ports y → node_at_place y ≢ root_of m.job
      → (p : ℕ) × Live m.pipes p × (p < slot_places) × Child m.job p y × ((i : ℕ) × At (inlets_of m.inlets p) i y)
  reader_above y h t n =
      let w = v.ports.slots y h t in
      by_reader (reader_of m.ports y) (λ e. absurd (w.read e)) (λ e. absurd (n (w.root e)))
      (λ p i e. let r = v.ports.readers y p i t e in
      by_bool (ltb p slot_places)
      (λ b. let g : p < slot_places = ltb-true p slot_places b in
      let s = v.pipes.slots p r.0 g in (
        p,
        r.0,
        g,
        form_child m.job v.job p s.split i y (node_of m.job (node_at_place p)).kind (source_of m.sources p) (stage_of m.stages p)
            (inlets_of m.inlets p) s.form r.1 h,
        (i, r.1),
      ))
      (λ b. none_at i y (inlets_of m.inlets p) (v.pipes.shares p r.0 (ltb-false p slot_places b)).none_in r.1))

module _ (out : ℕ → List Row) (told : ℕ) (m : Machine) (v : Rests out told m) where
  module _ (k : ℕ) (low : k < 3) (c : shut m.ports (place k (root_of m.job)) ≡ true) where
    -- no pipeline is live
    slot_dead : (f p : ℕ) → p < slot_places → slot_at_place p ≡ k → root_of m.job < node_at_place p + f → Live m.pipes p → ⊥
    slot_dead zero p h e b l = let w : node_at_place p < length m.job.nodes = (v.pipes.slots p l h).node in omega (arith, v.job.nodes_low)
    slot_dead (suc f) p h e b l =
        let a = v.ports.alive p l h tt in
        by_eq (node_at_place p) (root_of m.job) (λ n. clash (cc (place_of p, a.1)))
        (λ n. let r = reader_above places [] all all no no no out told m v p h a.0 n in slot_dead f r.0 r.2 (sym r.3.0 ∙ e) (omega (arith, r.3.1)) r.1)

    pub slot_still : (p : ℕ) → p < slot_places → slot_at_place p ≡ k → Live m.pipes p → ⊥
    slot_still p h e l = slot_dead (suc (root_of m.job)) p h e (omega arith) l
