-- Where a pack stands: at a place of a slot, with its children's ports as inlets, and without a stage.
use Rattle.std.specs.Prelude.{◌≡◌, ◌≢◌, Bool, false, List, [], ◌∷◌, map, ℕ, zero, suc, ◌<◌, ltb}
use Rattle.std.proofs.Common.{sym, ◌∙◌, arith, ltb-true, ltb-false}
use Rattle.std.proofs.Math.Option.{Option, none}
use Rattle.rules.specs.Table.{has, filter}
use Rattle.rules.specs.Job.{Kind, segment as aSegment, concat as aConcat, pack as aPack, Job, kids}
use Rattle.rules.specs.Plan.{keeps, node_of}
use Rattle.rules.specs.Port.{Batch}
use Rattle.rules.specs.Operators.{Source, pack}
use Rattle.rules.specs.Machine.{Pipeline, Stage, Port, pipe, place, node_at_place, slot_at_place, slot_places}
use Rattle.laws.specs.Table.{by_bool, clash}
use Rattle.laws.specs.Rows.{All}
use Rattle.laws.specs.JobOk.{JobOk}
use Rattle.laws.specs.KidPlaces.{kids_each}
use Rattle.order.specs.Inv.{Live, source_of, stage_of, inlets_of, There, reader_of, At, Joins, Form, Pipes, Ports}
use Rattle.order.specs.Base.{place_bound, slot_below}
use Rattle.order.specs.Lists.{has_at}

-- what stands at no place is not in the list
pub not_at : (xs : List ℕ) (x : ℕ) → ((i : ℕ) → At xs i x → ⊥) → has x xs ≡ false
not_at xs x n = by_bool (has x xs) (λ e. absurd (n (has_at xs x e).0 (has_at xs x e).1)) (λ e. e)

-- an entry of a list, some of its entries kept and mapped
at_each : (P : ℕ → Type 0) (f : ℕ → ℕ) (t : ℕ → Bool) (cs : List ℕ) (i x : ℕ) → All P cs → At (map f (filter t cs)) i x → (c : ℕ) × P c × (f c ≡ x)
unfolding filter
at_each P f t [] i x h a = absurd a
at_each P f t (c ∷ cs) i x h a =
    by_bool (t c) (λ e. at_next i (λ k b. at_each P f t cs k x h.1 b) (rw (e, filter) at a)) (λ e. at_each P f t cs i x h.1 (rw (e, filter) at a))
  where
    at_next : (k : ℕ) → ((l : ℕ) → At (map f (filter t cs)) l x → (d : ℕ) × P d × (f d ≡ x)) → At (f c ∷ map f (filter t cs)) k x → (d : ℕ) × P d × (f d ≡ x)
    at_next zero ih b = (c, h.0, b)
    at_next (suc k) ih b = ih k b

-- a pack joins its node's children
form_pack : (j : Job) (p s : ℕ) (k : Kind) (st : Stage) (xs : List ℕ) → Form j p s k pack st xs → Joins j p s st xs
form_pack j p s aSegment st xs f = absurd f
form_pack j p s aConcat st xs f = absurd f
form_pack j p s aPack st xs f = f

pub record PackPlace (me : ℕ) (G : List Stage) (xs : List ℕ) (O : List Port) : Type 0 where
  pub low : me < slot_places
  pub uncut : (stage_of G me).cut ≡ none
  pub below : (i x : ℕ) → At xs i x → x < slot_places
  pub notme : (i x : ℕ) → At xs i x → x ≢ me
  pub reads : (i x : ℕ) → At xs i x → There O x × (reader_of O x ≡ pipe me i)

module _ {j : Job} {A : List (Option ℕ)} {P : List Pipeline} {S : List Source} {G : List Stage} {I : List (List ℕ)} where
  -- a pack stands in a slot
  pack_low : (me : ℕ) → Pipes j A P S G I → Live P me → source_of S me ≡ pack → me < slot_places
  pack_low me v l e =
      by_bool (ltb me slot_places) (λ b. ltb-true me slot_places b)
      (λ b. clash (cc (v.shares me l (ltb-false me slot_places b)).source))

  -- where a running pack stands
  pub pack_place : {«open» : ℕ → Type 0} {O : List Port} {Q : List (List Batch)} (me : ℕ) → JobOk j → Pipes j A P S G I → Ports j A «open» P I O Q
      → Live P me → source_of S me ≡ pack → PackPlace me G (inlets_of I me) O
  pack_place {O = O} me ok v w l e =
      let low : me < slot_places = pack_low me v l e in
      let f : Joins j me (v.slots me l low).split (stage_of G me) (inlets_of I me) = form_pack j me (v.slots me l low).split (node_of j (node_at_place me)).kind (stage_of G me) (inlets_of I me) (rw e at (v.slots me l low).form) in
      let c : (i x : ℕ) → At (inlets_of I me) i x → (d : ℕ) × ((d < 24) × (d < node_at_place me)) × (place (slot_at_place me) d ≡ x) = λ i x a.
      at_each (λ d. (d < 24) × (d < node_at_place me)) (place (slot_at_place me)) (λ d. keeps j d (v.slots me l low).split) (kids j.nodes (node_at_place me)) i x
      (kids_each (λ d. (d < 24) × (d < node_at_place me)) j.nodes (node_at_place me) (λ d q. (omega (arith, (ok.up d (node_at_place me) q).0, (ok.up d (node_at_place me) q).1, ok.nodes_high), (ok.up d (node_at_place me) q).0)))
      (rw f.0 at a) in
      record {
        low = low;
        uncut = f.1;
        below = λ i x a. omega (arith, (c i x a).2, place_bound (slot_at_place me) (c i x a).0 (slot_below me low) (c i x a).1.0);
        notme = λ i x a. omega (arith, (c i x a).1.1, (c i x a).2);
        reads = λ i x a. w.inlets me i x l a;
      }

-- an inlet of another pipeline is none of mine
pub other_inlet : {j : Job} {A : List (Option ℕ)} {P : List Pipeline} {I : List (List ℕ)} {«open» : ℕ → Type 0} {O : List Port} {Q : List (List Batch)} (me p i x : ℕ) → Ports j A «open» P I O Q → Live P me → Live P p → p ≢ me
    → At (inlets_of I p) i x → has x (inlets_of I me) ≡ false
other_inlet {I = I} me p i x w l k n a =
    by_bool (has x (inlets_of I me))
    (λ e. let r : (h : ℕ) × At (inlets_of I me) h x = has_at (inlets_of I me) x e in
    let z : pipe p i ≡ pipe me r.0 = sym (w.inlets p i x k a).1 ∙ (w.inlets me r.0 x l r.1).1 in
    let z' : p ≡ me = cc in absurd (n z'))
    (λ e. e)
