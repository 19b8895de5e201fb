-- A concat takes from its current inlet: a bounded port, or the shared port of a claimed leaf.
use Rattle.std.specs.Prelude.{◌≡◌, refl, ◌⊎◌, Bool, true, false, List, [], ◌∷◌, ◌++◌, ℕ, suc, ◌<◌, ◌≤◌, drop}
use Rattle.std.proofs.Common.{inl, inr, append-nil, append_assoc, arith}
use Rattle.std.proofs.Math.Option.{Option, none, some}
use Rattle.rules.specs.Job.{Job}
use Rattle.rules.specs.Plan.{Piece, Row}
use Rattle.rules.specs.Port.{Batch, batch_rows}
use Rattle.rules.specs.Operators.{Source, concat}
use Rattle.rules.specs.Machine.{Machine, share_port, slot_places, source_at, stage_at, inlets_at, queue_at, set_queue}
use Rattle.rules.specs.Drive.{touch}
use Rattle.laws.specs.Table.{same, upd_same, by_bool, clash}
use Rattle.order.specs.Base.{share_above}
use Rattle.order.specs.Inv.{At, flat, still, staged, pending, share_rows, whole, shut, SharePort, Before}
use Rattle.order.specs.State.{Busy}
use Rattle.order.specs.Take.{pieces_for, drop_at, apart_mine, join_frame}
use Rattle.order.specs.Taken.{take_busy}

-- without a cut nothing is pending
pub pending_none : (ps : List Piece) (c : Bool) → pending ps c none ≡ []
pending_none ps true = refl
pending_none ps false = refl

-- no rows go through the stage as none
pub staged_nil : (ps : List Piece) (c : Option ℕ) → staged ps c [] ≡ []
staged_nil ps none = refl
staged_nil ps (some at) = refl

-- from a bounded port
pub take_ok : (out : ℕ → List Row) (told me : ℕ) (m : Machine) (i x : ℕ) (b : Batch) (bs : List Batch) → source_at m me ≡ concat i → (stage_at m me).cut ≡ none
    → At (inlets_at m me) i x → x < slot_places → queue_at m x ≡ b ∷ bs → Busy me [] out told m → Busy me (batch_rows b) out told (set_queue x bs (touch me (i ∷ []) m))
take_ok out told me m i x b bs es ec at h q u =
    let I = u.inv in
    let v = flat bs ++ still (shut m.ports x) (I.W x) in
    take_busy out told me m i x b bs v (batch_rows b) u (λ e. clash (cc)) at q (λ k. refl) (λ l t g e. absurd (omega (arith, share_above l t))) (λ k. absurd (omega arith))
    (simp (es, ec, pending_none, drop_at (inlets_at m me) i x at, I.flow.port x h, q, upd_same, append_assoc, join_frame I.F x v (drop (suc i) (inlets_at m me)) (apart_mine I.ports me i x u.running.live at)))

-- the shared source of an open port does not run while a claimed leaf does
not_before : (j : Job) (l p me : ℕ) (src : Source) (b : Batch) (q bs : List Batch) → me < slot_places → slot_places ≤ p → q ≡ b ∷ bs → Before (λ o. o ≡ me) j l p src q → ⊥
not_before j l p me src b q bs h g e (inl c) = clash (cc c.1)
not_before j l p me src b q bs h g e (inr c) = let z : p ≡ me = c.0 in omega arith

-- a shared port that holds something holds the whole segment
held_whole : (w b : Batch) (q bs : List Batch) → q ≡ b ∷ bs → (q ≡ []) ⊎ (q ≡ w ∷ []) → (b ≡ w) × (bs ≡ [])
held_whole w b q bs e (inl c) = clash (cc)
held_whole w b q bs e (inr c) = (cc, cc)

-- what a claimed leaf can take: the whole segment, of a closed port
pub record Whole (m : Machine) (x : ℕ) (b : Batch) (bs : List Batch) (l : ℕ) : Type 0 where
  pub closed : shut m.ports x ≡ true
  pub is : b ≡ whole m.job l
  pub rest : bs ≡ []

pub shared_whole : (me : ℕ) (m : Machine) (x : ℕ) (b : Batch) (bs : List Batch) → me < slot_places → queue_at m x ≡ b ∷ bs
    → (s : SharePort m.job (λ p. p ≡ me) m.unbuilt m.pipes m.sources m.ports m.queues x) → Whole m x b bs s.leaf
shared_whole me m x b bs h q s =
    let w = held_whole (whole m.job s.leaf) b (queue_at m x) bs q s.holds in
    record {
      closed = by_bool (shut m.ports x) (λ e. e)
          (λ e. let r = s.opens e in absurd (not_before m.job s.leaf r.0 me (source_at m r.0) b (queue_at m x) bs h r.1.1 q r.2));
      is = w.0;
      rest = w.1;
    }

-- and that is what is to come out of it
whole_rows : (F : ℕ → List Row) (m : Machine) (x : ℕ) (b : Batch) (bs : List Batch) (l t : ℕ) → x ≡ share_port l t → queue_at m x ≡ b ∷ bs → b ≡ whole m.job l
    → F (share_port l t) ≡ share_rows (batch_rows (whole m.job l)) (shut m.ports (share_port l t)) (queue_at m (share_port l t)) → F x ≡ batch_rows b
whole_rows F m x b bs l t e q w f = let q' : queue_at m (share_port l t) ≡ b ∷ bs = rw e at q in rw (e, f, q', w)

-- from a shared port: what the cutting stage, if there is one, makes of the segment
pub take_shared : (out : ℕ → List Row) (told me : ℕ) (m : Machine) (x : ℕ) (b : Batch) (bs : List Batch) → me < slot_places → source_at m me ≡ concat 0
    → (stage_at m me).continuing ≡ false → inlets_at m me ≡ x ∷ [] → slot_places ≤ x → queue_at m x ≡ b ∷ bs → Busy me [] out told m
    → Busy me (staged (pieces_for m me) (stage_at m me).cut (batch_rows b)) out told (set_queue x bs (touch me (0 ∷ []) m))
take_shared out told me m x b bs h es ec ei g q u =
    let I = u.inv in
    let at : At (inlets_at m me) 0 x = rw ei refl in
    let a = I.ports.inlets me 0 x u.running.live at in
    let s = I.shares.ports x g a.0 in
    let w : Whole m x b bs s.leaf = shared_whole me m x b bs h q s in
    let few : s.split < 16 = omega (arith, s.below, I.job.splits_high) in
    let f : I.F x ≡ batch_rows b = whole_rows I.F m x b bs s.leaf s.split s.is q w.is (I.flow.share s.leaf s.split few) in
    take_busy out told me m 0 x b bs [] (staged (pieces_for m me) (stage_at m me).cut (batch_rows b)) u
    (λ e. clash (cc)) at q (λ k. absurd (omega arith)) (λ l t k e. rw (w.rest, w.closed))
    (λ k. record {
      leaf = s.leaf;
      split = s.split;
      is = s.is;
      below = s.below;
      is_leaf = s.is_leaf;
      pair = s.pair;
      shared = s.shared;
      built = s.built;
      holds = inl (rw same w.rest);
      opens = λ o. clash (cc w.closed);
      shuts = s.shuts;
      full = λ c n. clash (cc a.1);
      unslotted = s.unslotted;
    })
    (simp (es, ec, ei, upd_same, f, append-nil, staged_nil))
