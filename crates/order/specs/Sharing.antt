-- A live shared source is the only one of its segment, and writes every port of it that is there.
use Rattle.std.specs.Prelude.{◌≡◌, refl, Bool, true, false, List, [], ◌∷◌, ℕ, ◌<◌, ◌≤◌, length}
use Rattle.std.proofs.Common.{sym, ◌∙◌, inl, inr, arith}
use Rattle.std.proofs.Math.Option.{Option}
use Rattle.rules.specs.Job.{Job}
use Rattle.rules.specs.Plan.{node_of, is_leaf}
use Rattle.rules.specs.Port.{Batch}
use Rattle.rules.specs.Operators.{Source}
use Rattle.rules.specs.Machine.{Pipeline, Stage, Port, Read, share_port, slot_places}
use Rattle.order.specs.Inv.{Live, shut, source_of, queue_of, Pipes, Sources, whole, emitted, Before, SharePort, Once, segment_of}
use Rattle.order.specs.State.{OutletOf}
use Rattle.order.specs.Base.{share_leaf}

-- the leaf of an outlet is of the source's segment
pub outlet_leaf : (j : Job) (me x l t : ℕ) → length j.splits ≤ 16 → slot_places ≤ me → OutletOf j me x → x ≡ share_port l t → t < length j.splits → (node_of j l).segment ≡ segment_of j me
outlet_leaf j me x l t h s (inl o) e k = absurd (omega (arith, o.0))
outlet_leaf j me x l t h s (inr (a, (l', t', k', e', i, g))) e k =
    let q : l ≡ l' = share_leaf l t l' t' (omega arith) (omega arith) (sym e ∙ e') in
    rw q g

pub leaf_outlet : (j : Job) (me l t : ℕ) → slot_places ≤ me → is_leaf j l ≡ true → t < length j.splits → (node_of j l).segment ≡ segment_of j me → OutletOf j me (share_port l t)
leaf_outlet j me l t s i k g = inr (s, (l, t, k, refl, i, g))

module _ (j : Job) (A : List (Option ℕ)) (P : List Pipeline) (S : List Source) (G : List Stage) (I : List (List ℕ)) (next : ℕ) (unb : List Bool) (R : List Read)
    (pipes : Pipes j A P S G I) (once : Once j next unb P S R) (me : ℕ) (live : Live P me) (s : slot_places ≤ me) where
  -- no other source has its segment
  pub only_me : (l p : ℕ) → (node_of j l).segment ≡ segment_of j me → Sources j P l p → p ≡ me
  only_me l p g h = once.single p me h.0 live (pipes.shares p h.0 h.1).source (pipes.shares me live s).source (h.2 ∙ g)

  -- an open outlet is empty while the source has not emitted
  pub share_empty : (busy : ℕ → Type 0) (O : List Port) (Q : List (List Batch)) (x : ℕ) (v : SharePort j busy unb P S O Q x) → (node_of j v.leaf).segment ≡ segment_of j me
      → shut O x ≡ false → emitted (source_of S me) ≡ 0 → queue_of Q x ≡ []
  share_empty busy O Q x v g c e =
      let u : (p : ℕ) × Sources j P v.leaf p × Before busy j v.leaf p (source_of S p) (queue_of Q x) = v.opens c in
      pick (rw (only_me v.leaf u.0 g u.1) at u.2)
    where
      pick : Before busy j v.leaf me (source_of S me) (queue_of Q x) → queue_of Q x ≡ []
      pick (inl h) = h.1
      pick (inr h) = absurd (omega (arith, e, h.1))

  -- and holds the whole segment once it has
  pub share_held : (busy : ℕ → Type 0) (O : List Port) (Q : List (List Batch)) (x : ℕ) (v : SharePort j busy unb P S O Q x) → (node_of j v.leaf).segment ≡ segment_of j me
      → shut O x ≡ false → 1 ≤ emitted (source_of S me) → queue_of Q x ≡ whole j v.leaf ∷ []
  share_held busy O Q x v g c e =
      let u : (p : ℕ) × Sources j P v.leaf p × Before busy j v.leaf p (source_of S p) (queue_of Q x) = v.opens c in
      pick (rw (only_me v.leaf u.0 g u.1) at u.2)
    where
      pick : Before busy j v.leaf me (source_of S me) (queue_of Q x) → queue_of Q x ≡ whole j v.leaf ∷ []
      pick (inl h) = absurd (omega (arith, e, h.0))
      pick (inr h) = h.2
