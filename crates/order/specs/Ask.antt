-- A segment source asks for its read.
use Rattle.std.specs.Prelude.{◌≡◌, refl, ◌≢◌, Bool, true, false, List, [], ◌∷◌, ◌++◌, map, ℕ, zero, suc, ◌<◌, ◌≤◌, length}
use Rattle.std.proofs.Common.{sym, ◌∙◌, arith, length-append}
use Rattle.std.proofs.Math.Option.{Option, some}
use Rattle.std.proofs.Math.Decide.{ℕ_discrete}
use Rattle.rules.specs.Table.{get}
use Rattle.rules.specs.Job.{Job}
use Rattle.rules.specs.Plan.{Cell, is_leaf, first_leaf}
use Rattle.rules.specs.Port.{Batch}
use Rattle.rules.specs.Operators.{Source, segment}
use Rattle.rules.specs.Machine.{Pipeline, Stage, Read, Output, node_at_place}
use Rattle.laws.specs.Table.{by_eq, clash, get_front, get_last}
use Rattle.order.specs.Inv.{Live, source_of, is_source, Pipes, read_at, Reads, Once, Came, AllCame, Brought, Delivered}
use Rattle.order.specs.Outlets.{first_apart}
use Rattle.order.specs.Source.{source_place, Stepped, step_once}
use Rattle.order.specs.Leaves.{leaf_below, first_leaf_lem, first_first}

-- Different numbers below k are at most k

-- where the largest may be meant, the last one stands in for it
skip : (f : ℕ → ℕ) (n k r : ℕ) → ℕ
skip f n k r = elim (ℕ_discrete (f r) k) [ yes e ↦ f n | no d ↦ f r ]

skip_at : (f : ℕ → ℕ) (n k r : ℕ) → f r ≡ k → skip f n k r ≡ f n
unfolding skip
skip_at f n k r e = elim (ℕ_discrete (f r) k) as (λ w. elim w as (λ u. ℕ) [ yes q ↦ f n | no d ↦ f r ] ≡ f n) [ yes q ↦ refl | no d ↦ absurd (d e) ]

skip_off : (f : ℕ → ℕ) (n k r : ℕ) → f r ≢ k → skip f n k r ≡ f r
unfolding skip
skip_off f n k r d = elim (ℕ_discrete (f r) k) as (λ w. elim w as (λ u. ℕ) [ yes q ↦ f n | no c ↦ f r ] ≡ f r) [ yes q ↦ absurd (d q) | no c ↦ refl ]

abbrev Differ : (ℕ → ℕ) → ℕ → Type 0
Differ f n = (r q : ℕ) → r < n → q < n → f r ≡ f q → r ≡ q

skip_differ : (f : ℕ → ℕ) (n k : ℕ) → Differ f (suc n) → Differ (skip f n k) n
skip_differ f n k h r q a b e = by_eq (f r) k
    (λ x. by_eq (f q) k
    (λ y. h r q (omega arith) (omega arith) (x ∙ sym y))
    (λ y. absurd (omega (arith, h n q (omega arith) (omega arith) (sym (skip_at f n k r x) ∙ e ∙ skip_off f n k q y)))))
    (λ x. by_eq (f q) k
    (λ y. absurd (omega (arith, h r n (omega arith) (omega arith) (sym (skip_off f n k r x) ∙ e ∙ skip_at f n k q y))))
    (λ y. h r q (omega arith) (omega arith) (sym (skip_off f n k r x) ∙ e ∙ skip_off f n k q y)))

skip_below : (f : ℕ → ℕ) (n k r : ℕ) → Differ f (suc n) → ((q : ℕ) → q < suc n → f q < suc k) → r < n → skip f n k r < k
skip_below f n k r h low a = by_eq (f r) k
    (λ x. let d : f n ≢ k = λ y. omega (arith, h r n (omega arith) (omega arith) (x ∙ sym y)) in rw (skip_at f n k r x) (omega (arith, low n (omega arith))))
    (λ x. rw (skip_off f n k r x) (omega (arith, low r (omega arith))))

pub few : (k n : ℕ) (f : ℕ → ℕ) → Differ f n → ((r : ℕ) → r < n → f r < k) → n ≤ k
few k zero f h low = omega arith
few zero (suc n) f h low = absurd (omega (arith, low 0 (omega arith)))
few (suc k) (suc n) f h low = let i : n ≤ k = few k n (skip f n k) (skip_differ f n k h) (λ r a. skip_below f n k r h low a) in omega arith

-- One read more

read_front : (R : List Read) (x : Read) (r : ℕ) → r < length R → read_at (R ++ x ∷ []) r ≡ read_at R r
read_front R x r h = get_front _ R (x ∷ []) r h

read_last : (R : List Read) (x : Read) → read_at (R ++ x ∷ []) (length R) ≡ x
read_last R x = get_last _ R x

pub read_more : (R : List Read) (x : Read) → length (R ++ x ∷ []) ≡ suc (length R)
read_more R x = length-append R (x ∷ []) ∙ omega arith

-- a number of the longer list is one of the shorter's, or the last
by_read {ℓ} : {P : Type ℓ} (R : List Read) (x : Read) (r : ℕ) → r < length (R ++ x ∷ []) → (r < length R → P) → (r ≡ length R → P) → P
by_read R x r h a b = by_eq r (length R) b (λ n. a (omega (arith, read_more R x)))

module _ (j : Job) (R : List Read) (x : Read) where
  came_more : (g : ℕ) → Came j R g → Came j (R ++ x ∷ []) g
  came_more g c = (c.0, omega (arith, read_more R x, c.1), rw (read_front R x c.0 c.1) c.2, rw (read_front R x c.0 c.1) c.3)

  all_came_more : (cs : List Cell) → AllCame j R cs → AllCame j (R ++ x ∷ []) cs
  all_came_more [] v = tt
  all_came_more (c ∷ cs) v = (came_more c.segment v.0, all_came_more cs v.1)

  brought_more : (bs : List Batch) → Brought j R bs → Brought j (R ++ x ∷ []) bs
  brought_more [] v = tt
  brought_more (b ∷ bs) v = (all_came_more b.cells v.0, brought_more bs v.1)

  pub delivered_more : {P : List Pipeline} {G : List Stage} {Q : List (List Batch)} {outs : List Output} → Delivered j P G Q R outs → Delivered j P G Q (R ++ x ∷ []) outs
  delivered_more {Q} {outs} v = record {
    queues = λ y. brought_more (get [] Q y) (v.queues y);
    outputs = brought_more (map (λ (o : Output). o.batch) outs) v.outputs;
    stages = λ p l d. came_more _ (v.stages p l d);
    solid = v.solid;
    solid_outs = v.solid_outs;
  }

-- The read of `me`

abbrev pub asking : Job → ℕ → Read
asking j p = record { leaf = first_leaf j (node_at_place p); owner = some p; delivered = false }

module _ (j : Job) (A : List (Option ℕ)) (P : List Pipeline) (S S' : List Source) (G : List Stage) (I : List (List ℕ)) (R : List Read) (next : ℕ) (unb : List Bool) (me : ℕ) (b : Bool) (e : ℕ) (st : Stage)
    (pipes : Pipes j A P S G I) (reads : Reads j P S R) (once : Once j next unb P S R) (l : Live P me) (s : source_of S me ≡ segment false b e) (w : Stepped me (segment true false 0) st S S' G G) where
  leaf_of : (p : ℕ) → Live P p → is_source (source_of S p) ≡ true → is_leaf j (node_at_place p) ≡ true
  leaf_of p k h = (source_place j A P S G I p pipes k h).leaf

  -- the new read is of another segment than the others
  new_leaf_lem : (r : ℕ) → r < length R → (read_at R r).leaf ≢ first_leaf j (node_at_place me)
  new_leaf_lem r h = reads.unasked me e r b l s h

  pub asked_reads : Reads j P S' (R ++ asking j me ∷ [])
  asked_reads =
      let x = asking j me in
      let f : (r : ℕ) → r < length R → read_at (R ++ x ∷ []) r ≡ read_at R r = read_front R x in
      let z : read_at (R ++ x ∷ []) (length R) ≡ x = read_last R x in
      let n : length (R ++ x ∷ []) ≡ suc (length R) = read_more R x in
      let i = leaf_of me l (rw s) in
      record {
        leaf = λ r h. by_read R x r h (λ a. rw (f r a) (reads.leaf r a)) (λ a. rw (a, z) ((first_leaf_lem j (node_at_place me) i).0, first_first j (node_at_place me) i));
        once = λ r q h k. by_read R x r h
            (λ a. by_read R x q k
            (λ c. rw (f r a, f q c) (reads.once r q a c))
            (λ c. rw (f r a, c, z) (λ d. absurd (new_leaf_lem r a d))))
            (λ a. by_read R x q k
            (λ c. rw (f q c, a, z) (λ d. absurd (new_leaf_lem q c (sym d))))
            (λ c d. a ∙ sym c));
        owned = λ r p h. by_read R x r h
            (λ a. rw (f r a) (λ o.
            let u = reads.owned r p a o in
            let k : p ≢ me = λ q. clash (cc (s, u.2)) in
            (u.0, u.1, rw (w.sources p k) u.2, u.3)))
            (λ a. rw (a, z) (λ o. let q : me ≡ p = cc in rw (← q) (refl, l, rw w.source, refl)));
        pended = λ p k d. by_eq p me
            (λ q. (length R, omega arith, rw z, rw (z, q)))
            (λ q. let u = reads.pended p k (rw (w.sources p q) at d) in (u.0, omega (arith, u.1), rw (f u.0 u.1) u.2, rw (f u.0 u.1) u.3));
        unasked = λ p e' r b' k d h.
            let q : p ≢ me = λ y. clash (cc (d, w.source)) in
            let t : source_of S p ≡ segment false b' e' = sym (w.sources p q) ∙ d in
            by_read R x r h
            (λ a. rw (f r a) (reads.unasked p e' r b' k t a))
            (λ a. rw (a, z) (λ y. q (once.single p me k l (rw t) (rw s) (first_apart j (node_at_place p) (node_at_place me) (leaf_of p k (rw t)) i (sym y)))));
        came = λ p e' b' k d y.
            let q : p ≢ me = λ t. clash (cc (y, w.source)) in
            let u = reads.came p e' b' k (sym (w.sources p q) ∙ d) (rw (w.sources p q) at y) in
            (u.0, omega (arith, u.1), rw (f u.0 u.1) u.2, rw (f u.0 u.1) u.3);
        fresh = λ p e' b' k d. let q : p ≢ me = λ y. clash (cc (d, w.source)) in reads.fresh p e' b' k (sym (w.sources p q) ∙ d);
      }

  -- so there are fewer than 24
  pub reads_few : length j.nodes ≤ 24 → length R < 24
  reads_few h =
      let x = asking j me in
      let n : length (R ++ x ∷ []) ≡ suc (length R) = read_more R x in
      let v = asked_reads in
      let k : length (R ++ x ∷ []) ≤ 24 = few 24 (length (R ++ x ∷ [])) (λ r. (read_at (R ++ x ∷ []) r).leaf) v.once (λ r a. let d : (read_at (R ++ x ∷ []) r).leaf < length j.nodes = leaf_below j (read_at (R ++ x ∷ []) r).leaf (v.leaf r a).0 in omega arith) in
      omega arith

  -- no claim is to come for it
  pub asked_once : Once j next unb P S' (R ++ asking j me ∷ [])
  asked_once =
      let x = asking j me in
      let i = leaf_of me l (rw s) in
      let v : Once j next unb P S' R = step_once me true false 0 st S S' G G w (rw s) once in
      record {
        single = v.single;
        unread = λ k r a c h. by_read R x r h
            (λ d. rw (read_front R x r d) (once.unread k r a c d))
            (λ d. rw (d, read_last R x) (λ y. once.unsourced k me a c l (rw s) (first_apart j (node_at_place me) k i a y)));
        unsourced = v.unsourced;
      }
