-- Ports are made for the claimants of a segment: what that comes to, and that the slots' ports stay as they are.
use Rattle.std.specs.Prelude.{◌≡◌, refl, ◌≢◌, ◌⊎◌, true, false, List, [], ◌∷◌, ℕ, suc, ◌<◌, ◌≤◌}
use Rattle.std.proofs.Common.{sym, ap, ◌∙◌, inl, inr, arith}
use Rattle.std.proofs.Math.Option.{Option}
use Rattle.rules.specs.Table.{put}
use Rattle.rules.specs.Job.{Job}
use Rattle.rules.specs.Plan.{root_of}
use Rattle.rules.specs.Port.{Batch}
use Rattle.rules.specs.Machine.{Machine, Pipeline, nobody, Port, place, slot_places, no_port, port_at, set_port, set_queue, with_ports, with_queues, with_fault, fault_if}
use Rattle.rules.specs.Shares.{empty_port, make_ports}
use Rattle.laws.specs.Table.{by_bool, by_eq, clash, same, other}
use Rattle.laws.specs.Rising.{Rising}
use Rattle.order.specs.Inv.{There, shut, reader_of, port_of, queue_of, SlotPort}
use Rattle.order.specs.Lowers.{Connected, LowPorts, none_to}
use Rattle.order.specs.Among.{Among, by_among, rising_low}

-- the ports xs come up empty, with nobody to read them
pub record Made (xs : List ℕ) (O O' : List Port) (Q Q' : List (List Batch)) : Type 0 where
  pub near : (x : ℕ) → Among x xs → port_of O' x ≡ empty_port nobody
  pub far : (x : ℕ) → (Among x xs → ⊥) → port_of O' x ≡ port_of O x
  pub held : (x : ℕ) → queue_of Q' x ≡ queue_of Q x

pub record Makes (xs : List ℕ) (m m' : Machine) : Type 0 where
  pub O' : List Port
  pub Q' : List (List Batch)
  pub is : m' ≡ with_fault false (with_queues Q' (with_ports O' m))
  pub made : Made xs m.ports O' m.queues Q'

-- the first port, then the others
made_both : (a x : ℕ) (xs : List ℕ) (O O' : List Port) (Q Q' : List (List Batch)) → Rising a (x ∷ xs) → queue_of Q x ≡ []
    → Made xs (put no_port O x (empty_port nobody)) O' (put [] Q x []) Q' → Made (x ∷ xs) O O' Q Q'
made_both a x xs O O' Q Q' r e w = record {
  near = λ y b. first y b;
  far = λ y n. let d : y ≢ x = λ z. n (inl z) in w.far y (λ b. n (inr b)) ∙ rw other;
  held = λ y. w.held y ∙ by_eq y x (λ d. rw (d, same) (sym e)) (λ d. rw other);
}
  where
    first : (y : ℕ) → (y ≡ x) ⊎ Among y xs → port_of O' y ≡ empty_port nobody
    first y (inl d) = rw d (w.far x (λ b. let z = rising_low (suc x) x xs r.1 b in omega arith) ∙ rw same)
    first y (inr b) = w.near y b

-- one port more
make_step : (a x : ℕ) (xs : List ℕ) (m m' : Machine) → Rising a (x ∷ xs) → queue_of m.queues x ≡ []
    → Makes xs (fault_if (port_at m x).there (set_queue x [] (set_port x (empty_port nobody) m))) m' → Makes (x ∷ xs) m m'
make_step a x xs m m' r e w = record { O' = w.O'; Q' = w.Q'; is = w.is; made = made_both a x xs m.ports w.O' m.queues w.Q' r e w.made }

-- none of the ports was there
pub make_ok : (a : ℕ) (xs : List ℕ) (m : Machine) → Rising a xs → m.fault ≡ false → ((x : ℕ) → Among x xs → ((port_of m.ports x).there ≡ false) × (queue_of m.queues x ≡ []))
    → Makes xs m (make_ports xs m)
unfolding make_ports
make_ok a [] m r f h = record { O' = m.ports; Q' = m.queues; is = ap (λ b. with_fault b m) f; made = record { near = λ x b. absurd b; far = λ x n. refl; held = λ x. refl } }
make_ok a (x ∷ xs) m r f h = make_step a x xs m (make_ports (x ∷ xs) m) r (h x (inl refl)).1
    (make_ok (suc x) xs (fault_if (port_at m x).there (set_queue x [] (set_port x (empty_port nobody) m))) r.1 (rw (f, (h x (inl refl)).0))
    (λ y b. let n : y ≢ x = λ d. (let z = rising_low (suc x) y xs r.1 b in omega arith) in (rw other (h y (inr b)).0, rw other (h y (inr b)).1)))

module _ (xs : List ℕ) (O O' : List Port) (Q Q' : List (List Batch)) (w : Made xs O O' Q Q') (above : (x : ℕ) → Among x xs → slot_places ≤ x)
    (fresh : (x : ℕ) → Among x xs → (port_of O x).there ≡ false) (blank : (x : ℕ) → (port_of O x).there ≡ false → shut O x ≡ false) where
  -- a port that was there stays
  pub there_far : (x : ℕ) → There O x → port_of O' x ≡ port_of O x
  there_far x t = w.far x (λ b. clash (cc (fresh x b)))

  -- so does a slot's
  pub low_far : (x : ℕ) → x < slot_places → port_of O' x ≡ port_of O x
  low_far x h = w.far x (λ b. let z = above x b in omega arith)

  -- ports are closed and marked as before
  pub closed_far : (x : ℕ) → shut O' x ≡ shut O x
  closed_far x = by_among x xs (λ b. ap (λ (z : Port). z.closed) (w.near x b) ∙ sym (blank x (fresh x b))) (λ n. ap (λ (z : Port). z.closed) (w.far x n))

  pub marked_far : ((x : ℕ) → (port_of O x).changed ≡ true → There O x) → (x : ℕ) → (port_of O' x).changed ≡ (port_of O x).changed
  marked_far present x = by_among x xs
      (λ b. ap (λ (z : Port). z.changed) (w.near x b) ∙ by_bool (port_of O x).changed (λ d. clash (cc (fresh x b, present x d))) (λ d. sym d))
      (λ n. ap (λ (z : Port). z.changed) (w.far x n))

  reader_far : (x : ℕ) → port_of O' x ≡ port_of O x → reader_of O' x ≡ reader_of O x
  reader_far x e = ap (λ (z : Port). z.reader) e

  there_up : (x : ℕ) → There O x → There O' x
  there_up x t = rw (there_far x t) t

  low_there : (x : ℕ) → x < slot_places → (port_of O' x).there ≡ (port_of O x).there
  low_there x b = ap (λ (z : Port). z.there) (low_far x b)

  module _ (j : Job) (A : List (Option ℕ)) (k : ℕ) (P : List Pipeline) (I : List (List ℕ)) where
    pub ports_made : LowPorts j A k none_to P I O Q → LowPorts j A k none_to P I O' Q'
    ports_made v = record {
      alive = λ q l b c. let z = v.alive q l b (conn q b c) in (there_up q z.0, closed_far q ∙ z.1);
      opens = λ x b t e. v.opens x b (sym (low_there x b) ∙ t) (sym (closed_far x) ∙ e);
      inlets = λ q h x l a. let z = v.inlets q h x l a in (there_up x z.0, reader_far x (there_far x z.0) ∙ z.1);
      readers = λ x q h t e. by_among x xs
          (λ b. clash (cc (ap (λ (z : Port). z.reader) (w.near x b))))
          (λ n. v.readers x q h (sym (ap (λ (z : Port). z.there) (w.far x n)) ∙ t) (sym (reader_far x (w.far x n)) ∙ e));
      slots = λ x b t. slot_made x b (v.slots x b (sym (low_there x b) ∙ t));
      roots = λ l s d e. let z = v.roots l s d e in (there_up (place l (root_of j)) z.0, reader_far (place l (root_of j)) (there_far (place l (root_of j)) z.0) ∙ z.1);
      absent = λ x e. w.held x ∙ v.absent x (was_gone x e);
      blank = λ x e. closed_far x ∙ blank x (was_gone x e);
    }
      where
        conn : (q : ℕ) → q < slot_places → Connected k O' q → Connected k O q
        conn q b (inl n) = inl n
        conn q b (inr t) = inr (sym (low_there q b) ∙ t)

        was_gone : (x : ℕ) → (port_of O' x).there ≡ false → (port_of O x).there ≡ false
        was_gone x e = by_bool (port_of O x).there (λ t. clash (cc (there_up x t))) (λ t. t)

        slot_made : (x : ℕ) → x < slot_places → SlotPort j A O x → SlotPort j A O' x
        slot_made x b y = let r = reader_far x (low_far x b) in record { split = y.split; is = y.is; node = y.node; keep = y.keep; read = rw r y.read; root = λ e. y.root (sym r ∙ e) }
