-- A batch is written to the outlets.
use Rattle.std.specs.Prelude.{◌≡◌, refl, ◌≢◌, Bool, true, false, List, [], ◌∷◌, ◌++◌, ℕ, suc, ◌<◌, ◌≤◌}
use Rattle.std.proofs.Common.{sym, ap, ◌∙◌, inl, inr, append_assoc, append-nil, arith, ne_eqb, eq-eqb}
use Rattle.std.proofs.Math.Bool.{or-false, or-true}
use Rattle.std.proofs.Math.Option.{Option}
use Rattle.std.proofs.lemmas.Bool.{lt-leb}
use Rattle.rules.specs.Table.{is_empty}
use Rattle.rules.specs.Job.{Job}
use Rattle.rules.specs.Plan.{Row}
use Rattle.rules.specs.Port.{Batch, batch_rows}
use Rattle.rules.specs.Operators.{Source}
use Rattle.rules.specs.Machine.{Machine, Pipeline, Stage, Port, slot_places, slot_at_place, share_port, no_port, port_at, queue_at, outlets, set_port, set_queue, with_ports, with_queues, with_fault}
use Rattle.rules.specs.Ports.{marked, has_place, push_to, push_each, push_out}
use Rattle.rules.specs.Wake.{any_full}
use Rattle.laws.specs.Table.{by_eq, other, upd, upd_same, upd_other}
use Rattle.laws.specs.Rising.{Rising}
use Rattle.order.specs.Inv.{Live, There, shut, source_of, stage_of, inlets_of, split_in, flat, pieces_in, will, Flow, AllCame}
use Rattle.order.specs.State.{Busy}
use Rattle.order.specs.Base.{share_above}
use Rattle.order.specs.Among.{Among, rising_low}
use Rattle.order.specs.Outlets.{outlets_slot}
use Rattle.order.specs.Write.{map_at, map_out, map_in, shares_keep, Wrote, wrote_shut, wrote_there, wrote_ports, wrote_past, wrote_waits, wrote_dirt, wrote_quiet, wrote_packs, wrote_delivered}
use Rattle.order.specs.Lists.{nil_right}

-- an empty batch is not written
pub push_none : (me : ℕ) (b : Batch) (m : Machine) → b.rows ≡ 0 → push_out me b m ≡ m
push_none me b m e = rw (eq-eqb b.rows 0 e, push_out)

pub push_some : (me : ℕ) (b : Batch) (m : Machine) → 0 < b.rows → push_out me b m ≡ push_each b (outlets m me) m
push_some me b m h = rw (ne_eqb b.rows 0 (λ e. omega arith), push_out)

-- a port with place for it gets it
push_to_lem : (b : Batch) (x : ℕ) (m : Machine) → has_place x (queue_at m x) ≡ true
    → push_to b x m ≡ set_queue x (queue_at m x ++ b ∷ []) (set_port x (marked (port_at m x)) m)
push_to_lem b x m h = rw h (ap (λ (f : Bool). with_fault f (set_queue x (queue_at m x ++ b ∷ []) (set_port x (marked (port_at m x)) m))) (or-false m.fault))

-- so do all the outlets
pub push_each_lem : (b : Batch) (n : ℕ) (xs : List ℕ) (m : Machine) → Rising n xs → ((x : ℕ) → Among x xs → has_place x (queue_at m x) ≡ true)
    → push_each b xs m ≡ with_queues (map_at [] (λ q. q ++ b ∷ []) xs m.queues) (with_ports (map_at no_port marked xs m.ports) m)
unfolding push_each
push_each_lem b n [] m r h = refl
push_each_lem b n (x ∷ xs) m r h =
    rw (push_to_lem b x m (h x (inl refl)))
    (push_each_lem b (suc x) xs (set_queue x (queue_at m x ++ b ∷ []) (set_port x (marked (port_at m x)) m)) r.1
    (λ y a. let k : y ≢ x = λ e. omega (arith, rising_low (suc x) y xs r.1 a) in rw other (h y (inr a))))

-- what was written where
pub pushed_is : (b : Batch) (n : ℕ) (xs : List ℕ) (O : List Port) (Q : List (List Batch)) → Rising n xs → ((x : ℕ) → Among x xs → There O x × (shut O x ≡ false))
    → Wrote xs b O Q (map_at no_port marked xs O) (map_at [] (λ q. q ++ b ∷ []) xs Q)
pushed_is b n xs O Q r h = record {
  off = λ x a. (map_out no_port marked xs O x a, map_out [] (λ q. q ++ b ∷ []) xs Q x a);
  on = λ x a. (map_in no_port marked n xs O x r a, map_in [] (λ q. q ++ b ∷ []) n xs Q x r a, (h x a).0, (h x a).1);
}

flat_append : (a c : List Batch) → flat (a ++ c) ≡ flat a ++ flat c
flat_append [] c = refl
flat_append (b ∷ bs) c = rw (flat_append bs c, append_assoc)

-- what is in the hand is written
put_out : (j : Job) (A : List (Option ℕ)) (P : List Pipeline) (S : List Source) (G : List Stage) (I : List (List ℕ)) (O O' : List Port) (Q Q' : List (List Batch)) (me : ℕ) (b : Batch) (F W : ℕ → List Row)
    → Wrote (me ∷ []) b O Q O' Q' → me < slot_places → Live P me → Flow j A P S G I O Q me (batch_rows b) F W
    → Flow j A P S G I O' Q' me [] F (upd W me (will F (pieces_in j me (split_in A (slot_at_place me))) (source_of S me) (stage_of G me) (inlets_of I me)))
put_out j A P S G I O O' Q Q' me b F W w s l f =
    let v = will F (pieces_in j me (split_in A (slot_at_place me))) (source_of S me) (stage_of G me) (inlets_of I me) in
    record {
      port = λ x h. by_eq x me
          (λ e. rw e (simp (f.port me s, (w.on me (inl refl)).1, wrote_shut (me ∷ []) b O Q O' Q' w me, (w.on me (inl refl)).3, upd_same, f.mine s l, flat_append, append_assoc, append-nil)))
          (λ n. rw ((w.off x (alone x n)).1, wrote_shut (me ∷ []) b O Q O' Q' w x, upd_other) (f.port x h));
      share = λ k t h.
          let n : share_port k t ≢ me = λ e. omega (arith, share_above k t) in
          rw ((w.off (share_port k t) (alone (share_port k t) n)).1, wrote_shut (me ∷ []) b O Q O' Q' w (share_port k t)) (f.share k t h);
      pipes = λ p h k n. rw upd_other (f.pipes p h k n);
      mine = λ h k. rw upd_same;
      ends = λ p h k e. by_eq p me (λ q. rw q (rw upd_same (nil_right (batch_rows b) v (sym (f.mine s l) ∙ f.ends me s l (rw q at e))))) (λ n. rw upd_other (f.ends p h k e));
      even = f.even;
    }
  where
    alone : (x : ℕ) → x ≢ me → Among x (me ∷ []) → ⊥
    alone x n (inl e) = n e
    alone x n (inr e) = e

-- the run goes on
pub push_ok : (out : ℕ → List Row) (told me : ℕ) (m : Machine) → me < slot_places → (b : Batch) → 0 < b.rows → AllCame m.job m.reads b.cells
    → Busy me (batch_rows b) out told m → any_full m me ≡ false → Busy me [] out told (push_out me b m)
push_ok out told me m s b h c v n =
    let alive : There m.ports me × (shut m.ports me ≡ false) = v.inv.ports.alive me v.running.live s tt in
    let O' = map_at no_port marked (me ∷ []) m.ports in
    let Q' = map_at [] (λ q. q ++ b ∷ []) (me ∷ []) m.queues in
    let w : Wrote (me ∷ []) b m.ports m.queues O' Q' = pushed_is b 0 (me ∷ []) m.ports m.queues (omega arith, tt) (λ x a. mine x a alive) in
    rw (push_some me b m h, outlets_slot m me s, push_each_lem b 0 (me ∷ []) m (omega arith, tt) (λ x a. place x a))
    (record {
      inv = record {
        F = v.inv.F;
        W = upd v.inv.W me (will v.inv.F (pieces_in m.job me (split_in m.active (slot_at_place me))) (source_of m.sources me)
            (stage_of m.stages me) (inlets_of m.inlets me));
        job = v.inv.job;
        slots = v.inv.slots;
        pipes = v.inv.pipes;
        ports = wrote_ports (me ∷ []) b m.ports m.queues O' Q' w v.inv.ports;
        shares = shares_keep m.ports O' m.queues Q' (λ x k. w.off x (λ a. apart x k a)) v.inv.shares;
        flow = put_out m.job m.active m.pipes m.sources m.stages m.inlets m.ports O' m.queues Q' me b v.inv.F v.inv.W w s v.running.live v.inv.flow;
        past = wrote_past (me ∷ []) b m.ports m.queues O' Q' w v.inv.past;
        splits = v.inv.splits;
        queued = v.inv.queued;
        waits = wrote_waits (me ∷ []) b m.ports m.queues O' Q' w v.inv.waits;
        dirt = wrote_dirt (me ∷ []) b m.ports m.queues O' Q' w v.inv.dirt;
        quiet = wrote_quiet (me ∷ []) b m.ports m.queues O' Q' w (λ x a. inl (s, it x a)) v.inv.quiet;
        packs = wrote_packs (me ∷ []) b m.ports m.queues O' Q' w v.inv.packs;
        reads = v.inv.reads;
        once = v.inv.once;
        delivered = wrote_delivered (me ∷ []) b m.ports m.queues O' Q' w c (λ x a. h) v.inv.delivered;
        numbers = v.inv.numbers;
        tells = v.inv.tells;
        sound = v.inv.sound;
      };
      running = record { live = v.running.live; state = v.running.state; unqueued = v.running.unqueued };
      calm = v.calm;
      is_open = λ x o t. wrote_shut (me ∷ []) b m.ports m.queues O' Q' w x ∙ v.is_open x o (sym (wrote_there (me ∷ []) b m.ports m.queues O' Q' w x) ∙ t);
    })
  where
    it : (x : ℕ) → Among x (me ∷ []) → x ≡ me
    it x (inl e) = e
    it x (inr e) = absurd e

    mine : (x : ℕ) → Among x (me ∷ []) → There m.ports me × (shut m.ports me ≡ false) → There m.ports x × (shut m.ports x ≡ false)
    mine x a h = rw (it x a) h

    place : (x : ℕ) → Among x (me ∷ []) → has_place x (queue_at m x) ≡ true
    place x a = rw (it x a, lt-leb slot_places me s) (or-true (is_empty (queue_at m me)))

    apart : (x : ℕ) → slot_places ≤ x → Among x (me ∷ []) → ⊥
    apart x k a = omega (arith, it x a)
