-- A segment source computes: it emits its next run, or ends.
use Rattle.std.specs.Prelude.{◌≡◌, ◌≢◌, Bool, ◌&&◌, ℕ, zero, suc, ◌<◌, ◌≤◌, drop, ltb}
use Rattle.std.proofs.Math.Path.{refl, ap}
use Rattle.std.proofs.Common.{sym, ◌∙◌, subst, inl, inr, arith, ltb-true, ltb-false}
use Rattle.std.proofs.Math.Bool.{true, false}
use mathlib.Core.List.{List, [], ◌∷◌, ◌++◌, flat_map}
use Rattle.std.proofs.Math.Option.{Option, some}
use Rattle.rules.specs.Table.{given, get, is_empty}
use Rattle.rules.specs.Job.{Job}
use Rattle.rules.specs.Plan.{Piece, kept_pieces, Row, node_of, kept, reaches, overlaps, reach_start, reach_end, split_of}
use Rattle.rules.specs.Port.{Batch, no_batch, batch_rows}
use Rattle.rules.specs.Operators.{Source, segment, final, piece_batch, emit, bytes_came}
use Rattle.rules.specs.Machine.{Machine, Stage, Port, no_port, slot_places, slot_at_place, node_at_place, share_port, source_at, pieces_at, outlets, set_source, with_sources, with_stages, with_ports, with_queues}
use Rattle.rules.specs.Ports.{marked, push_each, push_out}
use Rattle.rules.specs.Wake.{any_full}
use Rattle.rules.specs.Drive.{compute, said_more, finished_stages}
use Rattle.laws.specs.Table.{by_bool, by_eq, by_list, clash, same, other, and_left}
use Rattle.laws.specs.Rows.{run_rows}
use Rattle.order.specs.Inv.{bit, Live, There, shut, source_of, stage_of, port_of, queue_of, split_in, is_source, whole, SlotPipe, SharePort, Shares, Flow, segment_of, pieces_in, Came}
use Rattle.order.specs.State.{Busy}
use Rattle.order.specs.Among.{Among, by_among}
use Rattle.order.specs.Outlets.{outlets_among, among_outlets, outlets_rise, outlet_share}
use Rattle.order.specs.Write.{map_at, Wrote, wrote_shut, wrote_there, wrote_reader, share_keep}
use Rattle.order.specs.Push.{push_none, push_some, push_each_lem, pushed_is, push_ok}
use Rattle.order.specs.Sharing.{leaf_outlet, share_empty}
use Rattle.order.specs.Close.{outlet_open, outlet_entry, outlet_segment}
use Rattle.order.specs.Source.{SourcePlace, source_place, source_rests, Stepped, step_shares, step_flow, step_ok}
use Rattle.order.specs.Emit.{had_bytes, Sized, Named, emit_end, emit_run, drop_next, kept_sized, kept_named, drop_all, keeps_first, runs_slot, runs_share, compute_end, compute_run}
use Rattle.order.specs.Leaves.{leaf_below, leaf_kind, first_leaf_lem}

-- nothing is written
pub unwritten : (O : List Port) (Q : List (List Batch)) → Wrote [] no_batch O Q O Q
unwritten O Q = record { off = λ x n. (refl, refl); on = λ x a. absurd a }

run_rows_lem : (a : Piece) (ps : List Piece) → run_rows (a ∷ ps) ≡ batch_rows (piece_batch a) ++ run_rows ps
unfolding run_rows flat_map
run_rows_lem a ps = refl

none_rows : run_rows [] ≡ []
unfolding run_rows flat_map
none_rows = refl

abbrev staged : Stage → Option ℕ → Bool → Stage
staged x fi mo = record { cut = x.cut; continuing = x.continuing; finishing = fi; more = mo }

module _ (out : ℕ → List Row) (told me : ℕ) (m : Machine) (v : Busy me [] out told m) (b : Bool) (e : ℕ) (s : source_at m me ≡ segment true b e) where
  l : Live m.pipes me
  l = v.running.live

  here : is_source (source_of m.sources me) ≡ true
  here = rw s

  pub my_place : SourcePlace m.job me (stage_of m.stages me) (get [] m.inlets me)
  my_place = source_place m.job m.active m.pipes m.sources m.stages m.inlets me v.inv.pipes l here

  rests : (stage_of m.stages me).continuing ≡ false
  rests = source_rests m.job m.active m.pipes m.sources m.stages m.inlets me v.inv.pipes l here

  -- its read has come
  pub came : Came m.job m.reads (segment_of m.job me)
  came = let r = v.inv.reads.came me e b l s v.calm in
      (r.0, r.1, r.2, rw r.3 (first_leaf_lem m.job (node_at_place me) my_place.leaf).1)

  had : bytes_came b e ≡ true
  had = had_bytes b e (rw s at v.calm)

  -- nothing is left to emit: the stages are to finish
  pub finish_ok : (S' : List Source) (G' : List Stage) (n : ℕ) (mo : Bool) → Stepped me (segment true b e) (staged (stage_of m.stages me) (some n) mo) m.sources S' m.stages G'
      → 1 ≤ e → (me < slot_places → v.inv.W me ≡ []) → n ≤ bit (given (stage_of m.stages me).cut)
      → Busy me [] out told (with_stages G' (with_sources S' m))
  finish_ok S' G' n mo w h z f =
      step_ok out told me m [] b b e e (staged (stage_of m.stages me) (some n) mo) [] no_batch S' G' m.ports m.queues v s w my_place.uncut rests (λ d. h) (λ d. h) (λ k d. let y : n ≡ k = cc in omega arith)
      (rw s at v.calm) (unwritten m.ports m.queues) (λ x a. absurd a) tt (λ x a. absurd a)
      (step_shares me true b e (staged (stage_of m.stages me) (some n) mo) m.sources S' m.stages G' w here (λ p k. by_eq p me (λ q. rw (q, w.source, s)) (λ d. rw (w.sources p d))) v.inv.shares)
      (step_flow me true b e (staged (stage_of m.stages me) (some n) mo) m.sources S' m.stages G' w here v.inv.W (λ k i. rw s at (v.inv.flow.mine k i)) (λ k d. z k) v.inv.flow)

  -- source and stage are written
  stepped : (b' : Bool) (e' : ℕ) (mo : Bool)
      → Stepped me (segment true b' e') (staged (stage_of m.stages me) (stage_of m.stages me).finishing mo) m.sources (said_more me mo (set_source me (segment true b' e') m)).sources m.stages (said_more me mo (set_source me (segment true b' e') m)).stages
  stepped b' e' mo = record { source = rw same; stage = rw same; sources = λ p n. rw other; stages = λ p n. rw other }

  ended : (n : ℕ) → Stepped me (segment true b e) (staged (stage_of m.stages me) (some n) false) m.sources (finished_stages me n (said_more me false (set_source me (segment true b e) m))).sources m.stages (finished_stages me n (said_more me false (set_source me (segment true b e) m))).stages
  ended n = record { source = rw same; stage = simp same; sources = λ p k. rw other; stages = λ p k. simp other }

  -- a slot's source takes its next run
  take_run : (a : Piece) (rest : List Piece) (mo : Bool) → me < slot_places → drop e (pieces_in m.job me (split_in m.active (slot_at_place me))) ≡ a ∷ rest
      → Busy me (batch_rows (piece_batch a)) out told (said_more me mo (set_source me (segment true false (suc e)) m))
  take_run a rest mo k d =
      let ps = pieces_in m.job me (split_in m.active (slot_at_place me)) in
      let st = staged (stage_of m.stages me) (stage_of m.stages me).finishing mo in
      let S' = (said_more me mo (set_source me (segment true false (suc e)) m)).sources in
      let G' = (said_more me mo (set_source me (segment true false (suc e)) m)).stages in
      let w = stepped false (suc e) mo in
      step_ok out told me m (batch_rows (piece_batch a)) b false e (suc e) st [] no_batch S' G' m.ports m.queues v s w my_place.uncut rests
      (λ q. omega arith) (λ q. omega arith) (λ n. v.inv.past.stage_count me n l) refl
      (unwritten m.ports m.queues) (λ x a. absurd a) tt (λ x a. absurd a)
      (step_shares me true false (suc e) st m.sources S' m.stages G' w here (λ p h. let n : p ≢ me = λ q. omega arith in rw (w.sources p n)) v.inv.shares)
      (step_flow me true false (suc e) st m.sources S' m.stages G' w here v.inv.W
      (λ h i. (rw s at (v.inv.flow.mine h i)) ∙ ap run_rows d ∙ run_rows_lem a rest
      ∙ ap (λ (z : List Piece). batch_rows (piece_batch a) ++ run_rows z) (sym (drop_next ps e a rest d)))
      (λ h q. v.inv.flow.ends me h l q) v.inv.flow)

  -- a slot's source
  compute_slot : me < slot_places → any_full m me ≡ false → Busy me [] out told (compute me m)
  compute_slot k n =
      let g = segment_of m.job me in
      let u : SlotPipe m.job m.active me (source_of m.sources me) (stage_of m.stages me) (get [] m.inlets me) = v.inv.pipes.slots me l k in
      let ps = kept_pieces m.job (node_at_place me) u.split in
      let at = runs_slot m me u.split k u.is in
      by_list (drop e ps)
      (λ d. rw (compute_end me m true b e had s (ap (λ (z : List Piece). emit z e) at.0 ∙ emit_end ps e d))
      (finish_ok (finished_stages me 0 (said_more me false (set_source me (segment true b e) m))).sources (finished_stages me 0 (said_more me false (set_source me (segment true b e) m))).stages 0 false (ended 0)
      (keeps_first (node_at_place me) g (kept m.job (node_at_place me) u.split) e u.keep d)
      (λ h. (rw s at (v.inv.flow.mine h l)) ∙ ap (λ (z : List Piece). run_rows (drop e z)) at.1 ∙ ap run_rows d ∙ none_rows) (omega arith)))
      (λ a rest d.
      let c = compute_run me m true b e (piece_batch a) had s my_place.uncut (rw at.0 (emit_run ps e a rest d)) in
      let i : a.segment ≡ g = (drop_all (Named m.job (node_at_place me)) ps e a rest (kept_named m.job (node_at_place me) u.split) d).1 in
      rw c.1
      (push_ok out told me (said_more me c.0 (set_source me (segment true false (suc e)) m)) k (piece_batch a)
      (drop_all Sized ps e a rest (kept_sized m.job (node_at_place me) u.split) d)
      (subst (Came m.job m.reads) (sym i) came, tt) (take_run a rest c.0 k (ap (drop e) at.1 ∙ d)) n))

-- a shared port's leaf has rows
overlap_rows : (j : Job) (k t : ℕ) → overlaps j k t ≡ true → 0 < (node_of j k).rows
overlap_rows j k t h =
    let d : reach_start j k < reach_end j k = ltb-true (reach_start j k) (reach_end j k) (and_left (reaches j k) (ltb (split_of j t).start (reach_end j k)) (and_left (reaches j k && ltb (split_of j t).start (reach_end j k)) (ltb (reach_start j k) (split_of j t).end) h)) in
    omega arith

nothing_in : (xs : List ℕ) → ((x : ℕ) → Among x xs → ⊥) → xs ≡ []
nothing_in [] h = refl
nothing_in (x ∷ xs) h = absurd (h x (inl refl))

module _ (out : ℕ → List Row) (told me : ℕ) (m : Machine) (v : Busy me [] out told m) (b : Bool) (s : source_at m me ≡ segment true b 0) (k : slot_places ≤ me) where
  -- the outlets' leaves have the rows of the source's
  outlet_whole : (x : ℕ) (a : Among x (outlets m me)) → whole m.job (outlet_entry out told me m v x (outlet_share m.job me x k (outlets_among m me x a)) a).leaf ≡ whole m.job (node_at_place me)
  outlet_whole x a =
      let h = outlet_share m.job me x k (outlets_among m me x a) in
      let j = m.job in
      let n = (outlet_entry out told me m v x h a).leaf in
      let g : (node_of j n).segment ≡ (node_of j (node_at_place me)).segment = outlet_segment out told me m v x h a in
      let p = (my_place out told me m v b 0 s).leaf in
      let i = (outlet_entry out told me m v x h a).is_leaf in
      rw (g, v.inv.job.one_count n (node_at_place me) (leaf_below j n i) (leaf_below j (node_at_place me) p) (leaf_kind j n i) (leaf_kind j (node_at_place me) p) g)

  -- an empty segment has no ports
  outlet_sized : (x : ℕ) → Among x (outlets m me) → 0 < (node_of m.job (node_at_place me)).rows
  outlet_sized x a =
      let u = outlet_entry out told me m v x (outlet_share m.job me x k (outlets_among m me x a)) a in
      rw (ap (λ (z : Batch). z.rows) (outlet_whole x a)) at (overlap_rows m.job u.leaf u.split u.pair)

  -- the outlets are empty
  outlet_empty : (x : ℕ) → Among x (outlets m me) → queue_of m.queues x ≡ []
  outlet_empty x a =
      let h = outlet_share m.job me x k (outlets_among m me x a) in
      share_empty m.job m.active m.pipes m.sources m.stages m.inlets m.next m.unbuilt m.reads v.inv.pipes v.inv.once me v.running.live k
      (λ p. p ≡ me) m.ports m.queues x (outlet_entry out told me m v x h a) (outlet_segment out told me m v x h a) (outlet_open out told me m v x a).1 (rw s)

  module _ (mo : Bool) where
    -- the whole segment is written to every outlet
    push_share : push_out me (whole m.job (node_at_place me)) (said_more me mo (set_source me (segment true false 1) m))
        ≡ with_queues (map_at [] (λ q. q ++ whole m.job (node_at_place me) ∷ []) (outlets m me) m.queues) (with_ports (map_at no_port marked (outlets m me) m.ports) (said_more me mo (set_source me (segment true false 1) m)))
    unfolding push_each is_empty
    push_share =
        let n = said_more me mo (set_source me (segment true false 1) m) in
        let c = whole m.job (node_at_place me) in
        let all : push_each c (outlets m me) n ≡ with_queues (map_at [] (λ q. q ++ c ∷ []) (outlets m me) m.queues) (with_ports (map_at no_port marked (outlets m me) m.ports) n) =
        push_each_lem c 0 (outlets m me) n (outlets_rise m me v.inv.job.splits_high) (λ x a. rw (outlet_empty x a)) in
        by_eq c.rows 0
        (λ z. push_none me c n z ∙ ap (λ (xs : List ℕ). push_each c xs n) (sym (nothing_in (outlets m me) (λ x a. omega (arith, z, outlet_sized x a)))) ∙ all)
        (λ z. push_some me c n (omega arith) ∙ all)

    -- the shared ports then: the source has emitted, and its outlets hold the segment
    shares_after : (S' : List Source) (G' : List Stage) (O' : List Port) (Q' : List (List Batch)) (st : Stage) → Stepped me (segment true false 1) st m.sources S' m.stages G'
        → Wrote (outlets m me) (whole m.job (node_at_place me)) m.ports m.queues O' Q' → Shares m.job (λ p. p ≡ me) m.next m.unbuilt m.pipes S' O' Q'
    shares_after S' G' O' Q' st w r = record {
      ports = λ x h t. by_among x (outlets m me)
          (λ a. holding x a)
          (λ n. let i = sym (still_there x) ∙ t in kept_port x h n (v.inv.shares.ports x h i) i);
      waits = λ i t a c d n y o.
          rw (still_there (share_port i t), wrote_reader (outlets m me) (whole m.job (node_at_place me)) m.ports m.queues O' Q' r (share_port i t))
          (v.inv.shares.waits i t a c d n y o);
      unbuilt = v.inv.shares.unbuilt;
    }
      where
        still_there : (x : ℕ) → (port_of O' x).there ≡ (port_of m.ports x).there
        still_there x = wrote_there (outlets m me) (whole m.job (node_at_place me)) m.ports m.queues O' Q' r x

        holding : (x : ℕ) → Among x (outlets m me) → SharePort m.job (λ p. p ≡ me) m.unbuilt m.pipes S' O' Q' x
        holding x a =
            let h = outlet_share m.job me x k (outlets_among m me x a) in
            let u = outlet_entry out told me m v x h a in
            let q : queue_of Q' x ≡ whole m.job u.leaf ∷ [] = (r.on x a).1 ∙ rw (outlet_empty x a, outlet_whole x a) in
            let c : shut O' x ≡ false = wrote_shut (outlets m me) (whole m.job (node_at_place me)) m.ports m.queues O' Q' r x ∙ (outlet_open out told me m v x a).1 in
            record {
              leaf = u.leaf;
              split = u.split;
              is = u.is;
              below = u.below;
              is_leaf = u.is_leaf;
              pair = u.pair;
              shared = u.shared;
              built = u.built;
              holds = inr q;
              opens = λ d. (me, (v.running.live, k, sym (outlet_segment out told me m v x h a)), inr (refl, rw w.source, q));
              shuts = λ d. clash (cc (c, d));
              full = λ d. clash (cc (c, d));
              unslotted = λ z. u.unslotted (sym (wrote_reader (outlets m me) (whole m.job (node_at_place me)) m.ports m.queues O' Q' r x) ∙ z);
            }

        kept_port : (x : ℕ) → slot_places ≤ x → (Among x (outlets m me) → ⊥) → SharePort m.job (λ p. p ≡ me) m.unbuilt m.pipes m.sources m.ports m.queues x → There m.ports x
            → SharePort m.job (λ p. p ≡ me) m.unbuilt m.pipes S' O' Q' x
        kept_port x h n u t =
            let i = share_keep m.ports O' m.queues Q' x (r.off x n).0 (r.off x n).1 u in
            record {
              leaf = i.leaf;
              split = i.split;
              is = i.is;
              below = i.below;
              is_leaf = i.is_leaf;
              pair = i.pair;
              shared = i.shared;
              built = i.built;
              holds = i.holds;
              opens = λ c.
                  let o = i.opens c in
                  let d : o.0 ≢ me = λ q. n (among_outlets m me x t (rw i.is (leaf_outlet m.job me i.leaf i.split k i.is_leaf i.below (sym (rw q at o.1.2))))) in
                  (o.0, o.1, rw (w.sources o.0 d) o.2);
              shuts = i.shuts;
              full = i.full;
              unslotted = i.unslotted;
            }

    -- no row more or less is to come
    flow_after : (S' : List Source) (G' : List Stage) (O' : List Port) (Q' : List (List Batch)) (st : Stage) → Stepped me (segment true false 1) st m.sources S' m.stages G'
        → Wrote (outlets m me) (whole m.job (node_at_place me)) m.ports m.queues O' Q' → Flow m.job m.active m.pipes S' G' m.inlets O' Q' me [] v.inv.F v.inv.W
    flow_after S' G' O' Q' st w r =
        let f : Flow m.job m.active m.pipes S' G' m.inlets m.ports m.queues me [] v.inv.F v.inv.W =
        step_flow me true false 1 st m.sources S' m.stages G' w (rw s) v.inv.W (λ h i. absurd (omega arith)) (λ h i. absurd (omega arith)) v.inv.flow in
        let xs = outlets m me in
        let c = whole m.job (node_at_place me) in
        record {
          port = λ x h.
              let n : Among x xs → ⊥ = λ a. omega (arith, outlet_share m.job me x k (outlets_among m me x a)) in
              rw ((r.off x n).1, wrote_shut xs c m.ports m.queues O' Q' r x) (f.port x h);
          share = λ i t h. by_among (share_port i t) xs
              (λ a. f.share i t h ∙ rw ((r.on (share_port i t) a).1, outlet_empty (share_port i t) a, (r.on (share_port i t) a).3))
              (λ n. rw ((r.off (share_port i t) n).1, wrote_shut xs c m.ports m.queues O' Q' r (share_port i t)) (f.share i t h));
          pipes = f.pipes;
          mine = f.mine;
          ends = f.ends;
          even = f.even;
        }

  -- a shared source emits the whole segment
  share_run : Busy me [] out told (compute me m)
  unfolding emit
  share_run =
      let c = whole m.job (node_at_place me) in
      let r : emit (pieces_at m me) 0 ≡ final c = rw (runs_share m me k) in
      let p = compute_run me m true b 0 c (had out told me m v b 0 s) s (my_place out told me m v b 0 s).uncut (inr r) in
      let n = said_more me p.0 (set_source me (segment true false 1) m) in
      let O' = map_at no_port marked (outlets m me) m.ports in
      let Q' = map_at [] (λ q. q ++ c ∷ []) (outlets m me) m.queues in
      let w = stepped out told me m v b 0 s false 1 p.0 in
      let st = staged (stage_of m.stages me) (stage_of m.stages me).finishing p.0 in
      let o : Wrote (outlets m me) c m.ports m.queues O' Q' = pushed_is c 0 (outlets m me) m.ports m.queues (outlets_rise m me v.inv.job.splits_high) (outlet_open out told me m v) in
      rw (p.1, push_share p.0)
      (step_ok out told me m [] b false 0 1 st (outlets m me) c n.sources n.stages O' Q' v s w (my_place out told me m v b 0 s).uncut (rests out told me m v b 0 s) (λ q. omega arith) (λ q. omega arith) (λ n. v.inv.past.stage_count me n v.running.live) refl
      o (outlets_among m me) (came out told me m v b 0 s, tt) outlet_sized (shares_after p.0 n.sources n.stages O' Q' st w o) (flow_after p.0 n.sources n.stages O' Q' st w o))

-- then it ends
share_end : (out : ℕ → List Row) (told me : ℕ) (m : Machine) (b : Bool) (e : ℕ) → Busy me [] out told m → source_at m me ≡ segment true b (suc e) → slot_places ≤ me → Busy me [] out told (compute me m)
unfolding emit
share_end out told me m b e v s k =
    let n = finished_stages me 0 (said_more me false (set_source me (segment true b (suc e)) m)) in
    rw (compute_end me m true b (suc e) (had out told me m v b (suc e) s) s (rw (runs_share m me k)))
    (finish_ok out told me m v b (suc e) s n.sources n.stages 0 false (ended out told me m v b (suc e) s 0) (omega arith) (λ h. absurd (omega arith)) (omega arith))

compute_share : (out : ℕ → List Row) (told me : ℕ) (m : Machine) (b : Bool) (e : ℕ) → Busy me [] out told m → source_at m me ≡ segment true b e → slot_places ≤ me → Busy me [] out told (compute me m)
compute_share out told me m b zero v s k = share_run out told me m v b s k
compute_share out told me m b (suc e) v s k = share_end out told me m b e v s k

-- a segment source whose read has come emits or ends
pub compute_ok : (out : ℕ → List Row) (told me : ℕ) (m : Machine) (b : Bool) (e : ℕ) → Busy me [] out told m → source_at m me ≡ segment true b e → any_full m me ≡ false → Busy me [] out told (compute me m)
compute_ok out told me m b e v s n = by_bool (ltb me slot_places)
    (λ d. compute_slot out told me m v b e s (ltb-true me slot_places d) n)
    (λ d. compute_share out told me m b e v s (ltb-false me slot_places d))
