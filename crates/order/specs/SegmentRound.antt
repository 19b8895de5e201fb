-- A round that reaches a segment source.
use Rattle.std.specs.Prelude.{◌≡◌, refl, ◌≢◌, Bool, true, false, List, [], ◌∷◌, ◌++◌, ℕ, suc, ◌+◌, ◌-◌, ◌<◌, ◌≤◌, length}
use Rattle.std.proofs.Common.{sym, ap, ◌∙◌, arith}
use Rattle.std.proofs.lemmas.Bool.{lt-leb}
use Rattle.rules.specs.Table.{put, given, up_from}
use Rattle.rules.specs.Plan.{Row}
use Rattle.rules.specs.InletSet.{InletSet}
use Rattle.rules.specs.Port.{Batch, Seen}
use Rattle.rules.specs.Operators.{io, go, Source, segment, concat, pack, segment_ready}
use Rattle.rules.specs.Machine.{Machine, Pipeline, Port, Read, no_source, max_reads, source_at, stage_at, set_source, set_changed, with_reads, with_news}
use Rattle.rules.specs.Wake.{any_full}
use Rattle.rules.specs.Drive.{is_blocked, ask, test_segment, after_test, finished_stages, advance_stage, is_over}
use Rattle.laws.specs.Table.{by_bool, by_eq, by_option, clash, same, other}
use Rattle.laws.specs.Again.{up_more}
use Rattle.order.specs.Inv.{source_of, stage_of, is_source, Packs, pend}
use Rattle.order.specs.Base.{more_stages}
use Rattle.order.specs.State.{Busy, Stopped, RoundOk}
use Rattle.order.specs.Source.{source_place, source_rests, Stepped, step_pipes, step_past, step_waits, step_packs, step_shares, step_flow}
use Rattle.order.specs.Emit.{had_bytes}
use Rattle.order.specs.SegmentStep.{finish_ok, compute_ok}
use Rattle.order.specs.Ask.{asking, asked_reads, reads_few, asked_once, delivered_more, read_more}

-- what a pipeline that is no pack has noted of its inlets is nothing to the packs
pub unnoted : {P : List Pipeline} {S : List Source} {I : List (List ℕ)} {O : List Port} {Q : List (List Batch)} {C B : List InletSet} {E : List (List Seen)} (me : ℕ) (xs : InletSet) → source_of S me ≢ pack
    → Packs P S I O Q C B E → Packs P S I O Q (put [] C me xs) B E
unnoted {S} me xs h v = record {
  size = v.size;
  unique = v.unique;
  within = v.within;
  known = λ p i l e. let n : p ≢ me = λ q. h (rw q at e) in rw other (v.known p i l e);
  waits = v.waits;
  seen = λ p i x l e a. let n : p ≢ me = λ q. h (rw q at e) in rw other (v.seen p i x l e a);
}

-- the inlets changed are forgotten
pub forget_ok : (out : ℕ → List Row) (told me : ℕ) (m : Machine) {hand : List Row} → source_at m me ≢ pack → Busy me hand out told m → Busy me hand out told (set_changed me [] m)
forget_ok out told me m h v = record {
  inv = record {
    F = v.inv.F;
    W = v.inv.W;
    job = v.inv.job;
    slots = v.inv.slots;
    pipes = v.inv.pipes;
    ports = v.inv.ports;
    shares = v.inv.shares;
    flow = v.inv.flow;
    past = v.inv.past;
    splits = v.inv.splits;
    queued = v.inv.queued;
    waits = v.inv.waits;
    dirt = v.inv.dirt;
    quiet = v.inv.quiet;
    packs = unnoted me [] h v.inv.packs;
    reads = v.inv.reads;
    once = v.inv.once;
    delivered = v.inv.delivered;
    numbers = v.inv.numbers;
    tells = v.inv.tells;
    sound = v.inv.sound;
  };
  running = record { live = v.running.live; state = v.running.state; unqueued = v.running.unqueued };
  calm = v.calm;
  is_open = v.is_open;
}

ask_is : (p : ℕ) (m : Machine) → length m.reads < 24 → ask p m ≡ with_news (m.news ++ length m.reads ∷ []) (with_reads (m.reads ++ asking m.job p ∷ []) m)
unfolding ask
ask_is p m h = rw (lt-leb max_reads (length m.reads) h, ask)

-- the read is asked for, and the run stops
ask_ok : (out : ℕ → List Row) (told me : ℕ) (m : Machine) → Busy me [] out told m → source_at m me ≡ segment false false 0
    → Stopped me (is_blocked io) out told (set_changed me [] (ask me (set_source me (segment true false 0) m)))
ask_ok out told me m v s =
    let S = m.sources in
    let G = m.stages in
    let S' = put no_source S me (segment true false 0) in
    let st = stage_of G me in
    let w : Stepped me (segment true false 0) st S S' G G = record { source = rw same; stage = refl; sources = λ p n. rw other; stages = λ p n. refl } in
    let l = v.running.live in
    let h : is_source (source_of S me) ≡ true = rw s in
    let x = asking m.job me in
    let R = m.reads in
    let R' = R ++ x ∷ [] in
    let p = source_place m.job m.active m.pipes S G m.inlets me v.inv.pipes l h in
    let c = source_rests m.job m.active m.pipes S G m.inlets me v.inv.pipes l h in
    let k = reads_few m.job m.active m.pipes S S' G m.inlets R m.next m.unbuilt me false 0 st v.inv.pipes v.inv.reads v.inv.once l s w v.inv.job.nodes_high in
    rw (ask_is me (set_source me (segment true false 0) m) k)
    (record {
      inv = record {
        F = v.inv.F;
        W = v.inv.W;
        job = v.inv.job;
        slots = v.inv.slots;
        pipes = step_pipes me true false 0 st S S' G G w h l p.uncut c v.inv.pipes;
        ports = v.inv.ports;
        shares = step_shares me true false 0 st S S' G G w h (λ q a. by_eq q me (λ d. rw (d, w.source, s)) (λ d. rw (w.sources q d))) v.inv.shares;
        flow = step_flow me true false 0 st S S' G G w h v.inv.W (λ a b. rw s at (v.inv.flow.mine a b)) (λ a b. v.inv.flow.ends me a l b) v.inv.flow;
        past = step_past me true false 0 st S S' G G w h p.none_in c (λ d. rw s at (v.inv.past.more me l d).1) (λ d. rw s at (v.inv.past.spent me l d h)) (λ n. v.inv.past.stage_count me n l) v.inv.past;
        splits = v.inv.splits;
        queued = v.inv.queued;
        waits = step_waits me true false 0 st S S' G G w h v.inv.waits;
        dirt = v.inv.dirt;
        quiet = v.inv.quiet;
        packs = unnoted me [] (λ d. clash (cc (d, w.source))) (step_packs me true false 0 st S S' G G w h v.inv.packs);
        reads = asked_reads m.job m.active m.pipes S S' G m.inlets R m.next m.unbuilt me false 0 st v.inv.pipes v.inv.reads v.inv.once l s w;
        once = asked_once m.job m.active m.pipes S S' G m.inlets R m.next m.unbuilt me false 0 st v.inv.pipes v.inv.reads v.inv.once l s w;
        delivered = delivered_more m.job R x v.inv.delivered;
        numbers = v.inv.numbers;
        tells = told_more m.reads x m.news v.inv.tells.0 v.inv.tells.1;
        sound = v.inv.sound;
      };
      running = record { live = l; state = v.running.state; unqueued = v.running.unqueued };
      stops = (rw w.source, v.is_open);
    })
  where
    told_more : (R : List Read) (x : Read) (news : List ℕ) → told ≤ length R → news ≡ up_from told (length R - told)
        → (told ≤ length (R ++ x ∷ [])) × (news ++ length R ∷ [] ≡ up_from told (length (R ++ x ∷ []) - told))
    told_more R x news a b =
        let n : length (R ++ x ∷ []) ≡ suc (length R) = read_more R x in
        let q : suc (length R) - told ≡ suc (length R - told) = omega arith in
        let z : told + (length R - told) ≡ length R = omega arith in
        (omega arith, rw (n, q, b) (ap (λ (y : ℕ). up_from told (length R - told) ++ y ∷ []) (sym z) ∙ sym (up_more told (length R - told))))

-- a source whose read has come is ready
asked_ready : (b : Bool) (e : ℕ) → pend (segment true b e) ≡ false → segment_ready true b e ≡ go
asked_ready b e h = rw (had_bytes b e h)

-- the source is tested
pub test_ok : (out : ℕ → List Row) (told me : ℕ) (m : Machine) (a b : Bool) (e : ℕ) → Busy me [] out told m → source_at m me ≡ segment a b e → any_full m me ≡ false
    → RoundOk me out told (after_test me (test_segment me a b e m))
unfolding after_test
test_ok out told me m true b e v s n =
    rw (asked_ready b e (rw s at v.calm), after_test) (compute_ok out told me (set_changed me [] m) b e (forget_ok out told me m (λ d. clash (cc (d, s))) v) s n)
test_ok out told me m false b e v s n =
    let f = v.inv.reads.fresh me e b v.running.live s in
    rw (f.0, f.1) (ask_ok out told me m v (s ∙ rw (f.0, f.1)))

-- a source that has emitted has asked
emitted_asked : (out : ℕ → List Row) (told me : ℕ) (m : Machine) (a b : Bool) (e : ℕ) → Busy me [] out told m → source_at m me ≡ segment a b e → 1 ≤ e → source_at m me ≡ segment true b e
emitted_asked out told me m true b e v s h = s
emitted_asked out told me m false b e v s h = absurd (omega (arith, (v.inv.reads.fresh me e b v.running.live s).1))

source_is : (src : Source) → is_source src ≡ true → (a : Bool) × (b : Bool) × (e : ℕ) × (src ≡ segment a b e)
source_is (segment a b e) h = (a, b, e, refl)
source_is (concat i) h = clash (cc)
source_is pack h = clash (cc)

-- a round of a segment source that is not over and whose outlets have place
pub segment_round_ok : (out : ℕ → List Row) (told me : ℕ) (m : Machine) → Busy me [] out told m → is_over (stage_at m me) ≡ false → any_full m me ≡ false → is_source (source_at m me) ≡ true
    → RoundOk me out told (advance_stage me (stage_at m me) m)
unfolding given
segment_round_ok out told me m v o n h =
    let i = source_is (source_at m me) h in
    let a = i.0 in
    let b = i.1 in
    let e = i.2 in
    let s : source_at m me ≡ segment a b e = i.3 in
    let l = v.running.live in
    let c = source_rests m.job m.active m.pipes m.sources m.stages m.inlets me v.inv.pipes l h in
    by_option (stage_of m.stages me).finishing
    (λ f. by_bool (stage_of m.stages me).more
    (λ mo. let k : 1 ≤ e = rw s at (v.inv.past.more me l mo).1 in
    rw (c, advance_stage, f, mo) (compute_ok out told me m b e v (emitted_asked out told me m a b e v s k) n))
    (λ mo. rw (c, advance_stage, f, mo, s) (test_ok out told me m a b e v s n)))
    (λ q f.
    let g : given (stage_of m.stages me).finishing ≡ true = rw f in
    let k : 1 ≤ e = rw s at (v.inv.past.spent me l g h) in
    rw (c, advance_stage, f)
    (finish_ok out told me m v b e (emitted_asked out told me m a b e v s k) m.sources (finished_stages me (suc q) m).stages (suc q) (stage_of m.stages me).more
    (record { source = emitted_asked out told me m a b e v s k; stage = rw same; sources = λ p d. refl; stages = λ p d. rw other }) k (λ z. v.inv.flow.ends me z l g) (more_stages (stage_at m me) q o c f (v.inv.past.stage_count me q l f))))
