-- A concat or pack source is laid at a free place, and a node is passed over.
use Rattle.std.specs.Prelude.{◌≡◌, refl, Bool, true, false, ◌&&◌, List, [], ℕ, suc, ◌<◌, length, replicate, leb, if◌then◌else◌}
use Rattle.std.proofs.Common.{ap, inl, inr, arith, leb-true, le-leb}
use Rattle.std.proofs.Math.Option.{Option}
use Rattle.rules.specs.Plan.{Row, keeps, leaves_of}
use Rattle.rules.specs.Port.{waiting}
use Rattle.rules.specs.Operators.{Source, concat, pack}
use Rattle.rules.specs.Machine.{Machine, pipe, place, slot_at_place, slot_places, set_pipe, set_source, set_stage, set_inlets, set_touched, set_changed, set_waits, set_seen}
use Rattle.rules.specs.Pipelines.{lay, fresh, all_inlets, is_pack_source}
use Rattle.laws.specs.KidRows.{keeps_up}
use Rattle.laws.specs.Table.{by_eq, clash, same, other, and_left, and_right, and_both}
use Rattle.order.specs.Inv.{There, reader_of, port_of, pipe_of, split_in, At, is_source, pieces_in, will, SlotPipe}
use Rattle.order.specs.State.{no}
use Rattle.order.specs.Base.{place_slot, place_bound}
use Rattle.order.specs.Lowers.{Connected, ToClaim, Lowers, none_to}
use Rattle.order.specs.Tally.{filter_fewer}
use Rattle.order.specs.Laying.{Laying, laying, lowers}
use Rattle.order.specs.Lay.{new_stage, pipes_lay, ports_lay, shares_lay, flow_lay, queued_lay, packs_lay, reads_lay, once_lay, numbers_lay, past_new, waits_new, quiet_new, delivered_new, pend_plain}
use Rattle.order.specs.Among.{all_of}

-- fewer leaves are left
pub claims_on : (s i : ℕ) (m : Machine) → ToClaim s i m → ToClaim s (suc i) m
claims_on s i m v = record {
  ports = λ g a b e.
      let f : ℕ → Bool = λ l. leb (suc i) l && keeps m.job l s in
      let h : ℕ → Bool = λ l. leb i l && keeps m.job l s in
      let t = filter_fewer f h (leaves_of m.job g) (all_of (λ l. f l ≡ true → h l ≡ true)
      (λ l d. and_both (leb i l) (keeps m.job l s)
      (le-leb i l (let z = leb-true (suc i) l (and_left (leb (suc i) l) (keeps m.job l s) d) in omega arith))
      (and_right (leb (suc i) l) (keeps m.job l s) d)) (leaves_of m.job g))
      in
      omega (arith, t, v.ports g a b e);
  unread = λ l r h. v.unread l r (omega arith);
  unsourced = λ l p h. v.unsourced l p (omega arith);
}

-- the next node
pub laying_on : (k s i : ℕ) (to : ℕ → ℕ → ℕ → Type 0) (out : ℕ → List Row) (told : ℕ) (m : Machine) → Laying k s i to out told m → Laying k s (suc i) to out told m
laying_on k s i to out told m v = record { F = v.F; W = v.W; job = v.job; slot_below = v.slot_below; split = v.split; is_next = v.is_next; slots = v.slots; pipes = v.pipes; ports = v.ports; shares = v.shares; flow = v.flow; past = v.past; splits = v.splits; queued = v.queued; waits = v.waits; dirt = v.dirt; quiet = v.quiet; packs = v.packs; reads = v.reads; once = v.once; delivered = v.delivered; numbers = v.numbers; tells = v.tells; sound = v.sound; rows = v.rows; claims = claims_on s i m v.claims }

-- a node that keeps nothing
pub skip : (k s i : ℕ) (out : ℕ → List Row) (told : ℕ) (m : Machine) → keeps m.job i s ≡ false → Lowers k s i none_to out told m → i < length m.job.nodes
    → Lowers k s (suc i) none_to out told m
skip k s i out told m e v b = lowers k s (suc i) none_to out told m (laying_on k s i none_to out told m (laying k s i none_to out told m v))
    (record {
      laid = λ n h l a. by_eq n i (λ d. clash (cc (ap (λ z. keeps m.job z s) d))) (λ d. v.progress.laid n (omega arith) l a);
      unlaid = λ n h l. v.progress.unlaid n (omega arith) l;
      joined = λ n q h a d g. by_eq q i
          (λ z. clash (cc (ap (λ y. keeps m.job y s) z, keeps_up m.job v.job q s n d a)))
          (λ z. v.progress.joined n q (let y = (v.job.up n q d).0 in omega arith) a d (omega arith));
      unjoined = λ n q d h. v.progress.unjoined n q d (omega arith);
      rootless = v.progress.rootless;
      calm = v.progress.calm;
    })

module _ (k s i n : ℕ) (to : ℕ → ℕ → ℕ → Type 0) (out : ℕ → List Row) (told : ℕ) (m : Machine) (src : Source) (cut : Option ℕ) (xs : List ℕ) (v : Laying k s i to out told m) (few : n < 24)
    (dead : (pipe_of m.pipes (place k n)).live ≡ false) (gone : (port_of m.ports (place k n)).there ≡ false) where
  abbrev pub laid_at : Machine
  laid_at =
      set_pipe (place k n) fresh (set_source (place k n) src (set_stage (place k n) (new_stage cut)
      (set_inlets (place k n) xs (set_touched (place k n) [] (set_changed (place k n) (all_inlets (length xs))
      (set_waits (place k n) (if is_pack_source src then all_inlets (length xs) else [])
      (set_seen (place k n) (if is_pack_source src then replicate (length xs) waiting else []) m)))))))

  -- what laying writes
  pub lay_shape : lay (place k n) src cut xs m ≡ laid_at
  unfolding lay
  lay_shape = rw (dead, lay)

  module _ (plain : is_source src ≡ false) (first : (c : ℕ) → src ≡ concat c → c ≡ 0) (sp : SlotPipe m.job m.active (place k n) src (new_stage cut) xs)
      (ins : (h x : ℕ) → At xs h x → There m.ports x × (reader_of m.ports x ≡ pipe (place k n) h)) (names : (x q h : ℕ) → to x q h → (q ≡ place k n) × At xs h x)
      (writes : v.W (place k n) ≡ will v.F (pieces_in m.job (place k n) (split_in m.active (slot_at_place (place k n)))) src (new_stage cut) xs)
      (even : src ≡ pack → (a b x y : ℕ) → At xs a x → At xs b y → length (v.F x) ≡ length (v.F y)) where
    -- its place is of a slot
    low : place k n < slot_places
    low = place_bound k n v.slot_below few

    -- it has no port
    alone : Connected k m.ports (place k n) → ⊥
    alone (inl a) = a (place_slot k n few)
    alone (inr t) = clash (cc (gone))

    -- leaves find what they found
    laid_claims : ToClaim s i laid_at
    laid_claims = record {
      ports = v.claims.ports;
      unread = v.claims.unread;
      unsourced = λ l p a b d e h g. by_eq p (place k n)
          (λ z. clash (cc (plain, rw (z, same) at g)))
          (λ z. v.claims.unsourced l p a b d e (rw other at h) (rw other at g));
    }

    -- all groups
    laid_ok : Laying k s i none_to out told laid_at
    laid_ok =
        let p = place k n in
        let P = m.pipes in
        let S = m.sources in
        let G = m.stages in
        let I = m.inlets in
        record {
          F = v.F;
          W = v.W;
          job = v.job;
          slot_below = v.slot_below;
          split = v.split;
          is_next = v.is_next;
          slots = v.slots;
          pipes = pipes_lay p low src cut xs P S G I dead plain m.job m.active sp v.pipes;
          ports = ports_lay p low src cut xs P S G I dead plain m.job m.active k to m.ports m.queues (place_slot k n few) gone ins names v.ports;
          shares = shares_lay p low src cut xs P S G I dead plain m.job no m.next m.unbuilt m.ports m.queues v.shares;
          flow = flow_lay p low src cut xs P S G I dead plain m.job m.active m.ports m.queues v.F v.W writes even v.flow;
          past = past_new p fresh src cut xs P S G I refl (pend_plain src plain) m.ports m.queues first v.past;
          splits = v.splits;
          queued = queued_lay p low src cut xs P S G I dead plain (Connected k m.ports) m.ready alone v.queued;
          waits = waits_new p fresh src cut xs P S G I refl (pend_plain src plain) m.ports m.queues v.waits;
          dirt = v.dirt;
          quiet = quiet_new p fresh src cut xs P S G I refl (pend_plain src plain) m.ports m.touched v.quiet;
          packs = packs_lay p low src cut xs P S G I dead plain m.ports m.queues m.changed m.waits m.seen v.packs;
          reads = reads_lay p low src cut xs P S G I dead plain m.job m.reads v.reads;
          once = once_lay p low src cut xs P S G I dead plain m.job m.next m.unbuilt m.reads v.once;
          delivered = delivered_new p fresh src cut xs P S G I refl (pend_plain src plain) m.job m.queues m.reads m.outputs v.delivered;
          numbers = numbers_lay k n P m.ports m.freed m.made v.slot_below few dead gone v.numbers;
          tells = v.tells;
          sound = v.sound;
          rows = v.rows;
          claims = laid_claims;
        }

    -- the source is laid
    pub lay_ok : Laying k s i none_to out told (lay (place k n) src cut xs m)
    lay_ok = rw lay_shape laid_ok
