-- A leaf's pipeline is laid: with a source of its own, or reading the port that it has claimed.
use Rattle.std.specs.Prelude.{◌≡◌, ◌≢◌, Bool, ℕ, zero, suc, ◌<◌, ◌≤◌, length, eqb, if◌then◌else◌}
use Rattle.std.proofs.Math.Path.{refl}
use Rattle.std.proofs.Common.{sym, ap, ◌∙◌, inl, inr, arith, eqb-true}
use Rattle.std.proofs.Math.Bool.{true, false, not}
use mathlib.Core.List.{List, [], ◌∷◌, ◌++◌, flat_map}
use Rattle.std.proofs.Math.Option.{Option, none, some}
use Rattle.rules.specs.Table.{given, is_empty}
use Rattle.rules.specs.Job.{Job, Run, segment as aSegment}
use Rattle.rules.specs.Plan.{Piece, kept_pieces, Row, Cell, node_of, kept, keeps, is_whole, is_leaf, first_leaf, is_shared}
use Rattle.rules.specs.Port.{batch_rows, rows_from}
use Rattle.rules.specs.Operators.{concat}
use Rattle.rules.specs.Machine.{Machine, pipe, place, node_at_place, slot_at_place, share_port, slot_places, no_pipe}
use Rattle.rules.specs.Pipelines.{fresh, all_inlets}
use Rattle.rules.specs.Shares.{is_waiting, claimed, claim_port}
use Rattle.rules.specs.Lower.{stage_for, lower_leaf}
use Rattle.laws.specs.Table.{by_bool, by_eq, by_list, clash, same, other, and_left, and_right}
use Rattle.laws.specs.JobOk.{JobOk}
use Rattle.laws.specs.Rows.{node_rows, run_rows}
use Rattle.laws.specs.NodeRows.{leaf_rows, kept_sound}
use Rattle.order.specs.Inv.{Live, There, shut, reader_of, port_of, pipe_of, queue_of, source_of, split_in, At, is_source, segment_of, pieces_in, read_at, staged, will, whole, SlotPipe, Claimed, Shares, Claimable}
use Rattle.order.specs.State.{no}
use Rattle.order.specs.Base.{place_node, place_slot, place_bound, share_above}
use Rattle.order.specs.Lowers.{Connected, ToClaim, none_to}
use Rattle.order.specs.Views.{shut_same, reader_same}
use Rattle.order.specs.Laying.{Laying}
use Rattle.order.specs.Lay.{new_stage, numbers_lay, past_new, waits_new, quiet_new, delivered_new}
use Rattle.order.specs.Lays.{laid_at, lay_shape, lay_ok}
use Rattle.order.specs.ClaimPort.{naming, claimed_at, x_there, x_nobody, claim_port_lem}
use Rattle.order.specs.OwnSource.{new_source, pipes_own, ports_own, share_own, flow_own, queued_own, packs_own, reads_own, once_own, new_pipe}
use Rattle.order.specs.Leaves.{leaf_below, leaf_kind}

-- what the lowering of a leaf changes of a slot: its pipeline is laid at p
pub record Leafed (p : ℕ) (m m' : Machine) : Type 0 where
  pub job : m'.job ≡ m.job
  pub mine : pipe_of m'.pipes p ≡ fresh
  pub others : (q : ℕ) → q < slot_places → q ≢ p → pipe_of m'.pipes q ≡ pipe_of m.pipes q
  pub ports : (x : ℕ) → x < slot_places → port_of m'.ports x ≡ port_of m.ports x

-- what stands beside the slots may change
pub record Aside (m m' : Machine) : Type 0 where
  pub job : m'.job ≡ m.job
  pub pipes : (r : ℕ) → r < slot_places → pipe_of m'.pipes r ≡ pipe_of m.pipes r
  pub ports : (x : ℕ) → x < slot_places → port_of m'.ports x ≡ port_of m.ports x

-- and may have changed before
pub leafed_aside : (p : ℕ) (m m₁ m₂ : Machine) → Aside m m₁ → Leafed p m₁ m₂ → Leafed p m m₂
leafed_aside p m m₁ m₂ a w = record {
  job = w.job ∙ a.job;
  mine = w.mine;
  others = λ q b d. w.others q b d ∙ a.pipes q b;
  ports = λ x b. w.ports x b ∙ a.ports x b;
}

-- Rows

-- one run of all rows
whole_run : (rows : ℕ) (rs : List Run) → is_whole rows rs ≡ true → rs ≡ record { start = 0; size = rows } ∷ []
whole_run rows [] e = clash (cc)
whole_run rows (r ∷ []) e =
    let a : r.start ≡ 0 = eqb-true r.start 0 (and_left (eqb r.start 0) (eqb r.size rows) e) in
    let b : r.size ≡ rows = eqb-true r.size rows (and_right (eqb r.start 0) (eqb r.size rows) e) in
    ap (λ (q : Run). q ∷ []) (λ i. record { start = a i; size = b i })
whole_run rows (r ∷ q ∷ rs) e = clash (cc)

-- a stage that is given rows
stage_some : (ps : List Piece) (at n : ℕ) (cs : List Cell) → 1 ≤ n → staged ps (some at) (rows_from 0 n cs ++ []) ≡ run_rows ps
unfolding rows_from
stage_some ps at zero cs h = absurd (omega arith)
stage_some ps at (suc n) cs h = refl

-- a leaf that keeps rows has some
keeps_some : (j : Job) (i s : ℕ) → keeps j i s ≡ true → 1 ≤ (node_of j i).rows
unfolding is_empty
keeps_some j i s k = by_list (kept j i s) (λ e. clash (cc)) (λ r rs e. let z = (rw e at (kept_sound j i s)).0 in omega (arith, z.0, z.1))

-- the kept rows come out of a stage that is given the whole segment
pub leaf_staged : (j : Job) (ok : JobOk j) (i l s : ℕ) → is_leaf j i ≡ true → is_leaf j l ≡ true → (node_of j l).segment ≡ (node_of j i).segment → keeps j i s ≡ true
    → node_rows j i s ≡ staged (kept_pieces j i s) (if is_whole (node_of j i).rows (kept j i s) then none else some 0) (batch_rows (whole j l) ++ [])
unfolding run_rows flat_map
leaf_staged j ok i l s a b e k =
    let n : (node_of j l).rows ≡ (node_of j i).rows = ok.one_count l i (leaf_below j l b) (leaf_below j i a) (leaf_kind j l b) (leaf_kind j i a) e in
    leaf_rows j i s (leaf_kind j i a) ∙ by_bool (is_whole (node_of j i).rows (kept j i s))
    (λ d. rw (d, whole_run (node_of j i).rows (kept j i s) d, n, e))
    (λ d. rw d (sym (stage_some (kept_pieces j i s) 0 (node_of j l).rows (whole j l).cells (let z = keeps_some j i s k in omega (arith, n, z)))))

-- A source of its own

module _ (k s i n : ℕ) (out : ℕ → List Row) (told : ℕ) (m : Machine) (v : Laying k s i none_to out told m) (few : n < 24)
    (dead : (pipe_of m.pipes (place k n)).live ≡ false) (gone : (port_of m.ports (place k n)).there ≡ false)
    (lf : is_leaf m.job n ≡ true) (ek : (node_of m.job n).kind ≡ aSegment) (kp : keeps m.job n s ≡ true)
    (unread : (r : ℕ) → r < length m.reads → (read_at m.reads r).leaf ≢ first_leaf m.job n)
    (alone : (p : ℕ) → Live m.pipes p → is_source (source_of m.sources p) ≡ true → segment_of m.job p ≢ (node_of m.job n).segment)
    (far : (l : ℕ) → is_leaf m.job l ≡ true → Claimable m.job m.next m.unbuilt l → (node_of m.job n).segment ≢ (node_of m.job l).segment)
    (left : (l : ℕ) → i ≤ l → is_leaf m.job l ≡ true → keeps m.job l s ≡ true → is_shared m.job l ≡ false → (node_of m.job n).segment ≢ (node_of m.job l).segment) where
  abbrev here : ℕ
  here = place k n

  -- the place is the slot's
  low : here < slot_places
  low = place_bound k n v.slot_below few

  -- its segment
  named : segment_of m.job here ≡ (node_of m.job n).segment
  named = ap (λ z. (node_of m.job z).segment) (place_node k n few)

  -- it has no port yet
  unconnected : Connected k m.ports here → ⊥
  unconnected (inl a) = a (place_slot k n few)
  unconnected (inr t) = clash (cc (gone))

  -- what lowering lays there
  slot_pipe : SlotPipe m.job m.active here new_source (new_stage none) []
  slot_pipe = record {
    split = s;
    is = rw (place_slot k n few) v.split;
    node = rw (place_node k n few) (leaf_below m.job n lf);
    keep = rw (place_node k n few) kp;
    form = rw (place_node k n few, ek) (refl, refl);
  }

  -- with the source laid
  abbrev own : Machine
  own = laid_at k s i n none_to out told m new_source none [] v few dead gone

  -- the shared ports
  shares_own : Shares m.job no m.next m.unbuilt own.pipes own.sources m.ports m.queues
  shares_own = record {
    ports = λ x b t. let w = v.shares.ports x b t in
        share_own here false 0 m.pipes m.sources m.stages m.inlets dead m.job m.unbuilt m.unbuilt m.ports m.ports m.queues m.queues x w refl refl w.built (λ h. absurd (omega (arith, low, h)));
    waits = v.shares.waits;
    unbuilt = v.shares.unbuilt;
  }

  -- what is left to claim
  claims_own : ToClaim s i own
  claims_own = record {
    ports = v.claims.ports;
    unread = v.claims.unread;
    unsourced = λ l q a b d e h g. by_eq q here
        (λ z. rw (z, named) (left l a b d e))
        (λ z. v.claims.unsourced l q a b d e (rw other at h) (rw other at g));
  }

  -- the groups
  own_laid : Laying k s i none_to out told own
  own_laid =
      let P = m.pipes in
      let S = m.sources in
      let G = m.stages in
      let I = m.inlets in
      let O = m.ports in
      let Q = m.queues in
      record {
        F = v.F;
        W = v.W;
        job = v.job;
        slot_below = v.slot_below;
        split = v.split;
        is_next = v.is_next;
        slots = v.slots;
        pipes = pipes_own here false 0 P S G I dead m.job m.active (omega (arith, low)) (λ h. slot_pipe) (λ h. absurd (omega (arith, low, h))) v.pipes;
        ports = ports_own here false 0 P S G I dead m.job m.active k O Q (λ h. unconnected) v.ports;
        shares = shares_own;
        flow = flow_own here false 0 P S G I dead m.job m.active O Q v.F v.W
            (λ h. (v.rows n (leaf_below m.job n lf)).1 ∙ rw (place_slot k n few, v.split, place_node k n few)
            (leaf_rows m.job n s (leaf_kind m.job n lf))) v.flow;
        past = past_new here (new_pipe false 0) new_source none [] P S G I refl refl O Q (λ c e. clash (cc)) v.past;
        splits = v.splits;
        queued = queued_own here false 0 P S G I dead (Connected k O) (Connected k O) m.ready m.ready (λ r c. c) (λ c. absurd (unconnected c)) (v.queued.counts here ∙ rw dead) (λ r d. refl) v.queued;
        waits = waits_new here (new_pipe false 0) new_source none [] P S G I refl refl O Q v.waits;
        dirt = v.dirt;
        quiet = quiet_new here (new_pipe false 0) new_source none [] P S G I refl refl O m.touched v.quiet;
        packs = packs_own here false 0 P S G I dead O Q m.changed m.waits m.seen (all_inlets 0) [] [] v.packs;
        reads = reads_own here false 0 P S G I dead m.job m.reads (rw (place_node k n few) unread) v.reads;
        once = once_own here false 0 P S G I dead m.job m.next m.unbuilt m.unbuilt m.reads (rw named alone) (λ l c. c) (rw named far) v.once;
        delivered = delivered_new here (new_pipe false 0) new_source none [] P S G I refl refl m.job Q m.reads m.outputs v.delivered;
        numbers = numbers_lay k n P O m.freed m.made v.slot_below few dead gone v.numbers;
        tells = v.tells;
        sound = v.sound;
        rows = v.rows;
        claims = claims_own;
      }

  -- what lowering a leaf without a port does
  own_shape : lower_leaf here s (none, m) ≡ own
  unfolding lower_leaf
  own_shape = lay_shape k s i n none_to out told m new_source none [] v few dead gone

  -- the leaf has its own source
  pub own_ok : Laying k s i none_to out told (lower_leaf here s (none, m))
  own_ok = rw own_shape own_laid

  -- and the slot has one more pipeline
  pub own_leafed : Leafed here m (lower_leaf here s (none, m))
  own_leafed = rw own_shape (record { job = refl; mine = same no_pipe m.pipes here fresh; others = λ q b d. rw other; ports = λ x b. refl })

-- A claimed port

module _ (k s i l : ℕ) (out : ℕ → List Row) (told : ℕ) (m : Machine) (v : Laying k s i none_to out told m) (waits : is_waiting m (share_port l s) ≡ true) (few : i < 24)
    (dead : (pipe_of m.pipes (place k i)).live ≡ false) (gone : (port_of m.ports (place k i)).there ≡ false)
    (a : is_leaf m.job i ≡ true) (ek : (node_of m.job i).kind ≡ aSegment) (kp : keeps m.job i s ≡ true) (b : is_leaf m.job l ≡ true)
    (e : (node_of m.job l).segment ≡ (node_of m.job i).segment) where
  abbrev p : ℕ
  p = place k i

  abbrev x : ℕ
  x = share_port l s

  abbrev c : Machine
  c = claimed_at k s i l p out told m v waits

  -- the stage
  abbrev cut : Option ℕ
  cut = stage_for c (node_at_place p) s

  -- the port is claimed first
  u : Laying k s (suc i) (naming p (x ∷ [])) out told c
  u = claim_port_lem k s i l p out told m v waits a kp b e

  -- the port is none of a slot's
  apart : (y : ℕ) → y < slot_places → y ≢ x
  apart y h d = omega (arith, share_above l s)

  gone_still : (port_of c.ports p).there ≡ false
  gone_still = let n = apart p (place_bound k i v.slot_below few) in rw other gone

  -- the port has the whole segment
  port_rows : u.F x ≡ batch_rows (whole m.job l)
  port_rows =
      let w = v.shares.ports x (share_above l s) (x_there k s i l p out told m v waits) in
      let split_low : s < 16 = let z = (v.slots.active k s v.split).1 in let y = v.slots.bound in let f = v.job.splits_high in omega arith in
      u.flow.share l s split_low ∙ rw shut_same (by_bool (shut m.ports x)
      (λ d. rw (d, w.full d (x_nobody k s i l p out told m v waits)))
      (λ d. by_list (queue_of m.queues x) (λ q. rw (d, q)) (λ y ys q. rw q)))

  named_port : segment_of m.job p ≡ (node_of m.job i).segment
  named_port = ap (λ z. (node_of m.job z).segment) (place_node k i few)

  -- the rows that are to come
  writes : u.W p ≡ will u.F (pieces_in m.job p (split_in m.active (slot_at_place p))) (concat 0) (new_stage cut) (x ∷ [])
  writes = (u.rows i (leaf_below m.job i a)).1 ∙ rw (place_slot k i few, v.split, place_node k i few, port_rows)
      (leaf_staged m.job v.job i l s a b e kp)

  -- what lowering lays there
  slot_pipe_port : SlotPipe m.job m.active p (concat 0) (new_stage cut) (x ∷ [])
  unfolding given
  slot_pipe_port = record {
    split = s;
    is = rw (place_slot k i few) v.split;
    node = rw (place_node k i few) (leaf_below m.job i a);
    keep = rw (place_node k i few) kp;
    form = rw (place_node k i few, ek) claim_form;
  }
    where
      cut_given : (t : Bool) → given {A = ℕ} (if t then none else some 0) ≡ not t
      cut_given true = refl
      cut_given false = refl

      claim_form : Claimed m.job p s (new_stage (stage_for c i s)) (x ∷ [])
      claim_form = record { leaf = l; is_leaf = b; same = rw (place_node k i few) e; is = refl; cut = rw (place_node k i few) (cut_given (is_whole (node_of m.job i).rows (kept m.job i s))) }

  -- the only inlet is the port
  inlets_there : (h y : ℕ) → At (x ∷ []) h y → There c.ports y × (reader_of c.ports y ≡ pipe p h)
  inlets_there zero y z = rw (← z) (rw same (x_there k s i l p out told m v waits), reader_same m.ports x (claimed (port_of m.ports x) p))
  inlets_there (suc h) y z = absurd z

  -- with the pipeline laid
  abbrev reading : Machine
  reading = laid_at k s (suc i) i (naming p (x ∷ [])) out told c (concat 0) cut (x ∷ []) u few dead gone_still

  -- what lowering a leaf with a port does
  port_shape : lower_leaf p s (claim_port p (some x) m) ≡ reading
  unfolding lower_leaf
  port_shape = lay_shape k s (suc i) i (naming p (x ∷ [])) out told c (concat 0) cut (x ∷ []) u few dead gone_still

  -- the leaf reads the port
  pub port_ok_lem : Laying k s (suc i) none_to out told (lower_leaf p s (claim_port p (some x) m))
  unfolding lower_leaf
  port_ok_lem = lay_ok k s (suc i) i (naming p (x ∷ [])) out told c (concat 0) cut (x ∷ []) u few dead gone_still refl (λ d f. cc) slot_pipe_port inlets_there (λ y q h z. z) writes (λ z. clash (cc))

  -- and the slot has one more pipeline
  pub port_leafed : Leafed p m (lower_leaf p s (claim_port p (some x) m))
  port_leafed = rw port_shape (record { job = refl; mine = same no_pipe m.pipes p fresh; others = λ q h d. rw other; ports = λ y h. let n = apart y h in rw other })
