-- A leaf is lowered.
use Rattle.std.specs.Prelude.{◌≡◌, refl, ◌≢◌, false, ◌&&◌, List, ℕ, suc, ◌<◌, ◌≤◌, length, leb}
use Rattle.std.proofs.Common.{sym, ap, ◌∙◌, inl, inr, arith, leb-true, leb-false}
use Rattle.std.proofs.Math.Bool.{true}
use Rattle.std.proofs.Math.Option.{none, some}
use Rattle.std.proofs.lemmas.Bool.{lt-leb}
use Rattle.rules.specs.Table.{get, put}
use Rattle.rules.specs.Job.{segment as aSegment}
use Rattle.rules.specs.Plan.{Row, node_of, root_of, keeps, is_leaf, first_leaf, leaves_of, overlaps, is_shared}
use Rattle.rules.specs.Machine.{Machine, Pipeline, Port, place, share_port, slot_places, with_unbuilt}
use Rattle.rules.specs.Shares.{is_waiting, newest_waiting, claimants, claim_port, build, claim}
use Rattle.rules.specs.Lower.{lower_leaf, lower_kind}
use Rattle.laws.specs.Table.{by_bool, by_eq, by_option, clash, same, other, and_left, and_right}
use Rattle.laws.specs.NodeRows.{keeps_pair}
use Rattle.order.specs.Inv.{Live, port_of, pipe_of, source_of, is_source, segment_of, read_at, SharePort, Shares, Claimable}
use Rattle.order.specs.State.{no}
use Rattle.order.specs.Base.{place_bound, place_apart}
use Rattle.order.specs.Lowers.{Progress, ToClaim, Lowers, none_to}
use Rattle.order.specs.Laying.{Laying, laying, lowers}
use Rattle.order.specs.Lays.{claims_on, laying_on}
use Rattle.order.specs.Among.{Among}
use Rattle.order.specs.Outlets.{leaf_is, among_leaf, first_apart}
use Rattle.order.specs.ClaimLaws.{In, Pair, one_in, pair_in, pairs_shared, newest_some, newest_none, first_for_lem, kept_less, none_waiting}
use Rattle.order.specs.LayLeaf.{Leafed, Aside, leafed_aside, own_ok, own_leafed, port_ok_lem, port_leafed}
use Rattle.order.specs.Build.{shared, later, active, split_below, claims_for, claimant, claimable, claimed_now, build_of, build_ok, build_waits, build_aside}
use Rattle.order.specs.Leaves.{first_same, shared_same}

-- the only claimant gets a source of its own: its segment counts as built

module _ (k s i : ℕ) (out : ℕ → List Row) (told : ℕ) (m : Machine) (v : Laying k s i none_to out told m) (lf : is_leaf m.job i ≡ true) (kp : keeps m.job i s ≡ true)
    (unb : get false m.unbuilt (first_leaf m.job i) ≡ true) where
  -- the leaf itself is a claimant
  pub claims_here : In {A = Pair} (i, s) (claimants m i)
  claims_here =
      let b = split_below k s i out told m v lf unb in
      claims_for k s i out told m v lf unb i s lf refl b (keeps_pair m.job v.job i s b lf kp) (active k s i out told m v lf unb)

  -- the segment counted as built
  abbrev pub unbuild : Machine
  unbuild = with_unbuilt (put false m.unbuilt (first_leaf m.job i) false) m

  module _ (one : length (claimants m i) ≤ 1) where
    -- there is no other
    only : (l t : ℕ) → is_leaf m.job l ≡ true → (node_of m.job l).segment ≡ (node_of m.job i).segment → t < length m.job.splits → overlaps m.job l t ≡ true
        → get false m.finished t ≡ false → (l ≡ i) × (t ≡ s)
    only l t a e b o f =
        let z : ◌≡◌ {A = Pair} (l, t) (i, s) = one_in {A = Pair} (l, t) (i, s) (claimants m i) (claims_for k s i out told m v lf unb l t a e b o f) claims_here one in
        (ap (λ (c : Pair). c.0) z, ap (λ (c : Pair). c.1) z)

    -- the shared ports
    shares_unbuild : Shares m.job no m.next unbuild.unbuilt m.pipes m.sources m.ports m.queues
    shares_unbuild = record {
      ports = λ x b t. share_unbuild x (v.shares.ports x b t);
      waits = λ l t a b c d e f. by_eq (first_leaf m.job l) (first_leaf m.job i)
          (λ z. let y = (only l t a (first_apart m.job l i a lf z) e f (later k s i out told m v lf unb t d)).1 in absurd (omega (arith, y, d, v.is_next)))
          (λ z. v.shares.waits l t a b (rw other at c) d e f);
      unbuilt = λ h e. by_eq h (first_leaf m.job i) (λ z. clash (cc (rw (z, same) at e))) (λ z. v.shares.unbuilt h (rw other at e));
    }
      where
        share_unbuild : (x : ℕ) → SharePort m.job no m.unbuilt m.pipes m.sources m.ports m.queues x
            → SharePort m.job no unbuild.unbuilt m.pipes m.sources m.ports m.queues x
        share_unbuild x y = record {
          leaf = y.leaf;
          split = y.split;
          is = y.is;
          below = y.below;
          is_leaf = y.is_leaf;
          pair = y.pair;
          shared = y.shared;
          built = by_eq (first_leaf m.job y.leaf) (first_leaf m.job i) (λ e. rw (e, same)) (λ e. rw other y.built);
          holds = y.holds;
          opens = y.opens;
          shuts = y.shuts;
          full = y.full;
          unslotted = y.unslotted;
        }

    -- what is left to claim
    claims_unbuild : ToClaim s (suc i) unbuild
    claims_unbuild = record {
      ports = λ h a b c. by_eq (first_leaf m.job h) (first_leaf m.job i)
          (λ z.
          let t = none_waiting (λ l. leb (suc i) l && keeps m.job l s) (leaves_of m.job h) (λ l d. none_left l h a z d) in
          omega (arith, t))
          (λ z. (claims_on s i m v.claims).ports h a b (rw other at c));
      unread = (claims_on s i m v.claims).unread;
      unsourced = (claims_on s i m v.claims).unsourced;
    }
      where
        none_left : (l h : ℕ) → is_leaf m.job h ≡ true → first_leaf m.job h ≡ first_leaf m.job i → Among l (leaves_of m.job h) → leb (suc i) l && keeps m.job l s ≡ false
        none_left l h a z d = by_bool (leb (suc i) l && keeps m.job l s)
            (λ e.
            let y = among_leaf m.job h l d in
            let b = split_below k s i out told m v lf unb in
            let w = (only l s y.0 (y.1 ∙ first_apart m.job h i a lf z) b (keeps_pair m.job v.job l s b y.0 (and_right (leb (suc i) l) (keeps m.job l s) e)) (active k s i out told m v lf unb)).0 in
            let u = leb-true (suc i) l (and_left (leb (suc i) l) (keeps m.job l s) e) in
            absurd (omega arith))
            (λ e. e)

    -- the groups
    pub unbuild_ok : Laying k s (suc i) none_to out told unbuild
    unbuild_ok = record {
      F = v.F;
      W = v.W;
      job = v.job;
      slot_below = v.slot_below;
      split = v.split;
      is_next = v.is_next;
      slots = v.slots;
      pipes = v.pipes;
      ports = v.ports;
      shares = shares_unbuild;
      flow = v.flow;
      past = v.past;
      splits = v.splits;
      queued = v.queued;
      waits = v.waits;
      dirt = v.dirt;
      quiet = v.quiet;
      packs = v.packs;
      reads = v.reads;
      once = record {
        single = v.once.single;
        unread = λ l r a c. v.once.unread l r a (claimable k s i out told m v lf unb l c);
        unsourced = λ l p a c. v.once.unsourced l p a (claimable k s i out told m v lf unb l c);
      };
      delivered = v.delivered;
      numbers = v.numbers;
      tells = v.tells;
      sound = v.sound;
      rows = v.rows;
      claims = claims_unbuild;
    }

-- The cases of a claim

module _ (k s i : ℕ) (out : ℕ → List Row) (told : ℕ) (m : Machine) (v : Laying k s i none_to out told m) (low : i < 24)
    (dead : (pipe_of m.pipes (place k i)).live ≡ false) (gone : (port_of m.ports (place k i)).there ≡ false)
    (lf : is_leaf m.job i ≡ true) (ek : (node_of m.job i).kind ≡ aSegment) (kp : keeps m.job i s ≡ true) where
  abbrev p : ℕ
  p = place k i

  -- what a claim and the pipeline come to
  abbrev Done : Machine → Type 0
  Done m' = Laying k s (suc i) none_to out told m' × Leafed p m m'

  -- the split is one of the job
  is_below : s < length m.job.splits
  is_below = let z = (v.slots.active k s v.split).1 in let y = v.slots.bound in omega arith

  -- a port waits
  port_waits : (x : ℕ) → newest_waiting m i s ≡ some x → Done (lower_leaf p s (claim p i s m))
  unfolding claim
  port_waits x e =
      let r = newest_some m i s x e in
      let w : is_waiting m (share_port r.0 s) ≡ true = rw r.3 at r.4 in
      rw (e, claim, r.3) (port_ok_lem k s i r.0 out told m v w low dead gone lf ek kp r.1 r.2, port_leafed k s i r.0 out told m v w low dead gone lf ek kp r.1 r.2)

  -- the leaf is kept: a segment without a waiting port is not built and shared
  unshared : newest_waiting m i s ≡ none → get false m.unbuilt (first_leaf m.job i) ≡ false → is_shared m.job i ≡ false
  unshared e b = by_bool (is_shared m.job i)
      (λ d.
      let z = v.claims.ports i lf d b in
      let y = kept_less m.job s i i lf refl kp in
      let x = none_waiting (λ l. is_waiting m (share_port l s)) (leaves_of m.job i) (λ l a. newest_none m i s l e a) in
      absurd (omega (arith, z, y, x)))
      (λ d. d)

  -- another pair would make the segment shared
  one_pair : is_shared m.job i ≡ false → (l t : ℕ) → is_leaf m.job l ≡ true → (node_of m.job l).segment ≡ (node_of m.job i).segment → t < length m.job.splits
      → overlaps m.job l t ≡ true → ((l ≡ i) × (t ≡ s) → ⊥) → ⊥
  one_pair n l t a e b o d = clash (cc (
    n,
    pairs_shared m.job i (l, t) (i, s) (pair_in m.job i l t a e b o)
        (pair_in m.job i i s lf refl is_below (keeps_pair m.job v.job i s is_below lf kp))
        (λ z. d (ap (λ (c : Pair). c.0) z, ap (λ (c : Pair). c.1) z)),
  ))

  -- a segment that is not shared
  module _ (n : is_shared m.job i ≡ false) (b : get false m.unbuilt (first_leaf m.job i) ≡ false) where
    -- no other leaf can claim it
    far : (l : ℕ) → is_leaf m.job l ≡ true → Claimable m.job m.next m.unbuilt l → (node_of m.job i).segment ≢ (node_of m.job l).segment
    far l a (inl c) d = clash (cc (b, c, first_same m.job l i a (sym d)))
    far l a (inr (u, (t, h, r, o))) d = one_pair n l t a (sym d) r o (λ z. let y = z.1 in let x = v.is_next in omega arith)

    -- and none is left to
    left : (l : ℕ) → suc i ≤ l → is_leaf m.job l ≡ true → keeps m.job l s ≡ true → is_shared m.job l ≡ false → (node_of m.job i).segment ≢ (node_of m.job l).segment
    left l h a c u d = one_pair n l s a (sym d) is_below (keeps_pair m.job v.job l s is_below a c) (λ z. let y = z.0 in omega arith)

    -- it gets its source
    own_plain : Done (lower_leaf p s (none, m))
    own_plain =
        let L = laying_on k s i none_to out told m v in
        let r : (r : ℕ) → r < length m.reads → (read_at m.reads r).leaf ≢ first_leaf m.job i = λ r h. v.claims.unread i r (omega arith) lf kp n h in
        let a : (q : ℕ) → Live m.pipes q → is_source (source_of m.sources q) ≡ true → segment_of m.job q ≢ (node_of m.job i).segment = λ q l h. v.claims.unsourced i q (omega arith) lf kp n l h in
        (own_ok k s (suc i) i out told m L low dead gone lf ek kp r a far left, own_leafed k s (suc i) i out told m L low dead gone lf ek kp r a far left)

  -- nothing waits and nothing is to be built
  plain : newest_waiting m i s ≡ none → get false m.unbuilt (first_leaf m.job i) ≡ false → Done (lower_leaf p s (claim p i s m))
  unfolding claim
  plain e b = rw (e, claim, b) (own_plain (unshared e b) b)

  -- a port of a machine that differs beside the slots only
  port_beside : (l : ℕ) (m₁ : Machine) → Laying k s i none_to out told m₁ → Aside m m₁ → is_waiting m₁ (share_port l s) ≡ true → is_leaf m.job l ≡ true
      → (node_of m.job l).segment ≡ (node_of m.job i).segment → Done (lower_leaf p s (claim_port p (some (share_port l s)) m₁))
  port_beside l m₁ v₁ d w a e =
      let here = place_bound k i v.slot_below low in
      let dead₁ : (pipe_of m₁.pipes p).live ≡ false = rw (d.pipes p here) dead in
      let gone₁ : (port_of m₁.ports p).there ≡ false = rw (d.ports p here) gone in
      let lf₁ : is_leaf m₁.job i ≡ true = rw d.job lf in
      let ek₁ : (node_of m₁.job i).kind ≡ aSegment = rw d.job ek in
      let kp₁ : keeps m₁.job i s ≡ true = rw d.job kp in
      let a₁ : is_leaf m₁.job l ≡ true = rw d.job a in
      let e₁ : (node_of m₁.job l).segment ≡ (node_of m₁.job i).segment = rw d.job e in (
        port_ok_lem k s i l out told m₁ v₁ w low dead₁ gone₁ lf₁ ek₁ kp₁ a₁ e₁,
        leafed_aside p m m₁ (lower_leaf p s (claim_port p (some (share_port l s)) m₁)) d (port_leafed k s i l out told m₁ v₁ w low dead₁ gone₁ lf₁ ek₁ kp₁ a₁ e₁),
      )

  -- a shared segment that is not built yet
  module _ (unb : get false m.unbuilt (first_leaf m.job i) ≡ true) where
    -- one claimant only
    own_one : length (claimants m i) ≤ 1 → Done (lower_leaf p s (none, unbuild k s i out told m v lf kp unb))
    own_one h =
        let L = unbuild_ok k s i out told m v lf kp unb h in
        let m' = unbuild k s i out told m v lf kp unb in
        let r : (r : ℕ) → r < length m.reads → (read_at m.reads r).leaf ≢ first_leaf m.job i = λ r z. v.once.unread i r lf (inl unb) z in
        let a : (q : ℕ) → Live m.pipes q → is_source (source_of m.sources q) ≡ true → segment_of m.job q ≢ (node_of m.job i).segment = λ q l z. v.once.unsourced i q lf (inl unb) l z in
        let f = claimed_now k s i out told m v lf unb in (
          own_ok k s (suc i) i out told m' L low dead gone lf ek kp r a f none_shared,
          leafed_aside p m m' (lower_leaf p s (none, m')) (record { job = refl; pipes = λ q b. refl; ports = λ x b. refl })
              (own_leafed k s (suc i) i out told m' L low dead gone lf ek kp r a f none_shared),
        )
      where
        none_shared : (l : ℕ) → suc i ≤ l → is_leaf m.job l ≡ true → keeps m.job l s ≡ true → is_shared m.job l ≡ false → (node_of m.job i).segment ≢ (node_of m.job l).segment
        none_shared l z a c u d = clash (cc (u, shared k s i out told m v lf unb, shared_same m.job i l d))

    -- several: the first port made for the split
    built_many : 1 < length (claimants m i) → Done (lower_leaf p s (build p i s (claimants m i) (unbuild k s i out told m v lf kp unb)))
    unfolding build
    built_many h =
        let r = first_for_lem s (claimants m i) i (claims_here k s i out told m v lf kp unb) in
        let w = claimant k s i out told m v lf unb (r.0, s) r.1 in
        rw (lt-leb (length (claimants m i)) 1 h, build, r.2)
        (port_beside r.0 (build_of k s i out told m v lf unb) (build_ok k s i out told m v lf unb) (build_aside k s i out told m v lf unb) (build_waits k s i out told m v lf unb r.0 s r.1) w.0 w.1)

    -- nothing waits and the segment is to be built
    unbuilt_yet : newest_waiting m i s ≡ none → Done (lower_leaf p s (claim p i s m))
    unfolding claim build
    unbuilt_yet e = rw (e, claim, unb) (by_bool (leb (length (claimants m i)) 1)
        (λ h. rw (h, build) (own_one (leb-true (length (claimants m i)) 1 h)))
        (λ h. built_many (leb-false (length (claimants m i)) 1 h)))

  -- in every case
  leaf_done : Done (lower_leaf p s (claim p i s m))
  leaf_done = by_option (newest_waiting m i s)
      (λ e. by_bool (get false m.unbuilt (first_leaf m.job i)) (λ u. unbuilt_yet u e) (plain e))
      port_waits

-- the leaf's pipeline is laid, and nothing else of the slot
progress_leaf : (k s i : ℕ) (out : ℕ → List Row) (told : ℕ) (m m' : Machine) → Lowers k s i none_to out told m → i < length m.job.nodes → (node_of m.job i).kind ≡ aSegment
    → Leafed (place k i) m m' → Progress m.job k s (suc i) m'.pipes m'.ports
progress_leaf k s i out told m m' v b ek w =
    let high = v.job.nodes_high in
    let low : (n : ℕ) → n < 24 → place k n < slot_places = λ n h. place_bound k n v.slot_below h in
    let port : (n : ℕ) → n < 24 → (port_of m'.ports (place k n)).there ≡ (port_of m.ports (place k n)).there = λ n h. ap (λ (z : Port). z.there) (w.ports (place k n) (low n h)) in
    let far : (n : ℕ) → n < 24 → n ≢ i → pipe_of m'.pipes (place k n) ≡ pipe_of m.pipes (place k n) = λ n h d. w.others (place k n) (low n h) (place_apart k n i d) in
    let child : (n q : ℕ) → (node_of m.job n).parent ≡ some q → n < 24 = λ n q d. (let z = v.job.up n q d in omega (arith, z.0, z.1, high)) in
    record {
      laid = λ n h l a. by_eq n i (λ e. rw (e, w.mine)) (λ d. rw (far n (omega arith) d) (v.progress.laid n (omega arith) l a));
      unlaid = λ n h l. let y = v.progress.unlaid n (omega arith) l in (rw (far n l (λ e. omega arith)) y.0, port n l ∙ y.1);
      joined = λ n q h a d g. by_eq q i
          (λ e. clash (cc (ek, ap (λ z. (node_of m.job z).kind) e, v.job.inner n q d)))
          (λ e. port n (child n q d) ∙ v.progress.joined n q (let z = (v.job.up n q d).0 in omega arith) a d (omega arith));
      unjoined = λ n q d h. port n (child n q d) ∙ v.progress.unjoined n q d (omega arith);
      rootless = port (root_of m.job) (omega (arith, high, b)) ∙ v.progress.rootless;
      calm = λ n h l t. by_eq n i
          (λ e. rw e (ap (λ (z : Pipeline). z.state) w.mine))
          (λ d. ap (λ (z : Pipeline). z.state) (far n h d) ∙ v.progress.calm n h (rw (far n h d) at l) (sym (port n h) ∙ t));
    }

-- a leaf that keeps rows is lowered
pub leaf_ok : (k s i : ℕ) (out : ℕ → List Row) (told : ℕ) (m : Machine) → Lowers k s i none_to out told m → i < length m.job.nodes → keeps m.job i s ≡ true
    → (node_of m.job i).kind ≡ aSegment → Lowers k s (suc i) none_to out told (lower_kind aSegment k s i m) × ((lower_kind aSegment k s i m).job ≡ m.job)
leaf_ok k s i out told m v b kp ek =
    let low : i < 24 = (let z = v.job.nodes_high in omega arith) in
    let free = v.progress.unlaid i (omega arith) low in
    let d = leaf_done k s i out told m (laying k s i none_to out told m v) low free.0 free.1 (leaf_is m.job i b (rw ek)) ek kp in
    (lowers k s (suc i) none_to out told (lower_kind aSegment k s i m) d.0 (rw d.1.job (progress_leaf k s i out told m (lower_kind aSegment k s i m) v b ek d.1)), d.1.job)
