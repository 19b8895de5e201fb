-- A leaf claims a port that waits: the port gets its reader, whose pipeline is laid next.
use Rattle.std.specs.Prelude.{◌≡◌, refl, ◌≢◌, ◌⊎◌, true, ◌&&◌, not, List, [], ◌∷◌, ℕ, suc, ◌+◌, ◌<◌, ◌≤◌, length}
use Rattle.std.proofs.Common.{sym, ap, ◌∙◌, inl, inr, arith}
use Rattle.rules.specs.Table.{put}
use Rattle.rules.specs.Plan.{Row, root_of, node_of, keeps, is_leaf, leaves_of}
use Rattle.rules.specs.Machine.{Machine, nobody, pipe, Port, place, share_port, slot_places, places, no_port, port_at, set_port}
use Rattle.rules.specs.Ports.{is_nobody}
use Rattle.rules.specs.Shares.{is_waiting, claimed}
use Rattle.laws.specs.Table.{by_bool, by_eq, clash, same, other, and_left, and_right}
use Rattle.order.specs.Inv.{Live, There, shut, reader_of, port_of, pipe_of, inlets_of, At, bit, SlotPort, SharePort, Shares}
use Rattle.order.specs.State.{all, no}
use Rattle.order.specs.Base.{share_split, nobody_is}
use Rattle.order.specs.Lowers.{Connected, LowPorts, ToClaim, kept_from, waiting_for, none_to}
use Rattle.order.specs.Tally.{sum_same}
use Rattle.order.specs.Views.{others, shut_same, shut_other, reader_same, reader_other}
use Rattle.order.specs.Laying.{Laying}
use Rattle.order.specs.Lays.{claims_on}
use Rattle.order.specs.Outlets.{leaf_among, among_leaf, leaves_rise}
use Rattle.order.specs.ClaimLaws.{filter_agree, filter_less, kept_less}
use Rattle.order.specs.Alike.{flow_alike, past_alike, waits_alike, dirt_alike, packs_alike}

-- the inlets xs of the pipeline at p are named
abbrev pub naming : ℕ → List ℕ → ℕ → ℕ → ℕ → Type 0
naming p xs x q h = (q ≡ p) × At xs h x

module _ (k s i l p : ℕ) (out : ℕ → List Row) (told : ℕ) (m : Machine) (v : Laying k s i none_to out told m) (waits : is_waiting m (share_port l s) ≡ true) where
  abbrev x : ℕ
  x = share_port l s

  abbrev O : List Port
  O = m.ports

  abbrev O' : List Port
  O' = put no_port O x (claimed (port_of O x) p)

  -- the port with its reader
  abbrev pub claimed_at : Machine
  claimed_at = set_port x (claimed (port_at m x) p) m

  -- the port is there, and nobody reads it
  pub x_there : There O x
  x_there = and_left (port_of O x).there (is_nobody (reader_of O x)) waits

  pub x_nobody : reader_of O x ≡ nobody
  x_nobody = nobody_is (reader_of O x) (and_right (port_of O x).there (is_nobody (reader_of O x)) waits)

  -- it is closed, marked and there as before
  closed_same : (y : ℕ) → shut O' y ≡ shut O y
  closed_same y = by_eq y x (λ e. rw (e, shut_same)) (λ n. rw shut_other)

  marked_same : (y : ℕ) → (port_of O' y).changed ≡ (port_of O y).changed
  marked_same y = by_eq y x (λ e. rw (e, same)) (λ n. rw other)

  there_same : (y : ℕ) → (port_of O' y).there ≡ (port_of O y).there
  there_same y = by_eq y x (λ e. rw (e, same)) (λ n. rw other)

  -- it is none of a slot's ports
  low_apart : (y : ℕ) → y < slot_places → y ≢ x
  low_apart y h e = omega arith

  -- whoever reads another port
  read_apart : (y : ℕ) → reader_of O y ≢ nobody → y ≢ x
  read_apart y h e = h (rw e x_nobody)

  -- the ports
  ports_claim : LowPorts m.job m.active k (naming p (x ∷ [])) m.pipes m.inlets O' m.queues
  ports_claim = let w = v.ports in record {
    alive = λ q a b c. let n = low_apart q b in simp others (w.alive q a b (rw other at c));
    opens = λ y b t e. w.opens y b (sym (there_same y) ∙ t) (sym (closed_same y) ∙ e);
    inlets = λ q h y a b. let z = w.inlets q h y a b in let n = read_apart y (λ e. clash (cc z.1)) in simp others z;
    readers = λ y q h t e. by_eq y x
        (λ d. let u : pipe p 0 ≡ pipe q h = sym (reader_same O x (claimed (port_of O x) p)) ∙ (rw d at e) in let z : h ≡ 0 = cc in inr (cc (u), rw z (sym d)))
        (λ n. widen y q h (w.readers y q h (sym (there_same y) ∙ t) (rw reader_other at e)));
    slots = λ y b t. let n = low_apart y b in other_slot y n (w.slots y b (sym (there_same y) ∙ t));
    roots = λ a t d e. let z = w.roots a t d e in let n = read_apart (place a (root_of m.job)) (λ f. clash (cc z.1)) in simp others z;
    absent = λ y e. w.absent y (sym (there_same y) ∙ e);
    blank = λ y e. closed_same y ∙ w.blank y (sym (there_same y) ∙ e);
  }
    where
      widen : (y q h : ℕ) → (Live m.pipes q × At (inlets_of m.inlets q) h y) ⊎ none_to y q h → (Live m.pipes q × At (inlets_of m.inlets q) h y) ⊎ naming p (x ∷ []) y q h
      widen y q h (inl z) = inl z
      widen y q h (inr z) = absurd z

      other_slot : (y : ℕ) → y ≢ x → SlotPort m.job m.active O y → SlotPort m.job m.active O' y
      other_slot y n z = record { split = z.split; is = z.is; node = z.node; keep = z.keep; read = rw reader_other z.read; root = λ e. z.root (rw reader_other at e) }

  -- the shared ports
  share_claim : (y : ℕ) → SharePort m.job no m.unbuilt m.pipes m.sources O m.queues y → SharePort m.job no m.unbuilt m.pipes m.sources O' m.queues y
  share_claim y w = record {
    leaf = w.leaf;
    split = w.split;
    is = w.is;
    below = w.below;
    is_leaf = w.is_leaf;
    pair = w.pair;
    shared = w.shared;
    built = w.built;
    holds = w.holds;
    opens = λ e. w.opens (sym (closed_same y) ∙ e);
    shuts = λ e. w.shuts (sym (closed_same y) ∙ e);
    full = λ e h. by_eq y x (λ d. clash (cc (rw (d, reader_same) at h))) (λ n. w.full (sym (closed_same y) ∙ e) (rw reader_other at h));
    unslotted = by_eq y x (λ d. rw (d, reader_same) (λ e. clash (cc))) (λ n. rw reader_other w.unslotted);
  }

  split_below : s < length m.job.splits
  split_below = let z = (v.slots.active k s v.split).1 in let y = v.slots.bound in omega arith

  -- it is none of a later split
  later_apart : (a t : ℕ) → m.next ≤ t → t < length m.job.splits → share_port a t ≢ x
  later_apart a t h b e =
      let y = v.is_next in
      let few = v.job.splits_high in
      let z = share_split a t l s (omega (arith, few)) (omega (arith, few, split_below)) e in
      omega arith

  shares_claim : Shares m.job no m.next m.unbuilt m.pipes m.sources O' m.queues
  shares_claim = record {
    ports = λ y b t. share_claim y (v.shares.ports y b (sym (there_same y) ∙ t));
    waits = λ a t b c d e f g. let n = later_apart a t e f in simp others (v.shares.waits a t b c d e f g);
    unbuilt = v.shares.unbuilt;
  }

  -- who is connected
  conn : (q : ℕ) → Connected k O' q → Connected k O q
  conn q (inl n) = inl n
  conn q (inr t) = inr (sym (there_same q) ∙ t)

  module _ (a : is_leaf m.job i ≡ true) (kp : keeps m.job i s ≡ true) (b : is_leaf m.job l ≡ true) (e : (node_of m.job l).segment ≡ (node_of m.job i).segment) where
    -- leaves and ports of the segment that are left
    left_mine : (g : ℕ) → (node_of m.job g).segment ≡ (node_of m.job i).segment → kept_from m.job s i g ≤ waiting_for m s g → kept_from m.job s (suc i) g ≤ waiting_for claimed_at s g
    left_mine g d h =
        let c = kept_less m.job s i g a (sym d) kp in
        let w = filter_less (λ n. is_waiting m (share_port n s)) (λ n. is_waiting claimed_at (share_port n s)) 0 l (leaves_of m.job g) (leaves_rise m.job g) (leaf_among m.job g l b (e ∙ sym d))
        waits (rw same (by_bool (port_of O x).there (λ q. rw q) (λ q. rw q)))
        (λ y c n. let z : share_port y s ≢ x = λ q. n (omega arith) in rw other) in
        omega (arith, c, w)

    -- of another segment
    left_other : (g : ℕ) → (node_of m.job g).segment ≢ (node_of m.job i).segment → waiting_for claimed_at s g ≡ waiting_for m s g
    left_other g d = ap length (filter_agree (λ n. is_waiting claimed_at (share_port n s)) (λ n. is_waiting m (share_port n s)) (leaves_of m.job g)
        (λ y c. let z : share_port y s ≢ x = λ q. d (sym (among_leaf m.job g y c).1 ∙ ap (λ n. (node_of m.job n).segment) (same_leaf y q) ∙ e) in rw other))
      where
        same_leaf : (y : ℕ) → share_port y s ≡ x → y ≡ l
        same_leaf y q = omega arith

    -- what is left to claim
    claims_claim : ToClaim s (suc i) claimed_at
    claims_claim = record {
      ports = λ g c d f. by_eq (node_of m.job g).segment (node_of m.job i).segment
          (λ q. left_mine g q (v.claims.ports g c d f))
          (λ q. rw (left_other g q) ((claims_on s i m v.claims).ports g c d f));
      unread = (claims_on s i m v.claims).unread;
      unsourced = (claims_on s i m v.claims).unsourced;
    }

    -- the port is claimed
    pub claim_port_lem : Laying k s (suc i) (naming p (x ∷ [])) out told claimed_at
    claim_port_lem = let Q = m.queues in record {
      F = v.F;
      W = v.W;
      job = v.job;
      slot_below = v.slot_below;
      split = v.split;
      is_next = v.is_next;
      slots = v.slots;
      pipes = v.pipes;
      ports = ports_claim;
      shares = shares_claim;
      flow = flow_alike O O' Q Q closed_same marked_same (λ y. refl) m.job m.active m.pipes m.sources m.stages m.inlets places [] v.F v.W v.flow;
      past = past_alike O O' Q Q closed_same marked_same (λ y. refl) m.pipes m.sources m.stages m.inlets v.past;
      splits = v.splits;
      queued = record { flags = λ q z c. v.queued.flags q z (conn q c); counts = v.queued.counts };
      waits = waits_alike O O' Q Q closed_same marked_same (λ y. refl) all no m.pipes m.sources m.inlets v.waits;
      dirt = dirt_alike O O' Q Q closed_same marked_same (λ y. refl) m.job m.active m.dirty v.dirt;
      quiet = record { marks = λ y z. v.quiet.marks y (sym (marked_same y) ∙ z); touches = v.quiet.touches; present = λ y z. there_same y ∙ v.quiet.present y (sym (marked_same y) ∙ z) };
      packs = packs_alike O O' Q Q closed_same marked_same (λ y. refl) m.pipes m.sources m.inlets m.changed m.waits m.seen v.packs;
      reads = v.reads;
      once = v.once;
      delivered = v.delivered;
      numbers = record {
        size = v.numbers.size;
        balance = ap (λ n. m.made + n) (sum_same (λ n. bit ((pipe_of m.pipes (place k n)).live && not (port_of O' (place k n)).there)) (λ n. bit ((pipe_of m.pipes (place k n)).live && not (port_of O (place k n)).there)) 0 24
            (λ n z y. rw (there_same (place k n)))) ∙ v.numbers.balance;
        few = v.numbers.few;
      };
      tells = v.tells;
      sound = v.sound;
      rows = v.rows;
      claims = claims_claim;
    }
