-- The first claim of a shared segment makes its source and a port for each claimant.
use Rattle.std.specs.Prelude.{◌≡◌, refl, ◌≢◌, Bool, true, false, ◌&&◌, not, List, [], map, ℕ, ◌+◌, ◌<◌, ◌≤◌, length, ltb, leb}
use Rattle.std.proofs.Common.{sym, ap, ◌∙◌, inl, inr, arith, ltb-true, ltb-false}
use Rattle.std.proofs.Math.Option.{none}
use Rattle.rules.specs.Table.{get, put}
use Rattle.rules.specs.Job.{Job}
use Rattle.rules.specs.Plan.{Row, node_of, keeps, is_leaf, first_leaf, leaves_of, overlaps, is_shared, pairs}
use Rattle.rules.specs.Port.{Batch}
use Rattle.rules.specs.Machine.{Machine, nobody, Port, place, node_at_place, share_port, slot_places, places, no_pipe, pipe_at, set_pipe, set_source, set_stage, set_inlets, set_touched, set_changed, set_waits, set_seen, with_pipes, with_ports, with_queues, with_ready, with_freed, with_made, with_unbuilt, with_fault}
use Rattle.rules.specs.Pipelines.{lay, add, fresh, all_inlets}
use Rattle.rules.specs.Ports.{is_nobody}
use Rattle.rules.specs.Shares.{is_waiting, claimants, port_of as port_for, make_ports}
use Rattle.laws.specs.Table.{by_bool, by_eq, clash, same, other, put_length, and_left, and_right}
use Rattle.laws.specs.NodeRows.{keeps_pair}
use Rattle.order.specs.Inv.{There, shut, reader_of, port_of, pipe_of, bit, segment_of, Sources, SharePort, Shares, Claimable, lives}
use Rattle.order.specs.State.{all, no}
use Rattle.order.specs.Base.{share_leaf, place_bound, nobody_is}
use Rattle.order.specs.Lowers.{Connected, LowNumbers, ToClaim, laid_count, none_to}
use Rattle.order.specs.Tally.{sum_same, lives_put, lives_most, filter_fewer, fewer}
use Rattle.order.specs.Lay.{new_stage, past_new, waits_new, quiet_new, delivered_new}
use Rattle.order.specs.Add.{put_put, Added, add_shape}
use Rattle.order.specs.Laying.{Laying}
use Rattle.order.specs.Among.{Among, by_among, all_among}
use Rattle.order.specs.Outlets.{among_leaf, first_apart}
use Rattle.order.specs.ClaimLaws.{In, Pair, in_filter, filter_in, in_map, map_in, in_among, among_in, pair_in, in_pair, claimants_rise}
use Rattle.order.specs.Alike.{flow_alike, past_alike, waits_alike, dirt_alike, packs_alike, delivered_alike}
use Rattle.order.specs.OwnSource.{new_pipe, new_source, pipes_own, ports_own, share_own, flow_own, queued_own, packs_own, reads_own, once_own}
use Rattle.order.specs.LayLeaf.{Aside}
use Rattle.order.specs.MakePorts.{Made, Makes, make_ok, there_far, low_far, closed_far, marked_far, ports_made}
use Rattle.order.specs.Leaves.{leaf_below, first_leaf_lem, first_same, shared_same}

-- a machine with a source laid at q
abbrev pub with_source : ℕ → Machine → Machine
with_source q m =
    set_pipe q fresh (set_source q new_source (set_stage q (new_stage none)
    (set_inlets q [] (set_touched q [] (set_changed q (all_inlets 0) (set_waits q [] (set_seen q [] m)))))))

-- it is laid where nothing is
pub lay_source : (q : ℕ) (m : Machine) → (pipe_at m q).live ≡ false → lay q new_source none [] m ≡ with_source q m
unfolding lay
lay_source q m dead = rw (dead, lay)

module _ (k s i : ℕ) (out : ℕ → List Row) (told : ℕ) (m : Machine) (v : Laying k s i none_to out told m) (lf : is_leaf m.job i ≡ true) (unb : get false m.unbuilt (first_leaf m.job i) ≡ true) where
  abbrev j : Job
  j = m.job

  -- the segment's place in the tables, its source's place, and the ports
  abbrev g : ℕ
  g = first_leaf m.job i

  abbrev q : ℕ
  q = slot_places + i

  abbrev xs : List ℕ
  xs = map port_for (claimants m i)

  abbrev unb' : List Bool
  unb' = put false m.unbuilt g false

  -- the leaf is the source's node
  pub few : i < 24
  few = let z = leaf_below j i lf in let y = v.job.nodes_high in omega arith

  at_q : node_at_place q ≡ i
  at_q = let z = few in omega arith

  named : segment_of j q ≡ (node_of j i).segment
  named = ap (λ z. (node_of j z).segment) at_q

  -- the segment is shared
  pub shared : is_shared j i ≡ true
  shared = let w = v.shares.unbuilt g unb in sym (shared_same j g i (first_leaf_lem j i lf).1) ∙ w.2

  -- a leaf of the segment
  pub first_is : (l : ℕ) → is_leaf j l ≡ true → (node_of j l).segment ≡ (node_of j i).segment → first_leaf j l ≡ g
  first_is l a e = first_same j l i a e

  -- its source is not there yet
  dead : (pipe_of m.pipes q).live ≡ false
  dead = by_bool (pipe_of m.pipes q).live
      (λ l. absurd (v.once.unsourced i q lf (inl unb) l (v.pipes.shares q l (omega arith)).source named))
      (λ l. l)

  -- who claims: a leaf of the segment and a split that is not finished
  pub claimant : (c : Pair) → In c (claimants m i) → (is_leaf j c.0 ≡ true) × ((node_of j c.0).segment ≡ (node_of j i).segment) × (c.1 < length j.splits) × (overlaps j c.0 c.1 ≡ true)
  claimant c a = in_pair j i c (filter_in (λ (d : Pair). not (get false m.finished d.1)) c (pairs j i) a).0

  -- and all such claim
  pub claims_for : (l t : ℕ) → is_leaf j l ≡ true → (node_of j l).segment ≡ (node_of j i).segment → t < length j.splits → overlaps j l t ≡ true → get false m.finished t ≡ false
      → In {A = Pair} (l, t) (claimants m i)
  claims_for l t a e b o f = in_filter (λ (d : Pair). not (get false m.finished d.1)) (l, t) (pairs j i) (pair_in j i l t a e b o) (rw f)

  -- the ports to be made
  port_for_lem : (x : ℕ) → Among x xs → (c : Pair) × In c (claimants m i) × (x ≡ port_for c)
  port_for_lem x a = map_in {B = ℕ} port_for x (claimants m i) (among_in x xs a)

  -- each of them
  port_of_lem : (l t : ℕ) → In {A = Pair} (l, t) (claimants m i) → Among (share_port l t) xs
  port_of_lem l t a = in_among (share_port l t) xs (in_map {A = Pair} port_for (l, t) (claimants m i) a)

  -- none is a slot's
  above : (x : ℕ) → Among x xs → slot_places ≤ x
  above x a = let z = port_for_lem x a in omega (arith, z.2)

  -- none is there yet
  gone : (x : ℕ) → Among x xs → (port_of m.ports x).there ≡ false
  gone x a = by_bool (port_of m.ports x).there
      (λ t.
      let w = v.shares.ports x (above x a) t in
      let z = port_for_lem x a in
      let h = claimant z.0 z.1 in
      let sixteen = v.job.splits_high in
      let e = share_leaf w.leaf w.split z.0.0 z.0.1 (omega (arith, w.below, sixteen)) (omega (arith, h.2, sixteen)) (sym w.is ∙ z.2) in
      clash (cc (unb, w.built, ap (first_leaf j) e, first_is z.0.0 h.0 h.1)))
      (λ t. t)

  -- splits to come are not finished
  pub later : (t : ℕ) → m.next ≤ t → get false m.finished t ≡ false
  later t h = by_bool (get false m.finished t) (λ e. let z = (v.slots.over t e).0 in absurd (omega arith)) (λ e. e)

  -- nor is the slot's own
  pub active : get false m.finished s ≡ false
  active = by_bool (get false m.finished s) (λ e. absurd ((v.slots.over s e).1 k v.split)) (λ e. e)

  pub split_below : s < length j.splits
  split_below = let z = (v.slots.active k s v.split).1 in let y = v.slots.bound in omega arith

  -- the ports are made
  makes : Makes xs (with_unbuilt unb' m) (make_ports xs (with_unbuilt unb' m))
  makes = make_ok 0 xs (with_unbuilt unb' m) (claimants_rise m i v.job.splits_high) v.sound (λ x a. (gone x a, v.ports.absent x (gone x a)))

  abbrev O' : List Port
  O' = makes.O'

  abbrev Q' : List (List Batch)
  Q' = makes.Q'

  -- with the ports made and the source laid
  abbrev laid : Machine
  laid = with_source q (with_fault false (with_queues Q' (with_ports O' (with_unbuilt unb' m))))

  -- what laying does
  laid_is : lay q new_source none [] (make_ports xs (with_unbuilt unb' m)) ≡ laid
  laid_is = rw makes.is (lay_source q (with_fault false (with_queues Q' (with_ports O' (with_unbuilt unb' m)))) dead)

  -- there is a number left
  lives_left : lives m.pipes < places
  lives_left =
      let a = lives_put m.pipes q fresh in
      let b = lives_most (put no_pipe m.pipes q fresh) in
      let c = put_length no_pipe m.pipes q fresh (let z = v.numbers.size in let y = few in omega arith) in
      let d : bit (pipe_of m.pipes q).live ≡ 0 = rw dead in
      let e = v.numbers.size in
      omega (arith, a, b, c, d, e)

  numbers_left : laid.freed ≡ [] → laid.made < places
  numbers_left e = let z : length m.freed ≡ 0 = rw e in omega (arith, z, v.numbers.balance, lives_left)

  -- and a place on the ready stack
  stack_left : length m.ready < places
  stack_left = fewer places (λ r. (pipe_of m.pipes r).live && (pipe_of m.pipes r).queued) m.ready v.queued.counts
      (λ r b. by_bool (pipe_of m.pipes r).live (λ l. let n = v.pipes.bound r l in absurd (omega arith)) (λ l. rw l))
      q
      (omega (arith, few))
      (rw dead)

  -- the source is added
  shape : Added q laid (add q laid)
  shape = add_shape q laid numbers_left (λ e. stack_left)

  -- all that is done
  abbrev built : Machine
  built = with_ready shape.ready' (with_freed shape.freed' (with_made shape.made' (with_pipes (put no_pipe m.pipes q (new_pipe true shape.number)) laid)))

  built_is : add q (lay q new_source none [] (make_ports xs (with_unbuilt unb' m))) ≡ built
  built_is = rw laid_is (shape.is ∙ rw (same no_pipe m.pipes q fresh, put_put no_pipe m.pipes q fresh (new_pipe true shape.number)))

  -- the ports before and after
  w : Made xs m.ports O' m.queues Q'
  w = makes.made

  low_same : (x : ℕ) → x < slot_places → port_of O' x ≡ port_of m.ports x
  low_same = low_far xs m.ports O' m.queues Q' w above gone v.ports.blank

  there_same : (x : ℕ) → There m.ports x → port_of O' x ≡ port_of m.ports x
  there_same = there_far xs m.ports O' m.queues Q' w above gone v.ports.blank

  closed_same : (x : ℕ) → shut O' x ≡ shut m.ports x
  closed_same = closed_far xs m.ports O' m.queues Q' w above gone v.ports.blank

  marked_same : (x : ℕ) → (port_of O' x).changed ≡ (port_of m.ports x).changed
  marked_same = marked_far xs m.ports O' m.queues Q' w above gone v.ports.blank v.quiet.present

  -- the new source
  is_source_lem : (l : ℕ) → (node_of j l).segment ≡ (node_of j i).segment → Sources j built.pipes l q
  is_source_lem l e = (rw same, omega arith, named ∙ sym e)

  -- the segment counts as built
  pub built_at : (l : ℕ) → is_leaf j l ≡ true → (node_of j l).segment ≡ (node_of j i).segment → get false unb' (first_leaf j l) ≡ false
  built_at l a e = rw (first_is l a e, same)

  -- a port that is made
  share_new : (x : ℕ) → Among x xs → SharePort j no unb' built.pipes built.sources O' Q' x
  share_new x a =
      let z = port_for_lem x a in
      let h = claimant z.0 z.1 in
      let empty = w.held x ∙ v.ports.absent x (gone x a) in
      let made = w.near x a in
      let is_open = ap (λ (y : Port). y.closed) made in
      record {
        leaf = z.0.0;
        split = z.0.1;
        is = z.2;
        below = h.2;
        is_leaf = h.0;
        pair = h.3;
        shared = shared_same j z.0.0 i h.1 ∙ shared;
        built = built_at z.0.0 h.0 h.1;
        holds = inl empty;
        opens = λ e. (q, is_source_lem z.0.0 h.1, inl (rw same, empty));
        shuts = λ e. clash (cc (is_open));
        full = λ e. clash (cc (is_open));
        unslotted = λ e. clash (cc (ap (λ (y : Port). y.reader) made));
      }

  -- and one that was there
  share_old : (x : ℕ) → (Among x xs → ⊥) → SharePort j no m.unbuilt m.pipes m.sources m.ports m.queues x → SharePort j no unb' built.pipes built.sources O' Q' x
  share_old x n y = share_own q true shape.number m.pipes m.sources m.stages m.inlets dead j m.unbuilt unb' m.ports O' m.queues Q' x y (w.far x n) (w.held x)
      (by_eq (first_leaf j y.leaf) g (λ e. rw (e, same)) (λ e. rw other y.built))
      (λ h e. clash (cc (unb, y.built, first_is y.leaf y.is_leaf (sym e ∙ named))))

  -- a port that waited waits
  wait_same : (x : ℕ) → There m.ports x × (reader_of m.ports x ≡ nobody) → There O' x × (reader_of O' x ≡ nobody)
  wait_same x y = (rw (there_same x y.0) y.0, ap (λ (z : Port). z.reader) (there_same x y.0) ∙ y.1)

  wait_new : (x : ℕ) → Among x xs → There O' x × (reader_of O' x ≡ nobody)
  wait_new x a = (rw (w.near x a), ap (λ (z : Port). z.reader) (w.near x a))

  -- the shared ports
  shares_built : Shares j no m.next unb' built.pipes built.sources O' Q'
  shares_built = record {
    ports = λ x b t. by_among x xs (share_new x) (λ n. share_old x n (v.shares.ports x b (sym (ap (λ (z : Port). z.there) (w.far x n)) ∙ t)));
    waits = λ l t a b c d e f. by_eq (first_leaf j l) g
        (λ z. wait_new (share_port l t) (port_of_lem l t (claims_for l t a (first_apart j l i a lf z) e f (later t d))))
        (λ z. wait_same (share_port l t) (v.shares.waits l t a b (rw other at c) d e f));
    unbuilt = λ h e. by_eq h g (λ z. clash (cc (rw (z, same) at e))) (λ z. v.shares.unbuilt h (rw other at e));
  }

  -- who is connected
  narrow : (r : ℕ) → Connected k O' r → Connected k m.ports r
  narrow r (inl n) = inl n
  narrow r (inr t) = by_bool (ltb r slot_places)
      (λ e. inr (sym (ap (λ (z : Port). z.there) (low_same r (ltb-true r slot_places e))) ∙ t))
      (λ e. inl (λ z. let y = ltb-false r slot_places e in let x = v.slot_below in omega arith))

  -- as many are laid only
  laid_same : laid_count k built.pipes O' ≡ laid_count k m.pipes m.ports
  laid_same = sum_same
      (λ n. bit ((pipe_of built.pipes (place k n)).live && not (port_of O' (place k n)).there))
      (λ n. bit ((pipe_of m.pipes (place k n)).live && not (port_of m.ports (place k n)).there)) 0 24
      (λ n a b. let low = place_bound k n v.slot_below (omega (arith, b)) in let d : place k n ≢ q = λ e. omega (arith, low, e) in rw (other, low_same (place k n) low))

  -- the numbers of pipelines
  numbers_built : LowNumbers k built.pipes O' shape.freed' shape.made'
  numbers_built = record {
    size = put_length no_pipe m.pipes q (new_pipe true shape.number) (let z = v.numbers.size in let y = few in omega arith) ∙ v.numbers.size;
    balance =
        let a = lives_put m.pipes q (new_pipe true shape.number) in
        let b : bit (pipe_of m.pipes q).live ≡ 0 = rw dead in
        omega (arith, a, b, laid_same, shape.taken.one, v.numbers.balance);
    few = shape.taken.few v.numbers.few;
  }

  -- a port that waits
  is_waiting_lem : (x : ℕ) → There O' x × (reader_of O' x ≡ nobody) → is_waiting built x ≡ true
  is_waiting_lem x y = rw (y.0, y.1)

  was_waiting : (x : ℕ) → is_waiting m x ≡ true → There m.ports x × (reader_of m.ports x ≡ nobody)
  was_waiting x e = (and_left (port_of m.ports x).there (is_nobody (reader_of m.ports x)) e, nobody_is (reader_of m.ports x) (and_right (port_of m.ports x).there (is_nobody (reader_of m.ports x)) e))

  -- what is left to claim
  claims_built : ToClaim s i built
  claims_built = record {
    ports = λ h a b c. by_eq (first_leaf j h) g
        (λ z. filter_fewer (λ l. leb i l && keeps j l s) (λ l. is_waiting built (share_port l s)) (leaves_of j h)
        (all_among (λ l. leb i l && keeps j l s ≡ true → is_waiting built (share_port l s) ≡ true) (leaves_of j h)
        (λ l d e. let y = among_leaf j h l d in is_waiting_lem (share_port l s) (wait_new (share_port l s) (port_of_lem l s
        (claims_for l s y.0 (y.1 ∙ first_apart j h i a lf z) split_below (keeps_pair j v.job l s split_below y.0 (and_right (leb i l) (keeps j l s) e)) active))))))
        (λ z.
        let t = filter_fewer (λ l. is_waiting m (share_port l s)) (λ l. is_waiting built (share_port l s)) (leaves_of j h)
        (all_among (λ l. is_waiting m (share_port l s) ≡ true → is_waiting built (share_port l s) ≡ true) (leaves_of j h)
        (λ l d e. is_waiting_lem (share_port l s) (wait_same (share_port l s) (was_waiting (share_port l s) e)))) in
        omega (arith, t, v.claims.ports h a b (rw other at c)));
    unread = v.claims.unread;
    unsourced = λ l p a b d e h f. by_eq p q
        (λ z. rw (z, named) (λ y. clash (cc (shared, e, shared_same j i l y))))
        (λ z. v.claims.unsourced l p a b d e (rw other at h) (rw other at f));
  }

  -- what can be claimed for the first time
  pub claimable : (l : ℕ) → Claimable j m.next unb' l → Claimable j m.next m.unbuilt l
  claimable l (inl e) = inl (by_eq (first_leaf j l) g (λ z. clash (cc (rw (z, same) at e))) (λ z. rw other at e))
  claimable l (inr e) = inr e

  -- not this segment
  pub claimed_now : (l : ℕ) → is_leaf j l ≡ true → Claimable j m.next unb' l → (node_of j i).segment ≢ (node_of j l).segment
  claimed_now l a (inl e) d = clash (cc (e, built_at l a (sym d)))
  claimed_now l a (inr e) d = clash (cc (shared, e.0, shared_same j i l d))

  -- the groups
  built_laying : Laying k s i none_to out told built
  built_laying =
      let n = shape.number in
      let A = m.active in
      let P = m.pipes in
      let S = m.sources in
      let G = m.stages in
      let I = m.inlets in
      let O = m.ports in
      let Q = m.queues in
      record {
        F = v.F;
        W = v.W;
        job = v.job;
        slot_below = v.slot_below;
        split = v.split;
        is_next = v.is_next;
        slots = v.slots;
        pipes = pipes_own q true n P S G I dead j A (omega (arith, few)) (λ h. absurd (omega arith)) (λ h. rw at_q lf) v.pipes;
        ports = ports_own q true n P S G I dead j A k O' Q' (λ h. absurd (omega arith)) (ports_made xs O O' Q Q' w above gone v.ports.blank j A k P I v.ports);
        shares = shares_built;
        flow = flow_own q true n P S G I dead j A O' Q' v.F v.W (λ h. absurd (omega arith)) (flow_alike O O' Q Q' closed_same marked_same w.held j A P S G I places [] v.F v.W v.flow);
        past = past_new q (new_pipe true n) new_source none [] P S G I refl refl O' Q' (λ c e. clash (cc)) (past_alike O O' Q Q' closed_same marked_same w.held P S G I v.past);
        splits = v.splits;
        queued = queued_own q true n P S G I dead (Connected k O) (Connected k O') m.ready shape.ready' narrow (λ c. refl)
            (shape.pushed.mine (v.queued.counts q ∙ rw (dead, same))) (λ r d. shape.pushed.others r d) v.queued;
        waits = waits_new q (new_pipe true n) new_source none [] P S G I refl refl O' Q' (waits_alike O O' Q Q' closed_same marked_same w.held all no P S I v.waits);
        dirt = dirt_alike O O' Q Q' closed_same marked_same w.held j A m.dirty v.dirt;
        quiet = quiet_new q (new_pipe true n) new_source none [] P S G I refl refl O' m.touched (record {
          marks = λ y z. v.quiet.marks y (sym (marked_same y) ∙ z);
          touches = v.quiet.touches;
          present = λ y z. let t = v.quiet.present y (sym (marked_same y) ∙ z) in rw (there_same y t) t;
        });
        packs = packs_own q true n P S G I dead O' Q' m.changed m.waits m.seen (all_inlets 0) [] [] (packs_alike O O' Q Q' closed_same marked_same w.held P S I m.changed m.waits m.seen v.packs);
        reads = reads_own q true n P S G I dead j m.reads (rw at_q (λ r h. v.once.unread i r lf (inl unb) h)) v.reads;
        once = once_own q true n P S G I dead j m.next m.unbuilt unb' m.reads (rw named (λ p a b. v.once.unsourced i p lf (inl unb) a b)) claimable (rw named claimed_now) v.once;
        delivered = delivered_new q (new_pipe true n) new_source none [] P S G I refl refl j Q' m.reads m.outputs (delivered_alike O O' Q Q' closed_same marked_same w.held j P G m.reads m.outputs v.delivered);
        numbers = numbers_built;
        tells = v.tells;
        sound = refl;
        rows = v.rows;
        claims = claims_built;
      }

  -- the machine after it
  abbrev pub build_of : Machine
  build_of = add q (lay q new_source none [] (make_ports xs (with_unbuilt unb' m)))

  -- the source and its ports are made
  pub build_ok : Laying k s i none_to out told build_of
  build_ok = rw built_is built_laying

  -- the ports wait for their claims
  pub build_waits : (l t : ℕ) → In {A = Pair} (l, t) (claimants m i) → is_waiting build_of (share_port l t) ≡ true
  build_waits l t a = rw built_is (is_waiting_lem (share_port l t) (wait_new (share_port l t) (port_of_lem l t a)))

  -- the slots stay as they are
  pub build_aside : Aside m build_of
  build_aside = rw built_is (record { job = refl; pipes = λ r b. let d : r ≢ q = λ e. omega arith in rw other; ports = low_same })
