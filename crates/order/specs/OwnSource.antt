-- A segment source that has not asked is laid at a free place, of a slot or of a shared source: each group over the tables before and after.
use Rattle.std.specs.Prelude.{◌≡◌, refl, ◌≢◌, ◌⊎◌, Bool, true, false, List, [], ℕ, ◌<◌, ◌≤◌, length}
use Rattle.std.proofs.Common.{sym, ap, ◌∙◌, inl, inr, arith}
use Rattle.std.proofs.Math.Option.{Option, none}
use Rattle.rules.specs.Table.{get, put, given}
use Rattle.rules.specs.Job.{Job}
use Rattle.rules.specs.Plan.{Row, node_of, is_leaf, first_leaf}
use Rattle.rules.specs.InletSet.{InletSet}
use Rattle.rules.specs.Port.{Batch, Seen}
use Rattle.rules.specs.Operators.{Source, segment, pack, runnable}
use Rattle.rules.specs.Machine.{Pipeline, Stage, Port, Read, node_at_place, slot_at_place, slot_places, places, no_pipe, no_source, no_stage}
use Rattle.laws.specs.Table.{by_eq, clash, same, other}
use Rattle.laws.specs.Rows.{run_rows}
use Rattle.order.specs.Inv.{Live, shut, reader_of, port_of, pipe_of, queue_of, source_of, inlets_of, split_in, At, bit, count, is_source, segment_of, pieces_in, read_at, Pipes, SlotPipe, SharePipe, SharePort, Flow, Queued, Packs, Reads, Claimable, Once}
use Rattle.order.specs.State.{no}
use Rattle.order.specs.Lowers.{Connected, LowPorts, none_to}
use Rattle.order.specs.Views.{sames, others}
use Rattle.order.specs.Lay.{new_stage}

-- a pipeline that has not run
abbrev pub new_pipe : Bool → ℕ → Pipeline
new_pipe queued number = record { live = true; state = runnable; queued = queued; number = number }

-- a source that has not asked
abbrev pub new_source : Source
new_source = segment false false 0

module _ (q : ℕ) (on_stack : Bool) (number : ℕ) (P : List Pipeline) (S : List Source) (G : List Stage) (I : List (List ℕ)) (dead : (pipe_of P q).live ≡ false) where
  abbrev P' : List Pipeline
  P' = put no_pipe P q (new_pipe on_stack number)

  abbrev S' : List Source
  S' = put no_source S q new_source

  abbrev G' : List Stage
  G' = put no_stage G q (new_stage none)

  abbrev I' : List (List ℕ)
  I' = put [] I q []

  down : (r : ℕ) → r ≢ q → Live P' r → Live P r
  down r n l = rw other at l

  up : (r : ℕ) → Live P r → Live P' r
  up r l = by_eq r q (λ e. rw (e, same)) (λ n. rw other l)

  live_apart : (r : ℕ) → Live P r → r ≢ q
  live_apart r l e = clash (cc (dead))

  pub pipes_own : (j : Job) (A : List (Option ℕ)) → q < places → (q < slot_places → SlotPipe j A q new_source (new_stage none) []) → (slot_places ≤ q → is_leaf j (node_at_place q) ≡ true)
      → Pipes j A P S G I → Pipes j A P' S' G' I'
  pipes_own j A b sp lf w = record {
    bound = λ r l. by_eq r q (λ e. omega arith) (λ n. w.bound r (down r n l));
    slots = λ r l h. by_eq r q (λ e. rw e (simp sames (sp (rw e at h)))) (λ n. simp others (w.slots r (down r n l) h));
    shares = λ r l h. by_eq r q (λ e. rw e (simp sames (shared (lf (rw e at h))))) (λ n. simp others (w.shares r (down r n l) h));
    stages = λ r l h. by_eq r q (λ e. clash (cc (rw (e, same) at h))) (λ n. simp others (w.stages r (down r n l) (rw other at h)));
  }
    where
      shared : is_leaf j (node_at_place q) ≡ true → SharePipe j q new_source (new_stage none) []
      shared a = record { leaf = a; source = refl; none_in = refl; uncut = refl }

  pub ports_own : (j : Job) (A : List (Option ℕ)) (k : ℕ) (O : List Port) (Q : List (List Batch)) → (q < slot_places → Connected k O q → ⊥) → LowPorts j A k none_to P I O Q
      → LowPorts j A k none_to P' I' O Q
  ports_own j A k O Q alone w = record {
    alive = λ r l b c. by_eq r q (λ e. absurd (alone (rw e at b) (rw e at c))) (λ n. w.alive r (down r n l) b c);
    opens = λ x b t e. up x (w.opens x b t e);
    inlets = λ r h x l a. by_eq r q (λ e. absurd (rw (e, same) at a)) (λ n. w.inlets r h x (down r n l) (rw other at a));
    readers = λ x r h t e. inl (read x r h (w.readers x r h t e));
    slots = w.slots;
    roots = w.roots;
    absent = w.absent;
    blank = w.blank;
  }
    where
      read : (x r h : ℕ) → (Live P r × At (inlets_of I r) h x) ⊎ none_to x r h → Live P' r × At (inlets_of I' r) h x
      read x r h (inl y) = let n = live_apart r y.0 in (up r y.0, rw other y.1)
      read x r h (inr y) = absurd y

  -- a port that stays as it is
  pub share_own : (j : Job) (unb unb' : List Bool) (O O' : List Port) (Q Q' : List (List Batch)) (x : ℕ) (w : SharePort j no unb P S O Q x) → port_of O' x ≡ port_of O x → queue_of Q' x ≡ queue_of Q x
      → get false unb' (first_leaf j w.leaf) ≡ false → (slot_places ≤ q → segment_of j q ≢ (node_of j w.leaf).segment) → SharePort j no unb' P' S' O' Q' x
  share_own j unb unb' O O' Q Q' x w ep eq built far = record {
    leaf = w.leaf;
    split = w.split;
    is = w.is;
    below = w.below;
    is_leaf = w.is_leaf;
    pair = w.pair;
    shared = w.shared;
    built = built;
    holds = rw eq w.holds;
    opens = λ e. let y = w.opens (sym closed ∙ e) in let n = live_apart y.0 y.1.0 in
        (y.0, (up y.0 y.1.0, y.1.1, y.1.2), rw (eq, other no_source S q y.0 new_source n) y.2);
    shuts = λ e r y. by_eq r q (λ d. far (rw d at y.1) (rw d at y.2)) (λ n. w.shuts (sym closed ∙ e) r (down r n y.0, y.1, y.2));
    full = λ e h. rw eq (w.full (sym closed ∙ e) (sym reader ∙ h));
    unslotted = rw reader w.unslotted;
  }
    where
      closed : shut O' x ≡ shut O x
      closed = ap (λ (z : Port). z.closed) ep

      reader : reader_of O' x ≡ reader_of O x
      reader = ap (λ (z : Port). z.reader) ep

  pub flow_own : (j : Job) (A : List (Option ℕ)) (O : List Port) (Q : List (List Batch)) (F W : ℕ → List Row)
      → (q < slot_places → W q ≡ run_rows (pieces_in j q (split_in A (slot_at_place q)))) → Flow j A P S G I O Q places [] F W
      → Flow j A P' S' G' I' O Q places [] F W
  unfolding given
  flow_own j A O Q F W d w = record {
    port = w.port;
    share = w.share;
    pipes = λ r b l me. by_eq r q (λ e. rw e (simp sames (d (rw e at b)))) (λ n. simp others (w.pipes r b (down r n l) me));
    mine = λ b. absurd (omega arith);
    ends = λ r b l h. by_eq r q (λ e. clash (cc (rw (e, same) at h))) (λ n. w.ends r b (down r n l) (rw other at h));
    even = λ r i h x y l e a b. by_eq r q
        (λ d. clash (cc (rw (d, same) at e)))
        (λ n. w.even r i h x y (down r n l) (rw other at e) (rw other at a) (rw other at b));
  }

  pub queued_own : (who who' : ℕ → Type 0) (ready ready' : List ℕ) → ((r : ℕ) → who' r → who r) → (who' q → on_stack ≡ true) → count q ready' ≡ bit on_stack
      → ((r : ℕ) → r ≢ q → count r ready' ≡ count r ready) → Queued who P ready → Queued who' P' ready'
  queued_own who who' ready ready' narrow idle mine rest w = record {
    flags = λ r l h. by_eq r q (λ e. rw e (simp sames (idle (rw e at h)))) (λ n. simp others (w.flags r (down r n l) (narrow r h)));
    counts = λ r. by_eq r q (λ e. rw (e, same) mine) (λ n. rest r n ∙ rw other (w.counts r));
  }

  pub packs_own : (O : List Port) (Q : List (List Batch)) (C W : List InletSet) (E : List (List Seen)) (c u : InletSet) (z : List Seen) → Packs P S I O Q C W E
      → Packs P' S' I' O Q (put [] C q c) (put [] W q u) (put [] E q z)
  packs_own O Q C W E c u z w = record {
    size = λ r l e. let n = not_pack r e in simp other (w.size r (down r n l) (rw other at e));
    unique = λ r l e. let n = not_pack r e in simp other (w.unique r (down r n l) (rw other at e));
    within = λ r i l e h. let n = not_pack r e in rw other (w.within r i (down r n l) (rw other at e) (rw other at h));
    known = λ r i l e h. let n = not_pack r e in rw other (w.known r i (down r n l) (rw other at e) (rw other at h));
    waits = λ r i x l e a. let n = not_pack r e in simp other (w.waits r i x (down r n l) (rw other at e) (rw other at a));
    seen = λ r i x l e a. let n = not_pack r e in simp other (w.seen r i x (down r n l) (rw other at e) (rw other at a));
  }
    where
      not_pack : (r : ℕ) → source_of S' r ≡ pack → r ≢ q
      not_pack r e d = clash (cc (rw (d, same) at e))

  pub reads_own : (j : Job) (R : List Read) → ((r : ℕ) → r < length R → (read_at R r).leaf ≢ first_leaf j (node_at_place q)) → Reads j P S R → Reads j P' S' R
  reads_own j R unread w = record {
    leaf = w.leaf;
    once = w.once;
    owned = λ r p h e. let y = w.owned r p h e in let n = live_apart p y.1 in (y.0, up p y.1, rw (other no_source S q p new_source n) y.2, y.3);
    pended = λ p l h. by_eq p q (λ e. clash (cc (rw (e, same) at h))) (λ n. w.pended p (down p n l) (rw other at h));
    unasked = λ p e r b l h k. by_eq p q (λ d. rw d (unread r k)) (λ n. w.unasked p e r b (down p n l) (rw other at h) k);
    came = λ p e b l h c. by_eq p q (λ d. clash (cc (rw (d, same) at h))) (λ n. w.came p e b (down p n l) (rw other at h) (rw other at c));
    fresh = λ p e b l h. by_eq p q (λ d. let z : new_source ≡ segment false b e = rw (d, same) at h in (cc, cc)) (λ n. w.fresh p e b (down p n l) (rw other at h));
  }

  pub once_own : (j : Job) (next : ℕ) (unb unb' : List Bool) (R : List Read) → ((p : ℕ) → Live P p → is_source (source_of S p) ≡ true → segment_of j p ≢ segment_of j q)
      → ((l : ℕ) → Claimable j next unb' l → Claimable j next unb l) → ((l : ℕ) → is_leaf j l ≡ true → Claimable j next unb' l → segment_of j q ≢ (node_of j l).segment)
      → Once j next unb P S R → Once j next unb' P' S' R
  once_own j next unb unb' R alone narrow far w = record {
    single = λ a b l h c d e. by_eq a q
        (λ x. by_eq b q (λ y. x ∙ sym y) (λ y. absurd (alone b (down b y h) (rw other at d) (sym e ∙ ap (segment_of j) x))))
        (λ x. by_eq b q (λ y. absurd (alone a (down a x l) (rw other at c) (e ∙ ap (segment_of j) y))) (λ y. w.single a b (down a x l) (down b y h) (rw other at c) (rw other at d) e));
    unread = λ l r a b. w.unread l r a (narrow l b);
    unsourced = λ l p a b h c. by_eq p q (λ e. rw e (far l a b)) (λ n. w.unsourced l p a (narrow l b) (down p n h) (rw other at c));
  }
