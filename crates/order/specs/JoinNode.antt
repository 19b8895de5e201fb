-- An inner node is lowered: its kept children are connected, and its pipeline is laid.
use Rattle.std.specs.Prelude.{◌≡◌, refl, ◌≢◌, ◌⊎◌, true, false, ℕ, zero, suc, ◌<◌, ◌≤◌, length}
use Rattle.std.proofs.Common.{sym, ap, ◌∙◌, inl, inr, arith, zero-add}
use mathlib.Core.List.{List, [], ◌∷◌, map, flat_map}
use Rattle.std.proofs.Math.Option.{none, some}
use Rattle.rules.specs.Table.{has, put}
use Rattle.rules.specs.Job.{Job, Kind, segment as aSegment, concat as aConcat, pack as aPack}
use Rattle.rules.specs.Plan.{Piece, Row, node_of, root_of, keeps, kept_kids}
use Rattle.rules.specs.Operators.{Source, segment, concat, pack, runnable}
use Rattle.rules.specs.Machine.{Machine, Pipeline, Port, pipe, place, node_at_place, slot_at_place, no_pipe}
use Rattle.rules.specs.Pipelines.{lay, fresh}
use Rattle.rules.specs.Shares.{empty_port}
use Rattle.rules.specs.Lower.{join_from, lower_join}
use Rattle.laws.specs.Table.{by_bool, by_eq, clash, same, other}
use Rattle.laws.specs.JobOk.{JobOk}
use Rattle.laws.specs.Rows.{node_rows, sides}
use Rattle.laws.specs.KidRows.{concat_rows, pack_sides, pack_lengths}
use Rattle.order.specs.Inv.{Live, There, reader_of, port_of, pipe_of, state_of, inlets_of, split_in, At, is_source, pieces_in, join, will, SlotPipe, Form}
use Rattle.order.specs.Base.{place_node, place_slot, place_apart, at_map}
use Rattle.order.specs.Views.{state_same, state_other}
use Rattle.order.specs.Lowers.{Progress, Lowers, none_to}
use Rattle.order.specs.Laying.{Laying, laying, lowers}
use Rattle.order.specs.Lay.{new_stage}
use Rattle.order.specs.Lays.{laying_on, lay_shape, lay_ok}
use Rattle.order.specs.KeptKids.{map_at, kept_rise, kid_at, at_kid}
use Rattle.order.specs.Join.{toward, LaidOnly, KidsWired, joins_ok}
use Rattle.order.specs.Lists.{at_has, has_at}

-- the source of an inner node
pub data JoinSource : Kind → Source → Type 0 where
  as_concat : JoinSource aConcat (concat 0)
  as_pack : JoinSource aPack pack

-- rows of ports at the places of nodes
join_rows : (F : ℕ → List Row) (k : ℕ) (g : ℕ → List Row) (cs : List ℕ) → ((i c : ℕ) → At cs i c → F (place k c) ≡ g c) → join F (map (place k) cs) ≡ flat_map g cs
unfolding flat_map
join_rows F k g [] h = refl
join_rows F k g (c ∷ cs) h = rw (h 0 c refl, join_rows F k g cs (λ i d a. h (suc i) d a))

-- the same for the rows one by one
map_rows : (F : ℕ → List Row) (k : ℕ) (g : ℕ → List Row) (cs : List ℕ) → ((i c : ℕ) → At cs i c → F (place k c) ≡ g c) → map F (map (place k) cs) ≡ map g cs
map_rows F k g [] h = refl
map_rows F k g (c ∷ cs) h = rw (h 0 c refl, map_rows F k g cs (λ i d a. h (suc i) d a))

-- it is none of a segment
plain_source : (kind : Kind) (src : Source) → JoinSource kind src → is_source src ≡ false
plain_source aConcat (concat zero) as_concat = refl
plain_source aPack pack as_pack = refl
plain_source aSegment src is = elim is [ ]
plain_source aConcat (segment _ _ _) is = elim is [ ]
plain_source aConcat (concat (suc _)) is = elim is [ ]
plain_source aConcat pack is = elim is [ ]
plain_source aPack (segment _ _ _) is = elim is [ ]
plain_source aPack (concat _) is = elim is [ ]

-- a concat begins at its first inlet
first_inlet : (kind : Kind) (src : Source) → JoinSource kind src → (c : ℕ) → src ≡ concat c → c ≡ 0
first_inlet aConcat (concat zero) as_concat c e = cc
first_inlet aPack pack as_pack c e = clash (cc)
first_inlet aSegment src is c e = elim is [ ]
first_inlet aConcat (segment _ _ _) is c e = elim is [ ]
first_inlet aConcat (concat (suc _)) is c e = elim is [ ]
first_inlet aConcat pack is c e = elim is [ ]
first_inlet aPack (segment _ _ _) is c e = elim is [ ]
first_inlet aPack (concat _) is c e = elim is [ ]

join_form : (j : Job) (p s : ℕ) (kind : Kind) (src : Source) (xs : List ℕ) → JoinSource kind src → xs ≡ map (place (slot_at_place p)) (kept_kids j (node_at_place p) s)
    → Form j p s kind src (new_stage none) xs
join_form j p s aConcat (concat zero) xs as_concat e = (e, refl)
join_form j p s aPack pack xs as_pack e = (e, refl)
join_form j p s aSegment src xs is e = elim is [ ]
join_form j p s aConcat (segment _ _ _) xs is e = elim is [ ]
join_form j p s aConcat (concat (suc _)) xs is e = elim is [ ]
join_form j p s aConcat pack xs is e = elim is [ ]
join_form j p s aPack (segment _ _ _) xs is e = elim is [ ]
join_form j p s aPack (concat _) xs is e = elim is [ ]

-- the rows that come out of the new pipeline
join_will : (j : Job) (ok : JobOk j) (F : ℕ → List Row) (k n s : ℕ) (ps : List Piece) (kind : Kind) (src : Source) → JoinSource kind src
    → (node_of j n).kind ≡ kind
    → s < length j.splits → n < length j.nodes → ((i c : ℕ) → At (kept_kids j n s) i c → F (place k c) ≡ node_rows j c s)
    → node_rows j n s ≡ will F ps src (new_stage none) (map (place k) (kept_kids j n s))
join_will j ok F k n s ps aConcat (concat zero) as_concat e is b h = concat_rows j ok n s is b e
    ∙ sym (join_rows F k (λ c. node_rows j c s) (kept_kids j n s) h)
join_will j ok F k n s ps aPack pack as_pack e is b h = pack_sides j ok n s b e ∙ ap sides (sym (map_rows F k (λ c. node_rows j c s) (kept_kids j n s) h))
join_will j ok F k n s ps aSegment src it e is b h = elim it [ ]
join_will j ok F k n s ps aConcat (segment _ _ _) it e is b h = elim it [ ]
join_will j ok F k n s ps aConcat (concat (suc _)) it e is b h = elim it [ ]
join_will j ok F k n s ps aConcat pack it e is b h = elim it [ ]
join_will j ok F k n s ps aPack (segment _ _ _) it e is b h = elim it [ ]
join_will j ok F k n s ps aPack (concat _) it e is b h = elim it [ ]

-- a pack's fields have equally many rows
join_even : (j : Job) (ok : JobOk j) (n s c d : ℕ) (kind : Kind) (src : Source) → JoinSource kind src → (node_of j n).kind ≡ kind → src ≡ pack → (node_of j c).parent ≡ some n
    → (node_of j d).parent ≡ some n → length (node_rows j c s) ≡ length (node_rows j d s)
join_even j ok n s c d aConcat (concat zero) as_concat e z p q = clash (cc)
join_even j ok n s c d aPack pack as_pack e z p q = pack_lengths j ok n s c e p ∙ sym (pack_lengths j ok n s d e q)
join_even j ok n s c d aSegment src is e z p q = elim is [ ]
join_even j ok n s c d aConcat (segment _ _ _) is e z p q = elim is [ ]
join_even j ok n s c d aConcat (concat (suc _)) is e z p q = elim is [ ]
join_even j ok n s c d aConcat pack is e z p q = elim is [ ]
join_even j ok n s c d aPack (segment _ _ _) is e z p q = elim is [ ]
join_even j ok n s c d aPack (concat _) is e z p q = elim is [ ]

module _ (k s n : ℕ) (out : ℕ → List Row) (told : ℕ) (m m₁ : Machine) (kind : Kind) (src : Source) (is : JoinSource kind src) (ek : (node_of m₁.job n).kind ≡ kind)
    (b : n < length m₁.job.nodes) (kp : keeps m₁.job n s ≡ true) (pr : Progress m₁.job k s n m.pipes m.ports)
    (jd : KidsWired k n 0 (kept_kids m₁.job n s) m m₁) (v : Laying k s n (toward k n (map (place k) (kept_kids m₁.job n s))) out told m₁) where
  abbrev j : Job
  j = m₁.job

  abbrev cs : List ℕ
  cs = kept_kids m₁.job n s

  abbrev xs : List ℕ
  xs = map (place k) cs

  -- the node has a place
  few : n < 24
  few = omega (arith, b, v.job.nodes_high)

  -- a kept child stands before the node
  kid_low : (h c : ℕ) → At cs h c → c < n
  kid_low h c a = (v.job.up c n (kid_at j n s h c a).0).0

  -- a node that is not a child is none of those connected
  not_kid : (c : ℕ) → (node_of j c).parent ≢ some n → (h d : ℕ) → At cs h d → place k c ≢ place k d
  not_kid c e h d a = place_apart k c d (λ z. e (rw z (kid_at j n s h d a).0))

  -- what stands behind is no child
  not_below : (c : ℕ) → n ≤ c → (node_of j c).parent ≢ some n
  not_below c h e = let z = (v.job.up c n e).0 in omega arith

  -- its place is free
  dead : (pipe_of m₁.pipes (place k n)).live ≡ false
  dead = jd.live (place k n) ∙ (pr.unlaid n (omega arith) few).0

  -- and has no port
  gone : (port_of m₁.ports (place k n)).there ≡ false
  gone = rw (jd.port_far (place k n) (not_kid n (not_below n (omega arith)))) (pr.unlaid n (omega arith) few).1

  -- what is laid there
  slot_pipe : SlotPipe j m₁.active (place k n) src (new_stage none) xs
  slot_pipe = record {
    split = s;
    is = rw (place_slot k n few) v.split;
    node = rw (place_node k n few) b;
    keep = rw (place_node k n few) kp;
    form = rw (place_node k n few, ek) (join_form j (place k n) s kind src xs is (rw (place_slot k n few, place_node k n few)));
  }

  -- its inlets are connected
  inlets_there : (h x : ℕ) → At xs h x → There m₁.ports x × (reader_of m₁.ports x ≡ pipe (place k n) h)
  inlets_there h x a =
      let y = map_at (place k) cs h x a in
      let e : port_of m₁.ports x ≡ empty_port (pipe (place k n) h) = rw y.2 (jd.near h y.0 y.1 ∙ rw (zero-add h)) in
      (rw e, ap (λ (z : Port). z.reader) e)

  -- their rows are those of the children
  kid_rows : (h c : ℕ) → At cs h c → v.F (place k c) ≡ node_rows j c s
  kid_rows h c a = (v.rows c (let z = kid_low h c a in omega arith)).0

  -- the split is one of the job
  splits_below : s < length j.splits
  splits_below = let z = (v.slots.active k s v.split).1 in let y = v.slots.bound in omega arith

  -- a pack's inlets have equally many
  even : src ≡ pack → (a c x y : ℕ) → At xs a x → At xs c y → length (v.F x) ≡ length (v.F y)
  even e a c x y p q =
      let f = map_at (place k) cs a x p in
      let g = map_at (place k) cs c y q in
      rw (f.2, g.2, kid_rows a f.0 f.1, kid_rows c g.0 g.1)
      (join_even j v.job n s f.0 g.0 kind src is ek e (kid_at j n s a f.0 f.1).0 (kid_at j n s c g.0 g.1).0)

  -- the pipeline is laid
  laid : Laying k s n none_to out told (lay (place k n) src none xs m₁)
  laid = lay_ok k s n n (toward k n xs) out told m₁ src none xs v few dead gone (plain_source kind src is) (first_inlet kind src is) slot_pipe inlets_there (λ x q h t. t)
      ((v.rows n b).1
      ∙ join_will j v.job v.F k n s (pieces_in j (place k n) (split_in m₁.active (slot_at_place (place k n)))) kind src is ek splits_below b kid_rows)
      even

  -- the node and its children are lowered
  progress : Progress j k s (suc n) (put no_pipe m₁.pipes (place k n) fresh) m₁.ports
  progress = record {
    laid = λ c h l a. by_eq c n (λ e. rw (e, same)) (λ d. let z = place_apart k c n d in rw other (jd.live (place k c) ∙ pr.laid c (omega arith) l a));
    unlaid = λ c h l. let z = place_apart k c n (λ e. omega arith) in let y = pr.unlaid c (omega arith) l in
        (rw other (jd.live (place k c) ∙ y.0), rw (jd.port_far (place k c) (not_kid c (not_below c (omega arith)))) y.1);
    joined = λ c q h a d g. by_eq q n
        (λ e. let y = at_kid j n s c (rw e at d) a in rw (jd.near y.0 c y.1))
        (λ e. rw (jd.port_far (place k c) (not_kid c (λ z. e (cc)))) (pr.joined c q (let z = (v.job.up c q d).0 in omega arith) a d (omega arith)));
    unjoined = λ c q d h. rw (jd.port_far (place k c) (not_kid c (λ z. let y : q ≡ n = cc in omega arith))) (pr.unjoined c q d (omega arith));
    rootless = rw (jd.port_far (place k (root_of j)) (not_kid (root_of j) (λ z. clash (cc v.job.root)))) pr.rootless;
    calm = λ c h l t. by_eq c n (λ e. rw (e, state_same)) (λ d. let z = place_apart k c n d in rw state_other (resting c h (rw other at l) t));
  }
    where
      resting : (c : ℕ) → c < 24 → Live m₁.pipes (place k c) → (port_of m₁.ports (place k c)).there ≡ false → state_of m₁.pipes (place k c) ≡ runnable
      resting c h l t = by_bool (has c cs)
          (λ e. let y = has_at cs c e in clash (cc (t, jd.near y.0 c y.1)))
          (λ e. let f : (h d : ℕ) → At cs h d → place k c ≢ place k d = λ a d g. place_apart k c d (λ z. clash (cc (e, at_has cs a d g))) in
          ap (λ (z : Pipeline). z.state) (jd.pipe_far (place k c) f)
          ∙ pr.calm c h (sym (jd.live (place k c)) ∙ l) (rw (jd.port_far (place k c) f) at t))

  -- the node is lowered
  node_ok : Lowers k s (suc n) none_to out told (lay (place k n) src none xs m₁)
  node_ok = let e = lay_shape k s n n (toward k n xs) out told m₁ src none xs v few dead gone in
      lowers k s (suc n) none_to out told (lay (place k n) src none xs m₁) (laying_on k s n none_to out told (lay (place k n) src none xs m₁) laid) (rw e progress)

  -- the job is the same
  node_job : (lay (place k n) src none xs m₁).job ≡ j
  node_job = rw (lay_shape k s n n (toward k n xs) out told m₁ src none xs v few dead gone)

module _ (k s n : ℕ) (out : ℕ → List Row) (told : ℕ) (m : Machine) (kind : Kind) (src : Source) (is : JoinSource kind src) (ek : (node_of m.job n).kind ≡ kind) (v : Lowers k s n none_to out told m)
    (b : n < length m.job.nodes) (kp : keeps m.job n s ≡ true) where
  abbrev kept_kids_lem : List ℕ
  kept_kids_lem = kept_kids m.job n s

  abbrev joined : Machine
  joined = join_from k n 0 kept_kids_lem m

  -- no port names the node's pipeline yet
  wider : Laying k s n (toward k n (map (place k) kept_kids_lem)) out told m
  wider = let w = laying k s n none_to out told m v in record { F = w.F; W = w.W; job = w.job; slot_below = w.slot_below; split = w.split; is_next = w.is_next; slots = w.slots; pipes = w.pipes; ports = record { alive = w.ports.alive; opens = w.ports.opens; inlets = w.ports.inlets; readers = λ x q h t e. inl (only x q h (w.ports.readers x q h t e)); slots = w.ports.slots; roots = w.ports.roots; absent = w.ports.absent; blank = w.ports.blank }; shares = w.shares; flow = w.flow; past = w.past; splits = w.splits; queued = w.queued; waits = w.waits; dirt = w.dirt; quiet = w.quiet; packs = w.packs; reads = w.reads; once = w.once; delivered = w.delivered; numbers = w.numbers; tells = w.tells; sound = w.sound; rows = w.rows; claims = w.claims }
    where
      only : (x q h : ℕ) → (Live m.pipes q × At (inlets_of m.inlets q) h x) ⊎ none_to x q h → Live m.pipes q × At (inlets_of m.inlets q) h x
      only x q h (inl y) = y
      only x q h (inr y) = absurd y

  -- the children wait for their ports
  kids_wait : (h c : ℕ) → At kept_kids_lem h c → LaidOnly k c m
  kids_wait h c a =
      let y = kid_at m.job n s h c a in
      let z = v.job.up c n y.0 in
      let few : c < 24 = omega (arith, z.0, z.1, v.job.nodes_high) in
      let alive = v.progress.laid c z.0 (omega (arith, z.0, b)) y.1 in
      let gone = v.progress.unjoined c n y.0 (omega arith) in
      record { few = few; alive = alive; gone = gone; calm = v.progress.calm c few alive gone }

  -- the children are connected
  both : Laying k s n (toward k n (map (place k) kept_kids_lem)) out told joined × KidsWired k n 0 kept_kids_lem m joined
  both = joins_ok k s n n (map (place k) kept_kids_lem) out told 0 0 kept_kids_lem m (kept_rise m.job n s) kids_wait
      (λ h c a. rw (zero-add h) (at_map (place k) kept_kids_lem h c a)) wider

  -- by which the job does not change
  same_job : joined.job ≡ m.job
  same_job = both.1.job

  -- an inner node is lowered
  pub join_both : Lowers k s (suc n) none_to out told (lower_join src k s n m) × ((lower_join src k s n m).job ≡ m.job)
  join_both =
      let e = same_job in
      let ce : kept_kids joined.job n s ≡ kept_kids_lem = ap (λ i. kept_kids i n s) e in
      let jd : KidsWired k n 0 (kept_kids joined.job n s) m joined = rw ce both.1 in
      let ly : Laying k s n (toward k n (map (place k) (kept_kids joined.job n s))) out told joined = rw ce both.0 in (
        rw ce at (node_ok k s n out told m joined kind src is (rw e ek) (rw e b) (rw e kp) (rw e v.progress) jd ly),
        (rw ce at (node_job k s n out told m joined kind src is (rw e ek) (rw e b) (rw e kp) (rw e v.progress) jd ly)) ∙ e,
      )
