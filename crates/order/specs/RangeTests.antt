-- The tests of check 12 say what the parts of `Fits` say.
use Rattle.std.specs.Prelude.{◌≡◌, refl, ◌⊎◌, Bool, true, false, ◌&&◌, ◌||◌, not, List, [], ◌∷◌, ℕ, zero, suc, ◌+◌, ◌<◌, ◌≤◌, length, eqb, leb, ltb, if◌then◌else◌}
use Rattle.std.proofs.Common.{sym, ap, ◌∙◌, inl, inr, arith, ltb-true, lt-ltb, leb-true, le-leb, eqb-true, eq-eqb}
use Rattle.std.proofs.Math.Option.{Option, none, some}
use Rattle.rules.specs.Table.{get, has, all, up_from, given, is_empty, is_some}
use Rattle.rules.specs.Job.{Kind, Node, Job, no_node, is_segment, is_pack, segment as aSegment, concat as aConcat, pack as aPack}
use Rattle.rules.specs.Plan.{Cell, node_of, names}
use Rattle.rules.specs.InletSet.{InletSet}
use Rattle.rules.specs.Port.{Batch, Seen, waiting, ready, ended}
use Rattle.rules.specs.Operators.{io, inlet, State, runnable, blocked, outlet, Source, segment, concat, pack}
use Rattle.rules.specs.Machine.{Machine, Stage, node_at_place, slot_at_place, slot_places, port_places, is_share_port, inlets_at, pieces_at, leaf_of_port}
use Rattle.rules.specs.Check.{set_ok, cell_ok, batch_ok, fed_below, fed_shared, is_waiting_seen, same_bool, pack_ok, is_concat, source_ok, stages, at_most, is_shared, stage_ok, state_ok}
use Rattle.laws.specs.Table.{by_option, clash}
use Rattle.laws.specs.Kids.{is_some_lem, some_is}
use Rattle.laws.specs.KidPlaces.{All-map}
use Rattle.order.specs.Inv.{bit, is_waits}
use Rattle.order.specs.RangeParts.{SetFits, Fed, FedShared, PackFits, SourceFits, StageFits, StateFits, CellFits, BatchFits}
use Rattle.order.specs.Each.{both3, both4, all_from, set_differ, set_below, set_ok_lem, true_all, all_true, below_all, any_some, any_here}

-- Tests taken apart and put together

pub three_and : (a b c : Bool) → a ≡ true → b ≡ true → c ≡ true → a && b && c ≡ true
three_and a b c p q r = rw (p, q, r)

pub four_and : (a b c d : Bool) → a ≡ true → b ≡ true → c ≡ true → d ≡ true → a && b && c && d ≡ true
four_and a b c d p q r s = rw (p, q, r, s)

module _ {A : Type 0} where
  -- in range the default does not matter
  pub get_any : (d e : A) (l : List A) (i : ℕ) → i < length l → get d l i ≡ get e l i
  get_any d e [] i h = absurd (omega arith)
  get_any d e (x ∷ l) zero h = refl
  get_any d e (x ∷ l) (suc i) h = get_any d e l i (omega arith)

-- Sets

pub set_fits : (n : ℕ) (s : InletSet) → set_ok n s ≡ true → SetFits n s
set_fits n s e = (set_differ n s e, λ i h. set_below n s i e h)

pub fits_set : (n : ℕ) (s : InletSet) → SetFits n s → set_ok n s ≡ true
fits_set n s f = set_ok_lem n s f.0 f.1

-- Batches

-- the test of a cell at a node
abbrev in_node : ℕ → Cell → Node → Bool
in_node n c x = is_segment x.kind && eqb x.segment c.segment && leb (c.row + n) x.rows

cell_fits : (j : Job) (n : ℕ) (c : Cell) → cell_ok j n c ≡ true → CellFits j n c
unfolding cell_ok
cell_fits j n c e =
    let f = any_some (in_node n c) no_node j.nodes e in
    let x = node_of j f.0 in
    let r = both3 (is_segment x.kind) (eqb x.segment c.segment) (leb (c.row + n) x.rows) f.2 in
    (f.0, f.1, r.0, eqb-true x.segment c.segment r.1, leb-true (c.row + n) x.rows r.2)

fits_cell : (j : Job) (n : ℕ) (c : Cell) → CellFits j n c → cell_ok j n c ≡ true
unfolding cell_ok
fits_cell j n c f =
    let x = node_of j f.0 in
    any_here (in_node n c) no_node j.nodes f.0 f.1
    (three_and (is_segment x.kind) (eqb x.segment c.segment) (leb (c.row + n) x.rows) f.2 (eq-eqb x.segment c.segment f.3)
    (le-leb (c.row + n) x.rows f.4))

pub batch_fits : (j : Job) (w : ℕ) (b : Batch) → batch_ok j w b ≡ true → BatchFits j w b
batch_fits j w b e =
    let r = both3 (ltb 0 b.rows) (leb (length b.cells) w) (all (cell_ok j b.rows) b.cells) e in
    let low : 0 < b.rows = ltb-true 0 b.rows r.0 in (
      omega arith,
      leb-true (length b.cells) w r.1,
      All-map _ (CellFits j b.rows) (cell_fits j b.rows) b.cells
          (true_all (cell_ok j b.rows) b.cells r.2),
    )

pub fits_batch : (j : Job) (w : ℕ) (b : Batch) → BatchFits j w b → batch_ok j w b ≡ true
fits_batch j w b f =
    three_and (ltb 0 b.rows) (leb (length b.cells) w) (all (cell_ok j b.rows) b.cells) (lt-ltb 0 b.rows (omega (arith, f.0)))
    (le-leb (length b.cells) w f.1)
    (all_true (cell_ok j b.rows) b.cells (All-map (CellFits j b.rows) _ (fits_cell j b.rows) b.cells f.2))

-- Feeding

pub fed_below_lem : (m : Machine) (p : ℕ) (xs : List ℕ) → fed_below m p xs ≡ true → Fed m.job p xs
unfolding fed_below
fed_below_lem m p [] e = tt
fed_below_lem m p (x ∷ xs) e =
    let k = is_some (node_at_place p) (node_of m.job (node_at_place x)).parent in
    let r = both4 (eqb (slot_at_place x) (slot_at_place p)) k (all (ltb x) xs) (fed_below m p xs) e in (
      eqb-true (slot_at_place x) (slot_at_place p) r.0,
      is_some_lem (node_at_place p) (node_of m.job (node_at_place x)).parent r.1,
      All-map _ (λ y. x < y) (λ y q. ltb-true x y q) xs (true_all (ltb x) xs r.2),
      fed_below_lem m p xs r.3,
    )

pub below_fed : (m : Machine) (p : ℕ) (xs : List ℕ) → Fed m.job p xs → fed_below m p xs ≡ true
unfolding fed_below
below_fed m p [] f = refl
below_fed m p (x ∷ xs) f =
    four_and (eqb (slot_at_place x) (slot_at_place p)) (is_some (node_at_place p) (node_of m.job (node_at_place x)).parent) (all (ltb x) xs) (fed_below m p xs)
    (eq-eqb (slot_at_place x) (slot_at_place p) f.0) (some_is (node_at_place p) (node_of m.job (node_at_place x)).parent f.1)
    (all_true (ltb x) xs (All-map (λ y. x < y) _ (λ y q. lt-ltb x y q) xs f.2)) (below_fed m p xs f.3)

pub fed_shared_lem : (m : Machine) (p : ℕ) (xs : List ℕ) → fed_shared m p xs ≡ true → FedShared m.job p xs
unfolding fed_shared
fed_shared_lem m p [] e = clash (cc)
fed_shared_lem m p (x ∷ []) e =
    let r = both4 (is_share_port x) (ltb x port_places) (ltb p slot_places) (names m.job (node_at_place p) (leaf_of_port x)) e in
    (x, refl, leb-true slot_places x r.0, ltb-true x port_places r.1, ltb-true p slot_places r.2, r.3)
fed_shared_lem m p (x ∷ y ∷ xs) e = clash (cc)

pub shared_fed : (m : Machine) (p : ℕ) (xs : List ℕ) → FedShared m.job p xs → fed_shared m p xs ≡ true
unfolding fed_shared
shared_fed m p xs f =
    let e = f.1 in
    rw e (four_and (is_share_port f.0) (ltb f.0 port_places) (ltb p slot_places) (names m.job (node_at_place p) (leaf_of_port f.0))
    (le-leb slot_places f.0 f.2) (lt-ltb f.0 port_places f.3) (lt-ltb p slot_places f.4) f.5)

-- Packs

same_bool_lem : (a : Bool) (s : Seen) → same_bool a (is_waiting_seen s) ≡ true → a ≡ is_waits s
same_bool_lem true waiting e = refl
same_bool_lem true ready e = clash (cc)
same_bool_lem true ended e = clash (cc)
same_bool_lem false waiting e = clash (cc)
same_bool_lem false ready e = refl
same_bool_lem false ended e = refl

bool_same : (a : Bool) (s : Seen) → a ≡ is_waits s → same_bool a (is_waiting_seen s) ≡ true
bool_same a waiting e = rw e
bool_same a ready e = rw e
bool_same a ended e = rw e

pub pack_fits : (m : Machine) (p : ℕ) → pack_ok m p ≡ true → PackFits (length (inlets_at m p)) (get [] m.waits p) (get [] m.seen p)
pack_fits m p e =
    let es = get [] m.seen p in
    let w = get [] m.waits p in
    let f : ℕ → Bool = λ i. same_bool (has i w) (is_waiting_seen (get ended es i)) in
    let r = both3 (eqb (length es) (length (inlets_at m p))) (set_ok (length es) w) (all f (up_from 0 (length es))) e in
    let z : length es ≡ length (inlets_at m p) = eqb-true (length es) (length (inlets_at m p)) r.0 in
    record {
      size = z;
      set = rw z at (set_fits (length es) w r.1);
      waits = λ i h.
          rw (get_any waiting ended es i (omega arith)) (same_bool_lem (has i w) (get ended es i) (below_all f (length es) i r.2 (omega arith)));
    }

pub fits_pack : (m : Machine) (p : ℕ) → PackFits (length (inlets_at m p)) (get [] m.waits p) (get [] m.seen p) → pack_ok m p ≡ true
fits_pack m p v =
    let es = get [] m.seen p in
    let w = get [] m.waits p in
    let z = v.size in
    three_and (eqb (length es) (length (inlets_at m p))) (set_ok (length es) w) (all (λ i. same_bool (has i w) (is_waiting_seen (get ended es i))) (up_from 0 (length es)))
    (eq-eqb (length es) (length (inlets_at m p)) z) (rw z (fits_set (length (inlets_at m p)) w v.set))
    (all_from (λ i. same_bool (has i w) (is_waiting_seen (get ended es i))) 0 (length es) (λ i l u.
    bool_same (has i w) (get ended es i) (v.waits i (omega (arith, z)) ∙ ap is_waits (get_any waiting ended es i (omega arith)))))

-- Sources

empty_is : {A : Type 0} (l : List A) → is_empty l ≡ true → l ≡ []
unfolding is_empty
empty_is [] e = refl
empty_is (x ∷ l) e = clash (cc)

abbrev joins : Machine → ℕ → Kind → Bool
joins m p k = if is_concat k then fed_below m p (inlets_at m p) else is_segment k && fed_shared m p (inlets_at m p)

abbrev Joins : Machine → ℕ → Kind → Type 0
Joins m p k = ((is_concat k ≡ true) × Fed m.job p (inlets_at m p)) ⊎ ((is_segment k ≡ true) × FedShared m.job p (inlets_at m p))

join_fits_lem : (m : Machine) (p : ℕ) (k : Kind) → joins m p k ≡ true → Joins m p k
join_fits_lem m p aSegment e = inr (refl, fed_shared_lem m p (inlets_at m p) e)
join_fits_lem m p aConcat e = inl (refl, fed_below_lem m p (inlets_at m p) e)
join_fits_lem m p aPack e = clash (cc)

fits_join : (m : Machine) (p : ℕ) (k : Kind) → Joins m p k → joins m p k ≡ true
fits_join m p aSegment (inl f) = clash (cc)
fits_join m p aSegment (inr f) = shared_fed m p (inlets_at m p) f.1
fits_join m p aConcat (inl f) = below_fed m p (inlets_at m p) f.1
fits_join m p aConcat (inr f) = clash (cc)
fits_join m p aPack (inl f) = clash (cc)
fits_join m p aPack (inr f) = clash (cc)

pub source_fits : (m : Machine) (p : ℕ) (k : Kind) (s : Source) → source_ok m p k s ≡ true
    → SourceFits m.job m.active p k s (inlets_at m p) (get [] m.waits p) (get [] m.seen p)
source_fits m p k (segment a b e) q =
    let r = both3 (is_segment k) (is_empty (inlets_at m p)) (leb e (length (pieces_at m p))) q in
    (r.0, empty_is (inlets_at m p) r.1, leb-true e (length (pieces_at m p)) r.2)
source_fits m p k (concat i) q =
    let r = both3 (leb i (length (inlets_at m p))) (ltb p slot_places) (joins m p k) q in
    (leb-true i (length (inlets_at m p)) r.0, ltb-true p slot_places r.1, join_fits_lem m p k r.2)
source_fits m p k pack q =
    let r = both4 (is_pack k) (ltb p slot_places) (fed_below m p (inlets_at m p)) (pack_ok m p) q in
    (r.0, ltb-true p slot_places r.1, fed_below_lem m p (inlets_at m p) r.2, pack_fits m p r.3)

pub fits_source : (m : Machine) (p : ℕ) (k : Kind) (s : Source)
    → SourceFits m.job m.active p k s (inlets_at m p) (get [] m.waits p) (get [] m.seen p) → source_ok m p k s ≡ true
unfolding is_empty
fits_source m p k (segment a b e) f =
    let z = f.1 in
    three_and (is_segment k) (is_empty (inlets_at m p)) (leb e (length (pieces_at m p))) f.0 (rw z) (le-leb e (length (pieces_at m p)) f.2)
fits_source m p k (concat i) f =
    three_and (leb i (length (inlets_at m p))) (ltb p slot_places) (joins m p k) (le-leb i (length (inlets_at m p)) f.0) (lt-ltb p slot_places f.1) (fits_join m p k f.2)
fits_source m p k pack f =
    four_and (is_pack k) (ltb p slot_places) (fed_below m p (inlets_at m p)) (pack_ok m p) f.0 (lt-ltb p slot_places f.1) (below_fed m p (inlets_at m p) f.2) (fits_pack m p f.3)

-- Stages

at_most_lem : (n i : ℕ) (o : Option ℕ) → at_most n o ≡ true → o ≡ some i → i ≤ n
at_most_lem n i o e q = leb-true i n (rw q at e)

most_at : (n : ℕ) (o : Option ℕ) → ((i : ℕ) → o ≡ some i → i ≤ n) → at_most n o ≡ true
most_at n none h = refl
most_at n (some i) h = le-leb i n (h i refl)

or_else : (a b : Bool) → a || b ≡ true → b ≡ false → a ≡ true
or_else true b e f = refl
or_else false b e f = sym f ∙ e

else_or : (a b : Bool) → (b ≡ true → a ≡ true) → a || not b ≡ true
else_or true b h = refl
else_or false true h = h refl
else_or false false h = refl

stage_bit : (x : Stage) → stages x ≡ bit (given x.cut)
unfolding given
stage_bit x = by_option x.cut (λ e. rw e) (λ n e. rw e)

pub stage_fits : (m : Machine) (p : ℕ) (x : Stage) → stage_ok m p x ≡ true → StageFits m.job m.active p x (inlets_at m p)
unfolding given
stage_fits m p x q =
    let r = both4 (at_most (length (pieces_at m p)) x.cut) (is_shared m p || not (given x.cut)) (given x.cut || not x.continuing)
    (at_most (stages x) x.finishing) q in
    record {
      cut = λ n e. (
        at_most_lem (length (pieces_at m p)) n x.cut r.0 e,
        fed_shared_lem m p (inlets_at m p)
            (or_else (is_shared m p) (not (given x.cut)) r.1 (rw e)),
      );
      continuing = λ e. or_else (given x.cut) (not x.continuing) r.2 (rw e);
      finishing = λ n e. omega (arith, at_most_lem (stages x) n x.finishing r.3 e, stage_bit x);
    }

pub fits_stage : (m : Machine) (p : ℕ) (x : Stage) → StageFits m.job m.active p x (inlets_at m p) → stage_ok m p x ≡ true
unfolding given
fits_stage m p x f =
    four_and (at_most (length (pieces_at m p)) x.cut) (is_shared m p || not (given x.cut)) (given x.cut || not x.continuing)
    (at_most (stages x) x.finishing)
    (most_at (length (pieces_at m p)) x.cut (λ n e. (f.cut n e).0))
    (else_or (is_shared m p) (given x.cut) (λ e. by_option x.cut (λ d. clash (cc)) (λ n d. shared_fed m p (inlets_at m p) (f.cut n d).1)))
    (else_or (given x.cut) x.continuing f.continuing) (most_at (stages x) x.finishing (λ n e. omega (arith, f.finishing n e, stage_bit x)))

-- States

pub state_fits : (p n : ℕ) (s : State) → state_ok p n s ≡ true → StateFits p n s
state_fits p n runnable e = tt
state_fits p n (blocked io) e = tt
state_fits p n (blocked (inlet i)) e = ltb-true i n e
state_fits p n outlet e = ltb-true p slot_places e

pub fits_state : (p n : ℕ) (s : State) → StateFits p n s → state_ok p n s ≡ true
fits_state p n runnable f = refl
fits_state p n (blocked io) f = refl
fits_state p n (blocked (inlet i)) f = lt-ltb i n f
fits_state p n outlet f = lt-ltb p slot_places f
