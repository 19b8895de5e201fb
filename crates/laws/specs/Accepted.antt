-- What opening accepts is sound: every job read from bytes has what `JobOk` says.
use Rattle.std.specs.Prelude.{◌≡◌, refl, ◌≢◌, true, false, length, eqb}
use Rattle.std.proofs.Common.{sym, ◌∙◌, inl, inr, arith, eqb-true}
use Rattle.std.proofs.Math.Path.{subst}
use mathlib.Core.List.{List, [], ◌∷◌}
use Rattle.std.proofs.Math.Option.{some}
use Prim.Native.Nat.{ℕ, zero, suc, ◌-◌, ◌<◌, ◌≤◌}
use Rattle.std.proofs.lemmas.List.{length-reverse}
use Rattle.std.proofs.lemmas.Bool.{eqb-false, not-false}
use Rattle.rules.specs.Table.{get, is_empty}
use Rattle.rules.specs.Job.{Bytes, Record, Job, Draft, no_draft, Reading, no_reading, Node, Split, Refusal, Outcome, refused_by, accepted, node_at}
use Rattle.rules.specs.Job.{accept, restore, next_record, read_all, records, finish, parse, labels, plan_rows}
use Rattle.rules.specs.Check.{labels_ok}
use Rattle.rules.specs.Plan.{root_of, node_of, no_split}
use Rattle.laws.specs.Table.{by_option, clash}
use Rattle.laws.specs.JobOk.{SplitOk, JobOk}
use Rattle.laws.specs.Rising.{single}
use Rattle.laws.specs.Kids.{same_rows}
use Rattle.laws.specs.Tree.{TreeOk, FreeOk, last_alone}
use Rattle.laws.specs.Draft.{SplitFits, DraftOk, unless_passed, RecordOk, restore_ok}
use Rattle.laws.specs.Labels.{ReadingOk, Does, falling_pass, accept_reads}
use Rattle.laws.specs.Reading.{record_gives}
use Rattle.laws.specs.Places.{placed, place_size, place_bare, place_parent, placed_tree, placed_root, placed_kid}

module _ {ℓ} {P : Type ℓ} where
  -- cases of an outcome, with the equation
  abbrev pub by_outcome : {A : Type 0} (o : Outcome A) → ((r : Refusal) → o ≡ refused_by r → P) → ((x : A) → o ≡ accepted x → P) → P
  by_outcome (refused_by n) r a = r n refl
  by_outcome (accepted x) r a = a x refl

-- The records

-- what each accepted record keeps, all of them keep
module _ {A : Type 0} (f : Record → A → Outcome A) (Ok : A → Type 0) (keep : (r : Record) (x y : A) → RecordOk r → Ok x → f r x ≡ accepted y → Ok y) where
  -- one record and then the others
  first_keeps : (n b : ℕ) (bs : List ℕ) (x y : A) → Bytes (b ∷ bs) → Ok x → read_all f (suc n) x (b ∷ bs) ≡ accepted y
      → ((c : A) (rest : List ℕ) → Bytes rest → Ok c → read_all f n c rest ≡ accepted y → Ok y) → Ok y
  unfolding read_all
  first_keeps n b bs x y h v q ih =
      by_option (next_record (b ∷ bs)) (λ o. clash (cc))
      (λ r o.
      let g : RecordOk r.0 × Bytes r.1 = record_gives (b ∷ bs) r h o in
      by_outcome (f r.0 x) (λ n a. clash (cc)) (λ c a. ih c r.1 g.1 (keep r.0 x c g.0 v a) (rw (o, a, read_all) at q)))

  pub all_keep : (n : ℕ) (x y : A) (bytes : List ℕ) → Bytes bytes → Ok x → read_all f n x bytes ≡ accepted y → Ok y
  unfolding read_all
  all_keep zero x y bytes h v q = subst Ok (cc) v
  all_keep (suc n) x y [] h v q = subst Ok (cc) v
  all_keep (suc n) x y (b ∷ bs) h v q = first_keeps n b bs x y h v q (λ c rest. all_keep n c y rest)

-- no record yet
pub start_ok : DraftOk no_draft
start_ok = record {
  slots_high = omega arith;
  nodes_high = omega arith;
  splits_high = omega arith;
  tree = record {
    up = λ n q e. clash (cc);
    inner = λ n q e. clash (cc);
    joined = λ n h e. absurd (omega arith);
    leaf = λ n h e. absurd (omega arith);
    rows_high = λ n. omega arith;
    width_high = λ n. omega arith;
    one_count = λ l k h. absurd (omega arith);
    within = λ n q i e h k. clash (cc);
    before = λ q h e. absurd (omega arith);
  };
  free = record { falls = tt; alone = λ i h. refl; all = λ i h e. absurd (omega arith) };
  splits = λ s h. absurd (omega arith);
}

pub reading_ok : ReadingOk no_reading
reading_ok = record { draft = start_ok; size = refl; falls = tt; most = omega arith }

-- what every restored record keeps, the records of the job bytes keep
module _ (Ok : Draft → Type 0) (keep : (r : Record) (d e : Draft) → RecordOk r → Ok d → restore r d ≡ accepted e → Ok e) where
  read_keeps : (x y : Reading) → Does x y → Ok x.draft → Ok y.draft
  read_keeps x y (inl e) v = rw e v
  read_keeps x y (inr t) v = keep t.0 x.draft y.draft t.1 v t.2

  pub records_keep : (bytes : List ℕ) (x : Reading) → Bytes bytes → Ok no_draft → records bytes ≡ accepted x → ReadingOk x × Ok x.draft
  records_keep bytes x h v q =
      all_keep accept (λ y. ReadingOk y × Ok y.draft)
      (λ r y z o w e. let t = accept_reads y w.0 r z o e in (t.ok, read_keeps y z t.does w.1)) (length bytes) no_reading x bytes h (reading_ok, v) q

-- The end

-- where one node is parentless it is the last
one_root : (ns : List Node) (free : List ℕ) → TreeOk ns → FreeOk ns free → length free ≡ 1 → (n : ℕ) → n < length ns - 1 → (q : ℕ) × ((node_at ns n).parent ≡ some q)
one_root ns free t f e n h =
    by_option (node_at ns n).parent
    (λ o. absurd (omega (arith, h, single free n (length ns - 1) e (f.all n (omega arith) o) (f.all (length ns - 1) (omega arith) (last_alone ns t (omega arith))))))
    (λ q o. (q, o))

-- a split fits the root
split_fits : (j : Job) (rows : ℕ) (s : Split) → (node_of j (root_of j)).rows ≡ rows → SplitFits rows s → SplitOk j s
split_fits j rows s e f = record { order = f.order; within = rw e f.within; runs = f.runs; few = f.few }

-- a sound draft with one root makes a sound job
pub placed_ok : (d : Draft) → DraftOk d → d.slots ≢ 0 → 1 ≤ length d.nodes → length d.free ≡ 1 → JobOk (record { slots = d.slots; nodes = placed d.nodes; splits = d.splits })
placed_ok d v s l f =
    let ns : List Node = d.nodes in
    let t : TreeOk (placed ns) = placed_tree ns v.tree in
    let e : length (placed ns) ≡ length ns = place_size 0 ns ns in
    record {
      slots_low = omega arith;
      slots_high = v.slots_high;
      nodes_low = omega arith;
      nodes_high = omega (arith, e, v.nodes_high);
      splits_high = v.splits_high;
      up = t.up;
      root = last_alone (placed ns) t (omega arith);
      under = λ n h.
          let p : (q : ℕ) × ((node_at ns n).parent ≡ some q) = one_root ns d.free v.tree v.free f n (rw e at h) in
          (p.0, place_parent 0 ns ns n ∙ p.1);
      inner = t.inner;
      within = t.within;
      joined = t.joined;
      leaf = t.leaf;
      at_root = rw e (placed_root ns v.tree l);
      at_kid = λ n q h. placed_kid ns n q v.tree v.nodes_high h;
      rows_high = t.rows_high;
      width_high = t.width_high;
      one_count = t.one_count;
      splits = λ k h. split_fits _ (plan_rows d) (get no_split d.splits k) (rw e (same_rows (node_at (placed ns) (length ns - 1)) (node_at ns (length ns - 1)) (place_bare 0 ns ns (length ns - 1)))) (v.splits k h);
    }

-- a job is the placed nodes of a sound draft with one root
pub record Finished (d : Draft) (j : Job) : Type 0 where
  pub draft : DraftOk d
  pub slots : d.slots ≢ 0
  pub nodes : 1 ≤ length d.nodes
  pub one : length d.free ≡ 1
  pub is : record { slots = d.slots; nodes = placed d.nodes; splits = d.splits } ≡ j

-- not empty
some_nodes : (ns : List Node) → is_empty ns ≡ false → 1 ≤ length ns
unfolding is_empty
some_nodes [] e = clash (cc)
some_nodes (x ∷ ns) e = omega arith

-- finishing asks for one root
pub finished : (d : Draft) (j : Job) → DraftOk d → finish d ≡ accepted j → Finished d j
finished d j v h =
    let r = unless_passed _ _ j h in
    record {
      draft = v;
      slots = eqb-false d.slots 0 r.0.0;
      nodes = some_nodes d.nodes r.0.1.0;
      one = eqb-true (length d.free) 1 (not-false (eqb (length d.free) 1) r.0.1.1.0);
      is = r.1;
    }

-- an accepted job comes from such a draft
pub draft_of : (bytes : List ℕ) (j : Job) → Bytes bytes → parse bytes ≡ accepted j → (d : Draft) × Finished d j
unfolding parse
draft_of bytes j h e =
    by_outcome (records bytes) (λ n o. clash (cc))
    (λ x o. (x.draft, finished x.draft j (records_keep DraftOk restore_ok bytes x h start_ok o).1 (rw (o, parse) at e)))

-- what opening accepts is sound
pub job_ok_lem : (bytes : List ℕ) (j : Job) → Bytes bytes → parse bytes ≡ accepted j → JobOk j
job_ok_lem bytes j h e =
    let f : (d : Draft) × Finished d j = draft_of bytes j h e in
    subst JobOk f.1.is (placed_ok f.0 f.1.draft f.1.slots f.1.nodes f.1.one)

-- and its nodes are a tree in postfix order
pub tree_ok : (bytes : List ℕ) (j : Job) → Bytes bytes → parse bytes ≡ accepted j → TreeOk j.nodes
tree_ok bytes j h e =
    let f : (d : Draft) × Finished d j = draft_of bytes j h e in
    subst (λ (k : Job). TreeOk k.nodes) f.1.is (placed_tree f.0.nodes f.1.draft.tree)

-- each of its nodes has a label, and they pass their check
pub labels_pass : (bytes : List ℕ) (j : Job) → Bytes bytes → parse bytes ≡ accepted j
    → (length (labels bytes) ≡ length j.nodes) × (labels_ok (labels bytes) ≡ true)
unfolding parse labels
labels_pass bytes j h e =
    by_outcome (records bytes) (λ n o. clash (cc))
    (λ x o.
    let v : ReadingOk x = (records_keep DraftOk restore_ok bytes x h start_ok o).0 in
    let f : Finished x.draft j = finished x.draft j v.draft (rw (o, parse) at e) in
    let s : length j.nodes ≡ length x.draft.nodes = rw (← f.is) (place_size 0 x.draft.nodes x.draft.nodes) in
    rw (o, labels) (length-reverse x.labels ∙ v.size ∙ sym s, falling_pass x.count x.labels v.falls v.most))
