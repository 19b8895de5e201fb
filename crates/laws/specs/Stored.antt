-- A stored job that passes its check is sound: its records are restored and give it back.
use Rattle.std.specs.Prelude.{◌≡◌, refl, Bool, true, false, ◌&&◌, List, [], ◌∷◌, ◌++◌, map, ℕ, zero, suc, ◌≤◌, length}
use Rattle.std.proofs.Common.{sym, ap, ◌∙◌, subst, append-nil, append_assoc, arith, eqb-true}
use Rattle.std.proofs.Math.Option.{Option, none, some}
use Rattle.rules.specs.Table.{up_from}
use Rattle.rules.specs.Job.{Kind, segment, concat, pack, Node, Split, Job, Draft, accepted, Record, slots, leaf, join, split, node_at}
use Rattle.rules.specs.Job.{kids, max_rows, restore, unless, no_draft, finish}
use Rattle.rules.specs.Plan.{node_of}
use Rattle.rules.specs.Machine.{Machine}
use Rattle.rules.specs.Check.{restore_all, node_record, split_record, job_records, kind_number, option_number, same_node, same_nodes, finishes, job_ok, check}
use Rattle.laws.specs.Table.{clash, and_left, and_right}
use Rattle.laws.specs.JobOk.{JobOk}
use Rattle.laws.specs.Draft.{DraftOk, RecordOk, unless_passed, restore_ok}
use Rattle.laws.specs.Places.{placed}
use Rattle.laws.specs.Accepted.{by_outcome, start_ok, Finished, finished, placed_ok}

pub both : (a b : Bool) → a && b ≡ true → (a ≡ true) × (b ≡ true)
both a b h = (and_left a b h, and_right a b h)

-- Nodes that are found alike are the same

same_kind : (x y : Kind) → kind_number x ≡ kind_number y → x ≡ y
same_kind segment segment e = refl
same_kind segment concat e = clash (cc)
same_kind segment pack e = clash (cc)
same_kind concat segment e = clash (cc)
same_kind concat concat e = refl
same_kind concat pack e = clash (cc)
same_kind pack segment e = clash (cc)
same_kind pack concat e = clash (cc)
same_kind pack pack e = refl

same_option : (x y : Option ℕ) → option_number x ≡ option_number y → x ≡ y
same_option none none e = refl
same_option none (some y) e = absurd (omega arith)
same_option (some x) none e = absurd (omega arith)
same_option (some x) (some y) e = let q : x ≡ y = omega arith in ap some q

node_same : (x y : Node) → same_node x y ≡ true → x ≡ y
unfolding same_node
node_same x y h =
    let h1 = both _ _ h in
    let h2 = both _ _ h1.0 in
    let h3 = both _ _ h2.0 in
    let h4 = both _ _ h3.0 in
    let h5 = both _ _ h4.0 in
    let k : x.kind ≡ y.kind = same_kind x.kind y.kind (eqb-true _ _ h5.0) in
    let g : x.segment ≡ y.segment = eqb-true _ _ h5.1 in
    let r : x.rows ≡ y.rows = eqb-true _ _ h4.1 in
    let w : x.width ≡ y.width = eqb-true _ _ h3.1 in
    let q : x.parent ≡ y.parent = same_option x.parent y.parent (eqb-true _ _ h2.1) in
    let t : x.at ≡ y.at = eqb-true _ _ h1.1 in
    λ i. record { kind = k i; segment = g i; rows = r i; width = w i; parent = q i; at = t i }

nodes_same : (xs ys : List Node) → same_nodes xs ys ≡ true → xs ≡ ys
unfolding same_nodes
nodes_same [] [] h = refl
nodes_same [] (y ∷ ys) h = clash (cc)
nodes_same (x ∷ xs) [] h = clash (cc)
nodes_same (x ∷ xs) (y ∷ ys) h = let b = both _ _ h in rw (node_same x y b.0, nodes_same xs ys b.1)

-- Records

-- one record and then the others
pub all_step : (r : Record) (rs : List Record) (d e : Draft) → restore_all (r ∷ rs) d ≡ accepted e
    → (c : Draft) × (restore r d ≡ accepted c) × (restore_all rs c ≡ accepted e)
unfolding restore_all
all_step r rs d e h = by_outcome (restore r d) (λ n o. clash (cc (rw (o, restore_all) at h))) (λ c o. (c, o, rw (o, restore_all) at h))

-- a node's record leaves the slots and the splits
abbrev Keeps : Draft → Draft → Type 0
Keeps d e = (e.slots ≡ d.slots) × (e.splits ≡ d.splits)

-- the records of nodes
abbrev IsNode : Record → Type 0
IsNode (slots n) = ⊥
IsNode (leaf g n) = Unit {0}
IsNode (join k n) = Unit {0}
IsNode (split a b rs) = ⊥

node_keeps : (r : Record) (d e : Draft) → IsNode r → restore r d ≡ accepted e → Keeps d e
unfolding restore
node_keeps (slots n) d e i h = absurd i
node_keeps (leaf g n) d e i h = let r = unless_passed _ _ e h in rw (← r.1) (refl, refl)
node_keeps (join k n) d e i h = let r = unless_passed _ _ e h in rw (← r.1) (refl, refl)
node_keeps (split a b rs) d e i h = absurd i

-- a stored node's record is one, with rows in range
record_ok : (ns : List Node) (n : ℕ) → (node_at ns n).rows ≤ max_rows → IsNode (node_record ns n) × RecordOk (node_record ns n)
record_ok ns n b = kinds (node_at ns n).kind
  where
    kinds : (k : Kind) → let r : Record = elim k [ segment ↦ leaf (node_at ns n).segment (node_at ns n).rows | concat ↦ join concat (length (kids ns n)) | pack ↦ join pack (length (kids ns n)) ] in IsNode r × RecordOk r
    kinds segment = (tt, b)
    kinds concat = (tt, refl)
    kinds pack = (tt, refl)

-- all nodes
nodes_kept : (ns : List Node) (i n : ℕ) (rs : List Record) (d e : Draft) → ((k : ℕ) → (node_at ns k).rows ≤ max_rows) → DraftOk d
    → restore_all (map (node_record ns) (up_from i n) ++ rs) d ≡ accepted e → (c : Draft) × DraftOk c × Keeps d c × (restore_all rs c ≡ accepted e)
unfolding up_from
nodes_kept ns i zero rs d e b v h = (d, v, (refl, refl), h)
nodes_kept ns i (suc n) rs d e b v h =
    let s = all_step (node_record ns i) (map (node_record ns) (up_from (suc i) n) ++ rs) d e h in
    let o = record_ok ns i (b i) in
    let k = node_keeps (node_record ns i) d s.0 o.0 s.1 in
    let r = nodes_kept ns (suc i) n rs s.0 e b (restore_ok (node_record ns i) d s.0 o.1 v s.1) s.2 in
    (r.0, r.1, (r.2.0 ∙ k.0, r.2.1 ∙ k.1), r.3)

-- a split's record adds it
split_adds : (x : Split) (d e : Draft) → restore (split_record x) d ≡ accepted e → (e.slots ≡ d.slots) × (e.splits ≡ d.splits ++ x ∷ [])
unfolding restore
split_adds x d e h = let r = unless_passed _ _ e h in rw (← r.1) (refl, refl)

-- all splits
splits_kept : (ss : List Split) (d e : Draft) → DraftOk d → restore_all (map split_record ss) d ≡ accepted e
    → DraftOk e × (e.slots ≡ d.slots) × (e.splits ≡ d.splits ++ ss)
unfolding restore_all
splits_kept [] d e v h = let q : d ≡ e = cc in rw (← q) (v, refl, sym (append-nil d.splits))
splits_kept (x ∷ ss) d e v h =
    let s = all_step (split_record x) (map split_record ss) d e h in
    let r = splits_kept ss s.0 e (restore_ok (split_record x) d s.0 tt v s.1) s.2 in
    let k = split_adds x d s.0 s.1 in
    (r.0, r.1 ∙ k.0, r.2 ∙ rw k.1 (append_assoc d.splits (x ∷ []) ss))

-- the records of a job give its slots and its splits
draft_of : (j : Job) (d : Draft) → ((n : ℕ) → (node_of j n).rows ≤ max_rows) → restore_all (job_records j) no_draft ≡ accepted d
    → DraftOk d × (d.slots ≡ j.slots) × (d.splits ≡ j.splits)
unfolding restore
draft_of j d b h =
    let s = all_step (slots j.slots) _ no_draft d h in
    let r = unless_passed _ _ s.0 s.1 in
    let n = nodes_kept j.nodes 0 (length j.nodes) (map split_record j.splits) s.0 d b
    (restore_ok (slots j.slots) no_draft s.0 tt start_ok s.1) s.2 in
    let p = splits_kept j.splits n.0 d n.1 n.3 in
    let e : s.0.splits ≡ [] = rw (← r.1) refl in
    let k : s.0.slots ≡ j.slots = rw (← r.1) refl in
    (p.0, p.1 ∙ n.2.0 ∙ k, p.2 ∙ rw (n.2.1 ∙ e))

-- what it finishes to has its nodes
finishes_same : (j : Job) (d : Draft) → finishes j (finish d) ≡ true → (k : Job) × (finish d ≡ accepted k) × (j.nodes ≡ k.nodes)
unfolding finishes
finishes_same j d h = by_outcome (finish d) (λ n o. clash (cc (rw o at h))) (λ k o. (k, o, nodes_same j.nodes k.nodes (rw o at h)))

-- a stored job that passes its check is what the draft of its records finishes to
pub stored_draft : (j : Job) → ((n : ℕ) → (node_of j n).rows ≤ max_rows) → job_ok j ≡ true
    → (d : Draft) × (restore_all (job_records j) no_draft ≡ accepted d) × Finished d j
unfolding job_ok
stored_draft j b h = by_outcome (restore_all (job_records j) no_draft)
    (λ n o. clash (cc (rw (o, job_ok) at h)))
    (λ d o.
    let r = draft_of j d b o in
    let s = finishes_same j d (rw (o, job_ok) at h) in
    let f : Finished d s.0 = finished d s.0 r.0 s.1 in
    let e : placed d.nodes ≡ j.nodes = ap (λ (k : Job). k.nodes) f.is ∙ sym s.2 in (
      d,
      o,
      record {
        draft = f.draft;
        slots = f.slots;
        nodes = f.nodes;
        one = f.one;
        is = λ i. record { slots = r.1 i; nodes = e i; splits = r.2 i };
      },
    ))

-- a stored job is sound
pub stored_ok : (j : Job) → ((n : ℕ) → (node_of j n).rows ≤ max_rows) → job_ok j ≡ true → JobOk j
stored_ok j b h =
    let s = stored_draft j b h in
    let f : Finished s.0 j = s.2 in
    subst JobOk f.is (placed_ok s.0 f.draft f.slots f.nodes f.one)

-- a state whose job has no slots, as one of zeros, is refused by 12
pub no_slots : (m : Machine) → m.job.slots ≡ 0 → check m ≡ false
unfolding check job_ok restore_all restore unless
no_slots m e = let f : job_ok m.job ≡ false = rw e in rw f
