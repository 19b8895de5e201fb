-- A job that opening accepts passes the check of a stored job: its records, written again, are restored and give it back.
use Rattle.std.specs.Prelude.{◌≡◌, refl, ◌≢◌, Bool, true, false, ◌||◌, not, List, [], ◌∷◌, ◌++◌, map, ℕ, zero, suc, ◌+◌, ◌<◌, ◌≤◌, length, take, eqb, ltb, if◌then◌else◌}
use Rattle.std.proofs.Common.{sym, ap, ap₂, ◌∙◌, subst, append-nil, append_assoc, arith, length-take, eq-eqb, eqb-true, ltb-false, ne_eqb}
use Rattle.std.proofs.lemmas.List.{map-append, length-reverse}
use Rattle.std.proofs.lemmas.Bool.{eqb-false, not-false}
use Rattle.rules.specs.Table.{is_empty, up_from}
use Rattle.rules.specs.Job.{Bytes, Kind, segment, concat, pack, Node, Run, Split, Job, Draft, accepted, Record, slots, leaf, join, split, node_at}
use Rattle.rules.specs.Job.{is_segment, kids, rows_of, width_of, childless, newest, set_parents, joined, restore, accept_slots, accept_leaf}
use Rattle.rules.specs.Job.{restore_join, restore_split, no_draft, records, finish, parse}
use Rattle.rules.specs.Check.{restore_all, node_record, split_record, job_records, kind_number, option_number, same_node, same_nodes, finishes, job_ok}
use Rattle.laws.specs.Table.{clash, or_left, or_right}
use Rattle.laws.specs.Kids.{bare, kids_same}
use Rattle.laws.specs.Tree.{NewOk}
use Rattle.laws.specs.More.{with_node, grown, bares_stay, kids_stay, own_kids}
use Rattle.laws.specs.Draft.{DraftOk, RecordOk, unless_passed, restore_ok, leaf_new, join_new, some_newest, not_late}
use Rattle.laws.specs.Places.{placed, place_size, place_bare, place_parent}
use Rattle.laws.specs.Accepted.{by_outcome, start_ok, records_keep, Finished, finished}

-- the records of the nodes so far
abbrev node_records : List Node → List Record
node_records ns = map (node_record ns) (up_from 0 (length ns))

-- the records of a draft
abbrev written : Draft → List Record
written d = if eqb d.slots 0 then [] else slots d.slots ∷ (node_records d.nodes ++ map split_record d.splits)

abbrev record_of : Node → ℕ → Record
record_of x c = elim x.kind [ segment ↦ leaf x.segment x.rows | concat ↦ join concat c | pack ↦ join pack c ]

-- a node's record is read from its kind, segment, rows and number of children
record_alike : (ns ms : List Node) (n : ℕ) → bare (node_at ms n) ≡ bare (node_at ns n) → length (kids ms n) ≡ length (kids ns n) → node_record ms n ≡ node_record ns n
record_alike ns ms n e k = ap₂ record_of e k

-- one number more
pub up_more : (i n : ℕ) → up_from i (suc n) ≡ up_from i n ++ (i + n) ∷ []
unfolding up_from
up_more i zero = let e : i + 0 ≡ i = omega arith in rw e
up_more i (suc n) = let e : i + suc n ≡ suc i + n = omega arith in rw (up_more (suc i) n, e)

-- what is alike below n is alike over all numbers below n
map_below : {A : Type 0} (f g : ℕ → A) (i n : ℕ) → ((k : ℕ) → i ≤ k → k < i + n → f k ≡ g k) → map f (up_from i n) ≡ map g (up_from i n)
unfolding up_from
map_below f g i zero h = refl
map_below f g i (suc n) h =
    rw (map_below f g (suc i) n (λ k a b. h k (omega arith) (omega arith)), h i (omega arith) (omega arith))

map_up : {A : Type 0} (f : ℕ → A) (n : ℕ) → map f (up_from 0 (suc n)) ≡ map f (up_from 0 n) ++ f n ∷ []
map_up f n = let e : 0 + n ≡ n = omega arith in rw (up_more 0 n, e) (map-append f (up_from 0 n) (n ∷ []))

-- One record more

-- the records of a draft with slots
written_some : (d : Draft) → d.slots ≢ 0 → written d ≡ slots d.slots ∷ (node_records d.nodes ++ map split_record d.splits)
written_some d h = rw (ne_eqb d.slots 0 h)

-- a draft without slots has nothing yet
abbrev Begun : Draft → Type 0
Begun d = d.slots ≡ 0 → (d.nodes ≡ []) × (d.splits ≡ [])

module _ (d : Draft) (n : ℕ) (x : Node) (v : DraftOk d) (w : NewOk d.nodes (newest n d) x) where
  abbrev ms : List Node
  ms = (with_node n x d).nodes

  -- a node more: its record comes behind the others, which stay
  nodes_more : node_records ms ≡ node_records d.nodes ++ node_record ms (length d.nodes) ∷ []
  nodes_more =
      let ns : List Node = d.nodes in
      rw ((grown d v.free n x).size, map_up (node_record ms) (length ns))
      (ap (λ (l : List Record). l ++ node_record ms (length ns) ∷ [])
      (map_below (node_record ms) (node_record ns) 0 (length ns)
      (λ k a b.
      let h : k < length ns = omega arith in
      record_alike ns ms k (bares_stay d v.free n x v.tree w k h) (ap (λ (l : List ℕ). length l) (kids_stay d v.free n x v.tree w k h)))))

  -- its record: of its own kind, with as many children as it took
  node_record_lem : node_record ms (length d.nodes) ≡ record_of x (length (newest n d))
  node_record_lem = ap₂ record_of (grown d v.free n x).last (ap (λ (l : List ℕ). length l) (own_kids d v.free n x v.tree w))

  -- so the draft's records have one more behind them
  node_written : (r : Record) → d.slots ≢ 0 → d.splits ≡ [] → record_of x (length (newest n d)) ≡ r → written (with_node n x d) ≡ written d ++ r ∷ []
  node_written r h e q =
      rw (ne_eqb d.slots 0 h, e) (ap (λ (l : List Record). slots d.slots ∷ l)
      (append-nil _ ∙ nodes_more ∙ ap (λ (t : Record). node_records d.nodes ++ t ∷ []) (node_record_lem ∙ q)
      ∙ ap (λ (l : List Record). l ++ r ∷ []) (sym (append-nil (node_records d.nodes)))))

-- Each kind of record

-- slots known: not 0
slots_known : (n : ℕ) (t : Bool) → eqb n 0 || t ≡ false → n ≢ 0
slots_known n t e = eqb-false n 0 (or_left (eqb n 0) t e)

-- the first record of all
slots_written : (n : ℕ) (d e : Draft) → Begun d → accept_slots n d ≡ accepted e → (written e ≡ written d ++ slots n ∷ []) × Begun e
slots_written n d e g h =
    let r = unless_passed _ _ e h in
    let z : d.slots ≡ 0 = eqb-true d.slots 0 (not-false (eqb d.slots 0) r.0.0) in
    let k : n ≢ 0 = slots_known n (ltb 3 n) r.0.1.0 in
    subst (λ (c : Draft). (written c ≡ written d ++ slots n ∷ []) × Begun c) r.1
    (rw (z, ne_eqb n 0 k, (g z).0, (g z).1) (unfold up_from in refl), λ c. absurd (k c))

-- a node is no leaf: its record names its kind
join_record : (k : Kind) (x : Node) (c : ℕ) → is_segment k ≡ false → x.kind ≡ k → record_of x c ≡ join k c
join_record segment x c b e = clash (cc)
join_record concat x c b e = rw e
join_record pack x c b e = rw e

leaf_written : (g n : ℕ) (d e : Draft) → n ≤ 4294967295 → DraftOk d → accept_leaf (length d.nodes) g n d ≡ accepted e
    → (written e ≡ written d ++ leaf g n ∷ []) × Begun e
unfolding set_parents
leaf_written g n d e b v h =
    let r = unless_passed _ _ e h in
    let k : d.slots ≢ 0 = slots_known d.slots (not (is_empty d.splits)) r.0.0 in
    subst (λ (c : Draft). (written c ≡ written d ++ leaf g n ∷ []) × Begun c) r.1
    (node_written d 0 _ v (leaf_new g n d.nodes b r.0.1.1.0) (leaf g n) k (not_late d r.0.0) refl, λ c. absurd (k c))

-- as many as it names
newest_length : (n : ℕ) (d : Draft) → childless n d ≡ false → length (newest n d) ≡ n
newest_length n d e =
    let b : n ≤ length d.free = ltb-false (length d.free) n (or_right (eqb n 0) (ltb (length d.free) n) e) in
    omega (arith, length-reverse (take n d.free), length-take n d.free, b)

join_written : (k : Kind) (n : ℕ) (d e : Draft) → is_segment k ≡ false → DraftOk d → restore_join k n d ≡ accepted e
    → (written e ≡ written d ++ join k n ∷ []) × Begun e
join_written k n d e b v h =
    let xs : List Node = map (node_at d.nodes) (newest n d) in
    let r = unless_passed _ _ e h in
    let s : d.slots ≢ 0 = slots_known d.slots (not (is_empty d.splits)) r.0.0 in
    let c : childless n d ≡ false = r.0.1.1.1.0 in
    let wide : ltb 4 (width_of k xs) ≡ false = rw c at r.0.1.1.0 in
    let w = join_new k (newest n d) d.nodes b (some_newest n d c) (ltb-false 4 (width_of k xs) wide) (ltb-false 4294967295 (rows_of k xs) r.0.1.1.1.1.1.0) r.0.1.1.1.1.0 in
    subst (λ (t : Draft). (written t ≡ written d ++ join k n ∷ []) × Begun t) r.1
    (node_written d n _ v w (join k n) s (not_late d r.0.0) (join_record k (joined k xs) (length (newest n d)) b refl ∙ ap (λ (i : ℕ). join k i) (newest_length n d c)), λ z. absurd (s z))

split_written : (a b : ℕ) (rs : List Run) (d e : Draft) → restore_split a b rs d ≡ accepted e → (written e ≡ written d ++ split a b rs ∷ []) × Begun e
split_written a b rs d e h =
    let r = unless_passed _ _ e h in
    let k : d.slots ≢ 0 = eqb-false d.slots 0 r.0.0 in
    let x : Split = record { start = a; end = b; runs = rs } in
    subst (λ (t : Draft). (written t ≡ written d ++ split a b rs ∷ []) × Begun t) r.1
    (rw (ne_eqb d.slots 0 k, map-append split_record d.splits (x ∷ []), append_assoc), λ c. absurd (k c))

-- a restored record is the last one written
restore_written : (r : Record) (d e : Draft) → RecordOk r → DraftOk d → Begun d → restore r d ≡ accepted e → (written e ≡ written d ++ r ∷ []) × Begun e
unfolding restore
restore_written (slots n) d e o v g h = slots_written n d e g h
restore_written (leaf g n) d e o v b h = leaf_written g n d e o v h
restore_written (join k n) d e o v g h = join_written k n d e o v h
restore_written (split a b rs) d e o v g h = split_written a b rs d e h

-- All of them

-- one record behind those that were restored
restore_more : (rs : List Record) (r : Record) (c d e : Draft) → restore_all rs c ≡ accepted d → restore r d ≡ accepted e
    → restore_all (rs ++ r ∷ []) c ≡ accepted e
unfolding restore_all
restore_more [] r c d e h k = let z : c ≡ d = cc in rw z (rw (k, restore_all))
restore_more (q ∷ rs) r c d e h k = by_outcome (restore q c)
    (λ n f. clash (cc (rw (f, restore_all) at h)))
    (λ t f. rw (f, restore_all) (restore_more rs r t d e (rw (f, restore_all) at h) k))

-- a draft that its own records give
pub record Written (d : Draft) : Type 0 where
  pub draft : DraftOk d
  pub begun : Begun d
  pub is : restore_all (written d) no_draft ≡ accepted d

-- one more restored record keeps that
pub written_keep : (r : Record) (d e : Draft) → RecordOk r → Written d → restore r d ≡ accepted e → Written e
written_keep r d e o v h =
    let w : (written e ≡ written d ++ r ∷ []) × Begun e = restore_written r d e o v.draft v.begun h in
    record {
      draft = restore_ok r d e o v.draft h;
      begun = w.1;
      is = rw w.0 (restore_more (written d) r no_draft d e v.is h);
    }

-- the draft before the first record is such a one
pub written_start : Written no_draft
unfolding restore_all
written_start = record { draft = start_ok; begun = λ z. (refl, refl); is = refl }

-- The stored job

same_node_lem : (x : Node) → same_node x x ≡ true
unfolding same_node
same_node_lem x =
    rw (eq-eqb (kind_number x.kind) (kind_number x.kind) refl, eq-eqb x.segment x.segment refl, eq-eqb x.rows x.rows refl, eq-eqb x.width x.width refl, eq-eqb (option_number x.parent) (option_number x.parent) refl, eq-eqb x.at x.at refl)

same_nodes_lem : (xs : List Node) → same_nodes xs xs ≡ true
unfolding same_nodes
same_nodes_lem [] = refl
same_nodes_lem (x ∷ xs) = rw (same_node_lem x, same_nodes_lem xs)

-- placing the nodes changes no record
placed_records : (ns : List Node) → node_records (placed ns) ≡ node_records ns
placed_records ns =
    rw (place_size 0 ns ns)
    (map_below (node_record (placed ns)) (node_record ns) 0 (length ns) (λ k a b. record_alike ns (placed ns) k (place_bare 0 ns ns k) (ap (λ (l : List ℕ). length l) (kids_same ns (placed ns) k (λ i. rw (place_parent 0 ns ns i))))))

-- a job that such a draft finishes to passes the check of a stored one
pub again_of : (d : Draft) (j : Job) → Written d → finish d ≡ accepted j → job_ok j ≡ true
unfolding job_ok finishes
again_of d j v h =
    let f : Finished d j = finished d j v.draft h in
    let e : job_records j ≡ written d = rw (← f.is, ne_eqb d.slots 0 f.slots, placed_records d.nodes) in
    rw (e, v.is, h, job_ok, finishes) (same_nodes_lem j.nodes)

-- an accepted job passes the check of a stored one
pub job_again : (bytes : List ℕ) (j : Job) → Bytes bytes → parse bytes ≡ accepted j → job_ok j ≡ true
unfolding parse
job_again bytes j h e =
    by_outcome (records bytes) (λ n o. clash (cc))
    (λ x o. again_of x.draft j (records_keep Written written_keep bytes x h written_start o).1 (rw (o, parse) at e))
