-- The records at the front of a job, walked over: what they come to, whatever follows them.
use Rattle.std.specs.Prelude.{◌≡◌, refl, Bool, true, false, ◌||◌, List, [], ◌∷◌, ◌++◌, ℕ, zero, suc, ◌+◌, ◌*◌, ◌≤◌, ◌<◌, length, eqb, leb, ltb, if◌then◌else◌}
use Rattle.std.proofs.Common.{sym, ap, subst, ◌∙◌, append_assoc, append-nil, arith, length-append, ltb-false, leb-false}
use Rattle.std.proofs.Math.Option.{none, some}
use Rattle.std.proofs.lemmas.Bool.{not-false}
use Rattle.laws.specs.Table.{by_bool, by_option, clash, or_left, or_right}
use Rattle.laws.specs.Accepted.{by_outcome}
use Rattle.laws.specs.Labels.{read_passed}
use Rattle.laws.specs.Draft.{unless_passed}
use Rattle.laws.specs.Meeting.{split_passed}
use Rattle.rules.specs.Table.{is_empty}
use Rattle.rules.specs.Job.{
  Kind,
  Run,
  Record,
  slots,
  leaf,
  join,
  split,
  Draft,
  Reading,
  no_reading,
  Outcome,
  refused_by,
  accepted,
  max_splits,
  max_runs,
  next_record,
  goes_on,
  grows,
  stands_for,
  read_as,
  accept,
  accept_slots,
  accept_leaf,
  accept_join,
  accept_split,
  read_all,
  records,
}
use Rattle.rules.specs.Session.{at_call, behind_job}
use Rattle.call_records.specs.Taken.{Taken, size_of, size_low, record_takes}
use Rattle.call_records.specs.JobEnd.{behind_records, job_rest}
use Rattle.feeding.specs.Fuel.{record_less, records_enough, behind_enough}

abbrev Whole : Record → ℕ → Type 0
Whole r k = k ≡ size_of r

-- the records of bytes, after what came before
abbrev pub read_on : Outcome Reading → List ℕ → Outcome Reading
read_on (refused_by n) xs = refused_by n
read_on (accepted x) xs = read_all accept (length xs) x xs

-- one record more
abbrev pub accept_on : Outcome Reading → Record → Outcome Reading
accept_on (refused_by n) r = refused_by n
accept_on (accepted x) r = accept r x

-- An accepted job is short

-- the records so far have at most so many bytes
pub record Few (x : Reading) (n : ℕ) : Type 0 where
  pub nodes : x.count ≤ 24
  pub splits : length x.draft.splits ≤ 16
  pub bytes : n ≤ (if eqb x.draft.slots 0 then 0 else 6) + 10 * x.count + 142 * length x.draft.splits

pub few_bytes : (x : Reading) (n : ℕ) → Few x n → n ≤ 2518
few_bytes x n f =
    by_bool (eqb x.draft.slots 0) (λ e. omega (arith, rw e at f.bytes, f.nodes, f.splits))
    (λ e. omega (arith, rw e at f.bytes, f.nodes, f.splits))

module _ (x y : Reading) (k : ℕ) (f : Few x k) where
  slots_few : (n : ℕ) → read_as (goes_on x) (accept_slots n x.draft) ≡ accepted y → Few y (k + 6)
  slots_few n h =
      let t = read_passed (goes_on x) (accept_slots n x.draft) y h in
      let q = unless_passed _ _ t.0 t.1 in
      let z : eqb x.draft.slots 0 ≡ true = not-false _ q.0.0 in
      let w : eqb n 0 ≡ false = or_left _ _ q.0.1.0 in
      rw (← t.2, ← q.1) (record { nodes = f.nodes; splits = f.splits; bytes = rw w (omega (arith, rw z at f.bytes)) })

  leaf_few : (g n : ℕ) → read_as (grows x) (accept_leaf x.count g n x.draft) ≡ accepted y → Few y (k + 10)
  leaf_few g n h =
      let t = read_passed (grows x) (accept_leaf x.count g n x.draft) y h in
      let q = unless_passed _ _ t.0 t.1 in
      rw (← t.2, ← q.1) (record { nodes = omega (arith, leb-false 24 x.count q.0.1.0); splits = f.splits; bytes = omega (arith, f.bytes) })

  -- a join counts as a node, also where it stands for its child
  by_one : (b : Bool) (d : Draft) → d.slots ≡ x.draft.slots → d.splits ≡ x.draft.splits → x.count < 24
      → Few ((if b then stands_for x else grows x) d) (k + 6)
  by_one true d s l h = record { nodes = omega arith; splits = f.splits; bytes = omega (arith, f.bytes) }
  by_one false d s l h = record { nodes = omega arith; splits = rw l f.splits; bytes = rw (s, l) (omega (arith, f.bytes)) }

  join_few : (j : Kind) (n : ℕ) → read_as (if eqb n 1 then stands_for x else grows x) (accept_join x.count j n x.draft) ≡ accepted y → Few y (k + 6)
  join_few j n h =
      let t = read_passed (if eqb n 1 then stands_for x else grows x) (accept_join x.count j n x.draft) y h in
      let q = unless_passed _ _ t.0 t.1 in
      subst (λ (z : Reading). Few z (k + 6)) t.2
      (by_one (eqb n 1) t.0 (rw (← q.1) refl) (rw (← q.1) refl) (leb-false _ _ q.0.1.0))

  split_few : (a b : ℕ) (rs : List Run) → read_as (goes_on x) (accept_split a b rs x.draft) ≡ accepted y → Few y (k + (14 + 8 * length rs))
  split_few a b rs h =
      let t = read_passed (goes_on x) (accept_split a b rs x.draft) y h in
      let q = split_passed a b rs x.draft t.0 t.1 in
      let c = is_empty x.draft.nodes in
      let d = leb max_splits (length x.draft.splits) in
      let e = ltb max_runs (length rs) in
      let u : length x.draft.splits < 16 = leb-false _ _ (or_right c d (or_left (c || d) e q.1.1.0)) in
      let v : length rs ≤ 16 = ltb-false _ _ (or_right (c || d) e q.1.1.0) in
      rw (← t.2, ← q.2) (record { nodes = f.nodes; splits = simp length-append (omega arith); bytes = simp length-append (omega (arith, f.bytes)) })

  few_next : (r : Record) → accept r x ≡ accepted y → Few y (k + size_of r)
  unfolding accept
  few_next (slots n) h = slots_few n h
  few_next (leaf g n) h = leaf_few g n h
  few_next (join j n) h = join_few j n h
  few_next (split a b rs) h = split_few a b rs h

-- The walk

-- records at the front: what they come to whatever follows, and that the job's end is behind them
pub record Walk (front : List ℕ) (o : Outcome Reading) : Type 0 where
  pub reads : (xs : List ℕ) → records (front ++ xs) ≡ read_on o xs
  pub behind : (xs : List ℕ) → behind_job (length (front ++ xs)) (front ++ xs) ≡ behind_job (length xs) xs
  pub few : (x : Reading) → o ≡ accepted x → Few x (length front)

pub walk_none : Walk [] (accepted no_reading)
walk_none = record {
  reads = λ xs. refl;
  behind = λ xs. refl;
  few = λ y e. subst (λ (x : Reading). Few x 0) {x = no_reading} (cc) (record { nodes = omega arith; splits = omega arith; bytes = omega arith });
}

-- whether a call stands at the front is told by two bytes
front_call : (a b : ℕ) (l xs ys : List ℕ) → at_call (a ∷ b ∷ l ++ xs) ≡ at_call (a ∷ b ∷ l ++ ys)
unfolding at_call
front_call a b l xs ys = refl

pub same_call : (front xs ys : List ℕ) → 2 ≤ length front → at_call (front ++ xs) ≡ at_call (front ++ ys)
same_call [] xs ys h = absurd (omega arith)
same_call (a ∷ []) xs ys h = absurd (omega arith)
same_call (a ∷ b ∷ l) xs ys h = front_call a b l xs ys

-- one record read
record_read : (f : ℕ) (x : Reading) (zs : List ℕ) (r : Record) (xs : List ℕ)
    → length zs ≤ f → next_record zs ≡ some (r, xs) → read_all accept f x zs ≡ read_on (accept r x) xs
unfolding read_all next_record
record_read f x [] r xs h o = clash (cc)
record_read zero x (b ∷ bs) r xs h o = absurd (omega arith)
record_read (suc f) x (b ∷ bs) r xs h o =
    by_outcome (accept r x) (λ n a. rw (read_all, o, a))
    (λ y a. rw (read_all, o, a) (records_enough f (length xs) y xs (let l = record_less (b ∷ bs) r xs o in omega arith) (omega arith)))

behind_read : (f : ℕ) (zs : List ℕ) (r : Record) (xs : List ℕ) → length zs ≤ f → at_call zs ≡ false → next_record zs ≡ some (r, xs)
    → behind_job f zs ≡ behind_job (length xs) xs
unfolding behind_job next_record
behind_read f [] r xs h c o = clash (cc)
behind_read zero (b ∷ bs) r xs h c o = absurd (omega arith)
behind_read (suc f) (b ∷ bs) r xs h c o =
    rw (c, o, behind_job) (behind_enough f (length xs) xs (let l = record_less (b ∷ bs) r xs o in omega arith) (omega arith))

module _ (zs : List ℕ) (r : Record) (rest : List ℕ) (c : at_call zs ≡ false) (t : Taken Whole next_record zs r rest) where
  read_on_lem : (o : Outcome Reading) (xs : List ℕ) → read_on o (t.front ++ xs) ≡ read_on (accept_on o r) xs
  read_on_lem (refused_by n) xs = refl
  read_on_lem (accepted x) xs = record_read (length (t.front ++ xs)) x (t.front ++ xs) r xs (omega arith) (t.any xs)

  no_call_lem : (xs : List ℕ) → at_call (t.front ++ xs) ≡ false
  no_call_lem xs = same_call t.front xs rest (omega (arith, t.size, size_low r)) ∙ sym (ap at_call t.is) ∙ c

  few_on : (front : List ℕ) (o : Outcome Reading) → ((x : Reading) → o ≡ accepted x → Few x (length front))
      → (y : Reading) → accept_on o r ≡ accepted y → Few y (length (front ++ t.front))
  few_on front (refused_by n) h y q = clash (cc)
  few_on front (accepted x) h y q = rw (length-append front t.front, t.size) (few_next x y (length front) (h x refl) r q)

  pub walk_next : (front : List ℕ) (o : Outcome Reading) → Walk front o → Walk (front ++ t.front) (accept_on o r)
  walk_next front o w = record {
    reads = λ xs. rw (append_assoc front t.front xs) (w.reads (t.front ++ xs) ∙ read_on_lem o xs);
    behind = λ xs. rw (append_assoc front t.front xs)
        (w.behind (t.front ++ xs) ∙ behind_read (length (t.front ++ xs)) (t.front ++ xs) r xs (omega arith) (no_call_lem xs) (t.any xs));
    few = few_on front o w.few;
  }

-- all whole records of bytes, behind those that were walked
pub record Walked (front bytes rest : List ℕ) : Type 0 where
  pub more : List ℕ
  pub is : bytes ≡ more ++ rest
  pub comes : Outcome Reading
  pub walk : Walk (front ++ more) comes

walked_none : (front bytes : List ℕ) (o : Outcome Reading) → Walk front o → Walked front bytes bytes
walked_none front bytes o w = record { more = []; is = refl; comes = o; walk = rw (append-nil front) w }

walked_next : (f : ℕ) (front bytes : List ℕ) (o : Outcome Reading) → Walk front o
    → ((front rest : List ℕ) (o : Outcome Reading) → Walk front o → Walked front rest (behind_records f rest))
    → Walked front bytes (behind_records (suc f) bytes)
unfolding behind_records
walked_next f front bytes o w ih =
    by_bool (at_call bytes) (λ e. rw (e, behind_records) (walked_none front bytes o w))
    (λ e. by_option (next_record bytes) (λ n. rw (e, n, behind_records) (walked_none front bytes o w))
    (λ r n.
    let t = record_takes bytes r.0 r.1 n in
    let v = ih (front ++ t.front) r.1 (accept_on o r.0) (walk_next bytes r.0 r.1 e t front o w) in
    rw (e, n, behind_records) (record {
      more = t.front ++ v.more;
      is = t.is ∙ ap (λ (l : List ℕ). t.front ++ l) v.is ∙ sym (append_assoc t.front v.more _);
      comes = v.comes;
      walk = rw (← append_assoc front t.front v.more) v.walk;
    })))

walked_on : (f : ℕ) (front bytes : List ℕ) (o : Outcome Reading) → Walk front o → Walked front bytes (behind_records f bytes)
unfolding behind_records
walked_on zero front bytes o w = walked_none front bytes o w
walked_on (suc f) front bytes o w = walked_next f front bytes o w (walked_on f)

-- the records of a job walked over
pub walked : (bytes : List ℕ) → Walked [] bytes (job_rest bytes)
walked bytes = walked_on (length bytes) [] bytes (accepted no_reading) walk_none

-- what is behind them begins with a call, or is nothing, or no whole record
none_next : (f : ℕ) (bytes : List ℕ)
    → ((rest : List ℕ) → length rest < length bytes → at_call (behind_records f rest) ≡ false → next_record (behind_records f rest) ≡ none)
    → at_call (behind_records (suc f) bytes) ≡ false → next_record (behind_records (suc f) bytes) ≡ none
unfolding behind_records
none_next f bytes ih h =
    by_bool (at_call bytes) (λ e. clash (cc (rw (e, behind_records, e) at h)))
    (λ e. by_option (next_record bytes) (λ n. rw (e, n, behind_records) n)
    (λ r n. rw (e, n, behind_records) (ih r.1 (record_less bytes r.0 r.1 n) (rw (e, n, behind_records) at h))))

none_behind : (f : ℕ) (bytes : List ℕ) → length bytes ≤ f → at_call (behind_records f bytes) ≡ false → next_record (behind_records f bytes) ≡ none
unfolding behind_records at_call
none_behind zero [] h e = clash (cc)
none_behind zero (b ∷ bytes) h e = absurd (omega arith)
none_behind (suc f) bytes h e = none_next f bytes (λ rest l. none_behind f rest (omega arith)) e

pub rest_none : (bytes : List ℕ) → at_call (job_rest bytes) ≡ false → next_record (job_rest bytes) ≡ none
rest_none bytes = none_behind (length bytes) bytes (omega arith)
