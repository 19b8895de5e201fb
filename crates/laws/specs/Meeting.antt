-- Runs that meet: joined, they keep the same rows, and are runs that a stored split may have. So an accepted split does what a stored one does.
-- Runs of which no two meet are read as they are, so that a restored record is accepted too, with the same draft.
use Rattle.std.specs.Prelude.{◌≡◌, Bool, true, ◌||◌, ℕ, suc, ◌+◌, ◌-◌, ◌≤◌, ◌<◌, length, eqb, ltb}
use Rattle.std.proofs.Math.Path.{refl}
use Rattle.std.proofs.Common.{sym, ap, ◌∙◌, arith}
use Rattle.std.proofs.Math.Bool.{false}
use mathlib.Core.List.{List, [], ◌∷◌, ◌++◌, flat_map, append_assoc}
use Rattle.std.proofs.Math.Option.{Option, none, some}
use Rattle.std.proofs.Math.Dec.{leb}
use borrow.Author.Tests.{ne_eqb, eqb-true, eqb-false, ltb-false, le-ltb, lt-leb, leb-false}
use Rattle.rules.specs.Table.{up_from, sum_of, is_empty}
use Rattle.rules.specs.Job.{Run, Split, Draft, Refusal, Outcome, refused_by, accepted, Record, slots, leaf, join, split, max_splits, max_runs, not_after}
use Rattle.rules.specs.Job.{run_fault, runs_fault, read_fault, read_faults, unless_fault, longer, join_onto, join_runs, new_split, unless, split_causes}
use Rattle.rules.specs.Job.{Kind, join_causes, new_join, accept_join, accept_split, accept_written, restore, restore_join, restore_split}
use Rattle.rules.specs.Plan.{positions}
use Rattle.laws.specs.Table.{by_bool, by_option, clash, or_left, or_right}
use Rattle.laws.specs.KeptRuns.{run_within, sizes}
use Rattle.laws.specs.Spots.{up_append}
use Rattle.laws.specs.Draft.{Passed, unless_passed, passed_unless}

-- a run meets the one behind it, or not
abbrev by_meeting {ℓ} : {P : Type ℓ} (r q : Run) → (eqb (r.start + r.size) q.start ≡ true → P)
    → (eqb (r.start + r.size) q.start ≡ false → P) → P
by_meeting r q t f = by_bool (eqb (r.start + r.size) q.start) t f

-- The same rows

module _ (s : Split) where
  onto_positions : (r : Run) (rs : List Run) → flat_map (positions s) (join_onto r rs) ≡ positions s r ++ flat_map (positions s) rs
  unfolding join_onto flat_map
  onto_positions r [] = refl
  onto_positions r (q ∷ qs) = by_meeting r q
      (λ e.
      let f : s.start + r.start + r.size ≡ s.start + q.start = omega (arith, eqb-true (r.start + r.size) q.start e) in
      let g : up_from (s.start + r.start) (r.size + q.size) ≡ positions s r ++ positions s q =
      rw f at (sym (up_append (s.start + r.start) r.size q.size)) in
      rw (e, join_onto) (onto_positions (longer r q) qs ∙ rw g (append_assoc (positions s r) (positions s q) (flat_map (positions s) qs))))
      (λ e. rw (e, join_onto) (ap (λ (l : List ℕ). positions s r ++ l) (onto_positions q qs)))

  pub joined_positions : (rs : List Run) → flat_map (positions s) (join_runs rs) ≡ flat_map (positions s) rs
  unfolding flat_map
  joined_positions [] = refl
  joined_positions (r ∷ rs) = onto_positions r rs

-- As many of them

onto_sizes : (r : Run) (rs : List Run) → sizes (join_onto r rs) ≡ r.size + sizes rs
unfolding join_onto sum_of
onto_sizes r [] = refl
onto_sizes r (q ∷ qs) = by_meeting r q
    (λ e. rw (e, join_onto) (onto_sizes (longer r q) qs ∙ omega arith))
    (λ e. rw (e, join_onto, onto_sizes q qs))

pub joined_sizes : (rs : List Run) → sizes (join_runs rs) ≡ sizes rs
unfolding sum_of
joined_sizes [] = refl
joined_sizes (r ∷ rs) = onto_sizes r rs

-- No more runs

onto_few : (r : Run) (rs : List Run) → length (join_onto r rs) ≤ suc (length rs)
unfolding join_onto
onto_few r [] = omega arith
onto_few r (q ∷ qs) = by_meeting r q
    (λ e. rw (e, join_onto) (omega (arith, onto_few (longer r q) qs)))
    (λ e. rw (e, join_onto) (omega (arith, onto_few q qs)))

pub joined_few : (rs : List Run) → length (join_runs rs) ≤ length rs
joined_few [] = omega arith
joined_few (r ∷ rs) = onto_few r rs

-- No two of them meet

module _ (size : ℕ) where
  -- a written run without a fault has rows, starts behind the one before it and ends within the split
  pub read_within : (last : ℕ) (r : Run) → read_fault size last r ≡ none → (1 ≤ r.size) × (last ≤ r.start) × (r.start + r.size ≤ size)
  read_within last r h =
      by_bool (eqb r.size 0) (λ a. clash (cc (rw a at h)))
      (λ a. by_bool (ltb r.start last) (λ b. clash (cc (rw (a, b) at h)))
      (λ b. by_bool (ltb size (r.start + r.size)) (λ c. clash (cc (rw (a, b, c) at h)))
      (λ c. (omega (arith, eqb-false r.size 0 a), ltb-false r.start last b, ltb-false size (r.start + r.size) c))))

  within_read : (last : ℕ) (r : Run) → 1 ≤ r.size → last ≤ r.start → r.start + r.size ≤ size → read_fault size last r ≡ none
  within_read last r a b c = rw (ne_eqb r.size 0 (omega arith), le-ltb r.start last b, le-ltb size (r.start + r.size) c)

  -- it and those behind it
  pub first_sound : (i last : ℕ) (r : Run) (rs : List Run) → read_faults size i last (r ∷ rs) ≡ none → read_fault size last r ≡ none
  unfolding read_faults
  first_sound i last r rs h = by_option (read_fault size last r) (λ e. e) (λ n e. clash (cc (rw (e, read_faults) at h)))

  pub rest_sound : (i last : ℕ) (r : Run) (rs : List Run) → read_faults size i last (r ∷ rs) ≡ none → read_faults size (suc i) (r.start + r.size) rs ≡ none
  unfolding read_faults
  rest_sound i last r rs h = rw (first_sound i last r rs h, read_faults) at h

  -- a run with rows that ends within the split has no fault but to be late
  no_fault : (r : Run) (late : Bool) → 1 ≤ r.size → r.start + r.size ≤ size → late ≡ false
      → eqb r.size 0 || ltb size (r.start + r.size) || late ≡ false
  no_fault r late a b c = rw (ne_eqb r.size 0 (omega arith), le-ltb size (r.start + r.size) b) c

  onto_apart : (i : ℕ) (before : Option ℕ) (r : Run) (rs : List Run) → run_fault size before r ≡ false → read_faults size i (r.start + r.size) rs ≡ none
      → runs_fault size before (join_onto r rs) ≡ false
  unfolding join_onto runs_fault
  onto_apart i before r [] h k = rw h
  onto_apart i before r (q ∷ qs) h k =
      let v = run_within size r (not_after r.start before) h in
      let w = read_within (r.start + r.size) q (first_sound i (r.start + r.size) q qs k) in
      let g : read_faults size (suc i) (q.start + q.size) qs ≡ none = rest_sound i (r.start + r.size) q qs k in
      by_meeting r q
      (λ e.
      let m : r.start + (r.size + q.size) ≡ q.start + q.size = omega (arith, eqb-true (r.start + r.size) q.start e) in
      let f : run_fault size before (longer r q) ≡ false =
      no_fault (longer r q) (not_after r.start before) (omega (arith, v.0)) (omega (arith, w.2)) v.2 in
      rw (e, join_onto) (onto_apart (suc i) before (longer r q) qs f (rw m g)))
      (λ e.
      let l : leb q.start (r.start + r.size) ≡ false =
      lt-leb q.start (r.start + r.size) (omega (arith, w.1, eqb-false (r.start + r.size) q.start e)) in
      rw (e, join_onto, h) (onto_apart (suc i) (some (r.start + r.size)) q qs (no_fault q (leb q.start (r.start + r.size)) w.0 w.2 l) g))

  pub joined_apart : (rs : List Run) → read_faults size 0 0 rs ≡ none → runs_fault size none (join_runs rs) ≡ false
  unfolding runs_fault
  joined_apart [] h = refl
  joined_apart (r ∷ rs) h =
      let w = read_within 0 r (first_sound 0 0 r rs h) in
      onto_apart 1 none r rs (no_fault r false w.0 w.2 refl) (rest_sound 0 0 r rs h)

  -- Runs of which no two meet are read as they are

  -- a stored run and those behind it
  first_apart : (before : Option ℕ) (r : Run) (rs : List Run) → runs_fault size before (r ∷ rs) ≡ false → run_fault size before r ≡ false
  unfolding runs_fault
  first_apart before r rs h = or_left (run_fault size before r) (runs_fault size (some (r.start + r.size)) rs) h

  rest_apart : (before : Option ℕ) (r : Run) (rs : List Run) → runs_fault size before (r ∷ rs) ≡ false → runs_fault size (some (r.start + r.size)) rs ≡ false
  unfolding runs_fault
  rest_apart before r rs h = or_right (run_fault size before r) (runs_fault size (some (r.start + r.size)) rs) h

  behind : (last : ℕ) (r : Run) → run_fault size (some last) r ≡ false → last < r.start
  behind last r h = leb-false r.start last (run_within size r (leb r.start last) h).2

  -- whatever it stood behind, a run without a fault may be read behind one that ends by its start
  may_be_read : (before : Option ℕ) (last : ℕ) (r : Run) → run_fault size before r ≡ false → last ≤ r.start → read_fault size last r ≡ none
  may_be_read before last r h l =
      let w = run_within size r (not_after r.start before) h in
      within_read last r w.0 l w.1

  sound_behind : (i last : ℕ) (rs : List Run) → runs_fault size (some last) rs ≡ false → read_faults size i last rs ≡ none
  unfolding read_faults
  sound_behind i last [] h = refl
  sound_behind i last (r ∷ rs) h =
      let f : run_fault size (some last) r ≡ false = first_apart (some last) r rs h in
      let e : read_fault size last r ≡ none = may_be_read (some last) last r f (omega (arith, behind last r f)) in
      rw (e, read_faults) (sound_behind (suc i) (r.start + r.size) rs (rest_apart (some last) r rs h))

  pub apart_sound : (rs : List Run) → runs_fault size none rs ≡ false → read_faults size 0 0 rs ≡ none
  unfolding read_faults
  apart_sound [] h = refl
  apart_sound (r ∷ rs) h =
      let e : read_fault size 0 r ≡ none = may_be_read none 0 r (first_apart none r rs h) (omega arith) in
      rw (e, read_faults) (sound_behind 1 (r.start + r.size) rs (rest_apart none r rs h))

  onto_same : (before : Option ℕ) (r : Run) (rs : List Run) → runs_fault size before (r ∷ rs) ≡ false → join_onto r rs ≡ r ∷ rs
  unfolding join_onto
  onto_same before r [] h = refl
  onto_same before r (q ∷ qs) h =
      let g : runs_fault size (some (r.start + r.size)) (q ∷ qs) ≡ false = rest_apart before r (q ∷ qs) h in
      let l : r.start + r.size < q.start = behind (r.start + r.size) q (first_apart (some (r.start + r.size)) q qs g) in
      rw (ne_eqb (r.start + r.size) q.start (omega (arith, l)), join_onto)
      (ap (λ (l : List Run). r ∷ l) (onto_same (some (r.start + r.size)) q qs g))

  pub apart_joined : (rs : List Run) → runs_fault size none rs ≡ false → join_runs rs ≡ rs
  apart_joined [] h = refl
  apart_joined (r ∷ rs) h = onto_same none r rs h

-- What is accepted is restored

-- fewer runs are not too many
few_still : (full : Bool) (n k : ℕ) → n ≤ k → full || ltb max_runs k ≡ false → full || ltb max_runs n ≡ false
few_still full n k h e =
    let m : k ≤ max_runs = ltb-false max_runs k (or_right full (ltb max_runs k) e) in
    rw (or_left full (ltb max_runs k) e) (le-ltb max_runs n (omega (arith, h, m)))

-- what is accepted had no fault
no_fault_found : {A : Type 0} (o : Option Refusal) (x : Outcome A) (y : A) → unless_fault o x ≡ accepted y → (o ≡ none) × (x ≡ accepted y)
no_fault_found o (refused_by r) y e = clash (cc)
no_fault_found none (accepted x) y e = (refl, e)
no_fault_found (some r) (accepted x) y e = clash (cc)

pub split_passed : (a b : ℕ) (rs : List Run) (d e : Draft) → accept_split a b rs d ≡ accepted e
    → (read_faults (b - a) 0 0 rs ≡ none) × Passed (split_causes a b rs d []) × (new_split (record { start = a; end = b; runs = join_runs rs }) d ≡ e)
split_passed a b rs d e h =
    let x : Draft = new_split (record { start = a; end = b; runs = join_runs rs }) d in
    let f = no_fault_found (read_faults (b - a) 0 0 rs) (unless (split_causes a b rs d []) x) e h in
    let r = unless_passed (split_causes a b rs d []) x e f.1 in
    (f.0, r.0, r.1)

pub split_restored : (a b : ℕ) (rs : List Run) (d e : Draft) → accept_split a b rs d ≡ accepted e → restore_split a b (join_runs rs) d ≡ accepted e
split_restored a b rs d e h =
    let js : List Run = join_runs rs in
    let r = split_passed a b rs d e h in
    let p = r.1 in
    let few = few_still (is_empty d.nodes || leb max_splits (length d.splits)) (length js) (length rs) (joined_few rs) p.1.0 in
    let apart : runs_fault (b - a) none js ≡ false = joined_apart (b - a) rs r.0 in
    passed_unless (split_causes a b js d ((12, runs_fault (b - a) none js) ∷ [])) (new_split (record { start = a; end = b; runs = js }) d)
    (p.0, (few, (p.1.1.0, (p.1.1.1.0, (apart, tt)))))
    ∙ ap (λ (y : Draft). accepted y) r.2

-- and what is restored is accepted as it is: a record that was accepted while runs had to have a gap gives the same draft
split_accepted : (a b : ℕ) (rs : List Run) (d e : Draft) → restore_split a b rs d ≡ accepted e → accept_split a b rs d ≡ accepted e
split_accepted a b rs d e h =
    let r = unless_passed _ _ e h in
    let apart : runs_fault (b - a) none rs ≡ false = r.0.1.1.1.1.0 in
    let x : Draft = new_split (record { start = a; end = b; runs = join_runs rs }) d in
    let p : unless (split_causes a b rs d []) x ≡ accepted x =
    passed_unless (split_causes a b rs d []) x (r.0.0, (r.0.1.0, (r.0.1.1.0, (r.0.1.1.1.0, tt)))) in
    rw (apart_sound (b - a) rs apart, p) refl
    ∙ ap (λ (l : List Run). accepted (new_split (record { start = a; end = b; runs = l }) d)) (apart_joined (b - a) rs apart)
    ∙ ap (λ (y : Draft). accepted y) r.1

join_accepted : (k : Kind) (n : ℕ) (d e : Draft) → restore_join k n d ≡ accepted e → accept_join (length d.nodes) k n d ≡ accepted e
join_accepted k n d e h =
    let r = unless_passed _ _ e h in
    let p = r.0.1.1 in
    passed_unless (join_causes (length d.nodes) k n d []) (new_join k n d)
    (r.0.0, (r.0.1.0, (p.0, (p.1.0, (p.1.1.0, (p.1.1.1.0, tt)))))) ∙ ap (λ (y : Draft). accepted y) r.1

pub restore_accepts : (r : Record) (d e : Draft) → restore r d ≡ accepted e → accept_written r d ≡ accepted e
unfolding accept_written restore
restore_accepts (slots n) d e h = h
restore_accepts (leaf g n) d e h = h
restore_accepts (join k n) d e h = join_accepted k n d e h
restore_accepts (split a b rs) d e h = split_accepted a b rs d e h
