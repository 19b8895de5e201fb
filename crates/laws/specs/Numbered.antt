-- By which numbers opening refuses a job, beside 1: 2 to 8 alone, and 17 to 19 with the index of one of a split's 16 runs. Document 02 (h):
-- "Number 9 is no longer returned."
use Rattle.std.specs.Prelude.{◌≡◌, refl, Bool, true, ◌||◌, ◌&&◌, List, [], ◌∷◌, ℕ, zero, suc, ◌+◌, ◌-◌, ◌≤◌, ◌<◌, length, eqb, leb, ltb, if◌then◌else◌}
use Rattle.std.proofs.Common.{ap, subst, arith, ltb-false, leb-true}
use Rattle.std.proofs.Math.Option.{Option, none, some}
use Rattle.rules.specs.Table.{is_empty}
use Rattle.rules.specs.Job.{Run, Draft, Record, slots, leaf, join, split, Refusal, Outcome, refused_by, accepted, unless, max_splits, max_runs, join_runs}
use Rattle.rules.specs.Job.{read_fault, read_faults, unless_fault, new_split, split_causes, Reading, no_reading, goes_on, grows, stands_for, read_as, accept}
use Rattle.rules.specs.Job.{accept_slots, accept_leaf, accept_join, accept_split, next_record, read_all, records, parse}
use Rattle.laws.specs.Table.{by_bool, by_option, clash, and_left, and_right, or_right}
use Rattle.laws.specs.Draft.{unless_passed}
use Rattle.laws.specs.Accepted.{by_outcome}

-- an index stands beside 17 to 19, and beside no other number
abbrev pub Numbered : Refusal → Type 0
Numbered r = elim r.index [ none ↦ (2 ≤ r.number) × (r.number ≤ 8) | some i ↦ (17 ≤ r.number) × (r.number ≤ 19) × (i < max_runs) ]

-- Causes without an index

abbrev low : List (ℕ × Bool) → Bool
low [] = true
low (c ∷ cs) = leb 2 c.0 && leb c.0 8 && low cs

low_numbered : {A : Type 0} (cs : List (ℕ × Bool)) (x : A) (r : Refusal) → low cs ≡ true → unless cs x ≡ refused_by r → Numbered r
unfolding unless
low_numbered [] x r l e = clash (cc)
low_numbered (c ∷ cs) x r l e =
    let v = and_left (leb 2 c.0 && leb c.0 8) (low cs) l in
    by_bool c.1
    (λ h.
    let d : record { number = c.0; index = none } ≡ r = cc (rw (h, unless) at e) in
    subst Numbered d (leb-true 2 c.0 (and_left (leb 2 c.0) (leb c.0 8) v), leb-true c.0 8 (and_right (leb 2 c.0) (leb c.0 8) v)))
    (λ h. low_numbered cs x r (and_right (leb 2 c.0 && leb c.0 8) (low cs) l) (rw (h, unless) at e))

-- Runs at fault

run_number : (size last : ℕ) (r : Run) (n : ℕ) → read_fault size last r ≡ some n → (17 ≤ n) × (n ≤ 19)
run_number size last r n e =
    by_bool (eqb r.size 0) (λ a. let d : 17 ≡ n = cc (rw a at e) in (omega arith, omega arith))
    (λ a. by_bool (ltb r.start last) (λ b. let d : 18 ≡ n = cc (rw (a, b) at e) in (omega arith, omega arith))
    (λ b. by_bool (ltb size (r.start + r.size)) (λ c. let d : 19 ≡ n = cc (rw (a, b, c) at e) in (omega arith, omega arith))
    (λ c. clash (cc (rw (a, b, c) at e)))))

runs_number : (size i last : ℕ) (rs : List Run) (r : Refusal) → read_faults size i last rs ≡ some r → i + length rs ≤ max_runs → Numbered r
unfolding read_faults
runs_number size i last [] r e h = clash (cc)
runs_number size i last (q ∷ qs) r e h =
    by_option (read_fault size last q) (λ o. runs_number size (suc i) (q.start + q.size) qs r (rw (o, read_faults) at e) (omega arith))
    (λ n o.
    let w = run_number size last q n o in
    let d : record { number = n; index = some i } ≡ r = cc (rw (o, read_faults) at e) in
    subst Numbered d (w.0, w.1, omega arith))

-- a split is refused by the checks before its runs, or by a run
fault_found : {A : Type 0} (o : Option Refusal) (x : Outcome A) (r : Refusal) → unless_fault o x ≡ refused_by r → (x ≡ refused_by r → Numbered r)
    → ((y : A) → x ≡ accepted y → o ≡ some r → Numbered r) → Numbered r
fault_found o (refused_by q) r e f g = f e
fault_found none (accepted y) r e f g = clash (cc)
fault_found (some q) (accepted y) r e f g = g y refl (cc)

split_numbered : (a b : ℕ) (rs : List Run) (d : Draft) (r : Refusal) → accept_split a b rs d ≡ refused_by r → Numbered r
split_numbered a b rs d r e =
    let x : Draft = new_split (record { start = a; end = b; runs = join_runs rs }) d in
    fault_found (read_faults (b - a) 0 0 rs) (unless (split_causes a b rs d []) x) r e (low_numbered (split_causes a b rs d []) x r refl)
    (λ y p o.
    let few = or_right (is_empty d.nodes || leb max_splits (length d.splits)) (ltb max_runs (length rs)) (unless_passed _ _ y p).0.1.0 in
    runs_number (b - a) 0 0 rs r o (omega (arith, ltb-false max_runs (length rs) few)))

-- All records

-- what is read of a draft is refused as the draft is
read_refused : (f : Draft → Reading) (o : Outcome Draft) (r : Refusal) → read_as f o ≡ refused_by r → o ≡ refused_by r
read_refused f (refused_by q) r e = let d : q ≡ r = cc in ap (λ (p : Refusal). refused_by p) d
read_refused f (accepted d) r e = clash (cc)

accept_numbered : (t : Record) (x : Reading) (r : Refusal) → accept t x ≡ refused_by r → Numbered r
unfolding accept
accept_numbered (slots n) x r e = low_numbered _ _ r refl (read_refused (goes_on x) (accept_slots n x.draft) r e)
accept_numbered (leaf g n) x r e = low_numbered _ _ r refl (read_refused (grows x) (accept_leaf x.count g n x.draft) r e)
accept_numbered (join k n) x r e =
    low_numbered _ _ r refl (read_refused (if eqb n 1 then stands_for x else grows x) (accept_join x.count k n x.draft) r e)
accept_numbered (split a b rs) x r e = split_numbered a b rs x.draft r (read_refused (goes_on x) (accept_split a b rs x.draft) r e)

records_numbered : (f : ℕ) (x : Reading) (bytes : List ℕ) (r : Refusal) → read_all accept f x bytes ≡ refused_by r → Numbered r
unfolding read_all
records_numbered zero x bytes r e = clash (cc)
records_numbered (suc f) x [] r e = clash (cc)
records_numbered (suc f) x (b ∷ bs) r e =
    by_option (next_record (b ∷ bs))
    (λ o. let g : record { number = 2; index = none } ≡ r = cc (rw (o, read_all) at e) in subst Numbered g (omega arith, omega arith))
    (λ t o. by_outcome (accept t.0 x)
    (λ q a. let g : q ≡ r = cc (rw (o, a, read_all) at e) in accept_numbered t.0 x r (rw g at a))
    (λ c a. records_numbered f c t.1 r (rw (o, a, read_all) at e)))

pub parse_numbered : (bytes : List ℕ) (r : Refusal) → parse bytes ≡ refused_by r → Numbered r
unfolding parse
parse_numbered bytes r e =
    by_outcome (records bytes)
    (λ q o. let g : q ≡ r = cc (rw (o, parse) at e) in records_numbered (length bytes) no_reading bytes r (rw g at o))
    (λ x o. low_numbered _ _ r refl (rw (o, parse) at e))
