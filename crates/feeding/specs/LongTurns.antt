-- A turn where there is no room for the job: it is refused by its first records, or by a split with too many runs, all of which must come.
use Rattle.std.specs.Prelude.{◌≡◌, Bool, true, ◌||◌, List, [], ◌∷◌, ◌++◌, ℕ, zero, suc, ◌+◌, ◌*◌, ◌-◌, ◌≤◌, ◌<◌, take, drop, get_or, eqb, leb, if◌then◌else◌}
use Rattle.std.specs.Prelude.{Ok, Err}
use Rattle.std.proofs.Math.Path.{refl}
use Rattle.std.proofs.Common.{sym, ap, subst, ◌∙◌, append-nil, append_assoc, arith}
use Rattle.std.proofs.Math.Bool.{false}
use Rattle.std.proofs.Math.Option.{none, some}
use Rattle.std.proofs.Math.ListN.{length, length-append}
use Rattle.std.proofs.Math.Seq.{take-length, take-append_seam, drop-append_seam, drop-append-add, get_or-append_seam, get_or-append-add}
use Rattle.std.proofs.Math.Dec.{ltb}
use borrow.Author.Tests.{eqb-true, lt-ltb, le-ltb}
use Rattle.laws.specs.Table.{by_bool, by_option, clash, and_left, and_right}
use Rattle.rules.specs.Job.{
  Draft,
  Reading,
  Refusal,
  refused_by,
  refused,
  accepted,
  Run,
  split,
  is_mark,
  SC,
  SG,
  CC,
  PK,
  SP,
  word,
  ◌>>=◌,
  runs,
  fields,
  next_record,
  read_all,
  max_splits,
  max_runs,
  rootless,
  unless,
  accept,
  finish,
}
use Rattle.rules.specs.Table.{is_empty}
use Rattle.records.specs.Read as read
use Rattle.lines.specs.Lines.{opened_text}
use Rattle.call_records.specs.Taken.{record_takes, runs_takes}
use Rattle.rules.specs.Machine.{Machine}
use Rattle.rules.specs.Scan.{«open»}
use Rattle.rules.specs.Session as rule
use Rattle.rules.specs.Session.{at_call}
use Rattle.feeding.specs.declared.Phase.TheVariants as phase
use Rattle.feeding.specs.declared.Task.TheVariants as task
use Rattle.feeding.specs.Tasks.{long_task}
use Rattle.feeding.specs.Verdict.{numbered, verdict_of}
use Rattle.turn.specs.Told.{ToldVerdict as Verdict, telling, verdict_told, says_telling}
use Rattle.jobs.specs.Refusal as jobs
use Rattle.feeding.specs.Turned.{told_two, long_told, is_two, long_verdict, opened, skips, does}
use Rattle.feeding.specs.Ahead.{Says}
use Rattle.feeding.specs.Walk.{read_on, accept_on, Walk, walk_next}
use Rattle.feeding.specs.Openings.{behind_none, made, opens, open_walk, session_all, session_refused}

-- is refused by what is there
refused_says : (xs ys : List ℕ) (r : Refusal) (m : Machine) → rule.session (xs ++ ys) ≡ rule.ended (rule.refusal_line r) → «open» xs ≡ refused_by r
    → Says phase.Job m xs ys (opened («open» (take (length xs) xs)) (length xs) m)
refused_says xs ys r m e o = rw (take-length xs, o) (e ∙ sym (append-nil _))

-- or by a split that is skipped
skips_says : (front rest ys : List ℕ) (size : ℕ) (m : Machine) →
    rule.session (front ++ (rest ++ ys)) ≡ opened_text (if ltb (length (rest ++ ys)) size then verdict_of («open» (front ++ rest))
    else long_told (verdict_of («open» (front ++ rest))) (verdict_of («open» front)))
    → Says phase.Job m (front ++ rest) ys (skips («open» (front ++ rest)) («open» (take (length front) (front ++ rest))) (length front) size m)
skips_says front rest ys size m e = rw (append_assoc front rest ys, take-append_seam front rest, drop-append_seam front rest) e

-- records that are refused
either : (t : Bool) (v : Verdict) → (if t then v else v) ≡ v
either true v = refl
either false v = refl

same_verdict : (v : Verdict) → long_told v v ≡ v
same_verdict v = by_bool (told_two v) (λ e. rw e) (λ e. rw e)

-- what openings answer, told before or after
two_told : (v : jobs.Verdict) → told_two (verdict_told v) ≡ is_two v
two_told (Ok u) = refl
two_told (Err r) = refl

pub long_told_of : (all front : jobs.Verdict) → long_told (verdict_told all) (verdict_told front) ≡ verdict_told (long_verdict all front)
long_told_of all front =
    rw (two_told all, two_told front)
    (by_bool (is_two all) (λ e. by_bool (is_two front) (λ k. rw (e, k)) (λ k. rw (e, k))) (λ e. rw e))

module _ (front rest ys : List ℕ) (m : Machine) (r : Refusal) (w : Walk front (refused_by r)) where
  opens_refused : (xs : List ℕ) → «open» (front ++ xs) ≡ refused_by r
  opens_refused xs = open_walk front (refused_by r) w xs

  open_front : «open» front ≡ refused_by r
  open_front = rw (append-nil front) at (opens_refused [])

  pub long_refused : Says phase.Job m (front ++ rest) ys (does none phase.Job m (front ++ rest) (long_task (front ++ rest) (length front)))
  unfolding does long_task
  long_refused =
      let s = refused_says (front ++ rest) ys r m (rw (append_assoc front rest ys) (session_refused front r w (rest ++ ys))) (opens_refused rest) in
      by_bool (ltb (length (front ++ rest) - length front) 142) (λ e. rw (long_task, e) s)
      (λ e. by_bool (is_mark (get_or (front ++ rest) (length front) 0) (get_or (front ++ rest) (length front + 1) 0) SP)
      (λ k. rw (long_task, e, k) (skips_says front rest ys _ m
      (session_refused front r w (rest ++ ys) ∙ rw (opens_refused rest, open_front, same_verdict (Err (telling r)), either)
      (ap (λ (q : Refusal). rule.ended (rule.refusal_line q)) (sym (says_telling r))))))
      (λ k. rw (long_task, e, k) s))

-- records that are accepted, and then what is more than a split may have

-- what holds of bytes by their first twelve
module _ (P : List ℕ → Type 0) (p : (a b c d e f g h i j k l : ℕ) (xs : List ℕ) → P (a ∷ b ∷ c ∷ d ∷ e ∷ f ∷ g ∷ h ∷ i ∷ j ∷ k ∷ l ∷ xs)) where
  twelve : (xs : List ℕ) → 12 ≤ length xs → P xs
  twelve [] z = absurd (omega arith)
  twelve (a ∷ []) z = absurd (omega arith)
  twelve (a ∷ b ∷ []) z = absurd (omega arith)
  twelve (a ∷ b ∷ c ∷ []) z = absurd (omega arith)
  twelve (a ∷ b ∷ c ∷ d ∷ []) z = absurd (omega arith)
  twelve (a ∷ b ∷ c ∷ d ∷ e ∷ []) z = absurd (omega arith)
  twelve (a ∷ b ∷ c ∷ d ∷ e ∷ f ∷ []) z = absurd (omega arith)
  twelve (a ∷ b ∷ c ∷ d ∷ e ∷ f ∷ g ∷ []) z = absurd (omega arith)
  twelve (a ∷ b ∷ c ∷ d ∷ e ∷ f ∷ g ∷ h ∷ []) z = absurd (omega arith)
  twelve (a ∷ b ∷ c ∷ d ∷ e ∷ f ∷ g ∷ h ∷ i ∷ []) z = absurd (omega arith)
  twelve (a ∷ b ∷ c ∷ d ∷ e ∷ f ∷ g ∷ h ∷ i ∷ j ∷ []) z = absurd (omega arith)
  twelve (a ∷ b ∷ c ∷ d ∷ e ∷ f ∷ g ∷ h ∷ i ∷ j ∷ k ∷ []) z = absurd (omega arith)
  twelve (a ∷ b ∷ c ∷ d ∷ e ∷ f ∷ g ∷ h ∷ i ∷ j ∷ k ∷ l ∷ xs) z = p a b c d e f g h i j k l xs

module _ (a b c d e f g h i j k l : ℕ) where
  abbrev led : List ℕ → List ℕ
  led xs = a ∷ b ∷ c ∷ d ∷ e ∷ f ∷ g ∷ h ∷ i ∷ j ∷ k ∷ l ∷ xs

  -- what is no split and no record stays none
  other_none : (x y : ℕ) (xs ys : List ℕ) → is_mark x y SP ≡ false → next_record (x ∷ y ∷ led xs) ≡ none → next_record (x ∷ y ∷ led ys) ≡ none
  unfolding next_record fields word
  other_none x y xs ys s o =
      by_bool (is_mark x y SC) (λ u. clash (cc (rw (fields, u) at o)))
      (λ u. by_bool (is_mark x y SG) (λ v. clash (cc (rw (fields, u, v) at o)))
      (λ v. by_bool (is_mark x y CC) (λ p. clash (cc (rw (fields, u, v, p) at o)))
      (λ p. by_bool (is_mark x y PK) (λ q. clash (cc (rw (fields, u, v, p, q) at o))) (λ q. rw (fields, u, v, p, q, s)))))

-- runs that are not there have too few bytes
none_next : (n : ℕ) (xs : List ℕ) → (runs n xs ≡ none → length xs < 8 * n) → (a b c d e f g h : ℕ) → runs (suc n) (a ∷ b ∷ c ∷ d ∷ e ∷ f ∷ g ∷ h ∷ xs) ≡ none
    → length (a ∷ b ∷ c ∷ d ∷ e ∷ f ∷ g ∷ h ∷ xs) < 8 * suc n
unfolding runs word
none_next n xs ih a b c d e f g h o = by_option (runs n xs) (λ u. let v = ih u in omega arith) (λ r u. clash (cc (rw (◌>>=◌, u) at o)))

none_few : (n : ℕ) (xs : List ℕ) → runs n xs ≡ none → length xs < 8 * n
unfolding runs
none_few zero xs o = clash (cc)
none_few (suc n) [] o = omega arith
none_few (suc n) (a ∷ []) o = omega arith
none_few (suc n) (a ∷ b ∷ []) o = omega arith
none_few (suc n) (a ∷ b ∷ c ∷ []) o = omega arith
none_few (suc n) (a ∷ b ∷ c ∷ d ∷ []) o = omega arith
none_few (suc n) (a ∷ b ∷ c ∷ d ∷ e ∷ []) o = omega arith
none_few (suc n) (a ∷ b ∷ c ∷ d ∷ e ∷ f ∷ []) o = omega arith
none_few (suc n) (a ∷ b ∷ c ∷ d ∷ e ∷ f ∷ g ∷ []) o = omega arith
none_few (suc n) (a ∷ b ∷ c ∷ d ∷ e ∷ f ∷ g ∷ h ∷ xs) o = none_next n xs (none_few n xs) a b c d e f g h o

-- those that are there are as many as they should be
some_all : (n : ℕ) (xs : List ℕ) (rs : List Run) (rest : List ℕ) → runs n xs ≡ some (rs, rest) → (length rs ≡ n) × (8 * n ≤ length xs)
some_all n xs rs rest o =
    let t = runs_takes n xs rs rest o in
    (t.size.0, omega (arith, t.size.1, ap length t.is, length-append t.front rest))

or-true : (t : Bool) → t || true ≡ true
or-true true = refl
or-true false = refl

-- a split with too many runs is refused by 2 before `SC` and else by 3, which is what the records before it tell
finish_slots : (d : Draft) → eqb d.slots 0 ≡ true → finish d ≡ refused 2
unfolding unless
finish_slots d s = rw (s, unless)

-- after `SC` the end is never refused by 2
finish_other : (d : Draft) → eqb d.slots 0 ≡ false → told_two (verdict_of (made (finish d))) ≡ false
unfolding unless
finish_other d s =
    by_bool (is_empty d.nodes) (λ n. rw (s, n, unless))
    (λ n. by_bool (rootless d) (λ r. rw (s, n, r, unless)) (λ r. rw (s, n, r, unless)))

abbrev long_number : Bool → ℕ
long_number t = if t then 2 else 3

split_number : (a b : ℕ) (rs : List Run) (x : Reading) → 16 < length rs
    → accept (split a b rs) x ≡ refused (long_number (told_two (verdict_of (opens (accepted x)))))
unfolding accept unless
split_number a b rs x h =
    let d = x.draft in
    by_bool (eqb d.slots 0) (λ s. rw (finish_slots d s, s, unless))
    (λ s. rw (finish_other d s, s, unless, lt-ltb max_runs (length rs) h, or-true (is_empty d.nodes || leb max_splits (length d.splits))))

long_line : (t : Bool) → rule.ended (rule.no_line (long_number t)) ≡ opened_text (if t then Err (numbered 2) else Err (numbered 3))
long_line true = refl
long_line false = refl

-- records that are accepted, and then none: a job that is cut short
none_read : (z : Reading) (x : ℕ) (xs : List ℕ) → next_record (x ∷ xs) ≡ none → read_on (accepted z) (x ∷ xs) ≡ refused 2
unfolding read_all
none_read z x xs o = rw (read_all, o)

module _ (front : List ℕ) (z : Reading) (w : Walk front (accepted z)) where
  short_open : (x : ℕ) (xs : List ℕ) → next_record (x ∷ xs) ≡ none → «open» (front ++ x ∷ xs) ≡ refused 2
  short_open x xs o = open_walk front (accepted z) w (x ∷ xs) ∙ ap opens (none_read z x xs o)

  short_session : (x : ℕ) (xs : List ℕ) → at_call (x ∷ xs) ≡ false → next_record (x ∷ xs) ≡ none → rule.session (front ++ x ∷ xs) ≡ rule.ended (rule.no_line 2)
  unfolding rule.opened
  short_session x xs c o = session_all front (accepted z) w (x ∷ xs) (behind_none (x ∷ xs) c o) ∙ rw (short_open x xs o)

  front_open : «open» front ≡ opens (accepted z)
  unfolding read_all
  front_open = rw (append-nil front) at (open_walk front (accepted z) w [])

  -- what is to be done where there are more bytes than a split may have
  long_task_lem : (x y : ℕ) (xs : List ℕ) → 140 ≤ length xs → long_task (front ++ x ∷ y ∷ xs) (length front)
      ≡ (if is_mark x y SP then task.Skip (length front) (14 + 8 * read.number_of (word (drop 8 xs))) else task.Open (length (front ++ x ∷ y ∷ xs)))
  unfolding long_task
  long_task_lem x y xs h =
      let n : ltb (length (front ++ x ∷ y ∷ xs) - length front) 142 ≡ false =
      le-ltb (length (front ++ x ∷ y ∷ xs) - length front) 142 (simp length-append (omega arith)) in
      rw (long_task, n, get_or-append_seam front x (y ∷ xs) 0, get_or-append-add front (x ∷ y ∷ xs) 1 0, drop-append-add front (x ∷ y ∷ xs) 10)

  abbrev LongSays : List ℕ → Machine → ℕ → ℕ → List ℕ → Type 0
  LongSays ys m x y xs =
      let p = front ++ x ∷ y ∷ xs in
      Says phase.Job m p ys (does none phase.Job m p (long_task p (length front)))

  module _ (a b c d e f g h i j k l : ℕ) where
    abbrev past : List ℕ → List ℕ
    past xs = led a b c d e f g h i j k l xs

    -- a split's mark and its three numbers, then some bytes
    abbrev headed : List ℕ → List ℕ
    headed xs = 83 ∷ 80 ∷ past xs

    abbrev many : ℕ
    many = i + 256 * (j + 256 * (k + 256 * l))

    split_none : (xs : List ℕ) → runs many xs ≡ none → next_record (headed xs) ≡ none
    unfolding next_record fields word
    split_none xs o = rw (◌>>=◌, o)

    runs_none : (xs : List ℕ) → next_record (headed xs) ≡ none → runs many xs ≡ none
    unfolding next_record fields word
    runs_none xs o = by_option (runs many xs) (λ u. u) (λ r u. clash (cc (rw (◌>>=◌, u) at o)))

    split_some : (xs : List ℕ) (rs : List Run) (rest : List ℕ) → runs many xs ≡ some (rs, rest)
        → next_record (headed xs) ≡ some (split (a + 256 * (b + 256 * (c + 256 * d))) (e + 256 * (f + 256 * (g + 256 * h))) rs, rest)
    unfolding next_record fields word
    split_some xs rs rest o = rw (◌>>=◌, o)

    head_call : (xs : List ℕ) → at_call (headed xs) ≡ false
    unfolding at_call
    head_call xs = refl

    -- all runs are there
    whole_session : (xs : List ℕ) (rs : List Run) (rest : List ℕ) → runs many xs ≡ some (rs, rest) → 16 < length rs
        → rule.session (front ++ headed xs) ≡ opened_text (long_told (Err (numbered 2)) (verdict_of («open» front)))
    whole_session xs rs rest o m =
        let t = record_takes (headed xs) _ rest (split_some xs rs rest o) in
        let v = walk_next (headed xs) _ rest (head_call xs) t front (accepted z) w in
        let r : accept_on (accepted z) _ ≡ refused _ = split_number _ _ rs z m in
        ap (λ (u : List ℕ). rule.session (front ++ u)) t.is ∙ ap rule.session (sym (append_assoc front t.front rest))
        ∙ session_refused (front ++ t.front) _ (subst (Walk (front ++ t.front)) r v) rest
        ∙ rw front_open (long_line (told_two (verdict_of (opens (accepted z)))))

    -- by the bytes behind the split's mark and numbers, with those that are still to come
    split_session : (xs ys : List ℕ) → next_record (headed xs) ≡ none → 128 ≤ length xs → rule.session (front ++ (headed xs ++ ys)) ≡ opened_text
        (if ltb (length (headed xs ++ ys)) (14 + 8 * many) then verdict_of («open» (front ++ headed xs))
        else long_told (verdict_of («open» (front ++ headed xs))) (verdict_of («open» front)))
    split_session xs ys o m =
        let n : length xs < 8 * many = none_few many xs (runs_none xs o) in
        rw (short_open 83 _ o)
        (by_option (runs many (xs ++ ys))
        (λ u. let v = none_few many (xs ++ ys) u in
        rw (lt-ltb (length (headed xs ++ ys)) (14 + 8 * many) (omega arith)) (short_session 83 _ (head_call (xs ++ ys)) (split_none (xs ++ ys) u)))
        (λ r u. let v = some_all many (xs ++ ys) r.0 r.1 u in
        rw (le-ltb (length (headed xs ++ ys)) (14 + 8 * many) (omega (arith, v.1))) (whole_session (xs ++ ys) r.0 r.1 u (omega (arith, v.0)))))

    split_says : (ys : List ℕ) (m : Machine) (xs : List ℕ) → next_record (headed xs) ≡ none → 128 ≤ length xs → LongSays ys m 83 80 (past xs)
    unfolding does word
    split_says ys m xs o n =
        rw (long_task_lem 83 80 (past xs) (omega arith)) (skips_says front (headed xs) ys (14 + 8 * many) m (split_session xs ys o n))

    other_says : (ys : List ℕ) (m : Machine) (x y : ℕ) → is_mark x y SP ≡ false → (xs : List ℕ) → at_call (x ∷ y ∷ past xs) ≡ false
        → next_record (x ∷ y ∷ past xs) ≡ none → 128 ≤ length xs → LongSays ys m x y (past xs)
    unfolding does at_call
    other_says ys m x y s xs v o n =
        rw (long_task_lem x y (past xs) (omega arith), s)
        (refused_says (front ++ x ∷ y ∷ past xs) ys (record { number = 2; index = none }) m
        (rw (append_assoc front (x ∷ y ∷ past xs) ys) (short_session x _ v (other_none a b c d e f g h i j k l x y xs (xs ++ ys) s o))) (short_open x _ o))

    two_says : (ys : List ℕ) (m : Machine) (x y : ℕ) (xs : List ℕ) → at_call (x ∷ y ∷ past xs) ≡ false → next_record (x ∷ y ∷ past xs) ≡ none
        → 128 ≤ length xs → LongSays ys m x y (past xs)
    two_says ys m x y xs v o n =
        by_bool (is_mark x y SP)
        (λ s.
        let p : x ≡ 83 = eqb-true x 83 (and_left (eqb x 83) (eqb y 80) s) in
        let q : y ≡ 80 = eqb-true y 80 (and_right (eqb x 83) (eqb y 80) s) in
        rw (p, q) (split_says ys m xs (rw (p, q) at o) n))
        (λ s. other_says ys m x y s xs v o n)

  pub long_says : (ys : List ℕ) (m : Machine) (xs : List ℕ) → at_call xs ≡ false → next_record xs ≡ none → 142 ≤ length xs
      → Says phase.Job m (front ++ xs) ys (does none phase.Job m (front ++ xs) (long_task (front ++ xs) (length front)))
  long_says ys m [] v o n = absurd (omega arith)
  long_says ys m (x ∷ []) v o n = absurd (omega arith)
  long_says ys m (x ∷ y ∷ xs) v o n =
      twelve (λ (r : List ℕ). at_call (x ∷ y ∷ r) ≡ false → next_record (x ∷ y ∷ r) ≡ none → 140 ≤ length r → LongSays ys m x y r)
      (λ a b c d e f g h i j k l r t u z. two_says a b c d e f g h i j k l ys m x y r t u (omega arith)) xs (omega arith) v o (omega arith)
