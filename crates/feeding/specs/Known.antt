-- Each refusal of a job is one of the code's cases, so that its line is that case's.
use Rattle.std.specs.Prelude.{◌≡◌, ℕ, ◌≤◌, List, eqb}
use Rattle.std.proofs.Common.{arith}
use Rattle.std.proofs.Math.Path.{refl}
use Rattle.std.proofs.Math.Option.{Option, none, some}
use borrow.Author.Tests.{eqb-true, eqb-false}
use Rattle.laws.specs.Table.{by_bool, clash}
use Rattle.laws.specs.Numbered.{Numbered, parse_numbered}
use Rattle.rules.specs.Job.{Job, Outcome, Refusal, refused_by, accepted, parse}
use Rattle.rules.specs.Machine.{Machine, start}
use Rattle.rules.specs.Scan.{«open»}
use Rattle.jobs.specs.Refusal.{refusal_of, lone, at_run, refusing}

abbrev Lone : ℕ → Type 0
Lone n = refusal_of (lone n) ≡ record { number = n; index = none }

lone_known : (n : ℕ) → 2 ≤ n → n ≤ 8 → Lone n
lone_known n h k =
    by_bool (eqb n 2) (λ e. rw (eqb-true n 2 e) refl)
    (λ a. by_bool (eqb n 3) (λ e. rw (eqb-true n 3 e) refl)
    (λ b. by_bool (eqb n 4) (λ e. rw (eqb-true n 4 e) refl)
    (λ c. by_bool (eqb n 5) (λ e. rw (eqb-true n 5 e) refl)
    (λ d. by_bool (eqb n 6) (λ e. rw (eqb-true n 6 e) refl)
    (λ f. by_bool (eqb n 7) (λ e. rw (eqb-true n 7 e) refl)
    (λ g.
    let z : n ≡ 8 = omega (arith, h, k, eqb-false n 2 a, eqb-false n 3 b, eqb-false n 4 c, eqb-false n 5 d, eqb-false n 6 f, eqb-false n 7 g) in
    rw z refl))))))

run_known : (n i : ℕ) → 17 ≤ n → n ≤ 19 → refusal_of (at_run n i) ≡ record { number = n; index = some i }
run_known n i h k =
    by_bool (eqb n 17) (λ e. rw (eqb-true n 17 e) refl)
    (λ a. by_bool (eqb n 18) (λ e. rw (eqb-true n 18 e) refl)
    (λ b. let z : n ≡ 19 = omega (arith, h, k, eqb-false n 17 a, eqb-false n 18 b) in rw z refl))

known : (r : Refusal) → Numbered r → refusal_of (refusing r) ≡ r
known r v = by r.index r.number v
  where
    by : (o : Option ℕ) (n : ℕ) → let q : Refusal = record { number = n; index = o } in Numbered q → refusal_of (refusing q) ≡ q
    by none n v = lone_known n v.0 v.1
    by (some i) n v = run_known n i v.0 v.1

parsed : (o : Outcome Job) (r : Refusal)
    → ◌≡◌ {A = Outcome Machine} (elim o [ refused_by q ↦ refused_by q | accepted j ↦ accepted (start j) ]) (refused_by r) → o ≡ refused_by r
parsed (refused_by q) r e = let d : q ≡ r = cc in rw d refl
parsed (accepted j) r e = clash (cc)

pub open_known : (job : List ℕ) (r : Refusal) → «open» job ≡ refused_by r → refusal_of (refusing r) ≡ r
unfolding «open»
open_known job r e = known r (parse_numbered job r (parsed (parse job) r e))
