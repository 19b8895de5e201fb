-- Document 01: "Step and delivery check 1, then 12".
use Rattle.std.specs.Prelude.{◌≡◌, true, false, List, ℕ, ◌<◌, ◌≤◌, ◌++◌, length, take, drop, if◌then◌else◌, Ok, Err}
use Rattle.std.proofs.Math.Path.{refl}
use Rattle.std.proofs.Math.Option.{none, some}
use Rattle.std.proofs.Common.{arith, sym, ap, ◌∙◌, take-append-drop, length-take-le}
use Rattle.rules.specs.Check.{check, labels_ok}
use Rattle.laws.specs.Table.{by_bool}
use Rattle.jobs.specs.Refusal.{Verdict, number_of}
use Rattle.tables.specs.View.{view, state_len, labels_at, Published}
use Rattle.tables.specs.Front.{view_front, fault_front}
use Rattle.tables.specs.Lent.{lent_fault, fault_short, fault_none, fault_odd}

-- the number of the refusal, or 0: as the rules find it, and as a verdict says it
unfoldable pub checked : List ℕ → ℕ
checked s = elim (lent_fault s) [ none ↦ if check (view s) then 0 else 12 | some n ↦ n ]

abbrev pub number_or_0 : Verdict → ℕ
number_or_0 (Ok u) = 0
number_or_0 (Err r) = number_of r

module _ (s : List ℕ) where
  pub too_short : length s < state_len → 1 ≡ checked s
  unfolding checked
  too_short h = rw (checked, fault_short s h) refl

  pub mislabelled : Published s → labels_ok (labels_at s) ≡ false → 12 ≡ checked s
  unfolding checked
  mislabelled z e = rw (checked, fault_odd s z e) refl

  pub refused : Published s → check (view s) ≡ false → 12 ≡ checked s
  unfolding checked
  refused z e = by_bool (labels_ok (labels_at s)) (λ l. rw (checked, fault_none s z l, e) refl) (λ l. mislabelled z l)

  pub passed : Published s → check (view s) ≡ true → labels_ok (labels_at s) ≡ true → 0 ≡ checked s
  unfolding checked
  passed z e l = rw (checked, fault_none s z l, e) refl

-- What lies past a state says nothing: t are the bytes of a state at the front of s
module _ (s t : List ℕ) (h : state_len ≤ length s) (e : t ≡ take state_len s) where
  whole : s ≡ t ++ drop state_len s
  whole = sym (take-append-drop state_len s) ∙ ap (λ (r : List ℕ). r ++ drop state_len s) (sym e)

  pub published : Published t
  published = omega (arith, ap length e, length-take-le state_len s h)

  pub view_is : view s ≡ view t
  view_is = ap view whole ∙ view_front t (drop state_len s) (omega (arith, published))

  pub checked_is : checked s ≡ checked t
  unfolding checked
  checked_is =
      let r = drop state_len s in
      let v : view (t ++ r) ≡ view t = view_front t r (omega (arith, published)) in
      ap checked whole ∙ (λ i. elim (fault_front t r published i) [ none ↦ if check (v i) then 0 else 12 | some n ↦ n ])
