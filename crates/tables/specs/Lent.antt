-- By which number the bytes that are lent to a step or a delivery are refused, whatever the machine that they say: 1 where they are fewer than the
-- published length, 12 where the numbers behind the machine are out of their range.
use Rattle.std.specs.Prelude.{◌≡◌, true, false, List, ℕ, ◌<◌, length, ltb, if◌then◌else◌}
use Rattle.std.proofs.Common.{sym, ◌∙◌, ltb-false, lt-ltb, le-ltb}
use Rattle.std.proofs.Math.Option.{Option, none, some}
use Rattle.rules.specs.Check.{labels_ok}
use Rattle.laws.specs.Table.{by_bool, clash}
use Rattle.tables.specs.View.{state_len, Published, labels_at}

abbrev pub lent_fault : List ℕ → Option ℕ
lent_fault s = if ltb (length s) state_len then some 1 else if labels_ok (labels_at s) then none else some 12

module _ (s : List ℕ) where
  -- short bytes, and others
  pub fault_short : length s < state_len → lent_fault s ≡ some 1
  fault_short h = rw (lt-ltb (length s) state_len h)

  pub fault_none : Published s → labels_ok (labels_at s) ≡ true → lent_fault s ≡ none
  fault_none z e = rw (le-ltb (length s) state_len z, e)

  pub fault_odd : Published s → labels_ok (labels_at s) ≡ false → lent_fault s ≡ some 12
  fault_odd z e = rw (le-ltb (length s) state_len z, e)

  -- what no fault says
  pub none_published : lent_fault s ≡ none → Published s
  none_published e = by_bool (ltb (length s) state_len) (λ d. clash (cc (rw d at e))) (λ d. ltb-false (length s) state_len d)

  pub none_passes : lent_fault s ≡ none → labels_ok (labels_at s) ≡ true
  none_passes e = by_bool (labels_ok (labels_at s)) (λ d. d)
      (λ d. clash (cc (sym (fault_odd (none_published e) d) ∙ e)))
