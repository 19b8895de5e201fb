-- `kept::runs::is_whole` meets its contract.
use native.Mathlib.Omega.{arith}
use mathlib.Core.Path.{◌≡◌, sym, ◌∙◌}
use mathlib.Core.Bool.{true≢false}
use lib.ListN.{length}
use borrow.Author.Tests.{ne_eqb}
use Rattle.kept.proofs.KeptLaws.{whole_one, not_whole, no_run}
use Rattle.kept.proofs.runs.is_whole.Goals.{then-k-eq1, else-k-eq1}
use Rattle.kept.proofs.runs.is_whole.Goals as goal

pub returns-then-k-eq0 : goal.returns-then-k-eq0
returns-then-k-eq0 c =
    let h : length c.args.k.runs ≡ 16 = (c.well_formed.1.0.1.1.1.0.1.0.1) in
    elim c.if-k-eq1.branch [
      | then-k-eq1 w ↦ rw (whole_one c.args.rows no_run c.args.k.runs c.args.k.count (omega arith) w.if-k-eq1.true, sym w.value-is ∙ c.if-k-eq0.true)
      | else-k-eq1 w ↦ absurd (true≢false (sym c.if-k-eq0.true ∙ w.value-is ∙ ne_eqb c.args.k.count 1 w.if-k-eq1.false))
    ]

pub returns-else-k-eq0 : goal.returns-else-k-eq0
returns-else-k-eq0 c =
    let h : length c.args.k.runs ≡ 16 = (c.well_formed.1.0.1.1.1.0.1.0.1) in
    elim c.if-k-eq1.branch [
      | then-k-eq1 w ↦
          rw (whole_one c.args.rows no_run c.args.k.runs c.args.k.count (omega arith) w.if-k-eq1.true, sym w.value-is, c.if-k-eq0.false)
      | else-k-eq1 w ↦ rw c.if-k-eq0.false (sym (not_whole c.args.rows c.args.k.runs c.args.k.count (omega arith) w.if-k-eq1.false))
    ]
