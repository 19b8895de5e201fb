-- `split_records::splits::next_split` meets its contract.
use Rattle.std.specs.Prelude.{Err}
use native.Mathlib.Omega.{arith}
use mathlib.Core.Path.{◌≡◌, ap}
use Rattle.rules.specs.Job.{goes_on, read_as, accept}
use Rattle.split_records.proofs.splits.next_split.Goals as goal

pub returns-in_err-split_fault-in-Split-clause-result_value : goal.returns-in_err-split_fault-in-Split-clause-result_value
unfolding accept
returns-in_err-split_fault-in-Split-clause-result_value c =
    let gone : c.from_residual.result ≡ Err c.in_err-split_fault-in-Split.field-0.0 = grind arith in
    λ x v late. rw (gone, c.in-Split.is) (ap (read_as (goes_on x)) (c.in_err-split_fault-in-Split.ensures.result_value x.draft v))

pub returns-in_ok-split_fault-in-Split-clause-result_value : goal.returns-in_ok-split_fault-in-Split-clause-result_value
unfolding accept
returns-in_ok-split_fault-in-Split-clause-result_value c =
    λ x v late. rw c.in-Split.is (ap (read_as (goes_on x)) (c.in_ok-split_fault-in-Split.ensures.result_value x.draft v))
