-- `split_records::splits::split_fault` meets its contract. Each test that led to the answer is one of the rule's.
use mathlib.Core.Path.{sym, ◌∙◌}
use Rattle.records.specs.Read.{runs_at}
use Rattle.split_records.proofs.SplitLaws.{runs_number, split_early, split_over, split_rootless, split_beyond, split_by_runs, lies_by, few_runs}
use Rattle.split_records.proofs.splits.split_fault.Goals as goal

pub returns-then-h-eq0-clause-result_value : goal.returns-then-h-eq0-clause-result_value
returns-then-h-eq0-clause-result_value c = λ d v. sym (split_early d c.args.h c.args.count c.args.x.start c.args.x.end c.args.x.count (runs_at c.args.b.now c.args.x.at c.args.x.count)
    (runs_number c.args.b.now c.args.x.at c.args.x.count) v c.if-h-eq0.true)

pub returns-then-over_limit-clause-result_value : goal.returns-then-over_limit-clause-result_value
returns-then-over_limit-clause-result_value c = λ d v. sym (split_over d c.args.h c.args.count c.args.x.start c.args.x.end c.args.x.count (runs_at c.args.b.now c.args.x.at c.args.x.count)
    (runs_number c.args.b.now c.args.x.at c.args.x.count) v c.if-h-eq0.false (sym c.over_limit.ensures ∙ c.if-over_limit.true))

pub returns-then-h-ne1-clause-result_value : goal.returns-then-h-ne1-clause-result_value
returns-then-h-ne1-clause-result_value c = λ d v. sym (split_rootless d c.args.h c.args.count c.args.x.start c.args.x.end c.args.x.count (runs_at c.args.b.now c.args.x.at c.args.x.count)
    (runs_number c.args.b.now c.args.x.at c.args.x.count) v c.if-h-eq0.false (sym c.over_limit.ensures ∙ c.if-over_limit.false) c.if-h-ne1.true)

pub returns-then-bad_range-clause-result_value : goal.returns-then-bad_range-clause-result_value
returns-then-bad_range-clause-result_value c = λ d v. sym (split_beyond d c.args.h c.args.count c.args.x.start c.args.x.end c.args.x.count (runs_at c.args.b.now c.args.x.at c.args.x.count)
    (runs_number c.args.b.now c.args.x.at c.args.x.count) v c.if-h-eq0.false (sym c.over_limit.ensures ∙ c.if-over_limit.false) c.if-h-ne1.false
    (sym c.bad_range.ensures ∙ c.if-bad_range.true))

pub returns-clause-result_value : goal.returns-clause-result_value
returns-clause-result_value c =
    λ d v. split_by_runs d c.args.h c.args.count c.args.x.start c.args.x.end c.args.x.count (runs_at c.args.b.now c.args.x.at c.args.x.count)
    (runs_number c.args.b.now c.args.x.at c.args.x.count) v c.if-h-eq0.false
    (sym c.over_limit.ensures ∙ c.if-over_limit.false) c.if-h-ne1.false (sym c.bad_range.ensures ∙ c.if-bad_range.false)
    c.read_faults.result (rw c.from.ensures at c.read_faults.ensures)

pub returns-clause-lies : goal.returns-clause-lies
returns-clause-lies c =
    lies_by c.args.b.now c.args.x (few_runs c.args.h c.args.count c.args.x.count (sym c.over_limit.ensures ∙ c.if-over_limit.false)) c.requires
    c.read_faults.result (rw c.from.ensures at c.read_faults.ensures)
