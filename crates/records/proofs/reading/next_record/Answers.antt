-- `records::reading::next_record` meets its contract. The mark picks the rule's fields.
use mathlib.Core.Path.{sym, ◌∙◌}
use native.Mathlib.Omega.{arith}
use Rattle.records.proofs.ByMark.{record_at}
use Rattle.records.proofs.Parsers.{count_none, count_some}
use Rattle.records.proofs.reading.next_record.Goals as goal

pub returns-in-Leaf-clause-result_value : goal.returns-in-Leaf-clause-result_value
returns-in-Leaf-clause-result_value c =
    c.leaf_fields.ensures.result_value ∙ sym (record_at c.args.b.now c.args.at _ (omega arith) (sym c.in-Leaf.is ∙ c.mark.ensures))

pub returns-in-Split-clause-result_value : goal.returns-in-Split-clause-result_value
returns-in-Split-clause-result_value c =
    c.split_fields.ensures.result_value ∙ sym (record_at c.args.b.now c.args.at _ (omega arith) (sym c.in-Split.is ∙ c.mark.ensures))

pub returns-in-Unknown-clause-result_value : goal.returns-in-Unknown-clause-result_value
returns-in-Unknown-clause-result_value c = sym (record_at c.args.b.now c.args.at _ (omega arith) (sym c.in-Unknown.is ∙ c.mark.ensures))

pub returns-in_ok-n-in-Slots-clause-result_value : goal.returns-in_ok-n-in-Slots-clause-result_value
returns-in_ok-n-in-Slots-clause-result_value c =
    count_some _ _ _ _ c.in_ok-n-in-Slots.ensures.result_value ∙ sym (record_at c.args.b.now c.args.at _ (omega arith) (sym c.in-Slots.is ∙ c.mark.ensures))

pub returns-in_err-n-in-Slots-clause-result_value : goal.returns-in_err-n-in-Slots-clause-result_value
returns-in_err-n-in-Slots-clause-result_value c =
    rw c.from_residual.ensures
    (count_none _ _ c.in_err-n-in-Slots.ensures.result_value ∙ sym (record_at c.args.b.now c.args.at _ (omega arith) (sym c.in-Slots.is ∙ c.mark.ensures)))

pub returns-in_ok-n-in-Concat-clause-result_value : goal.returns-in_ok-n-in-Concat-clause-result_value
returns-in_ok-n-in-Concat-clause-result_value c =
    count_some _ _ _ _ c.in_ok-n-in-Concat.ensures.result_value ∙ sym (record_at c.args.b.now c.args.at _ (omega arith) (sym c.in-Concat.is ∙ c.mark.ensures))

pub returns-in_err-n-in-Concat-clause-result_value : goal.returns-in_err-n-in-Concat-clause-result_value
returns-in_err-n-in-Concat-clause-result_value c =
    rw c.from_residual-in_err-n-in-Concat.ensures
    (count_none _ _ c.in_err-n-in-Concat.ensures.result_value ∙ sym (record_at c.args.b.now c.args.at _ (omega arith) (sym c.in-Concat.is ∙ c.mark.ensures)))

pub returns-in_ok-n-in-Pack-clause-result_value : goal.returns-in_ok-n-in-Pack-clause-result_value
returns-in_ok-n-in-Pack-clause-result_value c =
    count_some _ _ _ _ c.in_ok-n-in-Pack.ensures.result_value ∙ sym (record_at c.args.b.now c.args.at _ (omega arith) (sym c.in-Pack.is ∙ c.mark.ensures))

pub returns-in_err-n-in-Pack-clause-result_value : goal.returns-in_err-n-in-Pack-clause-result_value
returns-in_err-n-in-Pack-clause-result_value c =
    rw c.from_residual-in_err-n-in-Pack.ensures
    (count_none _ _ c.in_err-n-in-Pack.ensures.result_value ∙ sym (record_at c.args.b.now c.args.at _ (omega arith) (sym c.in-Pack.is ∙ c.mark.ensures)))
