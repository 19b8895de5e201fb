-- `records::reading::split_fields` meets its contract.
use mathlib.Core.Path.{◌∙◌}
use native.Mathlib.Omega.{arith}
use Rattle.records.proofs.Parsers.{split_rest, end_rest, number_rest, runs_none, runs_some}
use Rattle.records.proofs.Runs.{runs_at_lem, runs_short}
use Rattle.records.proofs.reading.split_fields.Goals as goal

pub returns-then-b-from-clause-result_value : goal.returns-then-b-from-clause-result_value
returns-then-b-from-clause-result_value c =
    let z = c.in_ok-n.ensures.word_ends in
    runs_none _ _ _ _ (runs_short c.args.b.now c.in_ok-n.from c.in_ok-n.n z.1 (omega (arith, z.1)))
    ∙ number_rest _ _ _ _ _ c.in_ok-n.ensures.result_value ∙ end_rest _ _ _ _ c.in_ok-e.ensures.result_value ∙ split_rest _ _ _ c.in_ok-s.ensures.result_value

pub returns-clause-result_value : goal.returns-clause-result_value
returns-clause-result_value c =
    let z = c.in_ok-n.ensures.word_ends in
    runs_some _ _ _ _ _ _ (runs_at_lem c.args.b.now c.in_ok-n.from c.in_ok-n.n (omega (arith, z.1)))
    ∙ number_rest _ _ _ _ _ c.in_ok-n.ensures.result_value ∙ end_rest _ _ _ _ c.in_ok-e.ensures.result_value ∙ split_rest _ _ _ c.in_ok-s.ensures.result_value
