-- `records::fields::word` meets its contract.
use Rattle.std.proofs.Common.{◌≡◌, sym}
use native.Mathlib.Omega.{arith}
use Rattle.records.specs.Read.{value}
use Rattle.records.proofs.Words.{word_at}
use Rattle.records.proofs.fields.word.Goals as goal

pub returns-clause-result_value : goal.returns-clause-result_value
returns-clause-result_value c =
    let e : c.from_le_bytes.result ≡ value c.args.b.now c.args.at = omega (arith, c.from_le_bytes.ensures) in
    rw e (sym (word_at c.args.b.now c.args.at (omega arith)))
