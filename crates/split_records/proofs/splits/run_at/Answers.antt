-- `split_records::splits::run_at` meets its contract.
use native.Mathlib.Omega.{arith}
use Prim.Native.Nat.{◌+◌}
use Rattle.records.proofs.Words.{word_at}
use Rattle.split_records.proofs.splits.run_at.Goals as goal

pub returns : goal.returns
returns c =
    rw (c.number.ensures, c.number-2.ensures, word_at c.args.b.now c.args.at (omega arith), word_at c.args.b.now (c.args.at + 4) (omega arith))
