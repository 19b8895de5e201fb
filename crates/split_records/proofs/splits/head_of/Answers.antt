-- `split_records::splits::head_of` meets its contract.
use mathlib.Core.Path.{refl}
use Rattle.split_records.proofs.SplitLaws.{heads_some, heads_none}
use Rattle.split_records.proofs.splits.head_of.Goals as goal

pub returns-then-n-gt0 : goal.returns-then-n-gt0
returns-then-n-gt0 c = heads_some c.args.d c.requires _ refl refl refl c.if-n-gt0.true refl

pub returns-else-n-gt0 : goal.returns-else-n-gt0
returns-else-n-gt0 c = heads_none c.args.d c.requires _ refl refl refl c.if-n-gt0.false refl
