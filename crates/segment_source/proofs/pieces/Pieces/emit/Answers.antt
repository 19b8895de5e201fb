-- `segment_source::pieces::Pieces::emit` meets its contract.
use native.Mathlib.Omega.{arith}
use Rattle.segment_source.specs.PiecesLaws.{end_is, more_is, last_is}
use Rattle.segment_source.proofs.pieces.Pieces.emit.Goals as goal

pub returns-then-k-n : goal.returns-then-k-n
returns-then-k-n c = end_is _ _ c.len-n.ensures _ (omega arith)

pub returns-then-k-n-2 : goal.returns-then-k-n-2
returns-then-k-n-2 c = more_is _ _ c.len-n.ensures _ _ c.of_run-batch.ensures (omega arith)

pub returns-else-k-n-2 : goal.returns-else-k-n-2
returns-else-k-n-2 c = last_is _ _ c.len-n.ensures _ _ c.of_run-batch.ensures (omega arith) (omega arith)
