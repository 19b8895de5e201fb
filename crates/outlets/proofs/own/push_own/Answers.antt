use borrow.Author.Rules.{rules}
use Rattle.outlets.specs.Close.{push_own}
use Rattle.tables.specs.View.{view}
use Rattle.batches.specs.Batch.{batch_of}
use mathlib.Core.Path.{◌∙◌}
use Rattle.outlets.proofs.own.push_own.Goals as goal

pub returns : goal.returns
returns c = (
  rw (c.push_batch.ensures.becomes.0, c.mark_port.ensures.0) (push_own (view c.args.s.now) c.args.x.at (batch_of c.args.b) (search rules) (search rules)),
  c.push_batch.ensures.becomes.1 ∙ c.mark_port.ensures.1,
)
