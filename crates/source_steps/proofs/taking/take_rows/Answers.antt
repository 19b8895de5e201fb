-- `source_steps::taking::take_rows` meets its contract.
use mathlib.Core.Path.{refl, ap, ◌∙◌}
use mathlib.Core.List.{◌∷◌}
use lib.ListN.{drop}
use Rattle.rules.specs.Port.{Batch}
use Rattle.rules.specs.Machine.{queue_at, set_queue}
use Rattle.rules.specs.Drive.{front_of}
use Rattle.batches.specs.Batch.{batch_of}
use Rattle.tables.specs.View.{view}
use Rattle.source_steps.specs.Front.{taken_all, taken_some, left_is}
use Rattle.source_steps.proofs.taking.take_rows.Goals as goal

pub returns-then-b-n : goal.returns-then-b-n
returns-then-b-n c = (
  rw (← taken_all c.args.n (queue_at (view c.args.s.now) c.args.x.at) (batch_of c.batch_at-b.result) c.requires.nonzero
      c.batch_at-b.ensures.result_value c.if-b-n.true)
      c.pop_batch.ensures.0,
  c.pop_batch.ensures.1,
)

pub returns-else-b-n : goal.returns-else-b-n
returns-else-b-n c = (
  rw (← taken_some c.args.n (queue_at (view c.args.s.now) c.args.x.at) (front_of (view c.args.s.now) c.args.x.at) c.requires.nonzero refl
      (λ t. c.if-b-n.false (ap (λ (y : Batch). y.rows) c.batch_at-b.ensures.result_value ∙ t)))
      (c.replace_front.ensures.0 ∙ ap (λ (b : Batch). set_queue c.args.x.at (b ∷ drop 1 (queue_at (view c.args.s.now) c.args.x.at)) (view c.args.s.now))
      (left_is c.args.n c.batch_at-b.result c.unwrap_or-rest.result c.behind.result _ (front_of (view c.args.s.now) c.args.x.at) c.batch_at-b.ensures.result_value c.requires.x_value
      c.behind.ensures c.unwrap_or-rest.ensures
      c.trimmed.ensures.result_value)),
  c.replace_front.ensures.1,
)
