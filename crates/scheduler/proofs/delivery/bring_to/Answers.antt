-- `scheduler::delivery::bring_to` meets its contract.
use Rattle.scheduler.specs.Delivery.{bring_some}
use Rattle.table_pipes.specs.Source.{source_of}
use mathlib.Core.Path.{◌∙◌}
use Rattle.tables.specs.View.{view}
use Rattle.scheduler.proofs.delivery.bring_to.Goals as goal

pub returns : goal.returns
returns c = (
  bring_some c.args.p.at (source_of c.load_source-x.result) (source_of c.brought.result) (view c.args.s.now) (view c.store_source.new.s)
      (view c.make_runnable.new.s) c.load_source-x.ensures c.brought.ensures c.store_source.ensures.0 c.make_runnable.ensures.0,
  c.make_runnable.ensures.1
      ∙ c.store_source.ensures.1,
)
