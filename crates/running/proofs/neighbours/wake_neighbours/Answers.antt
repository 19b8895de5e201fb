-- `running::neighbours::wake_neighbours` meets its contract.
use mathlib.Core.Path.{◌∙◌}
use Rattle.tables.specs.View.{view}
use Rattle.running.specs.Neighbours.{neighbours_is}
use Rattle.running.proofs.neighbours.wake_neighbours.Goals as goal

pub returns : goal.returns
returns c = (
  neighbours_is c.args.p.at _ _ _ (view c.args.s.now) _ _ _ c.load-t.ensures c.load_inlets-xs.ensures.result_value c.pass_marks.ensures.0
      c.wake_touched.ensures.0 c.new.ensures c.store.ensures.0,
  c.store.ensures.1 ∙ c.wake_touched.ensures.1 ∙ c.pass_marks.ensures.1,
)
