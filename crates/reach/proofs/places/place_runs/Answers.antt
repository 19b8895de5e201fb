-- `reach::places::place_runs` meets its contract.
use mathlib.Core.Path.{◌∙◌}
use Rattle.tables.specs.View.{view}
use Rattle.reach.specs.Places.{whole_is, kept_is}
use Rattle.reach.proofs.places.place_runs.Goals as goal

pub returns-then-p-ge72 : goal.returns-then-p-ge72
returns-then-p-ge72 c =
    whole_is (view c.args.s.now) c.args.p.at c.new-segment.result.0 c.node_rows.result _ c.if-p-ge72.true
    (c.new-segment.ensures ∙ c.node_segment.ensures) c.node_rows.ensures
    c.whole.ensures

pub returns : goal.returns
returns c =
    kept_is (view c.args.s.now) c.args.p.at c.new-segment.result.0 c.split_at.result c.runs_at-k.result c.if-p-ge72.false
    (c.new-segment.ensures ∙ c.node_segment.ensures)
    c.split_at.ensures c.runs_at-k.ensures.result_value
