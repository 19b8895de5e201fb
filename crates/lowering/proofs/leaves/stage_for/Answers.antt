-- `lowering::leaves::stage_for` meets its contract.
use Rattle.tables.specs.View.{view}
use Rattle.lowering.specs.Leaves.{stage_none, stage_some}
use Rattle.lowering.proofs.leaves.stage_for.Goals as goal

pub returns-then-is_whole : goal.returns-then-is_whole
returns-then-is_whole c =
    stage_none (view c.args.s.now) _ _ _ _ _ c.load_node-x.ensures c.kept_at-k.ensures.result_value c.is_whole.ensures c.if-is_whole.true

pub returns : goal.returns
returns c =
    stage_some (view c.args.s.now) _ _ _ _ _ c.load_node-x.ensures c.kept_at-k.ensures.result_value c.is_whole.ensures c.if-is_whole.false
