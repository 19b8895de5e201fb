-- `source_steps::inlets::sees` meets its contract.
use Rattle.rules.specs.Machine.{queue_at}
use Rattle.tables.specs.View.{view}
use Rattle.source_steps.specs.Inlets.{sees_some, sees_closed, sees_open}
use Rattle.source_steps.proofs.inlets.sees.Goals as goal

pub returns-then-not-is_idle : goal.returns-then-not-is_idle
returns-then-not-is_idle c =
    sees_some (queue_at (view c.args.s.now) c.args.x.at) _ c.is_idle.result c.is_idle.ensures
    (c.if-not-is_idle.true)

pub returns-then-load_port : goal.returns-then-load_port
returns-then-load_port c =
    sees_closed (view c.args.s.now) c.args.x.at c.is_idle.result _ c.is_idle.ensures (c.if-not-is_idle.false)
    c.load_port.ensures c.if-load_port.true

pub returns-else-load_port : goal.returns-else-load_port
returns-else-load_port c =
    sees_open (view c.args.s.now) c.args.x.at c.is_idle.result _ c.is_idle.ensures (c.if-not-is_idle.false) c.load_port.ensures
    c.if-load_port.false
