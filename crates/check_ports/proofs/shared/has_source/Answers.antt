-- `check_ports::shared::has_source` meets its contract.
use mathlib.Core.Path.{sym, ◌∙◌}
use native.Mathlib.Omega.{arith}
use Rattle.tables.specs.View.{view}
use Rattle.check_ports.specs.Sources.{seeks_start, seeks_hit, seeks_miss, seeks_end, own_source}
use Rattle.check_ports.proofs.shared.has_source.Goals as goal

pub returns-then-is_source : goal.returns-then-is_source
returns-then-is_source c =
    own_source (view c.args.s.now) c.args.l.at (sym c.is_source.ensures ∙ c.if-is_source.true)

pub loop-g-init : goal.loop-g-init
loop-g-init c = seeks_start (view c.args.s.now) c.args.l.at

pub returns-then-is_source-2 : goal.returns-then-is_source-2
returns-then-is_source-2 c =
    seeks_hit (view c.args.s.now) c.args.l.at c.loop-g.g (omega (arith, c.node_count-n.ensures.value)) c.loop-g.invariant
    (sym c.is_source-in-loop-g.ensures ∙ c.if-is_source-2.true)

pub loop-g-preserved : goal.loop-g-preserved
loop-g-preserved c =
    seeks_miss (view c.args.s.now) c.args.l.at c.loop-g.g (omega (arith, c.node_count-n.ensures.value)) c.loop-g.invariant
    (sym c.is_source-in-loop-g.ensures ∙ c.if-is_source-2.false)

pub returns : goal.returns
returns c =
    seeks_end (view c.args.s.now) c.args.l.at c.loop-g.g (omega (arith, c.node_count-n.ensures.value)) c.loop-g.invariant
