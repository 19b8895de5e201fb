-- `check_ports::held::cell_ok` meets its contract.
use mathlib.Core.Path.{sym, ◌∙◌}
use native.Mathlib.Omega.{arith}
use Rattle.rules.specs.Job.{no_node}
use Rattle.tables.specs.View.{view}
use Rattle.numbers.specs.Loops.{any_hit, any_miss, any_past}
use Rattle.check_ports.specs.Batches.{holds_rows, cell_is}
use Rattle.check_ports.proofs.held.cell_ok.Goals as goal

pub returns-then-holds_rows : goal.returns-then-holds_rows
returns-then-holds_rows c =
    let ns = (view c.args.s.now).job.nodes in
    let e = c.loop-l.invariant.0 in
    sym (cell_is (view c.args.s.now).job c.args.g c.args.row c.args.rows ∙ rw (← e)
    (c.loop-l.invariant.1 ∙ any_hit (holds_rows c.args.g _) no_node ns c.loop-l.l
    (omega (arith, c.node_count-n.ensures.value)) (sym c.if-holds_rows.true ∙ c.holds_rows.ensures)))

pub loop-l-preserved : goal.loop-l-preserved
loop-l-preserved c =
    let ns = (view c.args.s.now).job.nodes in (
      c.loop-l.invariant.0,
      c.loop-l.invariant.1 ∙ any_miss (holds_rows c.args.g _) no_node ns c.loop-l.l (omega (arith, c.node_count-n.ensures.value))
          (sym c.if-holds_rows.false ∙ c.holds_rows.ensures),
    )

pub returns : goal.returns
returns c =
    let ns = (view c.args.s.now).job.nodes in
    let e = c.loop-l.invariant.0 in
    sym (cell_is (view c.args.s.now).job c.args.g c.args.row c.args.rows ∙ rw (← e) (c.loop-l.invariant.1 ∙ any_past (holds_rows c.args.g _) ns c.loop-l.l
    (omega (arith, c.node_count-n.ensures.value))))
