-- `check_sources::fed::fed_shared` meets its contract.
use borrow.Author.Tests.{lt-leb}
use borrow.Author.Rules.{rules}
use mathlib.Core.Path.{sym, ◌∙◌}
use native.Mathlib.Omega.{arith}
use Rattle.rules.specs.Machine.{inlets_at}
use Rattle.tables.specs.View.{view}
use Rattle.check_sources.specs.Fed.{shared_one, shared_low, shared_not}
use Rattle.check_sources.proofs.fed.fed_shared.Goals as goal

pub returns-then-inlet_count-ne1 : goal.returns-then-inlet_count-ne1
returns-then-inlet_count-ne1 c =
    shared_not (view c.args.s.now) c.args.p.at (inlets_at (view c.args.s.now) c.args.p.at) (λ e. c.if-inlet_count-ne1.true (c.inlet_count.ensures.value ∙ e))

pub returns-else-x-ge72 : goal.returns-else-x-ge72
returns-else-x-ge72 c =
    rw (lt-leb 72 c.inlet-x.result (search rules)) (shared_low (view c.args.s.now) c.args.p.at (inlets_at (view c.args.s.now) c.args.p.at) (sym c.inlet_count.ensures.value ∙ c.if-inlet_count-ne1.false)
    (omega (arith, c.inlet-x.ensures, c.if-x-ge72.false)))

pub returns-then-x-ge72 : goal.returns-then-x-ge72
returns-then-x-ge72 c =
    rw (c.is_own.ensures, c.inlet-x.ensures)
    (shared_one (view c.args.s.now) c.args.p.at (inlets_at (view c.args.s.now) c.args.p.at) (sym c.inlet_count.ensures.value ∙ c.if-inlet_count-ne1.false)
    (omega (arith, c.inlet-x.ensures, c.if-x-ge72.true)))
