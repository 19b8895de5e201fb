-- `check_ports::shared::share_port` meets its contract.
use mathlib.Core.Path.{sym, ap, ◌∙◌}
use borrow.Author.Rules.{rules}
use Rattle.rules.specs.Machine.{Port}
use Rattle.rules.specs.Check.{reader_ok}
use Rattle.tables.specs.View.{view}
use Rattle.check_ports.specs.Ports.{port_unused, port_misread, port_shared}
use Rattle.check_ports.proofs.shared.share_port.Goals as goal

pub returns-then-not-is_used : goal.returns-then-not-is_used
returns-then-not-is_used c =
    c.is_unread.ensures ∙ sym (port_unused _ _ _ (sym c.is_used.ensures ∙ c.if-not-is_used.true))

pub returns-else-share_reader : goal.returns-else-share_reader
returns-else-share_reader c =
    c.if-share_reader.false ∙ port_misread _ _ _ (sym c.is_used.ensures ∙ c.if-not-is_used.false)
    (sym c.if-share_reader.false ∙ c.share_reader.ensures ∙ ap (λ (y : Port). reader_ok (view c.args.s.now) c.args.x.at y.reader) c.load_port.ensures)

pub returns-then-share_reader : goal.returns-then-share_reader
returns-then-share_reader c =
    c.shared_ok.ensures
    ∙ port_shared _ _ _ (sym c.is_used.ensures ∙ c.if-not-is_used.false) (search rules)
    (sym c.if-share_reader.true ∙ c.share_reader.ensures ∙ ap (λ (y : Port). reader_ok (view c.args.s.now) c.args.x.at y.reader) c.load_port.ensures)
