-- `check_ports::bounded::slot_port` meets its contract.
use mathlib.Core.Path.{sym, ap, ◌∙◌}
use borrow.Author.Rules.{rules}
use Rattle.rules.specs.Machine.{Port}
use Rattle.rules.specs.Check.{reader_ok}
use Rattle.tables.specs.View.{view}
use Rattle.check_ports.specs.Ports.{port_unused, port_misread, port_of_slot}
use Rattle.check_ports.proofs.bounded.slot_port.Goals as goal

pub returns-then-not-is_used : goal.returns-then-not-is_used
returns-then-not-is_used c =
    c.is_unread.ensures ∙ sym (port_unused _ _ _ (sym c.is_used.ensures ∙ c.if-not-is_used.true))

pub returns-else-slot_reader : goal.returns-else-slot_reader
returns-else-slot_reader c =
    c.if-slot_reader.false ∙ port_misread _ _ _ (sym c.is_used.ensures ∙ c.if-not-is_used.false)
    (sym c.if-slot_reader.false ∙ c.slot_reader.ensures ∙ ap (λ (y : Port). reader_ok (view c.args.s.now) c.args.x.at y.reader) c.load_port.ensures)

pub returns-then-slot_reader : goal.returns-then-slot_reader
returns-then-slot_reader c =
    c.bounded_ok.ensures
    ∙ port_of_slot _ _ _ (sym c.is_used.ensures ∙ c.if-not-is_used.false) (search rules)
    (sym c.if-slot_reader.true ∙ c.slot_reader.ensures ∙ ap (λ (y : Port). reader_ok (view c.args.s.now) c.args.x.at y.reader) c.load_port.ensures)
