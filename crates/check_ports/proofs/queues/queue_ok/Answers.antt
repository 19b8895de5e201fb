-- `check_ports::queues::queue_ok` meets its contract.
use mathlib.Core.Path.{sym, ◌∙◌}
use Rattle.check_ports.specs.Queues.{idle_ok, busy_ok}
use Rattle.check_ports.proofs.queues.queue_ok.Goals as goal

pub returns-then-is_idle : goal.returns-then-is_idle
returns-then-is_idle c = c.if-is_idle.true ∙ sym (idle_ok _ _ _ (sym c.is_idle.ensures ∙ c.if-is_idle.true))

pub returns-else-is_idle : goal.returns-else-is_idle
returns-else-is_idle c = c.is_used.ensures ∙ sym (busy_ok _ _ _ (sym c.is_idle.ensures ∙ c.if-is_idle.false))
