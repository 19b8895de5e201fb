-- `check_sources::pack::note_ok` meets its contract.
use mathlib.Core.Path.{sym, ap}
use Rattle.rules.specs.Table.{has}
use Rattle.rules.specs.Port as rows
use Rattle.rules.specs.Check.{same_bool, is_waiting_seen}
use Rattle.inlet_set.specs.InletSet.{set_of}
use Rattle.queue.specs.Seen.{seen_of}
use Rattle.check_sources.specs.Pack.{beq_is, entry_at}
use Rattle.check_sources.proofs.pack.note_ok.Goals as goal

pub returns : goal.returns
returns c =
    let x = c.args.x in let i = c.args.i in
    rw (c.has.ensures, c.is_waiting.ensures, beq_is)
    (ap (λ (y : rows.Seen). same_bool (has i (set_of x.waiting)) (is_waiting_seen y)) (sym (entry_at seen_of rows.ended x.len x.shown i _ (c.requires))))
