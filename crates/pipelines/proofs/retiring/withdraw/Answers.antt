-- `pipelines::retiring::withdraw` meets its contract.
use mathlib.Core.Path.{◌≡◌}
use lib.ListN.{take}
use borrow.Author.Rules.{rules}
use Rattle.rules.specs.Machine.{with_ready}
use Rattle.rules.specs.Pipelines.{retire, without}
use Rattle.tables.specs.View.{machine_len}
use Rattle.tables.specs.Front.{view_take, becomes_front}
use Rattle.pipelines.proofs.retiring.withdraw.Goals as goal

pub leave_ready_and_retire-requires : goal.leave_ready_and_retire-requires
leave_ready_and_retire-requires c =
    let e : c.unwrap.result.now ≡ take machine_len c.args.s.now = search rules in
    record { all = rw (e, view_take c.args.s.now c.requires.sized) c.requires.all }

pub returns : goal.returns
returns c =
    let e : c.unwrap.result.now ≡ take machine_len c.args.s.now = search rules in
    becomes_front (λ m. retire c.args.p.at (with_ready (without c.args.p.at m.ready) m)) c.args.s.now c.leave_ready_and_retire.new.s c.requires.sized
    c.leave_ready_and_retire.ensures.size (rw e at c.leave_ready_and_retire.ensures.becomes)
