-- `leaving::ends::leave` meets its contract.
use mathlib.Core.Path.{◌≡◌}
use lib.ListN.{take}
use borrow.Author.Rules.{rules}
use Rattle.rules.specs.Scan.{leave}
use Rattle.tables.specs.View.{machine_len}
use Rattle.tables.specs.Front.{view_take, becomes_front}
use Rattle.leaving.proofs.ends.leave.Goals as goal

pub leave_slot-requires : goal.leave_slot-requires
leave_slot-requires c =
    let e : c.unwrap.result.now ≡ take machine_len c.args.s.now = search rules in
    record { ranged = rw (e, view_take c.args.s.now c.requires.sized) c.requires.ranged }

pub returns : goal.returns
returns c =
    let e : c.unwrap.result.now ≡ take machine_len c.args.s.now = search rules in
    becomes_front (leave c.args.k.at c.args.t.at) c.args.s.now c.leave_slot.new.s c.requires.sized
    c.leave_slot.ensures.size (rw e at c.leave_slot.ensures.becomes)
