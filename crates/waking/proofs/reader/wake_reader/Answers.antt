-- `waking::reader::wake_reader` meets its contract.
use mathlib.Core.Path.{◌≡◌}
use lib.ListN.{take}
use borrow.Author.Rules.{rules}
use Rattle.rules.specs.Wake.{wake_reader}
use Rattle.tables.specs.View.{machine_len}
use Rattle.tables.specs.Front.{view_take, becomes_front}
use Rattle.waking.proofs.reader.wake_reader.Goals as goal

pub tell_reader-requires : goal.tell_reader-requires
tell_reader-requires c =
    let e : c.unwrap.result.now ≡ take machine_len c.args.s.now = search rules in
    record { p_value = rw (e, view_take c.args.s.now c.requires.sized) c.requires.p_value }

pub returns : goal.returns
returns c =
    let e : c.unwrap.result.now ≡ take machine_len c.args.s.now = search rules in
    becomes_front (wake_reader c.args.p c.args.i) c.args.s.now c.tell_reader.new.s c.requires.sized c.tell_reader.ensures.size
    (rw e at c.tell_reader.ensures.becomes)
