-- `table_ports::rings::settle` meets its contract.
use mathlib.Core.Path.{sym, ◌∙◌}
use Rattle.table_ports.specs.Moves.{settle_leaves}
use borrow.Author.Rules.{rules}
use Rattle.table_ports.proofs.rings.settle.Goals as goal

pub returns : goal.returns
returns c =
    let w = settle_leaves c.args.s.now (search rules) c.args.x.at c.args.x.below c.load_ring-q.result c.load_ring-q.ensures
    (sym c.is_sound.ensures ∙ c.if-is_sound.false) c.settled-one.result c.settled-one.ensures c.store_ring.new.s (rw c.copy_from_slice.ensures.after at c.store_ring.ensures) in
    record { s_unchanged = w.0.0; s_unchanged_2 = w.0.1; value = w.1; result_value = w.2 }
