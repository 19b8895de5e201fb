-- `table_ports::queues::batch_at` meets its contract.
use native.Mathlib.Omega.{arith}
use mathlib.Core.Path.{sym, ap, ◌∙◌}
use Rattle.rules.specs.Table.{get}
use Rattle.rules.specs.Port.{no_batch}
use Rattle.batches.specs.Cells.{cells_of}
use Rattle.table_ports.specs.Moves.{bad_is, get_none, length_is, entry_is}
use borrow.Author.Rules.{rules}
use Rattle.table_ports.proofs.queues.batch_at.Goals as goal

pub returns-then-not-is_sound : goal.returns-then-not-is_sound
unfolding cells_of
returns-then-not-is_sound c =
    let e = sym c.is_sound.ensures ∙ c.if-not-is_sound.true in
    let w = bad_is c.args.s.now (search rules) c.args.x.at (search rules) c.load_ring-q.result c.load_ring-q.ensures e in
    record { result_value = sym (ap (λ q. get no_batch q c.args.i) w ∙ get_none c.args.i); width_bound = search rules }

pub batch_place-p-requires : goal.batch_place-p-requires
batch_place-p-requires c =
    let q = c.load_ring-q.result in
    let e = sym c.is_sound.ensures ∙ c.if-not-is_sound.false in
    let l = length_is c.args.s.now (search rules) c.args.x.at (search rules) q c.load_ring-q.ensures e in
    record { i_le_count = omega (arith, l); capacity_value = λ i. (c.load_ring-q.ensures i).capacity }

pub returns : goal.returns
returns c =
    let e = sym c.is_sound.ensures ∙ c.if-not-is_sound.false in
    let w = entry_is c.args.s.now (search rules) c.args.x.at (search rules) c.load_ring-q.result c.load_ring-q.ensures e c.args.i c.batch_place-p.result
    c.batch_place-p.ensures.value c.batch_place-p.ensures.upper_bound (search rules) in
    record { result_value = c.get_batch.ensures.result_value ∙ sym w; width_bound = c.get_batch.ensures.width_bound }
