-- `table_queues::output_ring::entry` meets its contract.
use mathlib.Core.Path.{◌≡◌, sym, ◌∙◌}
use native.Mathlib.Omega.{arith}
use Prim.Native.Nat.{◌+◌, ◌*◌, ◌-◌}
use Rattle.rules.specs.Port.{capacity}
use Rattle.batches.specs.Cells.{cells_of}
use Rattle.tables.specs.Outputs.{outputs_in, no_output, bad_output, outputs_bad, outputs_length, outputs_entry}
use Rattle.table_queues.specs.Entries.{only}
use borrow.Author.Rules.{rules}
use Rattle.table_queues.proofs.output_ring.entry.Goals as goal

pub returns-then-not-is_sound : goal.returns-then-not-is_sound
unfolding cells_of
returns-then-not-is_sound c =
    let w = outputs_bad c.args.r.now c.ring_of-q.result c.ring_of-q.ensures (sym c.is_sound.ensures ∙ c.if-not-is_sound.true) in
    record { result_value = only no_output bad_output (outputs_in c.args.r.now) c.args.k w (search rules); width_bound = omega arith }

pub place-requires : goal.place-requires
place-requires c =
    let q = c.ring_of-q.result in
    let n : q.capacity ≡ capacity = λ i. (c.ring_of-q.ensures i).capacity in
    let e = outputs_length c.args.r.now q c.ring_of-q.ensures (sym c.is_sound.ensures ∙ c.if-not-is_sound.false) in
    record { i_le_count = omega (arith, e); capacity_nonzero = omega arith }

pub returns : goal.returns
returns c =
    let a = 2 + c.place.result * 38 in
    let k : a + 38 - a ≡ 38 = omega arith in
    let e = sym c.is_sound.ensures ∙ c.if-not-is_sound.false in
    let h = outputs_entry c.args.r.now c.ring_of-q.result c.ring_of-q.ensures e (search rules) no_output c.args.k (search rules) in
    record { result_value = rw k at c.load.ensures.result_value ∙ sym (rw (← c.place.ensures.value) at h); width_bound = c.load.ensures.width_bound }
