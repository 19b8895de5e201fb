-- `pack_source::pack_ready::ended_of` meets its contract.
use native.Mathlib.Omega.{arith}
use borrow.Author.Rules.{rules}
use mathlib.Core.Path.{refl, ◌∙◌}
use Rattle.rules.specs.Table.{filter}
use Rattle.numbers.specs.Bit.{bit_most, bit_byte}
use Rattle.queue.specs.declared.seen.Seen.TheVariants.{Waiting}
use Rattle.pack_source.specs.PackReadyLaws.{count_next}
use Rattle.pack_source.proofs.pack_ready.ended_of.Goals as goal

pub loop-i-init : goal.loop-i-init
unfolding filter
loop-i-init c = (omega arith, refl)

pub loop-i-preserved : goal.loop-i-preserved
loop-i-preserved c =
    let e = c.from-count.ensures ∙ bit_byte c.has_ended.result in (
      omega (arith, bit_most c.has_ended.result, e, c.loop-i.invariant.0),
      count_next _ c.loop-i.i Waiting c.loop-i.count _ _ c.loop-i.invariant.1 e c.has_ended.ensures (search rules),
    )
