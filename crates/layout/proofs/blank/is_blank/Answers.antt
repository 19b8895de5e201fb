-- `layout::blank::is_blank` meets its contract: of the first bytes it is known.
use mathlib.Core.Path.{refl, sym, ap, ◌∙◌}
use mathlib.Core.Bool.{Bool, ◌&&◌}
use borrow.Author.Rules.{rules}
use lib.ListN.{get_or}
use Rattle.rules.specs.Table.{all}
use Rattle.layout.specs.Blank.{blank, is_zero, blank_more}
use Rattle.layout.proofs.blank.is_blank.Goals as goal

pub loop-b-init : goal.loop-b-init
unfolding blank all
loop-b-init c = refl

pub loop-b-preserved : goal.loop-b-preserved
loop-b-preserved c =
    let l = c.args.r.now in
    let i = c.loop-b.b-index in
    ap (λ (t : Bool). t && is_zero (get_or l i 0)) c.loop-b.invariant ∙ sym (blank_more l i (search rules))
