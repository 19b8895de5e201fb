-- `lines::page::text` meets its contract: what is still to be put comes to the same as all.
use Rattle.lines.specs.PageLaws.{puts_at, puts_none}
use mathlib.Core.Path.{sym, ◌∙◌}
use Rattle.lines.proofs.page.text.Goals as goal

pub loop-x-preserved : goal.loop-x-preserved
loop-x-preserved c = puts_at c.args.b.now c.loop-x.x-index _ _ c.loop-x-test.true c.byte-done.ensures ∙ c.loop-x.invariant

pub returns : goal.returns
returns c = sym (puts_none c.args.b.now c.loop-x.x-index _ c.loop-x-test.false) ∙ c.loop-x.invariant
