-- `check_sources::sets::set_ok` meets its contract: what is left to test has the same answer.
use mathlib.Core.Path.{sym, ap, ◌∙◌}
use Prim.Native.Nat.{ℕ, ◌-◌, min}
use Rattle.rules.specs.Check.{set_ok}
use Rattle.numbers.specs.Newest.{newest}
use Rattle.numbers.specs.Newest.{newest_length}
use Rattle.check_sources.specs.Answers.{fails, goes_on}
use Rattle.check_sources.specs.Sets.{set_first, set_none}
use borrow.Author.Rules.{rules}
use Rattle.check_sources.proofs.sets.set_ok.Goals as goal

pub loop-k-init : goal.loop-k-init
loop-k-init c =
    ap (λ (j : ℕ). set_ok c.args.n (newest c.args.x.indices j))
    (sym (c.len-k.ensures.value ∙ newest_length c.args.x.indices (min c.args.x.len 23)))

pub returns-then-not-number_ok : goal.returns-then-not-number_ok
returns-then-not-number_ok c =
    let j = c.loop-k.k in
    fails _ _ (set_ok c.args.n (newest c.args.x.indices (j - 1))) _ c.number_ok.ensures (set_first c.args.n c.args.x.indices j (search rules))
    (c.if-not-number_ok.true) ∙ sym c.loop-k.invariant

pub loop-k-preserved : goal.loop-k-preserved
loop-k-preserved c =
    let j = c.loop-k.k in
    c.loop-k.invariant ∙ goes_on _ _ (set_ok c.args.n (newest c.args.x.indices (j - 1))) _ c.number_ok.ensures
    (set_first c.args.n c.args.x.indices j (search rules)) (c.if-not-number_ok.false)

pub returns : goal.returns
returns c =
    set_none c.args.n c.args.x.indices c.loop-k.k (search rules) ∙ sym c.loop-k.invariant
