-- `check_sources::pack::notes_ok` meets its contract: what is left to test has the same answer.
use mathlib.Core.Path.{◌≡◌, sym, ◌∙◌}
use Prim.Native.Nat.{◌+◌, ◌-◌}
use native.Mathlib.Omega.{arith}
use lib.ListN.{length}
use Rattle.rules.specs.Table.{all, up_from}
use Rattle.inlet_set.specs.InletSet.{set_of}
use Rattle.pack_source.specs.Pack.{seen_in}
use Rattle.check_sources.specs.Answers.{fails, goes_on}
use Rattle.check_sources.specs.Pack.{note_ok, up_first, up_none}
use borrow.Author.Rules.{rules}
use Rattle.check_sources.proofs.pack.notes_ok.Goals as goal

pub loop-i-init : goal.loop-i-init
loop-i-init c = let e : length (seen_in c.args.x) - 0 ≡ length (seen_in c.args.x) = omega arith in rw e

pub returns-then-not-note_ok : goal.returns-then-not-note_ok
returns-then-not-note_ok c =
    let f = note_ok (seen_in c.args.x) (set_of c.args.x.waiting) in let n = (length (seen_in c.args.x)) in let k = c.loop-i.i in
    fails _ _ (all f (up_from (k + 1) (n - (k + 1)))) _ c.note_ok.ensures (up_first f n k (search rules))
    (c.if-not-note_ok.true) ∙ sym c.loop-i.invariant

pub loop-i-preserved : goal.loop-i-preserved
loop-i-preserved c =
    let f = note_ok (seen_in c.args.x) (set_of c.args.x.waiting) in let n = (length (seen_in c.args.x)) in let k = c.loop-i.i in
    c.loop-i.invariant ∙ goes_on _ _ (all f (up_from (k + 1) (n - (k + 1)))) _ c.note_ok.ensures (up_first f n k (search rules))
    (c.if-not-note_ok.false)

pub returns : goal.returns
returns c =
    let f = note_ok (seen_in c.args.x) (set_of c.args.x.waiting) in up_none f (length (seen_in c.args.x)) c.loop-i.i (search rules) ∙ sym c.loop-i.invariant
