-- `turns::output::write_all` writes the text piece by piece, and stops at the first that is not taken.
use Rattle.std.proofs.Common.{rules, ◌≡◌, ℕ, List, ◌+◌, ◌-◌, ◌++◌, length, take, drop, sym, ap, ◌∙◌, subst}
use Rattle.std.proofs.lemmas.List.{take_rest}
use Rattle.std.specs.Io.KnownBytes.{Appends}
use Rattle.std.proofs.KnownBytes.{Appends-trans}
use lib.Seq.{take-add}
use Rattle.turns.proofs.output.write_all.Goals as goal

piece_more : (done n : ℕ) (b : List ℕ) → take done b ++ take n (take (length b - done) (drop done b)) ≡ take (done + n) b
piece_more done n b = ap (λ (l : List ℕ). take done b ++ take n l) (take_rest b done) ∙ sym (take-add done n b)

pub loop-done-preserved : goal.loop-done-preserved
loop-done-preserved g c = (
  search rules,
  subst (Appends _ _) (piece_more c.loop-done.done c.accepted-n.result c.args.text.now)
      (Appends-trans _ _ _ _ _ c.loop-done.invariant.1 c.accepted-n.ensures.bytes),
)
