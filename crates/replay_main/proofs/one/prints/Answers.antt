-- `replay_main::one::prints` sees the answers as the front of the session for which there is room.
use Rattle.std.proofs.Common.{arith, ◌≡◌, ◌≤◌, Bool, ℕ, List, length, take, min, replicate, le-ltb, sym, ap, subst, ◌∙◌}
use Rattle.std.proofs.lemmas.Bool.Decides.{Decides-eqb, Decides-like}
use Rattle.std.proofs.lemmas.List.{length-replicate, take_min}
use Rattle.std.proofs.lemmas.Slice.Eq.{slice_eq-Decides}
use Rattle.std.specs.Bool.{Decides}
use lib.Dec.{eqb}
use lib.Pointwise.{pointwise}
use Rattle.rules.specs.Session as rule
use Rattle.tables.specs.View.{state_len}
use Rattle.lines.specs.declared.page.Written.{Written}
use Rattle.session.specs.Whole.{session_on, Prints}
use Rattle.replay_main.proofs.one.prints.Goals as goal

on_state : (n : ℕ) (input : List ℕ) → state_len ≤ n → session_on n input ≡ rule.session input
on_state n input h = rw (le-ltb n state_len h)

cut : (text : List ℕ) (n m : ℕ) → n ≡ min (length text) m → take n text ≡ take m text
cut text n m e = let k : n ≡ min m (length text) = omega (arith, e) in ap (λ (j : ℕ). take j text) k ∙ take_min m text

decides : (text o q answers : List ℕ) (w : Written) (r : Bool) → Prints text o w q → length o ≡ 65536
    → r ≡ pointwise eqb (take w.len q) answers → Decides r (answers ≡ take 65536 text)
decides text o q answers w r p l e =
    let front : take w.len q ≡ take 65536 text = p.front ∙ cut text w.len 65536 (p.len ∙ ap (min (length text)) l) in
    Decides-like r (λ f. sym f ∙ front) (λ f. front ∙ sym f) (slice_eq-Decides Decides-eqb (take w.len q) answers r e)

pub returns : goal.returns
returns c =
    let text = on_state (length {A = ℕ} (replicate 39351 0)) c.args.input.now (omega (arith, length-replicate {A = ℕ} 39351 0)) in
    subst (λ (l : List ℕ). Decides c.eq.result (c.args.answers.now ≡ take 65536 l)) text
    (decides _ _ c.session-w.new.out c.args.answers.now c.session-w.result c.eq.result c.session-w.ensures.prints (length-replicate {A = ℕ} 65536 0)
    c.eq.ensures)
