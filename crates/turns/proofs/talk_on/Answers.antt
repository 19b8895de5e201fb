-- `turns::talk_on` goes on round by round, and ends when the session is over, what it says is not taken, or the rounds are used up.
use Rattle.std.proofs.Common.{rules, arith, ◌≡◌, ◌+◌, ◌-◌, ◌≤◌, refl, length, sym, ◌∙◌}
use borrow.Author.Tests.{not-true}
use Rattle.turns.specs.Session.{closes_over}
use Rattle.turns.specs.Told.{heard_none, heard_more, closes_told, fronts_told}
use Rattle.turns.specs.declared.talk.Close.TheVariants as close
use Rattle.turns.proofs.talk_on.Goals as goal

pub loop-turns-init : goal.loop-turns-init
loop-turns-init g c = record {
  size = refl;
  within = (omega arith, omega arith);
  heard = heard_none c.args.buf.now c.args.state.now c.requires.state_value _ _;
}

pub loop-turns-preserved : goal.loop-turns-preserved
loop-turns-preserved g c =
    let old = c.loop-turns.invariant in
    let l : 4096 ≤ length c.loop-turns.buf = omega (arith, old.size, c.requires.in_bounds) in
    let next = c.turn-next in
    let more = heard_more c.loop-turns.t _ _ _ _ next.result _ _ _ _ _ _ _ old.heard l old.within next.ensures.round next.ensures.read next.ensures.took in
    record {
      size = search rules;
      within = next.ensures.round.within;
      heard = (more.0, more.1, more.2, record { some = more.3.some; all = λ _. more.3.all (search rules) });
    }

pub returns-then-is_over-clause-told : goal.returns-then-is_over-clause-told
returns-then-is_over-clause-told g c =
    let old = c.loop-turns.invariant in
    let l : 4096 ≤ length c.loop-turns.buf = omega (arith, old.size, c.requires.in_bounds) in
    let next = c.turn-next in
    let more = heard_more c.loop-turns.t _ _ _ _ next.result _ _ _ _ _ _ _ old.heard l old.within next.ensures.round next.ensures.read next.ensures.took in
    (next.result, more.0, closes_over next.result _ _ more.0 (sym c.is_over.ensures ∙ c.if-is_over.true), more.2, more.3)

pub returns-then-is_over-clause-closes : goal.returns-then-is_over-clause-closes
returns-then-is_over-clause-closes g c = closes_told close.Over _ _ _ _ _ _ (returns-then-is_over-clause-told g c)

pub returns-then-not-next-clause-told : goal.returns-then-not-next-clause-told
returns-then-not-next-clause-told g c =
    let old = c.loop-turns.invariant in
    let l : 4096 ≤ length c.loop-turns.buf = omega (arith, old.size, c.requires.in_bounds) in
    let next = c.turn-next in
    let more = heard_more c.loop-turns.t _ _ _ _ next.result _ _ _ _ _ _ _ old.heard l old.within next.ensures.round next.ensures.read next.ensures.took in
    (next.result, more.0, not-true next.result.taken c.if-not-next.true, more.2, more.3)

pub returns-then-not-next-clause-closes : goal.returns-then-not-next-clause-closes
returns-then-not-next-clause-closes g c = closes_told close.Untaken _ _ _ _ _ _ (returns-then-not-next-clause-told g c)

pub returns-clause-told : goal.returns-clause-told
returns-clause-told g c =
    let h = c.loop-turns.invariant.heard in
    let n : c.loop-turns.turns ≡ 18446744073709551615 = omega arith in
    (c.loop-turns.t, h.0, h.1 ∙ n, h.2, h.3)

pub returns-clause-closes : goal.returns-clause-closes
returns-clause-closes g c = closes_told close.Spent _ _ _ _ _ _ (returns-clause-told g c)

pub returns-then-is_over-clause-fronts : goal.returns-then-is_over-clause-fronts
returns-then-is_over-clause-fronts g c = fronts_told close.Over _ _ _ _ _ _ (returns-then-is_over-clause-told g c)

pub returns-then-not-next-clause-fronts : goal.returns-then-not-next-clause-fronts
returns-then-not-next-clause-fronts g c = fronts_told close.Untaken _ _ _ _ _ _ (returns-then-not-next-clause-told g c)

pub returns-clause-fronts : goal.returns-clause-fronts
returns-clause-fronts g c = fronts_told close.Spent _ _ _ _ _ _ (returns-clause-told g c)
