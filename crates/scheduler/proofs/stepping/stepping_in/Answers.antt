-- `scheduler::stepping::stepping_in` meets its contract.
use mathlib.Core.Path.{◌≡◌, ap, ◌∙◌}
use lib.ListN.{take}
use borrow.Author.Rules.{rules}
use Rattle.rules.specs.Drive.{patience}
use Rattle.rules.specs.Scan as rule
use Rattle.tables.specs.View.{view, machine_len}
use Rattle.tables.specs.Front.{view_take}
use Rattle.scheduler.specs.Answers.{turn_of}
use Rattle.scheduler.specs.Front.{view_whole, past_whole, zeroes_whole}
use Rattle.scheduler.proofs.stepping.stepping_in.Goals as goal

pub stepping-requires : goal.stepping-requires
stepping-requires c =
    let e : c.unwrap.result.now ≡ take machine_len c.args.s.now = search rules in
    record { ranged = rw (e, view_take c.args.s.now (search rules)) c.requires.ranged }

pub returns-clause-s_after : goal.returns-clause-s_after
returns-clause-s_after c =
    let e : c.unwrap.result.now ≡ take machine_len c.args.s.now = search rules in
    ap (turn_of c.stepping.result) (view_whole c.args.s.now c.stepping.new.s c.stepping.ensures.size)
    ∙ c.stepping.ensures.s_after
    ∙ ap (rule.stepping patience) (ap view e ∙ view_take c.args.s.now (search rules))

pub returns-clause-zeroes : goal.returns-clause-zeroes
returns-clause-zeroes c = zeroes_whole c.args.s.now c.stepping.new.s c.stepping.ensures.size c.stepping.result c.stepping.ensures.zeroes

pub returns-clause-s_unchanged : goal.returns-clause-s_unchanged
returns-clause-s_unchanged c = past_whole c.args.s.now c.stepping.new.s c.stepping.ensures.size
