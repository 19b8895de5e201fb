-- `scheduler::delivery::delivering_in` meets its contract.
use mathlib.Core.Path.{◌≡◌, ap, ◌∙◌}
use lib.ListN.{take}
use borrow.Author.Rules.{rules}
use Rattle.rules.specs.Scan as rule
use Rattle.tables.specs.View.{view, machine_len}
use Rattle.tables.specs.Front.{view_take}
use Rattle.scheduler.specs.Answers.{delivered_of}
use Rattle.scheduler.specs.Front.{view_whole, past_whole, delivering_whole}
use Rattle.scheduler.proofs.delivery.delivering_in.Goals as goal

pub delivering-requires : goal.delivering-requires
delivering-requires c =
    let e : c.unwrap.result.now ≡ take machine_len c.args.s.now = search rules in
    record { ranged = rw (e, view_take c.args.s.now (search rules)) c.requires.ranged }

pub returns-clause-s_after : goal.returns-clause-s_after
returns-clause-s_after c =
    let e : c.unwrap.result.now ≡ take machine_len c.args.s.now = search rules in
    ap (delivered_of c.delivering.result) (view_whole c.args.s.now c.delivering.new.s c.delivering.ensures.size)
    ∙ c.delivering.ensures.s_after
    ∙ ap (rule.delivering c.args.read c.args.rows) (ap view e ∙ view_take c.args.s.now (search rules))

pub returns-clause-delivering : goal.returns-clause-delivering
returns-clause-delivering c =
    let e : c.unwrap.result.now ≡ take machine_len c.args.s.now = search rules in
    delivering_whole c.args.s.now c.delivering.new.s c.delivering.ensures.size c.delivering.result (rw (← e) c.delivering.ensures.delivering)

pub returns-clause-s_unchanged : goal.returns-clause-s_unchanged
returns-clause-s_unchanged c = past_whole c.args.s.now c.delivering.new.s c.delivering.ensures.size
