-- `table_blank::job::make_read` meets its contract.
use mathlib.Core.Path.{◌≡◌}
use lib.ListN.{take}
use borrow.Author.Rules.{rules}
use Rattle.rules.specs.Machine.{Machine, blank}
use Rattle.plan.specs.Parse.{job_from}
use Rattle.tables.specs.View.{machine_len}
use Rattle.tables.specs.Front.{becomes_front}
use Rattle.table_blank.proofs.job.make_read.Goals as goal

pub returns : goal.returns
returns c =
    let e : c.unwrap.result.now ≡ take machine_len c.args.s.now = search rules in
    becomes_front (λ (m : Machine). blank (job_from c.args.b.now c.args.p)) c.args.s.now c.make_in.new.s c.requires.sized c.make_in.ensures.size
    (rw (← e) c.make_in.ensures.becomes)
