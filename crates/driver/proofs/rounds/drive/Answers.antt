-- `driver::rounds::drive` meets its contract.
use mathlib.Core.Path.{◌≡◌, refl}
use lib.ListN.{take}
use borrow.Author.Rules.{rules}
use Rattle.tables.specs.View.{view, machine_len}
use Rattle.tables.specs.Front.{view_take, becomes_front}
use Rattle.driver.proofs.rounds.drive.Goals as goal

pub run_rounds-requires : goal.run_rounds-requires
run_rounds-requires c =
    let e : c.unwrap.result.now ≡ take machine_len c.args.s.now = search rules in
    record { runs = rw (e, view_take c.args.s.now c.requires.sized) c.requires.runs }

pub returns : goal.returns
returns c =
    let e : c.unwrap.result.now ≡ take machine_len c.args.s.now = search rules in
    let t = c.run_rounds.new.s in
    let w = becomes_front (λ m. view t) c.args.s.now t c.requires.sized c.run_rounds.ensures.size (refl, rw e at c.run_rounds.ensures.s_unchanged) in
    record {
      s_value = rw w.0 (rw (e, view_take c.args.s.now c.requires.sized) at c.run_rounds.ensures.s_value);
      s_unchanged = w.1;
    }
