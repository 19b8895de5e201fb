-- `pipelines::numbering::add` meets its contract.
use mathlib.Core.Path.{◌≡◌}
use lib.ListN.{take}
use borrow.Author.Rules.{rules}
use Rattle.rules.specs.Pipelines.{add}
use Rattle.tables.specs.View.{machine_len}
use Rattle.tables.specs.Front.{becomes_front}
use Rattle.pipelines.proofs.numbering.add.Goals as goal

pub returns : goal.returns
returns c =
    let e : c.unwrap.result.now ≡ take machine_len c.args.s.now = search rules in
    becomes_front (add c.args.p.at) c.args.s.now c.number_and_wake.new.s c.requires
    c.number_and_wake.ensures.size (rw e at c.number_and_wake.ensures.becomes)
