-- `pipelines::numbering::number_and_wake` meets its contract.
use Rattle.rules.specs.Wake.{make_runnable}
use Rattle.rules.specs.Pipelines.{take_number, add}
use Rattle.tables.specs.Change.{both}
use Rattle.pipelines.proofs.numbering.number_and_wake.Goals as goal

pub returns-clause-becomes : goal.returns-clause-becomes
unfolding add
returns-clause-becomes c =
    both (λ m. take_number c.args.p.at m.freed m) (make_runnable c.args.p.at) _ _ _ c.take_number.ensures c.make_runnable.ensures
