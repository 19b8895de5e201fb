-- `pipelines::owners::other_owner` meets its contract.
use Rattle.pipelines.specs.Owners.{owner_same, owner_other}
use Rattle.pipelines.proofs.owners.other_owner.Goals as goal

pub returns-then-p-from : goal.returns-then-p-from
returns-then-p-from c = rw c.in-Some.is (owner_same _ _ (rw c.from.ensures at c.if-p-from.true))

pub returns-else-p-from : goal.returns-else-p-from
returns-else-p-from c = rw c.in-Some.is (owner_other _ _ (rw c.from.ensures at c.if-p-from.false))
