-- `pack_source::pack_ready::on_newest` meets its contract.
use Rattle.pack_source.specs.PackReadyLaws.{ready_on, ready_none}
use Rattle.pack_source.proofs.pack_ready.on_newest.Goals as goal

pub returns-in-Some : goal.returns-in-Some
returns-in-Some c = ready_on _ _ c.in-Some.ensures

pub returns-in-None : goal.returns-in-None
returns-in-None c = ready_none _ c.in-None.ensures
