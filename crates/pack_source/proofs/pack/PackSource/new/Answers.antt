-- `pack_source::pack::PackSource::new` meets its contract.
use Rattle.pack_source.specs.PackLaws.{fresh_is}
use Rattle.pack_source.proofs.pack.PackSource.new.Goals as goal

pub returns : goal.returns
returns c = fresh_is _ _ _ c.min-len.ensures c.all.ensures
