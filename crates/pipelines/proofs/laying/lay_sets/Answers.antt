-- `pipelines::laying::lay_sets` meets its contract.
use Rattle.pipelines.specs.Laying.{few_waits}
use Rattle.pipelines.proofs.laying.lay_sets.Goals as goal

pub store_pack-requires : goal.store_pack-requires
store_pack-requires c = record { waiting_len_bound = few_waits _ _ c.new.ensures }
