-- An output, in the terms of the rules.
use Rattle.rules.specs.Machine as rules
use Rattle.batches.specs.Batch.{batch_of}
use Rattle.table_queues.specs.declared.output_ring.Output.{Output}

abbrev pub output_of : Output → rules.Output
output_of x = record { split = x.split; batch = batch_of x.batch }
