-- `pack_source::fronts::joined` meets its contract: the loop goes by `Going`.
use Rattle.pack_source.specs.FrontsLaws.{Going}
use Rattle.pack_source.proofs.fronts.joined.Given as goal

abbrev pub invariant-loop-i : goal.invariant-loop-i
invariant-loop-i l = Going l.n l.batches l.i l.all
