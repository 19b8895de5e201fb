-- `pack_source::pack::PackSource::ready` meets its contract.
use native.Mathlib.Omega.{arith}
use borrow.Author.Rules.{rules}
use Rattle.pack_source.specs.PackReadyLaws.{ended_few}
use Rattle.pack_source.proofs.pack.PackSource.ready.Goals as goal

pub apart-requires : goal.apart-requires
apart-requires c = omega (arith, ended_few c.args.self _ c.len-2.ensures c.ended_count.result (search rules) c.ended_count.ensures, c.len.ensures.upper_bound)
