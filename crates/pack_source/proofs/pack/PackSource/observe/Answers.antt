-- `pack_source::pack::PackSource::observe` meets its contract.
use native.Mathlib.Omega.{arith}
use borrow.Author.Rules.{rules}
use Rattle.pack_source.specs.PackLaws.{observe_is}
use Rattle.pack_source.proofs.pack.PackSource.observe.Goals as goal

pub returns : goal.returns
returns c = rw c.from-k.ensures (observe_is _ _ _ _ c.len.ensures _ (search rules) (omega arith) c.in_ok-p.ensures)
