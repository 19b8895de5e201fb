-- `sharing::found::found_in` meets its contract.
use borrow.Author.Tests.{le-ltb}
use borrow.Author.Rules.{rules}
use mathlib.Core.Path.{◌≡◌}
use Rattle.tables.specs.View.{view}
use Rattle.sharing.specs.Found.{none_meets}
use Rattle.sharing.proofs.found.found_in.Goals as goal

pub returns-clause-pairs_value : goal.returns-clause-pairs_value
returns-clause-pairs_value c =
    let z : c.default.result.pairs ≡ 0 = search rules in
    rw z (none_meets (view c.args.s.now).job c.args.r.start c.args.r.end (le-ltb c.args.r.start c.args.r.end c.if-r.false))
