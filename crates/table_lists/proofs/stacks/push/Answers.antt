-- `table_lists::stacks::push` meets its contract.
use borrow.Author.Rules.{rules}
use Rattle.std.specs.Prelude.{◌≡◌, suc, ◌-◌}
use Rattle.std.proofs.Common.{arith}
use Rattle.layout.specs.Stack.{pushed}
use Rattle.table_lists.specs.Stacks.{part_says, part_length, part_becomes}
use Rattle.table_lists.proofs.stacks.push.Goals as goal

pub returns : goal.returns
returns g c =
    let s = c.args.s.now in
    let n = g.T.Stack.places in
    let l = part_length g.T.Stack.laws s c.FROM.result c.TO.result c.FROM.ensures c.TO.ensures (search rules) in
    let k : suc n - 1 ≡ n = omega arith in
    let w = part_says g.T.Stack.laws s c.FROM.result c.TO.result c.FROM.ensures c.TO.ensures in
    record {
      value = rw (l, k, ← w) at c.push.ensures.value;
      becomes = part_becomes g.T.Stack.laws s c.FROM.result c.TO.result c.FROM.ensures c.TO.ensures (pushed c.args.x n) c.push.new.r (search rules) c.push.auto.r
          (rw (l, k) at c.push.ensures.r_after);
    }
