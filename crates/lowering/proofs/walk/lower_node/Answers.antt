-- `lowering::walk::lower_node` meets its contract.
use mathlib.Core.Path.{◌≡◌}
use lib.ListN.{take}
use borrow.Author.Rules.{rules}
use Rattle.rules.specs.Lower.{lower_node}
use Rattle.tables.specs.View.{machine_len}
use Rattle.tables.specs.Front.{view_take, becomes_front}
use Rattle.lowering.proofs.walk.lower_node.Goals as goal

pub lower_subtree-requires : goal.lower_subtree-requires
lower_subtree-requires c =
    let e : c.unwrap.result.now ≡ take machine_len c.args.s.now = search rules in
    let v = view_take c.args.s.now c.requires.sized in
    record { i_le_n = c.requires.i_le_n; job_ok = rw (e, v) c.requires.job_ok; whole = rw (e, v) c.requires.whole }

pub returns : goal.returns
returns c f h =
    let e : c.unwrap.result.now ≡ take machine_len c.args.s.now = search rules in
    becomes_front (lower_node f c.args.k.at c.args.t.at c.args.n.at) c.args.s.now c.lower_subtree.new.s c.requires.sized c.lower_subtree.ensures.size
    (rw e at (c.lower_subtree.ensures.becomes f h))
