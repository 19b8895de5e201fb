-- `lowering::walk::lower_list` meets its contract.
use mathlib.Core.Path.{◌≡◌}
use lib.ListN.{take}
use borrow.Author.Rules.{rules}
use Rattle.rules.specs.Lower.{lower_list}
use Rattle.laws.specs.NextKid.{kids_after}
use Rattle.tables.specs.View.{machine_len}
use Rattle.tables.specs.Front.{view_take, becomes_front}
use Rattle.lowering.proofs.walk.lower_list.Goals as goal

pub lower_children-requires : goal.lower_children-requires
lower_children-requires c =
    let e : c.unwrap.result.now ≡ take machine_len c.args.s.now = search rules in
    let v = view_take c.args.s.now c.requires.sized in
    record { i_le_n = c.requires.i_le_n; job_ok = rw (e, v) c.requires.job_ok; whole = rw (e, v) c.requires.whole }

pub returns : goal.returns
returns c f h =
    let e : c.unwrap.result.now ≡ take machine_len c.args.s.now = search rules in
    becomes_front (λ m. lower_list f c.args.k.at c.args.t.at (kids_after m.job.nodes c.args.i c.args.n.at) m) c.args.s.now c.lower_children.new.s c.requires.sized c.lower_children.ensures.size
    (rw e at (c.lower_children.ensures.becomes f h))
