-- `table_sets::sets::store` meets its contract.
use borrow.Author.Rules.{rules}
use Rattle.std.proofs.Common.{◌∙◌, arith}
use Rattle.inlet_set.specs.InletSet.{set_of}
use Rattle.table_sets.specs.Sets.{set_fits, part_length, part_becomes}
use Rattle.table_sets.proofs.sets.store.Goals as goal

pub put_set-requires : goal.put_set-requires
put_set-requires g c =
    let l = part_length g.T.Sets.laws c.args.s.now (search rules) c.FROM.result c.FROM.ensures c.args.p.at (search rules) in
    record { x_in_bounds = set_fits c.args.x _ l; r_len_bound = omega (arith, l) }

pub returns : goal.returns
returns g c =
    let l = part_length g.T.Sets.laws c.args.s.now (search rules) c.FROM.result c.FROM.ensures c.args.p.at (search rules) in
    part_becomes g.T.Sets.laws c.args.s.now (search rules) c.FROM.result c.FROM.ensures c.args.p.at (search rules) c.put_set.new.r
    (set_of c.args.x) (c.put_set.auto.r ∙ l) c.put_set.ensures
