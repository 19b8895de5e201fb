-- `table_sets::sets::put_set` meets its contract.
use mathlib.Core.Path.{ap, ◌∙◌}
use borrow.Author.Rules.{rules}
use Rattle.numbers.specs.Newest.{newest}
use Rattle.inlet_set.specs.InsertLaws.{count_is}
use Rattle.table_sets.specs.Sets.{put_in}
use Rattle.table_sets.proofs.sets.put_set.Goals as goal

pub returns : goal.returns
returns c =
    put_in c.args.r.now c.args.x.indices c.copy_from_slice.new.self c.len-n.result (search rules) (search rules) (search rules) c.copy_from_slice.ensures.after
    ∙ ap (newest c.args.x.indices) (c.len-n.ensures.value ∙ count_is c.args.x)
