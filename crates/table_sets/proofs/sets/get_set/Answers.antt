-- `table_sets::sets::get_set` meets its contract.
use Rattle.std.proofs.Common.{rules, sym, ap, ◌∙◌, ℕ, ◌-◌, List, ◌++◌, length, take, drop, replicate}
use Rattle.std.proofs.Math.Seq.{take-length}
use Rattle.table_sets.specs.Sets.{get_past, get_in}
use Rattle.table_sets.proofs.sets.get_set.Goals as goal

pub returns-then-r-n : goal.returns-then-r-n
returns-then-r-n c =
    c.no_set.ensures ∙ get_past c.args.r.now (search rules) (search rules)

pub returns : goal.returns
returns c =
    let l = take (length c.args.r.now - 1) (drop 1 c.args.r.now) in
    let rest = drop (length c.args.r.now - 1) (replicate 23 0) in
    let e = c.copy_from_slice.ensures.after ∙ sym (take-length l) in
    get_in c.args.r.now rest _ c.from-n.result (search rules) (search rules) c.from-n.ensures (ap (λ (r : List ℕ). r ++ rest) e)
