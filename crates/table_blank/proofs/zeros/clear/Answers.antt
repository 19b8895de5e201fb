-- `table_blank::zeros::clear` meets its contract.
use mathlib.Core.Path.{refl}
use Rattle.table_blank.specs.Zeros.{wiped_front, wiped_rest, wiped_view}
use Rattle.table_blank.proofs.zeros.clear.Goals as goal

pub returns : goal.returns
returns c =
    let s = c.args.s.now in
    let t = c.wipe.new.s in
    record {
      s_after = wiped_front 39327 s t c.wipe.ensures;
      s_unchanged = wiped_rest 39327 s t c.wipe.ensures 0;
      s_after_2 = wiped_view 39327 s t c.wipe.ensures 21312 refl;
    }
