-- `lowering::kids::with_kid` meets its contract.
use Rattle.table_pipes.specs.Inlets.{inlets_of}
use Rattle.lowering.specs.Kids.{with_yes, with_no}
use Rattle.lowering.proofs.kids.with_kid.Goals as goal

pub returns-then-is_kept_kid : goal.returns-then-is_kept_kid
returns-then-is_kept_kid c =
    let r = with_yes c.args.k.at c.args.c.at _ _ _ _ _ (inlets_of c.args.xs) _ c.is_kept_kid.ensures c.if-is_kept_kid.true c.port_number.ensures
    c.with_inlet.ensures.result_value c.with_inlet.ensures.len_value in record { result_value = r.0; len_value = r.1 }

pub returns : goal.returns
returns c = let r = with_no c.args.k.at c.args.c.at _ _ _ _ c.is_kept_kid.ensures c.if-is_kept_kid.false in record { result_value = r.0; len_value = r.1 }
