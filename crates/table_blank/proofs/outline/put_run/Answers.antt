-- `table_blank::outline::put_run` meets its contract.
use Prim.Native.Nat.{◌≤◌}
use mathlib.Core.Path.{◌≡◌, refl}
use mathlib.Core.List.{[]}
use native.Mathlib.Numerals.{add-one}
use lib.ListN.{length}
use Rattle.jobs.specs.Job.{run_of}
use Rattle.layout.specs.Records.{table_wrote}
use Rattle.tables.specs.Decode.{run}
use borrow.Author.Rules.{rules}
use Rattle.table_blank.proofs.outline.put_run.Goals as goal

pub returns : goal.returns
unfolding run
returns c =
    let ys = c.put_words.new.r in
    let n : length ys ≡ 8 = search rules in
    let l : 128 ≤ length c.args.r.now = search rules in
    let is : run ys ≡ run_of c.args.x = rw c.put_words.ensures refl in
    rw (← is, add-one c.args.k) (table_wrote run 8 16 c.args.r.now c.args.k ys (run []) (search rules) l n)
