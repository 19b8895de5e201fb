-- `table_blank::outline::put_outline` meets its contract.
use Rattle.rules.specs.Job.{join_runs}
use Rattle.records.specs.Read.{runs_at}
use Rattle.table_blank.specs.Split.{split_back}
use borrow.Author.Rules.{rules}
use Rattle.table_blank.proofs.outline.put_outline.Goals as goal

pub returns : goal.returns
returns c =
    split_back c.args.r.now c.put_words.new.r c.copy_runs-k.new.r c.copy_runs-k.result c.args.x.start c.args.x.end
    (join_runs (runs_at c.args.b.now c.args.x.at c.args.x.count)) (search rules) (search rules) (search rules) c.copy_runs-k.ensures.upper_bound
    c.put_words.ensures c.copy_runs-k.ensures.r_after
