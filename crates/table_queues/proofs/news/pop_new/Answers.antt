-- `table_queues::news::pop_new` meets its contract.
use borrow.Author.Rules.{rules}
use mathlib.Core.Path.{sym, ap, ◌∙◌}
use lib.ListN.{drop}
use Rattle.tables.specs.View.{view}
use Rattle.tables.specs.Written.{news_written}
use Rattle.tables.specs.News.{news_loaded}
use Rattle.table_queues.proofs.news.pop_new.Goals as goal

pub returns : goal.returns
returns c =
    let s = c.args.s.now in
    news_written s (search rules) c.pop.new.r (drop 1 (view s).news) (search rules) (c.pop.ensures ∙ ap (drop 1) (sym (news_loaded s)))
