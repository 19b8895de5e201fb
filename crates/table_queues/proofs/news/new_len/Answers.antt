-- `table_queues::news::new_len` meets its contract.
use mathlib.Core.Path.{sym, ap, ◌∙◌}
use lib.ListN.{length}
use Rattle.tables.specs.News.{news_loaded}
use Rattle.table_queues.proofs.news.new_len.Goals as goal

pub returns : goal.returns
returns c = c.count.ensures ∙ ap length (sym (news_loaded c.args.s.now))
