-- `table_queues::news::next_new` meets its contract.
use mathlib.Core.Path.{sym, ap, ◌∙◌}
use mathlib.Core.List.{List}
use Prim.Native.Nat.{ℕ}
use lib.ListN.{get_elem?}
use Rattle.tables.specs.News.{news_loaded}
use Rattle.table_queues.proofs.news.next_new.Goals as goal

pub returns : goal.returns
returns c = c.first.ensures ∙ ap (λ (l : List ℕ). get_elem? l 0) (sym (news_loaded c.args.s.now))
