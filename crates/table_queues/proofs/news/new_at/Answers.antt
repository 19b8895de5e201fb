-- `table_queues::news::new_at` meets its contract.
use mathlib.Core.Path.{sym, ap, ◌∙◌}
use mathlib.Core.List.{List}
use Prim.Native.Nat.{ℕ}
use Rattle.rules.specs.Table.{get}
use Rattle.tables.specs.News.{news_loaded}
use borrow.Author.Rules.{rules}
use Rattle.table_queues.proofs.news.new_at.Goals as goal

pub entry-requires : goal.entry-requires
entry-requires c =
    record { r_len = search rules; k_in_bounds = rw (← (news_loaded c.args.s.now)) (search rules) }

pub returns : goal.returns
returns c =
    c.from.ensures ∙ c.entry.ensures ∙ ap (λ (l : List ℕ). get 0 l c.args.k) (sym (news_loaded c.args.s.now))
