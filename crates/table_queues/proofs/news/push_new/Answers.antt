-- `table_queues::news::push_new` meets its contract.
use borrow.Author.Rules.{rules}
use mathlib.Core.Path.{sym, ap, ◌∙◌}
use mathlib.Core.List.{List}
use Prim.Native.Nat.{ℕ}
use lib.Dec.{ltb}
use lib.ListN.{length}
use Rattle.tables.specs.View.{view}
use Rattle.tables.specs.Written.{news_written}
use Rattle.tables.specs.Rings.{appended}
use Rattle.tables.specs.News.{news_loaded}
use Rattle.table_queues.proofs.news.push_new.Goals as goal

pub returns : goal.returns
returns c =
    let s = c.args.s.now in
    let e = sym (news_loaded s) in record {
      value = c.push.ensures.value ∙ ap (λ (l : List ℕ). ltb (length l) 24) e;
      becomes = news_written s (search rules) c.push.new.r (appended 24 c.args.p (view s).news) (search rules)
          (c.push.ensures.r_after ∙ ap (appended 24 c.args.p) e);
    }
