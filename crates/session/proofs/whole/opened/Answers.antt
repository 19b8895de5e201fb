-- `session::whole::opened` meets its contract.
use Rattle.lines.specs.PageLaws.{joined}
use Rattle.tables.specs.View.{view}
use Rattle.rules.specs.Session.{calls, opened, ended, open_line}
use lib.ListN.{length, drop}
use Rattle.session.proofs.whole.opened.Goals as goal

pub returns : goal.returns
unfolding opened
returns c =
    let rest = drop c.args.from c.args.input.now in
    record {
      result_after = joined (ended open_line) (calls (length rest) rest (view c.args.state.now)) _ _ _ c.open_line-a.ensures
          c.answer_all.ensures.result_after;
      state_after = c.answer_all.ensures.state_after;
      state_unchanged = c.answer_all.ensures.state_unchanged;
    }
