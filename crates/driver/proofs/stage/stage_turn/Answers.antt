-- `driver::stage::stage_turn` meets its contract.
use Rattle.driver.specs.Able.{cuts_on}
use Rattle.driver.specs.Turns.{turn_continues}
use Rattle.tables.specs.View.{view}
use mathlib.Core.Path.{◌∙◌}
use Rattle.driver.proofs.stage.stage_turn.Goals as goal

pub cut_out-requires : goal.cut_out-requires
cut_out-requires c =
    record {
      able = c.requires.able;
      cuts = cuts_on c.args.p.at c.unwrap_or.result c.args.x (view c.args.s.now) c.requires.able c.requires.x_value c.if-x.true c.unwrap_or.ensures;
    }

pub returns-then-x : goal.returns-then-x
returns-then-x c =
    (c.cut_out.ensures.0 ∙ turn_continues c.args.p.at c.unwrap_or.result c.args.x (view c.args.s.now) c.if-x.true c.unwrap_or.ensures, c.cut_out.ensures.1)
