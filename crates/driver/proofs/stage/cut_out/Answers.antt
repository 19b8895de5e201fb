-- `driver::stage::cut_out` meets its contract.
use Rattle.operator.specs.Answer.{step_of}
use Rattle.tables.specs.View.{view}
use Rattle.driver.specs.Able.{stage_gave}
use Rattle.driver.proofs.stage.cut_out.Goals as goal

pub give_out-requires : goal.give_out-requires
give_out-requires c =
    let g = (stage_gave c.args.p.at c.args.at (step_of c.stage_step-x.result) (view c.args.s.now) (view c.stage_step-x.new.s) c.requires.able c.requires.cuts
    c.stage_step-x.ensures.result_value c.stage_step-x.ensures.becomes.0) in record {
      able = g.able;
      gives = g.gives;
    }
