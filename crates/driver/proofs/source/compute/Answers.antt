-- `driver::source::compute` meets its contract.
use Rattle.driver.specs.Able.{source_gave, said_gave}
use Rattle.driver.specs.Given.{compute_is}
use Rattle.operator.specs.Answer.{step_of}
use Rattle.tables.specs.View.{view}
use mathlib.Core.Path.{◌∙◌}
use Rattle.driver.proofs.source.compute.Goals as goal

pub source_gives-requires : goal.source_gives-requires
source_gives-requires c =
    let g = said_gave c.args.p.at (step_of c.source_step-x.result) c.is_more.result (view c.source_step-x.new.s) (view c.said_more.new.s)
    (source_gave c.args.p.at (step_of c.source_step-x.result) (view c.args.s.now) (view c.source_step-x.new.s) c.requires.able c.source_step-x.ensures.result_value
    c.source_step-x.ensures.becomes.0) c.said_more.ensures.0 in record { able = g.able; gives = g.gives }

pub returns : goal.returns
returns c = (
  c.source_gives.ensures.0 ∙ compute_is c.args.p.at (step_of c.source_step-x.result) c.is_more.result (view c.args.s.now) (view c.source_step-x.new.s)
      (view c.said_more.new.s) c.source_step-x.ensures.result_value c.source_step-x.ensures.becomes.0 c.is_more.ensures c.said_more.ensures.0,
  c.source_gives.ensures.1
      ∙ c.said_more.ensures.1 ∙ c.source_step-x.ensures.becomes.1,
)
