-- `driver::stage::source_out` meets its contract.
use Rattle.driver.specs.Given.{out_plain, out_cut}
use Rattle.batches.specs.Batch.{batch_of}
use Rattle.tables.specs.View.{view}
use mathlib.Core.Path.{◌∙◌}
use Rattle.driver.proofs.stage.source_out.Goals as goal

pub returns-in-None : goal.returns-in-None
returns-in-None c = (
  c.push.ensures.0 ∙ out_plain c.args.p.at (batch_of c.args.b) c.load_stage.result (view c.args.s.now) c.load_stage.ensures c.in-None.is,
  c.push.ensures.1,
)

pub returns-in-Some : goal.returns-in-Some
returns-in-Some c = (
  c.cut_out.ensures.0 ∙ out_cut c.args.p.at c.in-Some.field-0 (batch_of c.args.b) c.load_stage.result (view c.args.s.now) c.load_stage.ensures
      c.in-Some.is,
  c.cut_out.ensures.1,
)
