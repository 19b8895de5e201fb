-- `reach::cut::runs_at` meets its contract.
use mathlib.Core.Path.{◌∙◌}
use Rattle.jobs.specs.Job.{node_of, split_of}
use Rattle.kept.proofs.KeptLaws.{kept_is}
use Rattle.tables.specs.View.{view}
use Rattle.reach.proofs.cut.runs_at.Goals as goal

pub returns : goal.returns
returns c =
    record {
      result_value = c.kept_in.ensures.result_value ∙ kept_is (view c.args.s.now).job c.args.n c.args.t (node_of c.load_node-x.result)
          (split_of c.load_split-y.result) c.load_node-x.ensures c.load_split-y.ensures.result_value;
      sized = c.kept_in.ensures.sized;
    }
