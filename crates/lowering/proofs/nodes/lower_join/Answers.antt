-- `lowering::nodes::lower_join` meets its contract.
use mathlib.Core.Path.{◌∙◌}
use Rattle.tables.specs.View.{view}
use Rattle.lowering.specs.Kids.{kids_low}
use Rattle.lowering.specs.Joins.{join_lays}
use Rattle.lowering.proofs.nodes.lower_join.Goals as goal

pub join_ports-requires : goal.join_ports-requires
join_ports-requires c =
    record {
      len_bound = c.kid_ports-xs.ensures.len_bound;
      all = rw c.kid_ports-xs.ensures.result_value
          (kids_low (view c.args.s.now).job c.requires.job_ok c.args.n.at c.args.t c.args.k.at c.args.k.below);
    }

pub lay-requires : goal.lay-requires
lay-requires c =
    record {
      len_bound = c.kid_ports-xs.ensures.len_bound;
      len_bound_2 = λ e. rw c.kid_ports-xs.ensures.len_value (c.requires.t_len_bound e);
    }

pub returns : goal.returns
returns c = (
  join_lays _ c.args.k.at c.args.t c.args.n.at _ (view c.args.s.now) _ _ c.kid_ports-xs.ensures.result_value c.join_ports.ensures.0 c.lay.ensures.0,
  c.lay.ensures.1
      ∙ c.join_ports.ensures.1,
)
