-- `lowering::nodes::lower_kind` meets its contract.
use mathlib.Core.Path.{sym, ap, ◌∙◌}
use Rattle.laws.specs.Table.{clash}
use Rattle.jobs.specs.Job.{kind_of}
use Rattle.tables.specs.View.{view}
use Rattle.lowering.specs.Widths.{pack_few}
use Rattle.lowering.proofs.nodes.lower_kind.Goals as goal

pub lower_join-requires : goal.lower_join-requires
lower_join-requires c = record {
  job_ok = c.requires.job_ok;
  t_len_bound = λ e. clash (cc (e));
}

pub lower_join-requires-in-Pack : goal.lower_join-requires-in-Pack
lower_join-requires-in-Pack c =
    record {
      job_ok = c.requires.job_ok;
      t_len_bound = λ e. pack_few (view c.args.s.now).job c.args.n.at c.args.t.at c.requires.job_ok (sym c.requires.kind_value ∙ ap kind_of c.in-Pack.is);
    }

pub returns-in-Segment : goal.returns-in-Segment
returns-in-Segment c = (rw c.in-Segment.is c.lower_leaf.ensures.0, c.lower_leaf.ensures.1)

pub returns-in-Concat : goal.returns-in-Concat
returns-in-Concat c =
    (rw c.in-Concat.is c.lower_join.ensures.0, c.lower_join.ensures.1)

pub returns-in-Pack : goal.returns-in-Pack
returns-in-Pack c =
    (rw c.in-Pack.is c.lower_join-in-Pack.ensures.0, c.lower_join-in-Pack.ensures.1)
