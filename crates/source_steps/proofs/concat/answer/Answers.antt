-- `source_steps::concat::answer` meets its contract.
use native.Mathlib.Omega.{arith}
use Rattle.tables.specs.View.{view}
use Rattle.source_steps.specs.Inlets.{port_bound}
use Rattle.source_steps.proofs.concat.answer.Goals as goal

pub shows-requires : goal.shows-requires
shows-requires c =
    record {
      i_in_bounds = omega (arith, c.requires.n_value);
      i_bound = port_bound (view c.args.s.now) c.args.p.at c.args.at c.requires.all (omega (arith, c.requires.n_value));
    }
