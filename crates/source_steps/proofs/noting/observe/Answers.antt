-- `source_steps::noting::observe` meets its contract.
use borrow.Author.Rules.{rules}
use mathlib.Core.Path.{refl}
use native.Mathlib.Omega.{arith}
use Rattle.tables.specs.View.{view}
use Rattle.source_steps.specs.Noting.{inlets_few}
use Rattle.source_steps.specs.Touch.{touched_fits}
use Rattle.source_steps.specs.Inlets.{port_bound, ports_bound}
use Rattle.source_steps.proofs.noting.observe.Goals as goal

pub shows-seen-requires : goal.shows-seen-requires
shows-seen-requires c =
    record {
      i_in_bounds = c.requires.i_in_bounds;
      i_bound = port_bound (view c.args.s.now) c.args.p.at c.args.i
          (ports_bound (view c.args.s.now) c.args.p.at c.requires.packing.fits c.requires.packing.live) c.requires.i_in_bounds;
    }

pub touch-requires : goal.touch-requires
touch-requires c =
    let few = inlets_few c.args.s.now c.args.p.at (search rules) c.args.p.below c.requires.packing in
    record {
      set_fits = rw c.note.ensures.0 (touched_fits (view c.args.s.now) c.args.p.at _ c.requires.packing.fits c.requires.packing.live refl (omega (arith, few)));
      i_bound = omega (arith, few, c.requires.i_in_bounds);
    }
