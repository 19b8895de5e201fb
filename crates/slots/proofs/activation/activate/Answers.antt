-- `slots::activation::activate` meets its contract.
use mathlib.Core.Path.{◌∙◌}
use native.Mathlib.Omega.{arith}
use Rattle.tables.specs.View.{view}
use Rattle.slots.specs.Activation.{next_low, activate_places, activate_skips}
use Rattle.slots.proofs.activation.activate.Goals as goal

pub invariant_of-t : goal.invariant_of-t
invariant_of-t c =
    record { below = next_low c.from.result (view c.args.s.now) (c.from.ensures ∙ c.next.ensures) c.requires.ranged.job c.requires.s_in_bounds }

pub place_split-requires : goal.place_split-requires
place_split-requires c = record { job_ok = c.requires.ranged.job }

pub returns-then-keeps : goal.returns-then-keeps
returns-then-keeps c = (
  activate_places c.args.k.at c.from.result c.root-n.result _ (view c.args.s.now) _ (c.from.ensures ∙ c.next.ensures) c.root-n.ensures.value
      c.keeps.ensures c.if-keeps.true c.place_split.ensures.0,
  c.place_split.ensures.1,
)

pub skip_split-requires : goal.skip_split-requires
skip_split-requires c =
    record { ranged = c.requires.ranged; t_in_bounds = omega (arith, c.from.ensures, c.next.ensures, c.requires.s_in_bounds) }

pub returns-else-keeps : goal.returns-else-keeps
returns-else-keeps c = (
  activate_skips c.args.k.at c.from.result c.root-n.result _ (view c.args.s.now) _ (c.from.ensures ∙ c.next.ensures) c.root-n.ensures.value
      c.keeps.ensures c.if-keeps.false c.skip_split.ensures.0,
  c.skip_split.ensures.1,
)
