-- `slots::serving::advance` meets its contract.
use mathlib.Core.Path.{refl, sym, ap, ◌∙◌}
use Rattle.numbers.specs.Opt.{option_of}
use Rattle.tables.specs.View.{view}
use Rattle.slots.specs.Serving.{advance_none, advance_some}
use borrow.Author.Rules.{rules}
use Rattle.slots.proofs.serving.advance.Goals as goal

pub serve-requires : goal.serve-requires
serve-requires c =
    record {
      ranged = search rules;
      s_value = search rules;
      k_value = sym c.load_active.ensures ∙ ap option_of c.in-Some.is;
    }

pub returns-in_default : goal.returns-in_default
returns-in_default c =
    (advance_none c.args.k.at (option_of c.load_active.result) (view c.args.s.now) c.load_active.ensures (ap option_of c.in_default.is), refl)

pub returns-in-Some : goal.returns-in-Some
returns-in-Some c = (
  advance_some c.args.k.at _ (option_of c.load_active.result) (view c.args.s.now) _ c.load_active.ensures (ap option_of c.in-Some.is) c.serve.ensures.0,
  c.serve.ensures.1,
)
