-- `claims::shared_source::build` meets its contract.
use mathlib.Core.Path.{refl, ◌∙◌}
use Rattle.tables.specs.View.{view}
use Rattle.claims.specs.Built.{build_one, build_more}
use Rattle.claims.proofs.shared_source.build.Goals as goal

pub returns-then-n-le1 : goal.returns-then-n-le1
returns-then-n-le1 c = record { s_value = build_one _ _ _ _ (view c.args.s.now) c.claimant_count-n.ensures c.if-n-le1.true; s_unchanged = refl }

pub returns : goal.returns
returns c =
    record {
      s_value = build_more _ _ _ _ _ _ (view c.args.s.now) _ _ c.claimant_count-n.ensures c.if-n-le1.false c.first_for-x.ensures
          c.build_source.ensures.0 c.claim_port.ensures.s_value;
      s_unchanged = c.claim_port.ensures.s_unchanged ∙ c.build_source.ensures.1;
    }
