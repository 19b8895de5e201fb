-- `claims::claiming::claim` meets its contract.
use Rattle.tables.specs.View.{view}
use Rattle.claims.specs.Built.{claim_waiting, claim_else}
use Rattle.claims.proofs.claiming.claim.Goals as goal

pub returns-in-Some : goal.returns-in-Some
returns-in-Some c =
    record {
      s_value = claim_waiting _ _ _ _ (view c.args.s.now) _ c.in-Some.ensures c.claim_port.ensures.s_value;
      s_unchanged = c.claim_port.ensures.s_unchanged;
    }

pub returns-in-None : goal.returns-in-None
returns-in-None c =
    record {
      s_value = claim_else _ _ _ (view c.args.s.now) _ c.in-None.ensures c.claim_new.ensures.s_value;
      s_unchanged = c.claim_new.ensures.s_unchanged;
    }
