-- The next split is taken: what is said of later splits is said of fewer.
use Rattle.std.proofs.Common.{inl, inr, arith}
use Rattle.std.specs.Prelude.{Bool, List, ℕ, suc}
use Rattle.rules.specs.Job.{Job}
use Rattle.rules.specs.Port.{Batch}
use Rattle.rules.specs.Operators.{Source}
use Rattle.rules.specs.Machine.{Pipeline, Port, Read}
use Rattle.order.specs.Inv.{Shares, Once, Claimable}

-- ports that wait
pub shares_next : (j : Job) (busy : ℕ → Type 0) (next : ℕ) (unb : List Bool) (P : List Pipeline) (S : List Source) (O : List Port) (Q : List (List Batch)) → Shares j busy next unb P S O Q
    → Shares j busy (suc next) unb P S O Q
shares_next j busy next unb P S O Q w = record { ports = w.ports; waits = λ l t a b c d e. w.waits l t a b c (omega arith) e; unbuilt = w.unbuilt }

-- segments to claim
claimable_next : (j : Job) (next : ℕ) (unb : List Bool) (l : ℕ) → Claimable j (suc next) unb l → Claimable j next unb l
claimable_next j next unb l (inl h) = inl h
claimable_next j next unb l (inr h) = inr (h.0, (h.1.0, omega (arith, h.1.1), h.1.2, h.1.3))

-- sources and reads
pub once_next : (j : Job) (next : ℕ) (unb : List Bool) (P : List Pipeline) (S : List Source) (R : List Read) → Once j next unb P S R → Once j (suc next) unb P S R
once_next j next unb P S R w = record {
  single = w.single;
  unread = λ l r a c. w.unread l r a (claimable_next j next unb l c);
  unsourced = λ l p a c. w.unsourced l p a (claimable_next j next unb l c);
}
