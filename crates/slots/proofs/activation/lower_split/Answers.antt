-- `slots::activation::lower_split` meets its contract.
use mathlib.Core.Path.{refl, ◌∙◌}
use Prim.Native.Nat.{suc, ◌+◌, ◌-◌, ◌*◌}
use native.Mathlib.Omega.{arith}
use borrow.Author.Rules.{rules}
use Rattle.tables.specs.View.{view}
use Rattle.slots.specs.Activation.{lowered_is}
use Rattle.slots.proofs.activation.lower_split.Goals as goal

pub lower_node-requires : goal.lower_node-requires
lower_node-requires c =
    record {
      sized = search rules;
      i_le_n = omega arith;
      job_ok = c.requires.job_ok;
      whole = λ x p e l h. omega arith;
    }

pub returns : goal.returns
returns c = (
  lowered_is c.args.k.at c.args.t.at c.root.result (24 * c.args.k.at + c.root.result) (view c.args.s.now) _ _ c.requires.job_ok
      c.root.ensures.value refl (λ f h. (c.lower_node.ensures f h).0) c.connect.ensures.0,
  c.connect.ensures.1 ∙ (c.lower_node.ensures (suc (c.root.result - 0 + (c.root.result - 0))) (omega arith)).1,
)
