-- `slots::serving::serve` meets its contract.
use borrow.Author.Rules.{rules}
use mathlib.Core.Path.{refl, ◌∙◌}
use Prim.Native.Nat.{◌+◌, ◌*◌}
use native.Mathlib.Omega.{arith}
use Rattle.tables.specs.View.{view}
use Rattle.slots.specs.Serving.{split_low, queue_low, put_ranged, serve_open, serve_closed}
use Rattle.slots.proofs.serving.serve.Goals as goal

pub put_out-requires : goal.put_out-requires
put_out-requires c =
    record {
      s_value = c.requires.s_value;
      x_len_bound = queue_low (24 * c.args.k.at + c.root.result) (view c.args.s.now) c.requires.ranged
          (omega (arith, c.args.k.below, c.root.ensures.upper_bound));
    }

pub invariant_of-leave : goal.invariant_of-leave
invariant_of-leave c =
    record {
      below = omega (arith, c.from.ensures, split_low c.args.k.at c.args.t (view c.args.s.now) c.requires.ranged c.requires.k_value);
    }

pub leave-requires : goal.leave-requires
leave-requires c =
    record {
      sized = search rules;
      ranged = put_ranged c.args.k.at c.args.t c.root.result (24 * c.args.k.at + c.root.result) (view c.args.s.now) _ c.requires.ranged c.requires.s_value
          c.requires.k_value c.root.ensures.value refl c.put_out.ensures.0;
    }

pub returns-then-v : goal.returns-then-v
returns-then-v c = (
  serve_closed c.args.k.at c.args.t c.root.result (24 * c.args.k.at + c.root.result) _ (view c.args.s.now) _ c.root.ensures.value refl
      c.load_port-v.ensures
      c.put_out.ensures.0 _ c.from.result c.if-v.true c.from.ensures c.leave.ensures.0,
  c.leave.ensures.1 ∙ c.put_out.ensures.1,
)

pub returns-else-v : goal.returns-else-v
returns-else-v c = (
  serve_open c.args.k.at c.args.t c.root.result (24 * c.args.k.at + c.root.result) _ (view c.args.s.now) _ c.root.ensures.value refl c.load_port-v.ensures
      c.put_out.ensures.0 c.if-v.false,
  c.put_out.ensures.1,
)
