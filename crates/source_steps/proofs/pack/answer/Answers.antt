-- `source_steps::pack::answer` meets its contract.
use mathlib.Core.Path.{◌∙◌, ap}
use mathlib.Core.Bool.{Bool}
use Rattle.rules.specs.Operators.{pack_ready}
use Rattle.rules.specs.Machine.{fault_if}
use Rattle.tables.specs.View.{view}
use Rattle.source_steps.specs.Pack.{fault_of, waits_of}
use Rattle.source_steps.proofs.pack.answer.Goals as goal

pub returns : goal.returns
returns c =
    record {
      result_value = c.on_newest.ensures ∙ ap pack_ready (waits_of (view c.args.s.now) c.args.p.at c.load_pack-x.result c.load_pack-x.ensures);
      becomes = (
        c.fault_if.ensures.0 ∙ ap (λ (b : Bool). fault_if b (view c.args.s.now))
            (fault_of (view c.args.s.now) c.args.p.at c.load_pack-x.result _ c.load_pack-x.ensures c.ended_apart.ensures),
        c.fault_if.ensures.1,
      );
    }
