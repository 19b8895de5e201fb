-- `source_steps::touching::touch_from` meets its contract: each turn inserts one number, for which there is a place.
use Rattle.std.proofs.Common.{◌≡◌, ◌-◌, sym, ap, ◌∙◌, arith}
use Rattle.rules.specs.Table.{up_from}
use Rattle.rules.specs.InletSet.{insert, insert_all}
use Rattle.inlet_set.specs.InletSet.{set_of}
use Rattle.order.specs.RangeWake.{insert_fits}
use Rattle.tables.specs.View.{view}
use Rattle.source_steps.specs.Touch.{joined_is, join_next, join_end, touch_all}
use Rattle.source_steps.proofs.touching.touch_from.Goals as goal

pub loop-k-preserved : goal.loop-k-preserved
loop-k-preserved c =
    let k = c.loop-k.k in
    let good = c.loop-k.invariant.0 in
    let d : set_of c.insert.new.set ≡ insert k (set_of c.loop-k.set)
    = joined_is k c.loop-k.set c.insert.new.set c.insert.result good (omega arith) c.insert.ensures in (
      rw d (insert_fits 23 k (set_of c.loop-k.set) (omega arith) good),
      rw d (sym (join_next k c.args.n (set_of c.loop-k.set) (omega arith)) ∙ c.loop-k.invariant.1),
    )

pub returns : goal.returns
returns c =
    let s = c.args.s.now in
    let is = up_from c.args.i (c.args.n - c.args.i) in
    let t = sym (join_end c.loop-k.k c.args.n (set_of c.loop-k.set) (omega arith)) ∙ c.loop-k.invariant.1
    ∙ ap (insert_all is) c.load-set.ensures in
    (touch_all (view s) _ c.args.p.at is (set_of c.loop-k.set) t c.store.ensures.0, c.store.ensures.1)
