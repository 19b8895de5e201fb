-- `split_records::reader::read_nodes` meets its contract.
use Rattle.std.specs.Prelude.{Err}
use native.Mathlib.Omega.{arith}
use mathlib.Core.Path.{◌≡◌, sym}
use Rattle.records.specs.Read.{record_of}
use Rattle.node_records.specs.Draft.{reading_of}
use Rattle.split_records.proofs.LoopLaws.{read_start, read_short, read_stop, read_next}
use Rattle.split_records.proofs.Among.{at_end}
use Rattle.split_records.proofs.reader.read_nodes.Goals as goal

pub loop-at-init : goal.loop-at-init
loop-at-init c = record { fine = c.empty-d.ensures.fine; stands = read_start c.args.b.now (reading_of c.empty-d.result) c.empty-d.ensures.result_value }

pub returns-in_default-clause-refused : goal.returns-in_default-clause-refused
returns-in_default-clause-refused c =
    sym (read_short c.args.b.now (reading_of c.loop-at.d) c.loop-at.at c.loop-at-test.true c.loop-at.invariant.stands
    (rw c.in_default.is at c.next_record.ensures.result_value))

pub returns-in_err-accept_record-clause-refused : goal.returns-in_err-accept_record-clause-refused
returns-in_err-accept_record-clause-refused c =
    let gone : c.from_residual.result ≡ Err c.in_err-accept_record.field-0.0 = grind arith in
    rw gone
    (read_stop c.args.b.now (reading_of c.loop-at.d) c.loop-at.at c.loop-at-test.true (record_of c.args.b.now c.in-Some.r) c.in-Some.next
    c.in-Some.ensures.result_value _ c.loop-at.invariant.stands (sym (c.in_err-accept_record.ensures.by_index c.args.b.now)))

pub loop-at-preserved : goal.loop-at-preserved
loop-at-preserved c =
    record {
      fine = c.accept_record.ensures.fine_2;
      stands = read_next c.args.b.now (reading_of c.loop-at.d) c.loop-at.at c.loop-at-test.true (record_of c.args.b.now c.in-Some.r) c.in-Some.next
          c.in-Some.ensures.result_value (reading_of c.accept_record.new.d) c.loop-at.invariant.stands
          (sym (c.in_ok-accept_record.ensures.by_index c.args.b.now)) c.in-Some.ensures.read_ends.0;
    }

pub returns-clause-at_splits : goal.returns-clause-at_splits
returns-clause-at_splits c = at_end c.args.b.now (reading_of c.loop-at.d) c.loop-at.at c.loop-at.invariant.stands c.loop-at-test.false
