-- `split_records::reader::read_records` meets its contract.
use Rattle.std.specs.Prelude.{Err}
use native.Mathlib.Omega.{arith}
use mathlib.Core.Path.{◌≡◌, refl, sym}
use Prim.Native.Nat.{◌<◌}
use lib.ListN.{length-set}
use Rattle.records.specs.Read.{record_of}
use Rattle.jobs.specs.Job.{front}
use Rattle.jobs.proofs.Front.{front_none}
use Rattle.node_records.specs.Draft.{reading_with}
use Rattle.split_records.specs.Split.{outline_of}
use Rattle.split_records.proofs.LoopLaws.{read_short, read_end}
use Rattle.split_records.proofs.Among.{turn_stops, turn_fits, turn_goes, all_lie}
use Rattle.split_records.proofs.reader.read_records.Goals as goal

pub returns-in_err-draft-clause-result_value : goal.returns-in_err-draft-clause-result_value
returns-in_err-draft-clause-result_value c =
    let gone : c.from_residual.result ≡ Err c.in_err-draft.field-0.0 = grind arith in
    rw gone (sym c.in_err-draft.ensures.refused)

pub loop-at-init : goal.loop-at-init
loop-at-init c =
    record {
      size = refl;
      few = omega arith;
      lie = λ k h. absurd (omega (arith, h));
      among = rw front_none c.in_ok-draft.ensures.at_splits;
    }

pub returns-in_default-clause-result_value : goal.returns-in_default-clause-result_value
returns-in_default-clause-result_value c =
    read_short c.args.b.now (reading_with c.in_ok-draft.draft (front (outline_of c.args.b.now) c.loop-at.splits c.loop-at.split_count)) c.loop-at.at
    c.loop-at-test.true c.loop-at.invariant.among.stands (rw c.in_default.is at c.next_record.ensures.result_value)

pub returns-in_err-x-clause-result_value : goal.returns-in_err-x-clause-result_value
returns-in_err-x-clause-result_value c =
    let gone : c.from_residual-in_err-x.result ≡ Err c.in_err-x.field-0.0 = grind arith in
    rw gone (turn_stops c.args.b.now c.in_ok-draft.draft c.head_of-h.result c.head_of-h.ensures c.loop-at.splits c.loop-at.split_count c.loop-at.at
    (omega (arith, c.loop-at.invariant.size, c.loop-at.invariant.few)) c.loop-at.invariant.among c.loop-at-test.true (record_of c.args.b.now c.in-Some.r)
    c.in-Some.next c.in-Some.ensures.result_value _ c.in_err-x.ensures.result_value)

pub bounds-splits-split_count : goal.bounds-splits-split_count
bounds-splits-split_count c =
    turn_fits c.args.b.now c.in_ok-draft.draft c.head_of-h.result c.head_of-h.ensures c.loop-at.splits c.loop-at.split_count c.loop-at.at
    (omega (arith, c.loop-at.invariant.size, c.loop-at.invariant.few)) c.loop-at.invariant.among c.loop-at-test.true (record_of c.args.b.now c.in-Some.r)
    c.in-Some.next c.in-Some.ensures.result_value c.in_ok-x.x c.in_ok-x.ensures.result_value

pub offset_bounds-splits-split_count : goal.offset_bounds-splits-split_count
offset_bounds-splits-split_count c =
    let f : c.loop-at.split_count < 16 = turn_fits c.args.b.now c.in_ok-draft.draft c.head_of-h.result c.head_of-h.ensures c.loop-at.splits c.loop-at.split_count c.loop-at.at
    (omega (arith, c.loop-at.invariant.size, c.loop-at.invariant.few)) c.loop-at.invariant.among c.loop-at-test.true (record_of c.args.b.now c.in-Some.r)
    c.in-Some.next c.in-Some.ensures.result_value c.in_ok-x.x c.in_ok-x.ensures.result_value in
    omega arith

pub overflow_add-split_count : goal.overflow_add-split_count
overflow_add-split_count c =
    let f : c.loop-at.split_count < 16 = turn_fits c.args.b.now c.in_ok-draft.draft c.head_of-h.result c.head_of-h.ensures c.loop-at.splits c.loop-at.split_count c.loop-at.at
    (omega (arith, c.loop-at.invariant.size, c.loop-at.invariant.few)) c.loop-at.invariant.among c.loop-at-test.true (record_of c.args.b.now c.in-Some.r)
    c.in-Some.next c.in-Some.ensures.result_value c.in_ok-x.x c.in_ok-x.ensures.result_value in
    omega arith

pub loop-at-preserved : goal.loop-at-preserved
loop-at-preserved c =
    let f : c.loop-at.split_count < 16 = turn_fits c.args.b.now c.in_ok-draft.draft c.head_of-h.result c.head_of-h.ensures c.loop-at.splits c.loop-at.split_count c.loop-at.at
    (omega (arith, c.loop-at.invariant.size, c.loop-at.invariant.few)) c.loop-at.invariant.among c.loop-at-test.true (record_of c.args.b.now c.in-Some.r)
    c.in-Some.next c.in-Some.ensures.result_value c.in_ok-x.x c.in_ok-x.ensures.result_value in
    record {
      size = simp length-set c.loop-at.invariant.size;
      few = omega arith;
      lie = all_lie c.args.b.now c.loop-at.splits c.loop-at.split_count c.in_ok-x.x c.loop-at.invariant.lie c.in_ok-x.ensures.lies
          (omega (arith, f, c.loop-at.invariant.size));
      among = turn_goes c.args.b.now c.in_ok-draft.draft c.head_of-h.result c.head_of-h.ensures c.loop-at.splits c.loop-at.split_count c.loop-at.at
          (omega (arith, c.loop-at.invariant.size, c.loop-at.invariant.few)) c.loop-at.invariant.among c.loop-at-test.true (record_of c.args.b.now c.in-Some.r)
          c.in-Some.next c.in-Some.ensures.result_value c.in_ok-x.x c.in_ok-x.ensures.result_value c.loop-at.invariant.size c.in-Some.ensures.read_ends.0;
    }

pub returns-clause-result_value : goal.returns-clause-result_value
returns-clause-result_value c =
    read_end c.args.b.now (reading_with c.in_ok-draft.draft (front (outline_of c.args.b.now) c.loop-at.splits c.loop-at.split_count)) c.loop-at.at
    c.loop-at.invariant.among.stands c.loop-at-test.false
