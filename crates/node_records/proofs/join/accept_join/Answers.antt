-- `node_records::join::accept_join` meets its contract. Each test that led to the answer is one of the rule's.
use mathlib.Core.Path.{sym}
use native.Mathlib.Omega.{arith}
use native.Mathlib.Numerals.{add-one}
use Prim.Native.Nat.{ℕ, ◌-◌, ◌≤◌}
use lib.ListN.{take, drop}
use lib.Seq.{slice}
use Rattle.rules.specs.Job.{Kind}
use Rattle.jobs.specs.Job.{kind_of}
use Rattle.node_records.specs.Kids.{Summed, kid_nodes}
use Rattle.node_records.specs.declared.Draft.{Draft}
use Rattle.node_records.specs.declared.join.Totals.{Totals}
use Rattle.node_records.proofs.JoinLaws.{not_late, summed_slice, join_full, join_none, join_few, join_wide, join_uneven, join_many, join_lone, join_good}
use Rattle.node_records.proofs.join.accept_join.Goals.{then-m-eq0-via-then-m-eq0, then-m-eq0-via-else-m-eq0+then-d-m}
use Rattle.node_records.proofs.join.accept_join.Goals as goal

-- the totals over the children as a slice of the stack
totals : (d : Draft) (k : Kind) (n : ℕ) (t : Totals) → n ≤ d.free_count
    → Summed k (kid_nodes (take d.node_count d.nodes) (take (d.free_count - (d.free_count - n)) (drop (d.free_count - n) d.free))) t.width t.rows t.unequal
    → Summed k (kid_nodes (take d.node_count d.nodes) (slice (d.free_count - n) d.free_count d.free)) t.width t.rows t.unequal
totals d k n t h s =
    summed_slice k (take d.node_count d.nodes) d.free (d.free_count - n) d.free_count t.width t.rows t.unequal (omega arith) s

pub returns-then-d-ge24-clause-result_value : goal.returns-then-d-ge24-clause-result_value
returns-then-d-ge24-clause-result_value c = sym (join_full c.args.d.now (kind_of c.args.k) c.args.n c.requires (not_late c.args.d.now c.if-d-eq0.false) c.if-d-ge24.true)

pub returns-then-m-eq0-clause-result_value : goal.returns-then-m-eq0-clause-result_value
returns-then-m-eq0-clause-result_value c =
    elim c.then-m-eq0.branch [
      | then-m-eq0-via-then-m-eq0 w ↦ sym (join_none c.args.d.now (kind_of c.args.k) c.args.n c.requires (not_late c.args.d.now c.if-d-eq0.false) c.if-d-ge24.false w.if-m-eq0.true)
      | then-m-eq0-via-else-m-eq0+then-d-m w ↦ sym (join_few c.args.d.now (kind_of c.args.k) c.args.n c.requires (not_late c.args.d.now c.if-d-eq0.false) c.if-d-ge24.false w.if-m-eq0.false w.if-d-m.true)
    ]

pub returns-then-t-gt4-clause-result_value : goal.returns-then-t-gt4-clause-result_value
returns-then-t-gt4-clause-result_value c =
    sym (join_wide c.args.d.now (kind_of c.args.k) c.args.n c.requires (not_late c.args.d.now c.if-d-eq0.false)
    c.if-d-ge24.false c.if-m-eq0.false c.if-d-m.false c.totals_of-t.result.width c.totals_of-t.result.rows
    c.totals_of-t.result.unequal (totals c.args.d.now (kind_of c.args.k) c.args.n c.totals_of-t.result c.if-d-m.false c.totals_of-t.ensures) c.if-t-gt4.true)

pub returns-then-t-clause-result_value : goal.returns-then-t-clause-result_value
returns-then-t-clause-result_value c =
    sym (join_uneven c.args.d.now (kind_of c.args.k) c.args.n c.requires (not_late c.args.d.now c.if-d-eq0.false)
    c.if-d-ge24.false c.if-m-eq0.false c.if-d-m.false c.totals_of-t.result.width c.totals_of-t.result.rows
    c.totals_of-t.result.unequal (totals c.args.d.now (kind_of c.args.k) c.args.n c.totals_of-t.result c.if-d-m.false c.totals_of-t.ensures) c.if-t-gt4.false c.if-t.true)

pub returns-then-t-gt4294967295-clause-result_value : goal.returns-then-t-gt4294967295-clause-result_value
returns-then-t-gt4294967295-clause-result_value c =
    sym (join_many c.args.d.now (kind_of c.args.k) c.args.n c.requires (not_late c.args.d.now c.if-d-eq0.false)
    c.if-d-ge24.false c.if-m-eq0.false c.if-d-m.false c.totals_of-t.result.width c.totals_of-t.result.rows
    c.totals_of-t.result.unequal (totals c.args.d.now (kind_of c.args.k) c.args.n c.totals_of-t.result c.if-d-m.false c.totals_of-t.ensures) c.if-t-gt4.false c.if-t.false c.if-t-gt4294967295.true)

pub returns-then-n-eq1-clause-result_value : goal.returns-then-n-eq1-clause-result_value
returns-then-n-eq1-clause-result_value c =
    rw (add-one c.args.d.now.records)
    (sym (join_lone c.args.d.now (kind_of c.args.k) c.args.n c.requires (not_late c.args.d.now c.if-d-eq0.false)
    c.if-d-ge24.false c.if-m-eq0.false c.if-d-m.false c.totals_of-t.result.width c.totals_of-t.result.rows
    c.totals_of-t.result.unequal (totals c.args.d.now (kind_of c.args.k) c.args.n c.totals_of-t.result c.if-d-m.false c.totals_of-t.ensures)
    c.if-t-gt4.false c.if-t.false c.if-t-gt4294967295.false c.if-n-eq1.true))

pub returns-else-n-eq1-clause-result_value : goal.returns-else-n-eq1-clause-result_value
returns-else-n-eq1-clause-result_value c =
    rw c.join.ensures.result_value
    (sym (join_good c.args.d.now (kind_of c.args.k) c.args.n c.requires (not_late c.args.d.now c.if-d-eq0.false)
    c.if-d-ge24.false c.if-m-eq0.false c.if-d-m.false c.totals_of-t.result.width c.totals_of-t.result.rows
    c.totals_of-t.result.unequal (totals c.args.d.now (kind_of c.args.k) c.args.n c.totals_of-t.result c.if-d-m.false c.totals_of-t.ensures)
    c.if-t-gt4.false c.if-t.false c.if-t-gt4294967295.false c.if-n-eq1.false))
