-- `check_job::join::has_two` meets its contract.
use Rattle.std.specs.Prelude.{Bool, true, false, ◌≡◌}
use mathlib.Core.Path.{sym, ◌∙◌}
use Rattle.std.proofs.lemmas.Bool.{lt-leb}
use Rattle.jobs.specs.Job.{node_of}
use Rattle.laws.specs.Table.{clash}
use Rattle.tables.specs.View.{view}
use Rattle.check_job.specs.Stack.{two_none, both_kids, first_not}
use Rattle.check_job.proofs.join.has_two.Goals as goal
use Rattle.check_job.proofs.join.has_two.Goals.{then-top-ge2, else-top-ge2}

apart : {P : Type 0} (b : Bool) → b ≡ true → b ≡ false → P
apart true e f = clash (cc)
apart false e f = clash (cc)

pub returns-then-is_kid : goal.returns-then-is_kid
returns-then-is_kid c = elim c.if-top-ge2.branch [
  | then-top-ge2 w ↦
      c.is_kid-then-is_kid.ensures ∙ both_kids (view c.args.s.now).job.nodes c.args.i c.args.free.now c.args.top (node_of w.load_node.result)
      (node_of c.load_node-then-is_kid.result) w.if-top-ge2.true (rw w.from.ensures at w.load_node.ensures)
      (rw c.from-then-is_kid.ensures at c.load_node-then-is_kid.ensures) (sym w.is_kid.ensures ∙ sym w.value-is ∙ c.if-is_kid.true)
  | else-top-ge2 w ↦ apart c.if-top-ge2.value c.if-is_kid.true (w.value-is ∙ lt-leb 2 c.args.top w.if-top-ge2.false)
]

pub returns-else-is_kid : goal.returns-else-is_kid
returns-else-is_kid c = elim c.if-top-ge2.branch [
  | then-top-ge2 w ↦
      c.if-is_kid.false ∙ first_not (view c.args.s.now).job.nodes c.args.i c.args.free.now c.args.top (node_of w.load_node.result) w.if-top-ge2.true
      (rw w.from.ensures at w.load_node.ensures) (sym w.is_kid.ensures ∙ sym w.value-is ∙ c.if-is_kid.false)
  | else-top-ge2 w ↦ c.if-is_kid.false ∙ two_none (view c.args.s.now).job.nodes c.args.i c.args.free.now c.args.top w.if-top-ge2.false
]
