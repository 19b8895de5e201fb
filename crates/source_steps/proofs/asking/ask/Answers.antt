-- `source_steps::asking::ask` meets its contract.
use borrow.Author.Rules.{rules}
use mathlib.Core.Path.{◌∙◌}
use Rattle.tables.specs.View.{view}
use Rattle.source_steps.specs.Ask.{ask_full, ask_is}
use Rattle.source_steps.proofs.asking.ask.Goals as goal

pub returns-then-n-ge24 : goal.returns-then-n-ge24
returns-then-n-ge24 c =
    (ask_full (view c.args.s.now) _ c.args.p.at c.read_count-n.result c.read_count-n.ensures (search rules) c.fault_if.ensures.0, c.fault_if.ensures.1)

pub returns : goal.returns
returns c = (
  ask_is (view c.args.s.now) (view c.push_read.new.s) _ c.args.p.at c.read_count-n.result c.first_leaf-leaf.result c.read_count-n.ensures (search rules)
      c.requires.s_len_bound c.first_leaf-leaf.ensures.value c.push_read.ensures.becomes.0
      c.push_new.ensures.becomes.0,
  c.push_new.ensures.becomes.1 ∙ c.push_read.ensures.becomes.1,
)
