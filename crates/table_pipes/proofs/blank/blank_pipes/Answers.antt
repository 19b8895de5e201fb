-- `table_pipes::blank::blank_pipes` meets its contract.
use mathlib.Core.Path.{sym, ◌∙◌}
use Rattle.table_pipes.specs.Blank.{pipes_blank}
use Rattle.layout.specs.Cut.{cut}
use borrow.Author.Rules.{rules}
use Rattle.table_pipes.proofs.blank.blank_pipes.Goals as goal

pub returns : goal.returns
unfolding cut
returns c =
    record { value = c.is_blank.ensures; no_pipes = λ e. pipes_blank c.args.s.now (search rules) c.args.p c.args.n (search rules) (sym c.is_blank.ensures ∙ e) }
