-- `table_ports::blank::blank_shares` meets its contract.
use mathlib.Core.Path.{sym, ◌∙◌}
use Rattle.table_ports.specs.Blank.{shares_blank}
use Rattle.layout.specs.Cut.{cut}
use borrow.Author.Rules.{rules}
use Rattle.table_ports.proofs.blank.blank_shares.Goals as goal

pub returns : goal.returns
unfolding cut
returns c =
    record {
      value = c.is_blank.ensures;
      idle = λ e. shares_blank c.args.s.now (search rules) c.args.x c.args.n (search rules) (search rules) (sym c.is_blank.ensures ∙ e);
    }
