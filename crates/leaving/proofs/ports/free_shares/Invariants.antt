-- `leaving::ports::free_shares` meets its contract.
use mathlib.Core.Path.{◌≡◌}
use lib.ListN.{drop}
use Rattle.rules.specs.Machine.{share_port}
use Rattle.tables.specs.View.{view, machine_len}
use Rattle.leaving.specs.Ends.{Freeing}
use Rattle.leaving.proofs.ports.free_shares.Given as goal

abbrev pub invariant-loop-l : goal.invariant-loop-l
invariant-loop-l l =
    Freeing (λ i. share_port i l.t.at) l.l (view l.initial.s) (view l.s) ×
    (drop machine_len l.s ≡ drop machine_len l.initial.s)
