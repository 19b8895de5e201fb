-- The port that was claimed, or that there is none, as the rules' Option of a number.
use Rattle.std.specs.Prelude.{◌≡◌, ℕ, Option, None, Some}
use Rattle.std.proofs.Math.Option as maybe
use Rattle.numbers.specs.declared.index.Index.{Index}
use Rattle.rules.specs.Machine.{Machine, Port, port_at, set_port}
use Rattle.rules.specs.Shares.{claimed, claim_port}

abbrev pub number_of : Option (Index 456) → maybe.Option ℕ
number_of None = maybe.none
number_of (Some x) = maybe.some x.at

-- the port v that was loaded is read
pub claim_some : (p x : ℕ) (o : maybe.Option ℕ) (m : Machine) (v w : Port) → o ≡ maybe.some x → v ≡ port_at m x → w ≡ claimed v p →
    claim_port p o m ≡ (maybe.some x, set_port x w m)
claim_some p x o m v w h e f = rw (h, f, e)
