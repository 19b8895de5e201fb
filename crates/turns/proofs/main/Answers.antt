-- `turns::main` begins on a state of zeros.
use Rattle.turns.specs.Session.{zeros_ready}
use Rattle.turns.proofs.main.Goals as goal

pub talk_on-requires-clause-state_value : goal.talk_on-requires-clause-state_value
talk_on-requires-clause-state_value c = zeros_ready
