-- `kept::runs::push` meets its contract.
use Rattle.kept.proofs.KeptLaws.{push_one}
use Rattle.kept.proofs.runs.push.Goals as goal

pub returns-clause-result_value : goal.returns-clause-result_value
returns-clause-result_value c = push_one c.args.k.now c.args.x c.requires.sized c.requires.count_bound
