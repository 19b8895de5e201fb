-- `driver::stage::finish_stage` meets its contract.
use Rattle.numbers.specs.Opt.{option_of}
use native.Mathlib.Omega.{arith}
use mathlib.Core.Path.{ap}
use Rattle.driver.proofs.stage.finish_stage.Goals as goal

pub overflow_add-n : goal.overflow_add-n
overflow_add-n c =
    let h = c.requires.by_index c.in-Some.n (ap option_of c.in-Some.is) in omega (arith, h)
