-- `scheduler::opening::open_in` meets its contract.
use Rattle.std.specs.Prelude.{◌≡◌, Err}
use Rattle.scheduler.specs.Calls.{open_refused, open_ok}
use Rattle.rules.specs.Machine.{blank}
use Rattle.plan.specs.Parse.{job_from}
use mathlib.Core.Path.{refl}
use native.Mathlib.Omega.{arith}
use borrow.Author.Rules.{rules}
use Rattle.scheduler.proofs.opening.open_in.Goals as goal

pub returns-in_err-p : goal.returns-in_err-p
returns-in_err-p c =
    let gone : c.from_residual.result ≡ Err c.in_err-p.field-0.0 = grind arith in
    rw gone (open_refused c.args.job.now c.args.s.now c.in_err-p.field-0.0 (search rules) c.in_err-p.ensures.result_value)

pub returns : goal.returns
returns c =
    let e = c.in_ok-p.ensures in
    open_ok c.args.job.now c.make.new.s c.store_labels.new.s c.in_ok-p.p (blank (job_from c.args.job.now c.in_ok-p.p))
    (λ i. omega (arith, c.type_inv.job i)) e.result_value e.fits e.labels refl c.make.ensures.0 c.store_labels.ensures
    c.args.s.now (search rules) (search rules) (search rules) c.make.ensures.1
