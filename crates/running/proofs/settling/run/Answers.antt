-- `running::settling::run` meets its contract.
use mathlib.Core.Path.{◌∙◌}
use Rattle.tables.specs.View.{view}
use Rattle.driver.specs.declared.rounds.Progress.TheVariants as progress
use Rattle.running.specs.Settles.{run_leaves, run_blocked, run_outlet, run_done, run_failed}
use borrow.Author.Rules.{rules}
use Rattle.running.proofs.settling.run.Goals as goal

pub settle_blocked-requires : goal.settle_blocked-requires
settle_blocked-requires c =
    record {
      drive_fits = run_leaves c.args.p.at _ _ (view c.args.s.now) (view c.drive.new.s) c.in-Blocked.is c.drive.ensures.s_value
          c.requires.runs c.requires.s_len_bound;
    }

pub enum_told-1 : goal.enum_told-1
enum_told-1 c = search rules

pub settle_outlet-requires : goal.settle_outlet-requires
settle_outlet-requires c =
    record {
      drive_fits = run_leaves c.args.p.at _ progress.Outlet (view c.args.s.now) (view c.drive.new.s) c.in-Outlet.is
          c.drive.ensures.s_value c.requires.runs c.requires.s_len_bound;
    }

pub settle_done-requires : goal.settle_done-requires
settle_done-requires c =
    record {
      drive_fits = run_leaves c.args.p.at _ progress.Done (view c.args.s.now) (view c.drive.new.s) c.in-Done.is c.drive.ensures.s_value
          c.requires.runs c.requires.s_len_bound;
    }

pub returns-in-Blocked : goal.returns-in-Blocked
returns-in-Blocked c = (
  run_blocked c.args.p.at _ (view c.args.s.now) (view c.drive.new.s) _ _ c.in-Blocked.is c.drive.ensures.s_value c.settle_blocked.ensures.0,
  c.settle_blocked.ensures.1 ∙ c.drive.ensures.s_unchanged,
)

pub returns-in-Outlet : goal.returns-in-Outlet
returns-in-Outlet c = (
  run_outlet c.args.p.at _ (view c.args.s.now) (view c.drive.new.s) _ c.in-Outlet.is c.drive.ensures.s_value c.settle_outlet.ensures.0,
  c.settle_outlet.ensures.1 ∙ c.drive.ensures.s_unchanged,
)

pub returns-in-Done : goal.returns-in-Done
returns-in-Done c = (
  run_done c.args.p.at _ (view c.args.s.now) (view c.drive.new.s) _ c.in-Done.is c.drive.ensures.s_value c.settle_done.ensures.0,
  c.settle_done.ensures.1 ∙ c.drive.ensures.s_unchanged,
)

pub returns-in-Failed : goal.returns-in-Failed
returns-in-Failed c = (
  run_failed c.args.p.at _ (view c.args.s.now) (view c.drive.new.s) _ c.in-Failed.is c.drive.ensures.s_value c.fault_if.ensures.0,
  c.fault_if.ensures.1 ∙ c.drive.ensures.s_unchanged,
)
