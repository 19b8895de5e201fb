-- `session::whole::session` meets its contract.
use Rattle.session.specs.Whole.{told_line, session_opens, session_refused, leaves_opened, leaves_refused}
use Rattle.session.specs.Printing.{prints}
use Rattle.lines.specs.Page.{page, puts}
use Rattle.turn.specs.declared.Told.{Told}
use Rattle.std.specs.Prelude.{Err}
use lib.ListN.{length-take}
use Prim.Native.Nat.{ℕ}
use mathlib.Core.List.{List}
use mathlib.Core.Bool.{true}
use mathlib.Core.Path.{refl, ap, ◌∙◌}
use native.Mathlib.Omega.{arith}
use Rattle.session.proofs.whole.session.Goals as goal

pub slice_bounds-open-end : goal.slice_bounds-open-end
slice_bounds-open-end c = simp length-take (omega (arith, c.job_len-n.ensures))

pub returns-in-Err : goal.returns-in-Err
returns-in-Err c =
    let input = c.args.input.now in
    let s = c.args.state.now in
    record {
      prints = prints _ c.args.out.now _ c.opened_line.result (c.opened_line.ensures ∙ ap
          (λ (t : List ℕ). puts t (page c.args.out.now (record { len = 0; whole = true })))
          (told_line c.in-Err.r (Err c.tell_refusal.result) (ap (λ (x : Told). Err x) c.tell_refusal.ensures)
          ∙ session_refused input c.job_len-n.result s _ c.in-Err.r c.job_len-n.ensures c.in-Err.ensures));
      leaves = leaves_refused input c.job_len-n.result s _ c.in-Err.r c.job_len-n.ensures c.in-Err.ensures;
    }

pub opened-requires : goal.opened-requires
opened-requires c = record { state_value = c.in-Ok.ensures.ready refl; from_in_bounds = omega (arith, c.job_len-n.ensures) }

pub returns-in-Ok : goal.returns-in-Ok
returns-in-Ok c =
    let input = c.args.input.now in
    let s = c.args.state.now in
    record {
      prints = prints _ c.args.out.now _ c.opened.result (c.opened.ensures.result_after ∙ ap
          (λ (t : List ℕ). puts t (page c.args.out.now (record { len = 0; whole = true })))
          (session_opens input c.job_len-n.result s _ c.job_len-n.ensures c.in-Ok.ensures));
      leaves = leaves_opened input c.job_len-n.result s _ _ c.job_len-n.ensures c.in-Ok.ensures c.opened.ensures.state_after
          c.opened.ensures.state_unchanged;
    }
