-- `check_pipes::pipes::pipe_in_order` meets its contract.
use mathlib.Core.Path.{sym, ap, ◌∙◌}
use Rattle.rules.specs.Machine.{Pipeline, pipe_at}
use Rattle.tables.specs.View.{view}
use Rattle.check_pipes.specs.Pipes.{live_ok, pipe_gone, pipe_lives}
use Rattle.check_pipes.proofs.pipes.pipe_in_order.Goals as goal

pub returns-then-not-is_live : goal.returns-then-not-is_live
returns-then-not-is_live c =
    let m = view c.args.s.now in
    let p = c.args.p.at in
    pipe_gone m p (pipe_at m p) (sym c.is_live.ensures ∙ c.if-not-is_live.true)

pub returns-then-plain_ok : goal.returns-then-plain_ok
returns-then-plain_ok c =
    let m = view c.args.s.now in
    let p = c.args.p.at in
    c.if-plain_ok.true
    ∙ c.plain_ok.ensures c.if-plain_ok.true
    ∙ ap (λ (y : Pipeline). live_ok m p y) c.load_pipe-x.ensures
    ∙ pipe_lives m p (pipe_at m p) (sym c.is_live.ensures ∙ c.if-not-is_live.false)

pub returns-else-plain_ok : goal.returns-else-plain_ok
returns-else-plain_ok c =
    let m = view c.args.s.now in
    let p = c.args.p.at in
    c.live_ok.ensures
    ∙ ap (λ (y : Pipeline). live_ok m p y) c.load_pipe-x.ensures
    ∙ pipe_lives m p (pipe_at m p) (sym c.is_live.ensures ∙ c.if-not-is_live.false)
