-- `plan::parse::read_job` meets its contract.
use Rattle.std.specs.Prelude.{Err}
use mathlib.Core.Path.{◌≡◌, sym, ◌∙◌}
use native.Mathlib.Omega.{arith}
use Rattle.jobs.specs.Job.{front}
use Rattle.jobs.specs.Refusal.{refusal_of}
use Rattle.split_records.specs.Split.{all_of, outline_of}
use Rattle.plan.proofs.ParseLaws.{parse_refused, parse_finish, labels_read, fits, read_tree, finish_is}
use borrow.Author.Rules.{rules}
use Rattle.plan.proofs.parse.read_job.Goals as goal

pub returns-in_err-s-clause-result_value : goal.returns-in_err-s-clause-result_value
returns-in_err-s-clause-result_value c =
    let gone : c.from_residual.result ≡ Err c.in_err-s.field-0.0 = grind arith in
    rw gone (sym (parse_refused c.args.b.now (refusal_of c.in_err-s.field-0.0) (sym c.in_err-s.ensures.result_value)))

pub returns-in_err-end_fault-clause-result_value : goal.returns-in_err-end_fault-clause-result_value
returns-in_err-end_fault-clause-result_value c =
    let gone : c.from_residual-in_err-end_fault.result ≡ Err c.in_err-end_fault.field-0.0 = grind arith in
    let s = c.in_ok-s.s in
    rw gone (finish_is s.draft (front (outline_of c.args.b.now) s.splits s.split_count) c.in_ok-s.ensures.fine _ c.in_err-end_fault.ensures
    ∙ sym (parse_finish c.args.b.now (all_of c.args.b.now s) (sym c.in_ok-s.ensures.result_value)))

pub place-nodes-requires : goal.place-nodes-requires
place-nodes-requires c =
    let s = c.in_ok-s.s in
    record {
      count_bound = search rules;
      tree_ok = read_tree c.args.b.now s.draft (front (outline_of c.args.b.now) s.splits s.split_count) (λ i. omega (arith, c.type_inv.b i))
          (sym c.in_ok-s.ensures.result_value);
    }

pub returns : goal.returns
returns c =
    let s = c.in_ok-s.s in
    record {
      result_value = rw c.place-nodes.ensures
          (finish_is s.draft (front (outline_of c.args.b.now) s.splits s.split_count) c.in_ok-s.ensures.fine _ c.in_ok-end_fault.ensures
          ∙ sym (parse_finish c.args.b.now (all_of c.args.b.now s) (sym c.in_ok-s.ensures.result_value)));
      fits = fits c.args.b.now s c.place-nodes.result c.in_ok-s.ensures.fine c.in_ok-s.ensures.all_lie c.in_ok-s.ensures.split_count_bound;
      labels = labels_read c.args.b.now s.draft _ (sym c.in_ok-s.ensures.result_value);
    }
