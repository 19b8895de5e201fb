-- `table_blank::job::make_in` meets its contract.
use mathlib.Core.Path.{◌∙◌}
use native.Mathlib.Omega.{arith}
use Rattle.jobs.specs.Job.{front, node_of}
use Rattle.split_records.specs.Split.{outline_of}
use Rattle.plan.specs.Parse.{job_from}
use Rattle.tables.specs.View.{view}
use Rattle.table_blank.specs.Zeros.{cut_zeros}
use Rattle.table_blank.specs.Job.{blank_made, job_stored}
use borrow.Author.Rules.{rules}
use Rattle.table_blank.proofs.job.make_in.Goals as goal

pub returns-clause-becomes : goal.returns-clause-becomes
returns-clause-becomes c =
    let p = c.args.p in
    let b = c.args.b.now in
    let v = job_stored c.clear_tables.new.s c.store_nodes.new.s c.store_outlines.new.s c.copy_from_slice.new.self (front node_of p.nodes p.node_count)
    (front (outline_of b) p.splits p.split_count) p.slots p.node_count p.split_count (search rules) (search rules) c.requires.fits.nodes_fit
    c.requires.fits.splits_fit c.copy_from_slice.ensures.after c.store_nodes.ensures c.store_outlines.ensures
    (cut_zeros 18015 c.clear_tables.new.s c.clear_tables.ensures.s_after 17631 18015 (omega arith) (omega arith)) in
    (v.0 ∙ blank_made (view c.clear_tables.new.s) (job_from b p) c.clear_tables.ensures.s_after_2, v.1 ∙ c.clear_tables.ensures.s_unchanged)
