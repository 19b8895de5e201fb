-- The test of a stored job is the rule.
use Rattle.std.specs.Prelude.{◌≡◌, true, ◌&&◌, ℕ, ◌≤◌, length, leb}
use Rattle.std.proofs.Common.{leb-true, le-leb}
use Rattle.rules.specs.Job.{Job, max_rows, max_nodes, max_splits, max_slots}
use Rattle.rules.specs.Plan.{node_of}
use Rattle.rules.specs.Check.{job_ok}
use Rattle.laws.specs.Tree.{bool_iff}
use Rattle.laws.specs.Stored.{both}
use Rattle.stored.specs.Fits.{counts_fit, nodes_fit, splits_fit, fits}
use Rattle.stored.proofs.Sound.{Fits, fits_ok}
use Rattle.stored.proofs.Complete.{ok_fits}

-- what the test says
fits_told : (j : Job) → fits j ≡ true → Fits j
unfolding fits
fits_told j h =
    let a = both (counts_fit j && nodes_fit j) (splits_fit j) h in
    let b = both (counts_fit j) (nodes_fit j) a.0 in
    let c = both (leb 1 j.slots && leb j.slots max_slots && leb 1 (length j.nodes) && leb (length j.nodes) max_nodes) (leb (length j.splits) max_splits) b.0 in
    let d = both (leb 1 j.slots && leb j.slots max_slots && leb 1 (length j.nodes)) (leb (length j.nodes) max_nodes) c.0 in
    let e = both (leb 1 j.slots && leb j.slots max_slots) (leb 1 (length j.nodes)) d.0 in
    let f = both (leb 1 j.slots) (leb j.slots max_slots) e.0 in
    record {
      slots_low = leb-true _ _ f.0;
      slots_high = leb-true _ _ f.1;
      nodes_low = leb-true _ _ e.1;
      nodes_high = leb-true _ _ d.1;
      splits_high = leb-true _ _ c.1;
      walks = b.1;
      splits = a.1;
    }

-- the other way
told_fits : (j : Job) → Fits j → fits j ≡ true
unfolding fits
told_fits j f =
    rw (
      le-leb 1 j.slots f.slots_low,
      le-leb j.slots 3 f.slots_high,
      le-leb 1 (length j.nodes) f.nodes_low,
      le-leb (length j.nodes) 24 f.nodes_high,
      le-leb (length j.splits) 16 f.splits_high,
      f.walks,
      f.splits,
    )

-- the test is the rule
pub fits_is : (j : Job) → ((n : ℕ) → (node_of j n).rows ≤ max_rows) → fits j ≡ job_ok j
fits_is j b = bool_iff (fits j) (job_ok j) (λ h. fits_ok j b (fits_told j h)) (λ h. told_fits j (ok_fits j b h))
