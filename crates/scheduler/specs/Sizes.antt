-- The tables of a view have their sizes, so that a state which passes check 12 is in range.
use Rattle.std.specs.Prelude.{◌≡◌, refl, true, List, [], ◌∷◌, ℕ, suc, length}
use Rattle.std.proofs.Common.{ap, ◌∙◌, arith, length-append}
use Rattle.rules.specs.Check.{check}
use Rattle.order.specs.Ranged.{Sizes, Ranged}
use Rattle.order.specs.CheckRanged.{check_ranged}
use Rattle.layout.specs.Cut.{cut}
use Rattle.layout.specs.Numbers.{stack}
use Rattle.layout.specs.Records.{table, length_table}
use Rattle.tables.specs.Decode.{pipeline, source, stage, inlets, seen_of, port, active_split, flag_record, batch}
use Rattle.tables.specs.View.{view, indexed, queues_from, queue_from, share_from, self, job_from}
use Rattle.check_job.specs.Walk.{RowsFit}
use Rattle.sharing.specs.Marked.{unbuilt_size}

length_indexed : {A B : Type 0} (f : ℕ → A → B) (i : ℕ) (l : List A) → length (indexed f i l) ≡ length l
unfolding indexed
length_indexed f i [] = refl
length_indexed f i (x ∷ l) = ap suc (length_indexed f (suc i) l)

pub sizes : (s : List ℕ) → Sizes (view s)
unfolding view queues_from
sizes s =
    let j = job_from (cut 0 3 s) (cut 679 1135 s) (cut 1135 3327 s) in
    let bs = table batch 37 576 (cut 18015 39327 s) in
    let rs = table self 2 72 (cut 17487 17631 s) in
    let fs = table flag_record 1 384 (cut 17631 18015 s) in
    record {
      pipes = length_table pipeline 5 96 (cut 3327 3807 s);
      sources = length_table source 4 96 (cut 3807 4191 s);
      stages = length_table stage 6 96 (cut 4191 4767 s);
      inlets = length_table inlets 47 96 (cut 4767 9279 s);
      touched = length_table stack 24 96 (cut 9279 11583 s);
      changed = length_table stack 24 96 (cut 11583 13887 s);
      waits = length_table stack 5 96 (cut 13887 14367 s);
      seen = length_table seen_of 4 96 (cut 14367 14751 s);
      ports = length_table port 6 456 (cut 14751 17487 s);
      queues = length-append (indexed (queue_from bs) 0 rs) (indexed (share_from j) 0 fs)
          ∙ rw (
            length_indexed (queue_from bs) 0 rs,
            length_indexed (share_from j) 0 fs,
            length_table self 2 72 (cut 17487 17631 s),
            length_table flag_record 1 384 (cut 17631 18015 s),
          ) (omega arith);
      active = length_table active_split 2 3 (cut 6 12 s);
      finished = length_table flag_record 1 16 (cut 12 28 s);
      unbuilt = unbuilt_size s;
    }

-- a state that passes
pub in_range : (s : List ℕ) → RowsFit (view s).job.nodes → check (view s) ≡ true → Ranged (view s)
in_range s n e = check_ranged (view s) (sizes s) n e
