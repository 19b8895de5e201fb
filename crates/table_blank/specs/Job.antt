-- A job in its tables. The shared ports' batches are read off the job, so they have to be empty where another job is stored.
use Rattle.std.specs.Prelude.{◌≡◌, true, List, [], ◌∷◌, ◌++◌, ℕ, ◌≤◌, length, replicate}
use Rattle.std.proofs.Math.Path.{refl}
use Rattle.std.proofs.Common.{sym, ap, ◌∙◌, arith}
use borrow.Author.Tests.{le-leb}
use Rattle.rules.specs.Job.{Job, Node, Split}
use Rattle.rules.specs.Port.{Batch}
use Rattle.rules.specs.Machine.{Machine, blank, zeroed}
use Rattle.layout.specs.Cut.{cut, splice, apart, apart_within}
use Rattle.layout.specs.Numbers.{byte, flag, stack}
use Rattle.layout.specs.Records.{table}
use Rattle.layout.specs.Stored.{Wrote, wrote}
use Rattle.tables.specs.Decode.{pipeline, source, stage, port, active_split, flag_record, inlets, seen_of, batch, node, split}
use Rattle.tables.specs.View.{view, job_from, reads_from, news_from, outputs_from, queues_from, queue_from, indexed, self, machine_len, Sized}
use Rattle.tables.specs.Written.{Leaves}
use Rattle.table_blank.specs.Zeros.{no_shares}
use Rattle.table_blank.specs.Filled.{Filled}

-- another job
abbrev pub with_job : Job → Machine → Machine
with_job v m = record {
  job = v;
  pipes = m.pipes;
  sources = m.sources;
  stages = m.stages;
  inlets = m.inlets;
  touched = m.touched;
  changed = m.changed;
  waits = m.waits;
  seen = m.seen;
  ports = m.ports;
  queues = m.queues;
  ready = m.ready;
  freed = m.freed;
  made = m.made;
  reads = m.reads;
  news = m.news;
  dirty = m.dirty;
  next = m.next;
  active = m.active;
  finished = m.finished;
  unbuilt = m.unbuilt;
  outputs = m.outputs;
  fault = m.fault;
}

-- no shared port has a batch
abbrev pub NoShares : List ℕ → Type 0
NoShares s = cut 17631 18015 s ≡ replicate 384 0

-- the queues are those of any job
queues_kept : (i j : Job) (rings full bs : List ℕ) → full ≡ replicate 384 0 → queues_from i rings full bs ≡ queues_from j rings full bs
unfolding queues_from
queues_kept i j rings full bs e = ap (λ (q : List (List Batch)). indexed (queue_from (table batch 37 576 bs)) 0 (table self 2 72 rings) ++ q)
    (rw e (no_shares i ∙ sym (no_shares j)))

module _ (s u v hs : List ℕ) (ns : List Node) (ss : List Split) (a b c : ℕ) (z : Sized s) (l : length v ≡ length s) (hb : b ≤ 24) (hc : c ≤ 16)
    (q : hs ≡ a ∷ b ∷ c ∷ []) (f : Filled node 679 19 24 s u b ns) (g : Filled split 1135 137 16 u v c ss) where
  -- s after the nodes (u), the splits (v) and then the three counts were written
  abbrev after : List ℕ
  after = splice v 0 3 hs

  -- what the three counts leave
  counts : Wrote 0 3 v after hs
  counts = wrote 0 3 v hs (omega arith) (omega arith) (ap length q)

  -- a part that meets none of the job's
  kept : (lo hi : ℕ) → apart lo hi 0 3 ≡ true → apart lo hi 679 3327 ≡ true → cut lo hi after ≡ cut lo hi s
  kept lo hi e t =
      counts.others lo hi e
      ∙ g.others lo hi (apart_within lo hi 679 3327 1135 3327 t (omega arith) (omega arith))
      ∙ f.others lo hi (apart_within lo hi 679 3327 679 1135 t (omega arith) (omega arith))

  -- the job that is read there
  job_is : job_from (cut 0 3 after) (cut 679 1135 after) (cut 1135 3327 after) ≡ record { slots = a; nodes = ns; splits = ss }
  unfolding job_from
  job_is = rw (
    counts.own,
    counts.others 679 1135 refl,
    g.others 679 1135 refl,
    counts.others 1135 3327 refl,
    q,
    le-leb b 24 hb,
    le-leb c 16 hc,
    f.own,
    g.own,
  )

  -- the state with the job stored, and what lies past it
  pub job_stored : NoShares s → Leaves s after (with_job (record { slots = a; nodes = ns; splits = ss }) (view s))
  unfolding view
  job_stored e =
      let j = (view s).job in
      let queues : queues_from (job_from (cut 0 3 after) (cut 679 1135 after) (cut 1135 3327 after)) (cut 17487 17631 after) (cut 17631 18015 after)
      (cut 18015 39327 after) ≡ queues_from j (cut 17487 17631 s) (cut 17631 18015 s) (cut 18015 39327 s) =
      rw (kept 17487 17631 refl refl, kept 17631 18015 refl refl, kept 18015 39327 refl refl)
      (queues_kept (job_from (cut 0 3 after) (cut 679 1135 after) (cut 1135 3327 after)) j (cut 17487 17631 s) (cut 17631 18015 s) (cut 18015 39327 s) e) in (
        λ i. record {
          job = job_is i;
          made = byte (kept 3 4 refl refl i) 0;
          next = byte (kept 4 5 refl refl i) 0;
          fault = flag (byte (kept 5 6 refl refl i) 0);
          active = table active_split 2 3 (kept 6 12 refl refl i);
          finished = table flag_record 1 16 (kept 12 28 refl refl i);
          unbuilt = table flag_record 1 24 (kept 28 52 refl refl i);
          dirty = stack (kept 52 56 refl refl i);
          news = news_from (kept 56 82 refl refl i);
          ready = stack (kept 82 179 refl refl i);
          freed = stack (kept 179 276 refl refl i);
          reads = reads_from (kept 276 277 refl refl i) (kept 277 373 refl refl i);
          outputs = outputs_from (kept 373 375 refl refl i) (kept 375 679 refl refl i);
          pipes = table pipeline 5 96 (kept 3327 3807 refl refl i);
          sources = table source 4 96 (kept 3807 4191 refl refl i);
          stages = table stage 6 96 (kept 4191 4767 refl refl i);
          inlets = table inlets 47 96 (kept 4767 9279 refl refl i);
          touched = table stack 24 96 (kept 9279 11583 refl refl i);
          changed = table stack 24 96 (kept 11583 13887 refl refl i);
          waits = table stack 5 96 (kept 13887 14367 refl refl i);
          seen = table seen_of 4 96 (kept 14367 14751 refl refl i);
          ports = table port 6 456 (kept 14751 17487 refl refl i);
          queues = queues i;
        },
        counts.past machine_len refl ∙ g.past ∙ f.past,
      )

-- a job with nothing in use
pub blank_made : (m : Machine) (j : Job) → m ≡ zeroed → with_job j m ≡ blank j
unfolding blank
blank_made m j e = ap (with_job j) e
