-- What one record of a lent state says, by its bytes.
use Rattle.std.specs.Prelude.{◌≡◌, ℕ, ◌+◌, ◌*◌, ◌<◌, get_or, take, drop}
use Rattle.std.proofs.Common.{◌∙◌}
use Rattle.std.proofs.Math.Bool.{false}
use mathlib.Core.List.{List, []}
use Rattle.std.proofs.Math.Option.{none}
use native.Mathlib.Omega.{arith}
use Rattle.rules.specs.Table.{get}
use Rattle.rules.specs.Machine.{no_pipe, no_source, no_stage, no_port, pipe_at, source_at, stage_at, inlets_at, port_at}
use Rattle.layout.specs.Numbers.{flag, option, stack}
use Rattle.layout.specs.Stored.{loaded, byte_at, first_at}
use Rattle.tables.specs.Decode.{state_from, source_from, reader_from, pipeline, source, stage, port, active_split, flag_record, inlets, seen_of}
use Rattle.tables.specs.View.{view, Sized}

module _ (s : List ℕ) (z : Sized s) (i : ℕ) where
  pub pipe_loaded : i < 96 → pipe_at (view s) i ≡ record {
    live = flag (get_or s (3327 + i * 5) 0);
    state = state_from (get_or s (3327 + i * 5 + 1) 0)
        (get_or s (3327 + i * 5 + 2) 0);
    queued = flag (get_or s (3327 + i * 5 + 3) 0);
    number = get_or s (3327 + i * 5 + 4) 0;
  }
  unfolding view pipeline
  pipe_loaded h = loaded pipeline 3327 5 96 s i no_pipe h (omega arith) ∙ simp (first_at, byte_at)

  pub source_loaded : i < 96 → source_at (view s) i ≡ source_from (get_or s (3807 + i * 4) 0) (get_or s (3807 + i * 4 + 1) 0) (get_or s (3807 + i * 4 + 2) 0)
      (get_or s (3807 + i * 4 + 3) 0)
  unfolding view source
  source_loaded h = loaded source 3807 4 96 s i no_source h (omega arith) ∙ simp (first_at, byte_at)

  pub stage_loaded : i < 96 → stage_at (view s) i ≡ record {
    cut = option (get_or s (4191 + i * 6) 0) (get_or s (4191 + i * 6 + 1) 0);
    continuing = flag (get_or s (4191 + i * 6 + 2) 0);
    finishing = option (get_or s (4191 + i * 6 + 3) 0) (get_or s (4191 + i * 6 + 4) 0);
    more = flag (get_or s (4191 + i * 6 + 5) 0);
  }
  unfolding view stage
  stage_loaded h = loaded stage 4191 6 96 s i no_stage h (omega arith) ∙ simp (first_at, byte_at)

  pub port_loaded : i < 456 → port_at (view s) i ≡ record {
    there = flag (get_or s (14751 + i * 6) 0);
    closed = flag (get_or s (14751 + i * 6 + 1) 0);
    changed = flag (get_or s (14751 + i * 6 + 2) 0);
    reader = reader_from (get_or s (14751 + i * 6 + 3) 0) (get_or s (14751 + i * 6 + 4) 0) (get_or s (14751 + i * 6 + 5) 0);
  }
  unfolding view port
  port_loaded h = loaded port 14751 6 456 s i no_port h (omega arith) ∙ simp (first_at, byte_at)

  pub active_loaded : i < 3 → get none (view s).active i ≡ option (get_or s (6 + i * 2) 0) (get_or s (6 + i * 2 + 1) 0)
  unfolding view active_split
  active_loaded h = loaded active_split 6 2 3 s i none h (omega arith) ∙ simp (first_at, byte_at)

  pub finished_loaded : i < 16 → get false (view s).finished i ≡ flag (get_or s (12 + i) 0)
  unfolding view flag_record
  finished_loaded h =
      let one : i * 1 ≡ i = omega arith in
      loaded flag_record 12 1 16 s i false h (omega arith) ∙ simp (first_at, one)

  pub unbuilt_loaded : i < 24 → get false (view s).unbuilt i ≡ flag (get_or s (28 + i) 0)
  unfolding view flag_record
  unbuilt_loaded h =
      let one : i * 1 ≡ i = omega arith in
      loaded flag_record 28 1 24 s i false h (omega arith) ∙ simp (first_at, one)

  pub inlets_loaded : i < 96 → inlets_at (view s) i ≡ inlets (take 47 (drop (4767 + i * 47) s))
  unfolding view
  inlets_loaded h = loaded inlets 4767 47 96 s i [] h (omega arith)

  pub touched_loaded : i < 96 → get [] (view s).touched i ≡ stack (take 24 (drop (9279 + i * 24) s))
  unfolding view
  touched_loaded h = loaded stack 9279 24 96 s i [] h (omega arith)

  pub changed_loaded : i < 96 → get [] (view s).changed i ≡ stack (take 24 (drop (11583 + i * 24) s))
  unfolding view
  changed_loaded h = loaded stack 11583 24 96 s i [] h (omega arith)

  pub waits_loaded : i < 96 → get [] (view s).waits i ≡ stack (take 5 (drop (13887 + i * 5) s))
  unfolding view
  waits_loaded h = loaded stack 13887 5 96 s i [] h (omega arith)

  pub seen_loaded : i < 96 → get [] (view s).seen i ≡ seen_of (take 4 (drop (14367 + i * 4) s))
  unfolding view
  seen_loaded h = loaded seen_of 14367 4 96 s i [] h (omega arith)
