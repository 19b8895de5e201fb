-- A store of one record is the rules' setter: the one law of a store, at each table. That two tables do not meet computes.
use Rattle.std.specs.Prelude.{◌≡◌, refl, false, ℕ, ◌+◌, ◌<◌, length, drop, set}
use mathlib.Core.List.{List, []}
use Rattle.std.proofs.Math.Option.{Option, none}
use Rattle.std.proofs.Common.{arith}
use Rattle.rules.specs.Table.{put}
use Rattle.rules.specs.InletSet.{InletSet}
use Rattle.rules.specs.Port.{Seen}
use Rattle.rules.specs.Operators.{Source}
use Rattle.rules.specs.Machine.{Machine, Pipeline, Stage, Port, no_pipe, no_source, no_stage, no_port}
use Rattle.rules.specs.Machine.{set_pipe, set_source, set_stage, set_inlets, set_touched, set_changed, set_waits, set_seen, set_port}
use Rattle.rules.specs.Machine.{with_active, with_finished, with_unbuilt, with_made, with_next, with_fault, with_dirty, with_news, with_ready, with_freed}
use Rattle.layout.specs.Numbers.{flag, stack}
use Rattle.layout.specs.Cut.{splice}
use Rattle.layout.specs.Stored.{stored_lent, stored_byte, lent, wrote, wrote_byte}
use Rattle.tables.specs.Decode.{pipeline, source, stage, port, active_split, flag_record, inlets, seen_of}
use Rattle.tables.specs.View.{news_from, view, machine_len, Sized}

-- t reads as m, and has what s has past the machine
abbrev pub Leaves : List ℕ → List ℕ → Machine → Type 0
Leaves s t m = (view t ≡ m) × (drop machine_len t ≡ drop machine_len s)

module _ (s : List ℕ) (z : Sized s) where
  pub pipe_written : (i : ℕ) (ys : List ℕ) (v : Pipeline) → i < 96 → length ys ≡ 5 → pipeline ys ≡ v → Leaves s (lent 3327 5 i s ys) (set_pipe i v (view s))
  unfolding view
  pipe_written i ys v h l e =
      let w = stored_lent 3327 5 96 s i ys h (omega arith) l in
      (simp (w.others, w.own pipeline no_pipe, e), w.past machine_len refl)

  pub source_written : (i : ℕ) (ys : List ℕ) (v : Source) → i < 96 → length ys ≡ 4 → source ys ≡ v → Leaves s (lent 3807 4 i s ys) (set_source i v (view s))
  unfolding view
  source_written i ys v h l e =
      let w = stored_lent 3807 4 96 s i ys h (omega arith) l in
      (simp (w.others, w.own source no_source, e), w.past machine_len refl)

  pub stage_written : (i : ℕ) (ys : List ℕ) (v : Stage) → i < 96 → length ys ≡ 6 → stage ys ≡ v → Leaves s (lent 4191 6 i s ys) (set_stage i v (view s))
  unfolding view
  stage_written i ys v h l e =
      let w = stored_lent 4191 6 96 s i ys h (omega arith) l in
      (simp (w.others, w.own stage no_stage, e), w.past machine_len refl)

  pub inlets_written : (i : ℕ) (ys : List ℕ) (v : List ℕ) → i < 96 → length ys ≡ 47 → inlets ys ≡ v → Leaves s (lent 4767 47 i s ys) (set_inlets i v (view s))
  unfolding view
  inlets_written i ys v h l e =
      let w = stored_lent 4767 47 96 s i ys h (omega arith) l in
      (simp (w.others, w.own inlets [], e), w.past machine_len refl)

  pub touched_written : (i : ℕ) (ys : List ℕ) (v : InletSet) → i < 96 → length ys ≡ 24 → stack ys ≡ v → Leaves s (lent 9279 24 i s ys) (set_touched i v (view s))
  unfolding view
  touched_written i ys v h l e =
      let w = stored_lent 9279 24 96 s i ys h (omega arith) l in
      (simp (w.others, w.own stack [], e), w.past machine_len refl)

  pub changed_written : (i : ℕ) (ys : List ℕ) (v : InletSet) → i < 96 → length ys ≡ 24 → stack ys ≡ v →
      Leaves s (lent 11583 24 i s ys) (set_changed i v (view s))
  unfolding view
  changed_written i ys v h l e =
      let w = stored_lent 11583 24 96 s i ys h (omega arith) l in
      (simp (w.others, w.own stack [], e), w.past machine_len refl)

  pub waits_written : (i : ℕ) (ys : List ℕ) (v : InletSet) → i < 96 → length ys ≡ 5 → stack ys ≡ v → Leaves s (lent 13887 5 i s ys) (set_waits i v (view s))
  unfolding view
  waits_written i ys v h l e =
      let w = stored_lent 13887 5 96 s i ys h (omega arith) l in
      (simp (w.others, w.own stack [], e), w.past machine_len refl)

  pub seen_written : (i : ℕ) (ys : List ℕ) (v : List Seen) → i < 96 → length ys ≡ 4 → seen_of ys ≡ v → Leaves s (lent 14367 4 i s ys) (set_seen i v (view s))
  unfolding view
  seen_written i ys v h l e =
      let w = stored_lent 14367 4 96 s i ys h (omega arith) l in
      (simp (w.others, w.own seen_of [], e), w.past machine_len refl)

  pub port_written : (i : ℕ) (ys : List ℕ) (v : Port) → i < 456 → length ys ≡ 6 → port ys ≡ v → Leaves s (lent 14751 6 i s ys) (set_port i v (view s))
  unfolding view
  port_written i ys v h l e =
      let w = stored_lent 14751 6 456 s i ys h (omega arith) l in
      (simp (w.others, w.own port no_port, e), w.past machine_len refl)

  pub active_written : (i : ℕ) (ys : List ℕ) (v : Option ℕ) → i < 3 → length ys ≡ 2 → active_split ys ≡ v →
      Leaves s (lent 6 2 i s ys) (with_active (put none (view s).active i v) (view s))
  unfolding view
  active_written i ys v h l e =
      let w = stored_lent 6 2 3 s i ys h (omega arith) l in
      (simp (w.others, w.own active_split none, e), w.past machine_len refl)

  pub finished_written : (i b : ℕ) → i < 16 → Leaves s (set s (12 + i) b) (with_finished (put false (view s).finished i (flag b)) (view s))
  unfolding view flag_record
  finished_written i b h =
      let w = stored_byte 12 16 s i b h (omega arith) in
      (simp (w.others, w.own flag_record false), w.past machine_len refl)

  pub unbuilt_written : (i b : ℕ) → i < 24 → Leaves s (set s (28 + i) b) (with_unbuilt (put false (view s).unbuilt i (flag b)) (view s))
  unfolding view flag_record
  unbuilt_written i b h =
      let w = stored_byte 28 24 s i b h (omega arith) in
      (simp (w.others, w.own flag_record false), w.past machine_len refl)

  pub dirty_written : (ys : List ℕ) (v : List ℕ) → length ys ≡ 4 → stack ys ≡ v → Leaves s (splice s 52 4 ys) (with_dirty v (view s))
  unfolding view
  dirty_written ys v l e =
      let w = wrote 52 56 s ys (omega arith) (omega arith) l in
      (simp (w.others, w.own, e), w.past machine_len refl)

  pub news_written : (ys : List ℕ) (v : List ℕ) → length ys ≡ 26 → news_from ys ≡ v → Leaves s (splice s 56 26 ys) (with_news v (view s))
  unfolding view
  news_written ys v l e =
      let w = wrote 56 82 s ys (omega arith) (omega arith) l in
      (simp (w.others, w.own, e), w.past machine_len refl)

  pub ready_written : (ys : List ℕ) (v : List ℕ) → length ys ≡ 97 → stack ys ≡ v → Leaves s (splice s 82 97 ys) (with_ready v (view s))
  unfolding view
  ready_written ys v l e =
      let w = wrote 82 179 s ys (omega arith) (omega arith) l in
      (simp (w.others, w.own, e), w.past machine_len refl)

  pub freed_written : (ys : List ℕ) (v : List ℕ) → length ys ≡ 97 → stack ys ≡ v → Leaves s (splice s 179 97 ys) (with_freed v (view s))
  unfolding view
  freed_written ys v l e =
      let w = wrote 179 276 s ys (omega arith) (omega arith) l in
      (simp (w.others, w.own, e), w.past machine_len refl)

  pub made_written : (b : ℕ) → Leaves s (set s 3 b) (with_made (b) (view s))
  unfolding view
  made_written b =
      let w = wrote_byte 3 s b (omega arith) in
      (simp (w.others, w.own), w.past machine_len refl)

  pub next_written : (b : ℕ) → Leaves s (set s 4 b) (with_next (b) (view s))
  unfolding view
  next_written b =
      let w = wrote_byte 4 s b (omega arith) in
      (simp (w.others, w.own), w.past machine_len refl)

  pub fault_written : (b : ℕ) → Leaves s (set s 5 b) (with_fault (flag b) (view s))
  unfolding view
  fault_written b =
      let w = wrote_byte 5 s b (omega arith) in
      (simp (w.others, w.own), w.past machine_len refl)
