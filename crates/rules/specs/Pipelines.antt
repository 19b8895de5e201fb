-- Pipelines are made, as by `add_pipeline` of the Rust in two halves, and retire.
use Rattle.std.specs.Prelude.{Bool, true, false, not, List, [], ◌∷◌, map, reverse, ℕ, suc, length, replicate, eqb, leb, if◌then◌else◌}
use Rattle.std.proofs.Math.Option.{Option, none}
use Rattle.rules.specs.Table.{get, filter, is_some, up_from}
use Rattle.rules.specs.Port.{waiting}
use Rattle.rules.specs.InletSet.{InletSet}
use Rattle.rules.specs.Operators.{Source, segment, concat, pack, runnable}
use Rattle.rules.specs.Machine.{Machine, Pipeline, Read, places, no_pipe, pipe_at, live, inlets_at, set_pipe, set_source, set_stage, set_inlets, set_touched, set_changed, set_waits, set_seen, with_ready, with_freed, with_made, with_reads, fault_if}
use Rattle.rules.specs.Ports.{drop_each}
use Rattle.rules.specs.Wake.{make_runnable}

-- all of n inlets, inserted by rising number
abbrev pub all_inlets : ℕ → InletSet
all_inlets n = reverse (up_from 0 n)

abbrev pub fresh : Pipeline
fresh = record { live = true; state = runnable; queued = false; number = 0 }

abbrev pub is_pack_source : Source → Bool
is_pack_source (segment a b e) = false
is_pack_source (concat i) = false
is_pack_source pack = true

-- A pipeline at its place: runnable, with every inlet changed. Its number and its place on the ready stack come with `add`. Only a shared
-- source can find its place taken.
unfoldable pub lay : ℕ → Source → Option ℕ → List ℕ → Machine → Machine
lay p source cut xs m =
    elim (live m p) [
      | true ↦ fault_if true m
      | false ↦
          set_pipe p fresh (set_source p source
          (set_stage p (record { cut = cut; continuing = false; finishing = none; more = false })
          (set_inlets p xs (set_touched p [] (set_changed p (all_inlets (length xs))
          (set_waits p (if is_pack_source source then all_inlets (length xs) else [])
          (set_seen p (if is_pack_source source then replicate (length xs) waiting else []) m)))))))
    ]

abbrev pub numbered : ℕ → Pipeline → Pipeline
numbered n x = record { live = x.live; state = x.state; queued = x.queued; number = n }

-- "the newest freed number is used first, for pipelines too": the number, or one more than were made
unfoldable pub take_number : ℕ → List ℕ → Machine → Machine
take_number p (n ∷ ns) m = with_freed ns (set_pipe p (numbered n (pipe_at m p)) m)
take_number p [] m =
    elim (leb places m.made) [ true ↦ fault_if true m | false ↦ with_made (suc m.made) (set_pipe p (numbered m.made (pipe_at m p)) m) ]

unfoldable pub add : ℕ → Machine → Machine
add p m = make_runnable p (take_number p m.freed m)

-- the reads that wait for a pipeline lose their owner
abbrev pub disowned : ℕ → Read → Read
disowned p r = record { leaf = r.leaf; owner = if is_some p r.owner then none else r.owner; delivered = r.delivered }

abbrev pub gone : Pipeline → Pipeline
gone x = record { live = false; state = runnable; queued = false; number = 0 }

-- "A port is freed when closed and its reader has gone; the newest freed number is used first, for pipelines too."
unfoldable pub retire : ℕ → Machine → Machine
retire p m =
    let m' = drop_each (inlets_at m p) m in
    fault_if (leb places (length m.freed))
    (with_freed (if leb places (length m.freed) then m.freed else (pipe_at m p).number ∷ m.freed)
    (with_reads (map (disowned p) m'.reads) (set_pipe p (gone (pipe_at m' p)) m')))

-- the ready stack without a pipeline
abbrev pub without : ℕ → List ℕ → List ℕ
without p ps = filter (λ q. not (eqb p q)) ps

-- a pipeline before the first whose number is not less
unfoldable pub inserted : List Pipeline → ℕ → List ℕ → List ℕ
inserted P p [] = p ∷ []
inserted P p (q ∷ qs) = elim (leb (get no_pipe P p).number (get no_pipe P q).number) [ true ↦ p ∷ q ∷ qs | false ↦ q ∷ inserted P p qs ]

-- the live pipelines of some places, "by rising number"
unfoldable pub by_number : List Pipeline → List ℕ → List ℕ
by_number P [] = []
by_number P (p ∷ ps) = elim (get no_pipe P p).live [ true ↦ inserted P p (by_number P ps) | false ↦ by_number P ps ]

-- "retire … and leave the ready list, their reads lose their owner"
unfoldable pub retire_each : List ℕ → Machine → Machine
retire_each [] m = m
retire_each (p ∷ ps) m = retire_each ps (retire p (with_ready (without p m.ready) m))
