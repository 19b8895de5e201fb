-- The rules' value for a pack: what its inlets last showed, and those that wait.
use Rattle.std.specs.Prelude.{◌≡◌, Bool, true, ◌&&◌, List, map, ℕ, length, take, replicate, ltb, if◌then◌else◌, Result}
use Rattle.std.specs.Result.{is_ok}
use Rattle.numbers.specs.Opt.{either_of}
use Rattle.rules.specs.Table.{put}
use Rattle.rules.specs.InletSet as sets
use Rattle.rules.specs.Port as rows
use Rattle.rules.specs.Operators as rules
use Rattle.rules.specs.Pipelines.{all_inlets}
use Rattle.queue.specs.Seen.{seen_of}
use Rattle.inlet_set.specs.declared.set.InletSet.{InletSet}
use Rattle.inlet_set.specs.InletSet.{set_of}
use Rattle.inlet_set.specs.Insert.{accepts}
use Rattle.pack_source.specs.declared.pack.PackSource.{PackSource}

-- the first `len` entries
abbrev pub seen_in : PackSource → List rows.Seen
seen_in p = map seen_of (take p.len p.shown)

pub record View : Type 0 where
  pub seen : List rows.Seen
  pub waits : sets.InletSet

abbrev pub view_of : PackSource → View
view_of p = record { seen = seen_in p; waits = set_of p.waiting }

-- as a pack of n inlets is laid
abbrev pub fresh : ℕ → View
fresh n = record { seen = replicate n rows.waiting; waits = all_inlets n }

-- an inlet that waits has a place in the set
abbrev pub notes : rows.Seen → ℕ → List ℕ → Bool
notes rows.waiting i w = accepts i w
notes rows.ready i w = true
notes rows.ended i w = true

-- the source with another waiting set
abbrev pub with_waiting : PackSource → InletSet → PackSource
with_waiting p w = record { shown = p.shown; len = p.len; waiting = w }

pub record Notes (s : rows.Seen) (i : ℕ) (p : PackSource) (r : Result PackSource PackSource) : Type 0 where
  pub ok : is_ok r ≡ notes s i (set_of p.waiting)
  pub set : set_of (either_of r).waiting ≡ (if notes s i (set_of p.waiting) then rules.noted s i (set_of p.waiting) else set_of p.waiting)
  pub rest : (either_of r) ≡ with_waiting p (either_of r).waiting

-- one of its inlets, that can be noted
abbrev pub observes : View → ℕ → rows.Seen → Bool
observes v i s = ltb i (length v.seen) && notes s i v.waits

-- an inlet's entry, and the waiting set with or without it
abbrev pub observed : ℕ → rows.Seen → View → View
observed i s v = record { seen = put rows.waiting v.seen i s; waits = rules.noted s i v.waits }

pub record Observes (p : PackSource) (i : ℕ) (s : rows.Seen) (r : Result PackSource PackSource) : Type 0 where
  pub ok : is_ok r ≡ observes (view_of p) i s
  pub pack : view_of (either_of r) ≡ (if observes (view_of p) i s then observed i s (view_of p) else view_of p)
