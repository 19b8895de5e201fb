-- A pipeline goes: its parts together are the rule.
use Rattle.std.specs.Prelude.{◌≡◌, Bool, not, List, ◌∷◌, map, ℕ, leb, ltb, length, if◌then◌else◌}
use Rattle.std.proofs.Common.{ltb-true, ltb-false, le-leb}
use Rattle.std.proofs.lemmas.Bool.{lt-leb}
use Rattle.rules.specs.Machine.{Machine, Pipeline, pipe_at, inlets_at, set_pipe, with_freed, with_reads, fault_if}
use Rattle.rules.specs.Ports.{drop_each}
use Rattle.rules.specs.Pipelines.{disowned, gone, retire}
use Rattle.layout.specs.Stack.{pushed}
use Rattle.laws.specs.Table.{by_bool}
use Rattle.pipelines.specs.Readers.{drops_freed}

-- a number freed, or no place for it
abbrev pub freed : ℕ → List ℕ → List ℕ
freed n fs = if leb 96 (length fs) then fs else n ∷ fs

not_below : (a b : ℕ) → not (ltb a b) ≡ leb b a
not_below a b = by_bool (ltb a b) (λ e. rw (e, lt-leb b a (ltb-true a b e))) (λ e. rw (e, le-leb b a (ltb-false a b e)))

freed_is : (n : ℕ) (fs : List ℕ) → pushed n 96 fs ≡ freed n fs
freed_is n fs = by_bool (ltb (length fs) 96) (λ e. rw (e, lt-leb 96 (length fs) (ltb-true (length fs) 96 e)))
    (λ e. rw (e, le-leb 96 (length fs) (ltb-false (length fs) 96 e)))

pub number_freed : (n : ℕ) (m : Machine) (room full : Bool) → room ≡ ltb (length m.freed) 96 → full ≡ not room
    → fault_if full (with_freed (pushed n 96 m.freed) m) ≡ fault_if (leb 96 (length m.freed)) (with_freed (freed n m.freed) m)
number_freed n m room full e f = rw (f, e, not_below (length m.freed) 96, freed_is n m.freed)

pub retire_is : (p n : ℕ) (x : Pipeline) (m m₁ m₂ m₃ : Machine) → x ≡ pipe_at m p → n ≡ x.number → m₁ ≡ drop_each (inlets_at m p) m
    → m₂ ≡ with_reads (map (disowned p) m₁.reads) (set_pipe p (gone (pipe_at m₁ p)) m₁)
    → m₃ ≡ fault_if (leb 96 (length m₂.freed)) (with_freed (freed n m₂.freed) m₂)
    → m₃ ≡ retire p m
unfolding retire
retire_is p n x m m₁ m₂ m₃ e f g h i =
    rw (i, h, g, drops_freed (inlets_at m p) m, f, e)
