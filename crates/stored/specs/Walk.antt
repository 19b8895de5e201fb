-- A test of stored nodes in one pass: a walk from the first node to the last with a stack of those that wait for their parent.
use Rattle.std.specs.Prelude.{Bool, true, false, ◌&&◌, not, List, [], ◌∷◌, ℕ, zero, suc, ◌+◌, ◌-◌, length, eqb, leb}
use Rattle.std.proofs.Math.Option.{Option, none, some}
use Rattle.rules.specs.Table.{any, given, up_from, is_some}
use Rattle.rules.specs.Job.{Kind, segment, concat, pack, Node, Split, node_at, other_rows, runs_fault, max_columns, max_runs}

-- what is left of a parent before its newest child is taken off: for a concat the row where the child ends, for a pack the columns up to it
abbrev pub whole : Kind → Node → ℕ
whole segment x = 0
whole concat x = x.at + x.rows
whole pack x = x.width

-- what is left when its oldest child is off
abbrev pub nothing : Kind → Node → ℕ
nothing segment x = 0
nothing concat x = x.at
nothing pack x = 0

-- a child y fits its parent x with so much left
abbrev pub child_fits : Kind → Node → ℕ → Node → Bool
child_fits segment x left y = false
child_fits concat x left y = eqb y.width x.width && eqb (y.at + y.rows) left
child_fits pack x left y = eqb y.rows x.rows && eqb y.at x.at && leb y.width left

-- what is left when it is taken off
abbrev pub less : Kind → ℕ → Node → ℕ
less segment left y = left
less concat left y = y.at
less pack left y = left - y.width

-- the stack behind the children, if all is taken off
abbrev pub closed : Node → ℕ → List ℕ → Option (List ℕ)
closed x left free = elim (eqb left (nothing x.kind x)) [ true ↦ some free | false ↦ none ]

-- the children of node i taken off the stack, the newest first: the longest front part whose nodes name it as their parent
unfoldable pub pops : List Node → ℕ → ℕ → List ℕ → Option (List ℕ)
pops ns i left [] = closed (node_at ns i) left []
pops ns i left (c ∷ free) =
    elim (is_some i (node_at ns c).parent) [
      | true ↦
          elim (child_fits (node_at ns i).kind (node_at ns i) left (node_at ns c)) [
            | true ↦ pops ns i (less (node_at ns i).kind left (node_at ns c)) free
            | false ↦ none
          ]
      | false ↦ closed (node_at ns i) left (c ∷ free)
    ]

-- the two newest of the stack are children of node i
abbrev pub has_two : List Node → ℕ → List ℕ → Bool
has_two ns i [] = false
has_two ns i (c ∷ []) = false
has_two ns i (c ∷ b ∷ free) = is_some i (node_at ns c).parent && is_some i (node_at ns b).parent

-- no node before i has the segment of node i and other rows
abbrev pub one_count : List Node → ℕ → Bool
one_count ns i = not (any (λ k. other_rows (node_at ns i).segment (node_at ns i).rows (node_at ns k)) (up_from 0 i))

-- a leaf
abbrev pub leaf_fits : List Node → ℕ → Bool
leaf_fits ns i = eqb (node_at ns i).width 1 && one_count ns i

-- an inner node, which has two children at least, as far as they are not looked at
abbrev pub join_fits : List Node → ℕ → List ℕ → Bool
join_fits ns i free = eqb (node_at ns i).segment 0 && leb (node_at ns i).width max_columns && has_two ns i free

-- node i on top of what its children leave
abbrev pub push : ℕ → Option (List ℕ) → Option (List ℕ)
push i none = none
push i (some free) = some (i ∷ free)

-- an inner node comes
unfoldable pub join_step : List Node → ℕ → List ℕ → Option (List ℕ)
join_step ns i free =
    elim (join_fits ns i free) [
      | true ↦ push i (pops ns i (whole (node_at ns i).kind (node_at ns i)) free)
      | false ↦ none
    ]

-- a leaf comes
unfoldable pub leaf_step : List Node → ℕ → List ℕ → Option (List ℕ)
leaf_step ns i free = elim (leaf_fits ns i) [ true ↦ some (i ∷ free) | false ↦ none ]

-- node i comes: the stack after it, or none where it does not fit
abbrev pub step : List Node → ℕ → List ℕ → Option (List ℕ)
step ns i free = elim (node_at ns i).kind [ segment ↦ leaf_step ns i free | concat ↦ join_step ns i free | pack ↦ join_step ns i free ]

-- n nodes come, from node i on
unfoldable pub walk : List Node → ℕ → ℕ → List ℕ → Option (List ℕ)
walk ns i zero free = some free
walk ns i (suc n) free = elim (step ns i free) [ none ↦ none | some after ↦ walk ns (suc i) n after ]

-- the stack at the end: one node, a parentless one that stands at row 0
abbrev pub ends : List Node → Option (List ℕ) → Bool
ends ns none = false
ends ns (some []) = false
ends ns (some (c ∷ [])) = not (given (node_at ns c).parent) && eqb (node_at ns c).at 0
ends ns (some (c ∷ b ∷ free)) = false

-- a split of a plan with so many rows
abbrev pub split_fits : ℕ → Split → Bool
split_fits rows s =
    leb s.start s.end && leb s.end rows && leb (length s.runs) max_runs && not (runs_fault (s.end - s.start) none s.runs)
