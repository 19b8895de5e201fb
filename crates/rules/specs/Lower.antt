-- Document 01, "Lowering": a split's pipelines.
use Rattle.std.specs.Prelude.{true, false, List, [], ◌∷◌, map, ℕ, zero, suc, if◌then◌else◌}
use Rattle.std.proofs.Math.Option.{Option, none, some}
use Rattle.rules.specs.Job.{Kind, segment as aSegment, concat as aConcat, pack as aPack, kids}
use Rattle.rules.specs.Plan.{node_of, kept, keeps, kept_kids, is_whole}
use Rattle.rules.specs.Operators.{Source, segment, concat, pack}
use Rattle.rules.specs.Machine.{Machine, Reader, pipe, place, node_at_place, set_port, set_queue}
use Rattle.rules.specs.Pipelines.{lay, add}
use Rattle.rules.specs.Shares.{claim, empty_port}

-- a port with its reader, and its writer's pipeline
abbrev pub connect : ℕ → Reader → Machine → Machine
connect p r m = add p (set_queue p [] (set_port p (empty_port r) m))

-- "joins the rest by `Compiler::join`": each child in turn gets its port and becomes a pipeline
unfoldable pub join_from : ℕ → ℕ → ℕ → List ℕ → Machine → Machine
join_from k n i [] m = m
join_from k n i (c ∷ cs) m = join_from k n (suc i) cs (connect (place k c) (pipe (place k n) i) m)

-- "with a stage that cuts the runs alike unless the whole segment is kept"
abbrev pub stage_for : Machine → ℕ → ℕ → Option ℕ
stage_for m n s = if is_whole (node_of m.job n).rows (kept m.job n s) then none else some 0

-- "A segment goes through `Compiler::scan`": a source of its own, or "a claimed port instead feeds a one-inlet concat"
unfoldable pub lower_leaf : ℕ → ℕ → Option ℕ × Machine → Machine
lower_leaf p s c =
    let m = c.1 in
    elim c.0 [
      | none ↦ lay p (segment false false 0) none [] m
      | some x ↦ lay p (concat 0) (stage_for m (node_at_place p) s) (x ∷ []) m
    ]

-- "into `ConcatSource`; a pack joins its fields into `PackSource`"
abbrev pub lower_join : Source → ℕ → ℕ → ℕ → Machine → Machine
lower_join source k s n m = let cs = kept_kids m.job n s in lay (place k n) source none (map (place k) cs) (join_from k n 0 cs m)

abbrev pub lower_kind : Kind → ℕ → ℕ → ℕ → Machine → Machine
lower_kind aSegment k s n m = lower_leaf (place k n) s (claim (place k n) n s m)
lower_kind aConcat k s n m = lower_join (concat 0) k s n m
lower_kind aPack k s n m = lower_join pack k s n m

-- "Lowering a node and lowering a list of children call each other": of split s, into slot k. The first number counts the calls that are
-- left, two for each node that is: "remaining node count falls".
unfoldable mutual
  -- "A node asked for no rows, or none kept, lowers to nothing." Of any other the children are lowered, then it is made.
  pub lower_node : ℕ → ℕ → ℕ → ℕ → Machine → Machine
  lower_node zero k s n m = m
  lower_node (suc f) k s n m =
      elim (keeps m.job n s) [
        | false ↦ m
        | true ↦ lower_kind (node_of m.job n).kind k s n (lower_list f k s (kids m.job.nodes n) m)
      ]

  -- the oldest child first
  pub lower_list : ℕ → ℕ → ℕ → List ℕ → Machine → Machine
  lower_list zero k s cs m = m
  lower_list (suc f) k s [] m = m
  lower_list (suc f) k s (c ∷ cs) m = lower_list f k s cs (lower_node f k s c m)
