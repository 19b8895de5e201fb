-- A state is the front of the bytes that are lent: what they say is what it says, whatever lies past it.
use Rattle.std.specs.Prelude.{◌≡◌, ℕ, ◌-◌, ◌≤◌, Bool, true, false, ◌&&◌, List, [], ◌++◌, leb, length, take, drop, if◌then◌else◌}
use Rattle.std.proofs.Common.{sym, arith, ◌∙◌, ap, length-take, length-append, length-drop, le-ltb, take-append-drop}
use Rattle.std.proofs.lemmas.List.{take-append-le, drop-append-le, drop_at}
use Rattle.layout.specs.Cut.{cut}
use Rattle.layout.specs.Records.{table, length_table}
use Rattle.layout.specs.Numbers.{byte}
use Rattle.tables.specs.Decode.{node}
use Rattle.rules.specs.Machine.{Machine}
use Rattle.tables.specs.View.{view, job_from, machine_len, Sized, state_len, Published, labels_at}
use Rattle.tables.specs.Change.{Becomes}
use Rattle.tables.specs.Lent.{lent_fault}

-- a part of the front
pub cut_front : (a b : ℕ) (s r : List ℕ) → a ≤ b → b ≤ length s → cut a b (s ++ r) ≡ cut a b s
unfolding cut
cut_front a b s r h l =
    ap (take (b - a)) (drop-append-le a s r (omega arith))
    ∙ take-append-le (b - a) (drop a s) r (rw (length-drop a s) (omega arith))

pub view_front : (s r : List ℕ) → machine_len ≤ length s → view (s ++ r) ≡ view s
unfolding view
view_front s r h =
    rw (
      cut_front 0 3 s r (omega arith) (omega arith),
      cut_front 679 1135 s r (omega arith) (omega arith),
      cut_front 1135 3327 s r (omega arith) (omega arith),
      cut_front 3 4 s r (omega arith) (omega arith),
      cut_front 4 5 s r (omega arith) (omega arith),
      cut_front 5 6 s r (omega arith) (omega arith),
      cut_front 6 12 s r (omega arith) (omega arith),
      cut_front 12 28 s r (omega arith) (omega arith),
      cut_front 28 52 s r (omega arith) (omega arith),
      cut_front 52 56 s r (omega arith) (omega arith),
      cut_front 56 82 s r (omega arith) (omega arith),
      cut_front 82 179 s r (omega arith) (omega arith),
      cut_front 179 276 s r (omega arith) (omega arith),
      cut_front 276 277 s r (omega arith) (omega arith),
      cut_front 277 373 s r (omega arith) (omega arith),
      cut_front 373 375 s r (omega arith) (omega arith),
      cut_front 375 679 s r (omega arith) (omega arith),
      cut_front 3327 3807 s r (omega arith) (omega arith),
      cut_front 3807 4191 s r (omega arith) (omega arith),
      cut_front 4191 4767 s r (omega arith) (omega arith),
      cut_front 4767 9279 s r (omega arith) (omega arith),
      cut_front 9279 11583 s r (omega arith) (omega arith),
      cut_front 11583 13887 s r (omega arith) (omega arith),
      cut_front 13887 14367 s r (omega arith) (omega arith),
      cut_front 14367 14751 s r (omega arith) (omega arith),
      cut_front 14751 17487 s r (omega arith) (omega arith),
      cut_front 17487 17631 s r (omega arith) (omega arith),
      cut_front 17631 18015 s r (omega arith) (omega arith),
      cut_front 18015 39327 s r (omega arith) (omega arith),
    )

-- a job has at most 24 nodes
nodes_few : (s : List ℕ) → length (view s).job.nodes ≤ 24
unfolding view job_from
nodes_few s = few (leb (byte (cut 0 3 s) 1) 24 && leb (byte (cut 0 3 s) 2) 16) (byte (cut 0 3 s) 1) (cut 679 1135 s)
  where
    few : (b : Bool) (n : ℕ) (ns : List ℕ) → length (if b then take n (table node 19 24 ns) else []) ≤ 24
    few false n ns = omega arith
    few true n ns = rw (length-take n (table node 19 24 ns), length_table node 19 24 ns) (omega arith)

-- the numbers behind the machine stand in the front too
pub labels_front : (s r : List ℕ) → Published s → labels_at (s ++ r) ≡ labels_at s
unfolding labels_at
labels_front s r h =
    let n = nodes_few s in
    rw (view_front s r (omega (arith, h)), drop-append-le machine_len s r (omega (arith, h)))
    (take-append-le (length (view s).job.nodes) (drop machine_len s) r (rw (length-drop machine_len s) (omega (arith, n, h))))

-- so its fault is theirs
pub fault_front : (s r : List ℕ) → Published s → lent_fault (s ++ r) ≡ lent_fault s
fault_front s r h =
    rw (le-ltb (length s) state_len h, le-ltb (length (s ++ r)) state_len (rw (length-append s r) (omega (arith, h))), labels_front s r h)

-- The machine at the front of bytes that have one: its bytes say what they all say
pub view_take : (s : List ℕ) → Sized s → view (take machine_len s) ≡ view s
view_take s h =
    sym (view_front (take machine_len s) (drop machine_len s) (rw (length-take machine_len s) (omega (arith, h))))
    ∙ ap view (take-append-drop machine_len s)

-- and what is done to them is done to all: what lies past the machine stays
pub becomes_front : (f : Machine → Machine) (s t : List ℕ) → Sized s → length t ≡ machine_len → Becomes f (take machine_len s) t
    → Becomes f s (t ++ drop machine_len s)
becomes_front f s t h l b = (
  view_front t (drop machine_len s) (omega (arith, l)) ∙ b.0 ∙ ap f (view_take s h),
  drop_at t (drop machine_len s) machine_len l,
)
