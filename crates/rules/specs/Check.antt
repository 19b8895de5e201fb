-- Document 01, the table's row 12: "state with a stored position, count or kind out of its range, a reference to a pipeline, port or slot
-- that is not live, or a pipeline fed by one that is neither below it in the tree nor a shared source".
use Rattle.std.specs.Prelude.{Bool, true, false, ◌&&◌, ◌||◌, not, List, [], ◌∷◌, ◌++◌, map, ℕ, suc, ◌+◌, length, eqb, leb, ltb, if◌then◌else◌}
use Rattle.std.proofs.Math.Option.{Option, none, some}
use Rattle.rules.specs.Table.{get, any, all, each, is_empty, given, up_from, has, is_some}
use Rattle.rules.specs.Job.{Kind, Node, Split, Job, Outcome, refused_by, accepted, Record, slots, leaf, join, split, Draft, no_draft, restore, finish, kids}
use Rattle.rules.specs.Job.{node_at, is_segment, is_pack, max_nodes, max_slots}
use Rattle.rules.specs.Job.{segment as aSegment, concat as aConcat, pack as aPack}
use Rattle.rules.specs.Plan.{Cell, node_of, root_of, is_leaf, leaves_of, names, first_leaf}
use Rattle.rules.specs.InletSet.{InletSet}
use Rattle.rules.specs.Port.{Batch, Seen, waiting, ready, ended, capacity}
use Rattle.rules.specs.Operators.{io, inlet, State, runnable, blocked, outlet, Source, segment, concat, pack}
use Rattle.rules.specs.Machine.{Machine, Pipeline, Stage, Reader, nobody, slot, pipe, Port, Read, Output, places, port_places, slot_places, max_reads}
use Rattle.rules.specs.Machine.{place, node_at_place, slot_at_place, leaf_of_port, split_of_port, is_share_port, live, source_at, stage_at, inlets_at, port_at}
use Rattle.rules.specs.Machine.{queue_at, pieces_at}
use Rattle.rules.specs.Ports.{is_nobody}

-- The job

unfoldable pub restore_all : List Record → Draft → Outcome Draft
restore_all [] d = accepted d
restore_all (r ∷ rs) d = elim (restore r d) [ refused_by n ↦ refused_by n | accepted e ↦ restore_all rs e ]

-- the record that a stored node came from
abbrev pub node_record : List Node → ℕ → Record
node_record ns n =
    elim (node_at ns n).kind [
      | aSegment ↦ leaf (node_at ns n).segment (node_at ns n).rows
      | aConcat ↦ join aConcat (length (kids ns n))
      | aPack ↦ join aPack (length (kids ns n))
    ]

abbrev pub split_record : Split → Record
split_record s = split s.start s.end s.runs

abbrev pub job_records : Job → List Record
job_records j = slots j.slots ∷ (map (node_record j.nodes) (up_from 0 (length j.nodes)) ++ map split_record j.splits)

abbrev pub kind_number : Kind → ℕ
kind_number aSegment = 0
kind_number aConcat = 1
kind_number aPack = 2

abbrev pub option_number : Option ℕ → ℕ
option_number none = 0
option_number (some n) = suc n

unfoldable pub same_node : Node → Node → Bool
same_node x y =
    eqb (kind_number x.kind) (kind_number y.kind) && eqb x.segment y.segment && eqb x.rows y.rows
    && eqb x.width y.width && eqb (option_number x.parent) (option_number y.parent) && eqb x.at y.at

unfoldable pub same_nodes : List Node → List Node → Bool
same_nodes [] [] = true
same_nodes [] (y ∷ ys) = false
same_nodes (x ∷ xs) [] = false
same_nodes (x ∷ xs) (y ∷ ys) = same_node x y && same_nodes xs ys

unfoldable pub finishes : Job → Outcome Job → Bool
finishes j (refused_by n) = false
finishes j (accepted k) = same_nodes j.nodes k.nodes

-- the stored job is one that opening leaves: its records are restored, and give it back
unfoldable pub job_ok : Job → Bool
job_ok j =
    elim (restore_all (job_records j) no_draft) [ refused_by n ↦ false | accepted d ↦ finishes j (finish d) ]

-- 02 (i): the numbers of the nodes in job order, which stand beside the machine: they rise, the first not below `least`, and are below 24
unfoldable pub labels_from : ℕ → List ℕ → Bool
labels_from least [] = true
labels_from least (n ∷ ns) = leb least n && ltb n max_nodes && labels_from (suc n) ns

abbrev pub labels_ok : List ℕ → Bool
labels_ok ns = labels_from 0 ns

-- Small parts

-- different inlet numbers below n
unfoldable pub set_ok : ℕ → InletSet → Bool
set_ok n [] = true
set_ok n (i ∷ is) = ltb i n && not (has i is) && set_ok n is

-- so many rows from the cell on are rows of a segment of the job
unfoldable pub cell_ok : Job → ℕ → Cell → Bool
cell_ok j rows c = any (λ (x : Node). is_segment x.kind && eqb x.segment c.segment && leb (c.row + rows) x.rows) j.nodes

-- at least one row, no more columns than the node has, each with rows that its segment has
abbrev pub batch_ok : Job → ℕ → Batch → Bool
batch_ok j width b = ltb 0 b.rows && leb (length b.cells) width && all (cell_ok j b.rows) b.cells

abbrev pub split_count : Machine → ℕ
split_count m = length m.job.splits

abbrev pub split_ok : Machine → Option ℕ → Bool
split_ok m none = true
split_ok m (some s) = ltb s (split_count m)

abbrev pub is_active : Machine → ℕ → Bool
is_active m k = given (get none m.active k)

-- a node of the job in an active slot, or a leaf of the job
abbrev pub place_ok : Machine → ℕ → Bool
place_ok m p =
    ltb (node_at_place p) (length m.job.nodes)
    && (if ltb p slot_places then is_active m (slot_at_place p) else is_leaf m.job (node_at_place p))

abbrev pub is_first : Machine → ℕ → Bool
is_first m g = is_leaf m.job g && eqb (first_leaf m.job g) g

-- Lists

unfoldable pub counts_ok : Machine → Bool
counts_ok m =
    leb m.next (split_count m) && leb m.made places && leb (length m.freed) places && leb (length m.ready) places
    && leb (length m.reads) max_reads && leb (length m.news) max_reads && leb (length m.dirty) m.job.slots
    && leb (length m.outputs) capacity && not m.fault

abbrev pub is_source : Source → Bool
is_source (segment a b e) = true
is_source (concat i) = false
is_source pack = false

abbrev pub owner_ok : Machine → Option ℕ → Bool
owner_ok m none = true
owner_ok m (some p) = ltb p places && live m p && is_source (source_at m p)

-- a read is of a segment of the job, and the pipeline that waits for it is a live segment source
abbrev pub read_ok : Machine → Read → Bool
read_ok m r = is_first m r.leaf && owner_ok m r.owner

abbrev pub output_ok : Machine → Output → Bool
output_ok m o = ltb o.split (split_count m) && batch_ok m.job (node_of m.job (root_of m.job)).width o.batch

-- an active slot is one of the job's, with a split of the job and the root's port
abbrev pub slot_ok : Machine → ℕ → Bool
slot_ok m k =
    split_ok m (get none m.active k)
    && (not (is_active m k) || (ltb k m.job.slots && (port_at m (place k (root_of m.job))).there))

unfoldable pub lists_ok : Machine → Bool
lists_ok m =
    all (λ n. ltb n m.made) m.freed && all (λ p. ltb p places && live m p) m.ready && all (read_ok m) m.reads
    && all (λ r. ltb r (length m.reads)) m.news && all (is_active m) m.dirty && all (output_ok m) m.outputs
    && all (slot_ok m) (up_from 0 max_slots) && all (λ g. not (get false m.unbuilt g) || is_first m g) (up_from 0 max_nodes)

-- Pipelines

-- the inlets are ports of the node's own children in the slot, rising: "fed by one … below it in the tree"
unfoldable pub fed_below : Machine → ℕ → List ℕ → Bool
fed_below m p [] = true
fed_below m p (x ∷ xs) =
    eqb (slot_at_place x) (slot_at_place p) && is_some (node_at_place p) (node_of m.job (node_at_place x)).parent && all (ltb x) xs && fed_below m p xs

abbrev pub is_waiting_seen : Seen → Bool
is_waiting_seen waiting = true
is_waiting_seen ready = false
is_waiting_seen ended = false

abbrev pub same_bool : Bool → Bool → Bool
same_bool true b = b
same_bool false b = not b

-- a pack's waiting set holds the inlets that were last seen waiting
abbrev pub pack_ok : Machine → ℕ → Bool
pack_ok m p =
    let seen = get [] m.seen p in
    let w = get [] m.waits p in
    eqb (length seen) (length (inlets_at m p)) && set_ok (length seen) w
    && all (λ i. same_bool (has i w) (is_waiting_seen (get ended seen i))) (up_from 0 (length seen))

-- one shared port of the claimed leaf's own segment: "nor a shared source"
unfoldable pub fed_shared : Machine → ℕ → List ℕ → Bool
fed_shared m p [] = false
fed_shared m p (x ∷ []) = is_share_port x && ltb x port_places && ltb p slot_places && names m.job (node_at_place p) (leaf_of_port x)
fed_shared m p (x ∷ y ∷ xs) = false

abbrev pub is_concat : Kind → Bool
is_concat aSegment = false
is_concat aConcat = true
is_concat aPack = false

-- the source fits the node, its position its runs or inlets, and its inlets the tree
abbrev pub source_ok : Machine → ℕ → Kind → Source → Bool
source_ok m p k (segment a b e) = is_segment k && is_empty (inlets_at m p) && leb e (length (pieces_at m p))
source_ok m p k (concat i) =
    leb i (length (inlets_at m p)) && ltb p slot_places
    && (if is_concat k then fed_below m p (inlets_at m p) else is_segment k && fed_shared m p (inlets_at m p))
source_ok m p k pack = is_pack k && ltb p slot_places && fed_below m p (inlets_at m p) && pack_ok m p

abbrev pub stages : Stage → ℕ
stages x = if given x.cut then 1 else 0

abbrev pub at_most : ℕ → Option ℕ → Bool
at_most n none = true
at_most n (some i) = leb i n

abbrev pub is_shared : Machine → ℕ → Bool
is_shared m p = fed_shared m p (inlets_at m p)

-- the cut only on a claimed leaf, within its runs; it alone continues
abbrev pub stage_ok : Machine → ℕ → Stage → Bool
stage_ok m p x =
    at_most (length (pieces_at m p)) x.cut && (is_shared m p || not (given x.cut)) && (given x.cut || not x.continuing)
    && at_most (stages x) x.finishing

abbrev pub state_ok : ℕ → ℕ → State → Bool
state_ok p n runnable = true
state_ok p n (blocked io) = true
state_ok p n (blocked (inlet i)) = ltb i n
state_ok p n outlet = ltb p slot_places

abbrev pub reads_port : Reader → ℕ → ℕ → Bool
reads_port nobody p i = false
reads_port slot p i = false
reads_port (pipe q j) p i = eqb q p && eqb j i

-- every inlet from number i on is in use and names this pipeline and inlet
unfoldable pub inlets_live : Machine → ℕ → ℕ → List ℕ → Bool
inlets_live m p i [] = true
inlets_live m p i (x ∷ xs) = (port_at m x).there && reads_port (port_at m x).reader p i && inlets_live m p (suc i) xs

-- its own outlet is in use and open
abbrev pub outlet_live : Machine → ℕ → Bool
outlet_live m p = leb slot_places p || ((port_at m p).there && not (port_at m p).closed)

unfoldable pub pipe_ok : Machine → ℕ → Pipeline → Bool
pipe_ok m p x =
    elim x.live [
      | false ↦ true
      | true ↦
          let n = length (inlets_at m p) in
          place_ok m p && ltb x.number m.made && source_ok m p (node_of m.job (node_at_place p)).kind (source_at m p)
          && stage_ok m p (stage_at m p) && state_ok p n x.state && set_ok n (get [] m.changed p) && set_ok n (get [] m.touched p)
          && inlets_live m p 0 (inlets_at m p) && outlet_live m p
    ]

-- Ports

-- the inlet that a port names reads it
abbrev pub read_by : Machine → ℕ → ℕ → ℕ → Bool
read_by m x p i = live m p && ltb i (length (inlets_at m p)) && eqb (get port_places (inlets_at m p) i) x

abbrev pub reader_ok : Machine → ℕ → Reader → Bool
reader_ok m x nobody = is_share_port x
reader_ok m x slot = not (is_share_port x) && eqb (node_at_place x) (root_of m.job)
reader_ok m x (pipe p i) = ltb p slot_places && read_by m x p i && (is_share_port x || not (eqb (node_at_place x) (root_of m.job)))

-- a port of a node in an active slot: written by its pipeline while it is open
abbrev pub bounded_ok : Machine → ℕ → Bool
bounded_ok m x =
    place_ok m x && ((port_at m x).closed || live m x) && leb (length (queue_at m x)) capacity
    && all (batch_ok m.job (node_of m.job (node_at_place x)).width) (queue_at m x)

abbrev pub whole_batch : Machine → ℕ → Batch → Bool
whole_batch m l b = eqb b.rows (node_of m.job l).rows && ltb 0 b.rows && all (λ (c : Cell). eqb c.segment (node_of m.job l).segment && eqb c.row 0) b.cells && eqb (length b.cells) 1

-- a source of the leaf's whole segment lives
unfoldable pub has_source : Machine → ℕ → Bool
has_source m l = any (λ g. live m (slot_places + g)) (leaves_of m.job l)

-- a port of a leaf and a split: written by a source of the segment while it is open, with the whole segment or nothing in it
abbrev pub shared_ok : Machine → ℕ → Bool
shared_ok m x =
    let l = leaf_of_port x in
    is_leaf m.job l && ltb (split_of_port x) (split_count m) && ((port_at m x).closed || has_source m l)
    && leb (length (queue_at m x)) 1 && all (whole_batch m l) (queue_at m x)

-- one that is not in use names nobody
unfoldable pub port_ok : Machine → ℕ → Port → Bool
port_ok m x y =
    elim y.there [
      | false ↦ is_nobody y.reader
      | true ↦ reader_ok m x y.reader && (if is_share_port x then shared_ok m x else bounded_ok m x)
    ]

-- what is queued stands in a port in use
unfoldable pub queue_ok : Machine → ℕ → List Batch → Bool
queue_ok m x [] = true
queue_ok m x (b ∷ bs) = (port_at m x).there

-- Check 12 passes.
unfoldable pub check : Machine → Bool
check m =
    job_ok m.job && counts_ok m && lists_ok m && each (pipe_ok m) 0 m.pipes && each (port_ok m) 0 m.ports && each (queue_ok m) 0 m.queues
