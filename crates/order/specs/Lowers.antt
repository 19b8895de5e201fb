-- The invariant inside a lowering: the nodes below i of split s are lowered into slot k. A pipeline of the slot is laid before it gets its
-- port, its number and its place on the ready stack, which come when its parent is joined.
use Rattle.std.specs.Prelude.{◌≡◌, ◌≢◌, ◌⊎◌, true, false, ◌&&◌, not, List, [], ℕ, suc, ◌+◌, ◌-◌, ◌<◌, ◌≤◌, length, leb}
use Rattle.std.proofs.Math.Option.{Option, some}
use Rattle.rules.specs.Table.{get, filter, sum_of, up_from}
use Rattle.rules.specs.Job.{Job}
use Rattle.rules.specs.Plan.{Row, node_of, root_of, keeps, is_leaf, first_leaf, leaves_of, is_shared}
use Rattle.rules.specs.Port.{Batch}
use Rattle.rules.specs.Machine.{Machine, Pipeline, slot, pipe, Port, place, slot_at_place, share_port, slot_places, places}
use Rattle.rules.specs.Operators.{runnable}
use Rattle.rules.specs.Shares.{is_waiting}
use Rattle.laws.specs.JobOk.{JobOk}
use Rattle.laws.specs.Rows.{node_rows}
use Rattle.order.specs.Inv.{Live, There, shut, reader_of, port_of, pipe_of, state_of, queue_of, source_of, inlets_of, split_in, At, bit, is_source, segment_of, read_at, Slots, Pipes, SlotPort, Shares, Flow, Past, Splits, Queued, Waits, Dirt, Quiet, Packs, Reads, Once, Delivered, lives}
use Rattle.order.specs.State.{all, no}

-- not laid only: of another slot, or with its port
abbrev pub Connected : ℕ → List Port → ℕ → Type 0
Connected k O p = (slot_at_place p ≢ k) ⊎ There O p

-- as `Ports`, but laid pipelines have no port yet, the slot's root has none, and a port may name an inlet of a pipeline that is to be laid
-- next: `to x p i`
pub record LowPorts (j : Job) (A : List (Option ℕ)) (k : ℕ) (to : ℕ → ℕ → ℕ → Type 0) (P : List Pipeline) (I : List (List ℕ)) (O : List Port) (Q : List (List Batch)) : Type 0 where
  pub alive : (p : ℕ) → Live P p → p < slot_places → Connected k O p → There O p × (shut O p ≡ false)
  pub opens : (x : ℕ) → x < slot_places → There O x → shut O x ≡ false → Live P x
  pub inlets : (p i x : ℕ) → Live P p → At (inlets_of I p) i x → There O x × (reader_of O x ≡ pipe p i)
  pub readers : (x p i : ℕ) → There O x → reader_of O x ≡ pipe p i → (Live P p × At (inlets_of I p) i x) ⊎ to x p i
  pub slots : (x : ℕ) → x < slot_places → There O x → SlotPort j A O x
  pub roots : (l s : ℕ) → l ≢ k → split_in A l ≡ some s → There O (place l (root_of j)) × (reader_of O (place l (root_of j)) ≡ slot)
  pub absent : (x : ℕ) → (port_of O x).there ≡ false → queue_of Q x ≡ []
  pub blank : (x : ℕ) → (port_of O x).there ≡ false → shut O x ≡ false

-- the slot's pipelines that are laid only
abbrev pub laid_count : ℕ → List Pipeline → List Port → ℕ
laid_count k P O = sum_of (λ n. bit ((pipe_of P (place k n)).live && not (port_of O (place k n)).there)) (up_from 0 24)

pub record LowNumbers (k : ℕ) (P : List Pipeline) (O : List Port) (freed : List ℕ) (made : ℕ) : Type 0 where
  pub size : length P ≡ places
  pub balance : made + laid_count k P O ≡ length freed + lives P
  pub few : made ≤ places

-- which of the slot's nodes are laid and connected
pub record Progress (j : Job) (k s i : ℕ) (P : List Pipeline) (O : List Port) : Type 0 where
  pub laid : (n : ℕ) → n < i → n < length j.nodes → keeps j n s ≡ true → Live P (place k n)
  pub unlaid : (n : ℕ) → i ≤ n → n < 24 → ((pipe_of P (place k n)).live ≡ false) × ((port_of O (place k n)).there ≡ false)
  pub joined : (n q : ℕ) → n < i → keeps j n s ≡ true → (node_of j n).parent ≡ some q → q < i → There O (place k n)
  pub unjoined : (n q : ℕ) → (node_of j n).parent ≡ some q → i ≤ q → (port_of O (place k n)).there ≡ false
  pub rootless : (port_of O (place k (root_of j))).there ≡ false
  -- what is laid only has not run
  pub calm : (n : ℕ) → n < 24 → Live P (place k n) → (port_of O (place k n)).there ≡ false → state_of P (place k n) ≡ runnable

-- the leaves of leaf g's segment from i on that keep rows of split s, and the ports of that segment and split that wait
abbrev pub kept_from : Job → ℕ → ℕ → ℕ → ℕ
kept_from j s i g = length (filter (λ l. leb i l && keeps j l s) (leaves_of j g))

abbrev pub waiting_for : Machine → ℕ → ℕ → ℕ
waiting_for m s g = length (filter (λ l. is_waiting m (share_port l s)) (leaves_of m.job g))

-- what the leaves from i on will find when they claim: ports enough of a built shared segment, and a segment that is not shared untouched
pub record ToClaim (s i : ℕ) (m : Machine) : Type 0 where
  pub ports : (g : ℕ) → is_leaf m.job g ≡ true → is_shared m.job g ≡ true → get false m.unbuilt (first_leaf m.job g) ≡ false
      → kept_from m.job s i g ≤ waiting_for m s g
  pub unread : (l r : ℕ) → i ≤ l → is_leaf m.job l ≡ true → keeps m.job l s ≡ true → is_shared m.job l ≡ false → r < length m.reads
      → (read_at m.reads r).leaf ≢ first_leaf m.job l
  pub unsourced : (l p : ℕ) → i ≤ l → is_leaf m.job l ≡ true → keeps m.job l s ≡ true → is_shared m.job l ≡ false → Live m.pipes p
      → is_source (source_of m.sources p) ≡ true → segment_of m.job p ≢ (node_of m.job l).segment

pub record Lowers (k s i : ℕ) (to : ℕ → ℕ → ℕ → Type 0) (out : ℕ → List Row) (told : ℕ) (m : Machine) : Type 0 where
  pub F : ℕ → List Row
  pub W : ℕ → List Row
  pub job : JobOk m.job
  pub slot_below : k < 3
  pub split : split_in m.active k ≡ some s
  pub is_next : m.next ≡ suc s
  pub slots : Slots m.job m.next m.active m.finished
  pub pipes : Pipes m.job m.active m.pipes m.sources m.stages m.inlets
  pub ports : LowPorts m.job m.active k to m.pipes m.inlets m.ports m.queues
  pub shares : Shares m.job no m.next m.unbuilt m.pipes m.sources m.ports m.queues
  pub flow : Flow m.job m.active m.pipes m.sources m.stages m.inlets m.ports m.queues places [] F W
  pub past : Past m.pipes m.sources m.stages m.inlets m.ports m.queues
  pub splits : Splits m.job m.next m.active m.outputs F out
  pub queued : Queued (Connected k m.ports) m.pipes m.ready
  pub waits : Waits all no m.pipes m.sources m.inlets m.ports m.queues
  pub dirt : Dirt m.job m.active m.ports m.queues m.dirty
  pub quiet : Quiet all no m.pipes m.ports m.touched
  pub packs : Packs m.pipes m.sources m.inlets m.ports m.queues m.changed m.waits m.seen
  pub reads : Reads m.job m.pipes m.sources m.reads
  pub once : Once m.job m.next m.unbuilt m.pipes m.sources m.reads
  pub delivered : Delivered m.job m.pipes m.stages m.queues m.reads m.outputs
  pub numbers : LowNumbers k m.pipes m.ports m.freed m.made
  pub tells : (told ≤ length m.reads) × (m.news ≡ up_from told (length m.reads - told))
  pub sound : m.fault ≡ false
  -- the slot itself: every node's rows are to come
  pub rows : (n : ℕ) → n < length m.job.nodes → (F (place k n) ≡ node_rows m.job n s) × (W (place k n) ≡ node_rows m.job n s)
  pub progress : Progress m.job k s i m.pipes m.ports
  pub claims : ToClaim s i m

-- outside a join
abbrev pub none_to : ℕ → ℕ → ℕ → Type 0
none_to x p i = ⊥
