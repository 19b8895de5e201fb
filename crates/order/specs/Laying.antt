-- Inside a join: as `Lowers`, without what says which ports are connected.
use Rattle.std.specs.Prelude.{◌≡◌, List, [], ℕ, suc, ◌-◌, ◌<◌, ◌≤◌, false, length}
use Rattle.std.proofs.Math.Option.{some}
use Rattle.rules.specs.Table.{up_from}
use Rattle.rules.specs.Plan.{Row}
use Rattle.rules.specs.Machine.{Machine, place, places}
use Rattle.laws.specs.JobOk.{JobOk}
use Rattle.laws.specs.Rows.{node_rows}
use Rattle.order.specs.Inv.{split_in, Slots, Pipes, Shares, Flow, Past, Splits, Queued, Waits, Dirt, Quiet, Packs, Reads, Once, Delivered}
use Rattle.order.specs.State.{all, no}
use Rattle.order.specs.Lowers.{Connected, LowPorts, LowNumbers, Progress, ToClaim, Lowers}

pub record Laying (k s i : ℕ) (to : ℕ → ℕ → ℕ → Type 0) (out : ℕ → List Row) (told : ℕ) (m : Machine) : Type 0 where
  pub F : ℕ → List Row
  pub W : ℕ → List Row
  pub job : JobOk m.job
  pub slot_below : k < 3
  pub split : split_in m.active k ≡ some s
  pub is_next : m.next ≡ suc s
  pub slots : Slots m.job m.next m.active m.finished
  pub pipes : Pipes m.job m.active m.pipes m.sources m.stages m.inlets
  pub ports : LowPorts m.job m.active k to m.pipes m.inlets m.ports m.queues
  pub shares : Shares m.job no m.next m.unbuilt m.pipes m.sources m.ports m.queues
  pub flow : Flow m.job m.active m.pipes m.sources m.stages m.inlets m.ports m.queues places [] F W
  pub past : Past m.pipes m.sources m.stages m.inlets m.ports m.queues
  pub splits : Splits m.job m.next m.active m.outputs F out
  pub queued : Queued (Connected k m.ports) m.pipes m.ready
  pub waits : Waits all no m.pipes m.sources m.inlets m.ports m.queues
  pub dirt : Dirt m.job m.active m.ports m.queues m.dirty
  pub quiet : Quiet all no m.pipes m.ports m.touched
  pub packs : Packs m.pipes m.sources m.inlets m.ports m.queues m.changed m.waits m.seen
  pub reads : Reads m.job m.pipes m.sources m.reads
  pub once : Once m.job m.next m.unbuilt m.pipes m.sources m.reads
  pub delivered : Delivered m.job m.pipes m.stages m.queues m.reads m.outputs
  pub numbers : LowNumbers k m.pipes m.ports m.freed m.made
  pub tells : (told ≤ length m.reads) × (m.news ≡ up_from told (length m.reads - told))
  pub sound : m.fault ≡ false
  pub rows : (n : ℕ) → n < length m.job.nodes → (F (place k n) ≡ node_rows m.job n s) × (W (place k n) ≡ node_rows m.job n s)
  pub claims : ToClaim s i m

-- what a lowering knows
pub laying : (k s i : ℕ) (to : ℕ → ℕ → ℕ → Type 0) (out : ℕ → List Row) (told : ℕ) (m : Machine) → Lowers k s i to out told m → Laying k s i to out told m
laying k s i to out told m v = record { F = v.F; W = v.W; job = v.job; slot_below = v.slot_below; split = v.split; is_next = v.is_next; slots = v.slots; pipes = v.pipes; ports = v.ports; shares = v.shares; flow = v.flow; past = v.past; splits = v.splits; queued = v.queued; waits = v.waits; dirt = v.dirt; quiet = v.quiet; packs = v.packs; reads = v.reads; once = v.once; delivered = v.delivered; numbers = v.numbers; tells = v.tells; sound = v.sound; rows = v.rows; claims = v.claims }

-- and what it needs to know
pub lowers : (k s i : ℕ) (to : ℕ → ℕ → ℕ → Type 0) (out : ℕ → List Row) (told : ℕ) (m : Machine) → Laying k s i to out told m
    → Progress m.job k s i m.pipes m.ports → Lowers k s i to out told m
lowers k s i to out told m v q = record { F = v.F; W = v.W; job = v.job; slot_below = v.slot_below; split = v.split; is_next = v.is_next; slots = v.slots; pipes = v.pipes; ports = v.ports; shares = v.shares; flow = v.flow; past = v.past; splits = v.splits; queued = v.queued; waits = v.waits; dirt = v.dirt; quiet = v.quiet; packs = v.packs; reads = v.reads; once = v.once; delivered = v.delivered; numbers = v.numbers; tells = v.tells; sound = v.sound; rows = v.rows; claims = v.claims; progress = q }
