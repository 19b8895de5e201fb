-- The whole invariant: at rest, in a run, and at a run's end.
use Rattle.std.specs.Prelude.{◌≡◌, ◌≢◌, ◌⊎◌, true, false, List, [], ℕ, ◌-◌, ◌<◌, ◌≤◌, length}
use Rattle.rules.specs.Table.{get, has, up_from}
use Rattle.rules.specs.Job.{Job}
use Rattle.rules.specs.Plan.{Row, node_of, is_leaf}
use Rattle.rules.specs.Port.{is_full, capacity}
use Rattle.rules.specs.Operators.{io, inlet, runnable}
use Rattle.rules.specs.Machine.{Machine, share_port, slot_places, places}
use Rattle.rules.specs.Drive.{Why, is_blocked, at_outlet, done, Round, again, stop}
use Rattle.laws.specs.JobOk.{JobOk}
use Rattle.order.specs.Inv.{Live, There, shut, state_of, pipe_of, source_of, inlets_of, queue_of, At, Slots, Pipes, Ports, Shares, Flow, Past, Splits, Queued, Waits, Dirt, Quiet, Packs, Reads, Once, Delivered, Numbers, Ended, pend, segment_of}

abbrev pub all : ℕ → Type 0
all p = Unit {0}

abbrev pub no : ℕ → Type 0
no p = ⊥

-- `me` runs and has taken `hand`; `who` are the others, `open` those whose outlet is open; `loud` ports may be marked, `freed` ports' writers
-- may have to be woken; `busy`: the shared source that runs. `out`: the rows put out so far, by split; `told`: how many reads were told.
pub record Inv (me : ℕ) (hand : List Row) (who «open» loud freed busy : ℕ → Type 0) (out : ℕ → List Row) (told : ℕ) (m : Machine) : Type 0 where
  pub F : ℕ → List Row
  pub W : ℕ → List Row
  pub job : JobOk m.job
  pub slots : Slots m.job m.next m.active m.finished
  pub pipes : Pipes m.job m.active m.pipes m.sources m.stages m.inlets
  pub ports : Ports m.job m.active «open» m.pipes m.inlets m.ports m.queues
  pub shares : Shares m.job busy m.next m.unbuilt m.pipes m.sources m.ports m.queues
  pub flow : Flow m.job m.active m.pipes m.sources m.stages m.inlets m.ports m.queues me hand F W
  pub past : Past m.pipes m.sources m.stages m.inlets m.ports m.queues
  pub splits : Splits m.job m.next m.active m.outputs F out
  pub queued : Queued who m.pipes m.ready
  pub waits : Waits who freed m.pipes m.sources m.inlets m.ports m.queues
  pub dirt : Dirt m.job m.active m.ports m.queues m.dirty
  pub quiet : Quiet who loud m.pipes m.ports m.touched
  pub packs : Packs m.pipes m.sources m.inlets m.ports m.queues m.changed m.waits m.seen
  pub reads : Reads m.job m.pipes m.sources m.reads
  pub once : Once m.job m.next m.unbuilt m.pipes m.sources m.reads
  pub delivered : Delivered m.job m.pipes m.stages m.queues m.reads m.outputs
  pub numbers : Numbers m.pipes m.freed m.made
  pub tells : (told ≤ length m.reads) × (m.news ≡ up_from told (length m.reads - told))
  pub sound : m.fault ≡ false

-- between two inner actions: nothing runs (`places` is no pipeline)
abbrev pub Rests : (ℕ → List Row) → ℕ → Machine → Type 0
Rests out told m = Inv places [] all all no no no out told m

-- x is a port that the pipeline at p writes
abbrev pub OutletOf : Job → ℕ → ℕ → Type 0
OutletOf j p x =
    ((p < slot_places) × (x ≡ p)) ⊎ ((slot_places ≤ p) × ((l : ℕ) × (t : ℕ) × (t < length j.splits) × (x ≡ share_port l t) × (is_leaf j l ≡ true) × ((node_of j l).segment ≡ segment_of j p)))

-- x is an inlet of the pipeline at p that it has read in this run
abbrev pub Touched : Machine → ℕ → ℕ → Type 0
Touched m p x = (i : ℕ) × (has i (get [] m.touched p) ≡ true) × At (inlets_of m.inlets p) i x

-- the invariant in a run of `me`
abbrev pub Runs : ℕ → List Row → (ℕ → Type 0) → (ℕ → List Row) → ℕ → Machine → Type 0
Runs me hand «open» out told m = Inv me hand (λ p. p ≢ me) «open» (OutletOf m.job me) (Touched m me) (λ p. p ≡ me) out told m

-- the running pipeline
pub record Running (me : ℕ) (m : Machine) : Type 0 where
  pub live : Live m.pipes me
  pub state : state_of m.pipes me ≡ runnable
  pub unqueued : (pipe_of m.pipes me).queued ≡ false

-- between two rounds of a run of `me`
pub record Busy (me : ℕ) (hand : List Row) (out : ℕ → List Row) (told : ℕ) (m : Machine) : Type 0 where
  pub inv : Runs me hand all out told m
  pub running : Running me m
  pub calm : pend (source_of m.sources me) ≡ false
  pub is_open : (x : ℕ) → OutletOf m.job me x → There m.ports x → shut m.ports x ≡ false

-- what a run stops at
abbrev pub StopsAt : ℕ → Why → Machine → Type 0
StopsAt me (is_blocked io) m = (pend (source_of m.sources me) ≡ true) × ((x : ℕ) → OutletOf m.job me x → There m.ports x → shut m.ports x ≡ false)
StopsAt me (is_blocked (inlet i)) m =
    (pend (source_of m.sources me) ≡ false) × ((x : ℕ) × At (inlets_of m.inlets me) i x × (queue_of m.queues x ≡ []) × (shut m.ports x ≡ false))
StopsAt me at_outlet m = (pend (source_of m.sources me) ≡ false) × (me < slot_places) × (is_full capacity (queue_of m.queues me) ≡ true)
StopsAt me done m =
    (pend (source_of m.sources me) ≡ false)
    × ((i x : ℕ) → At (inlets_of m.inlets me) i x → Ended m.ports m.queues x)
    × ((x : ℕ) → OutletOf m.job me x → There m.ports x → shut m.ports x ≡ true)

-- at Done the outlet is closed
abbrev pub opens_at : ℕ → Why → ℕ → Type 0
opens_at me (is_blocked b) p = Unit {0}
opens_at me at_outlet p = Unit {0}
opens_at me done p = p ≢ me

pub record Stopped (me : ℕ) (w : Why) (out : ℕ → List Row) (told : ℕ) (m : Machine) : Type 0 where
  pub inv : Runs me [] (opens_at me w) out told m
  pub running : Running me m
  pub stops : StopsAt me w m

-- what one round comes to
abbrev pub RoundOk : ℕ → (ℕ → List Row) → ℕ → Round → Type 0
RoundOk me out told (again m) = Busy me [] out told m
RoundOk me out told (stop w m) = Stopped me w out told m
