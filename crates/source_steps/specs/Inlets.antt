-- What a reader sees of a queue, and the ports of a live pipeline's inlets.
use Rattle.std.specs.Prelude.{◌≡◌, refl, Bool, true, false, List, [], ◌∷◌, ℕ, ◌<◌, length}
use Rattle.rules.specs.Table.{get, is_empty}
use Rattle.rules.specs.Port.{Batch, waiting, ready, ended, sees}
use Rattle.rules.specs.Machine.{Machine, Port, inlets_at, port_at, queue_at}
use Rattle.laws.specs.Table.{clash}
use Rattle.laws.specs.Rows.{All, All-get}
use Rattle.order.specs.Inv.{Live}
use Rattle.order.specs.RangeParts.{Fits}
use Rattle.order.specs.RangeRetire.{inlets_bound}

pub sees_some : (q : List Batch) (c b : Bool) → b ≡ is_empty q → b ≡ false → ready ≡ sees q c
unfolding sees is_empty
sees_some [] c b e f = clash (cc)
sees_some (x ∷ q) c b e f = refl

pub sees_none : (q : List Batch) (c b : Bool) → b ≡ is_empty q → b ≡ true → sees [] c ≡ sees q c
unfolding is_empty
sees_none [] c b e f = refl
sees_none (x ∷ q) c b e f = clash (cc)

-- the port of an inlet
pub port_bound : (m : Machine) (p i : ℕ) → All (λ x. x < 456) (inlets_at m p) → i < length (inlets_at m p) → get 0 (inlets_at m p) i < 456
port_bound m p i a h = All-get (λ x. x < 456) 0 (inlets_at m p) i a h

pub ports_bound : (m : Machine) (p : ℕ) → Fits m → Live m.pipes p → All (λ x. x < 456) (inlets_at m p)
ports_bound m p f l = inlets_bound m p f l

-- an empty port, closed or open
pub sees_closed : (m : Machine) (x : ℕ) (b : Bool) (y : Port) → b ≡ is_empty (queue_at m x) → b ≡ true → y ≡ port_at m x → y.closed ≡ true →
    ended ≡ sees (queue_at m x) (port_at m x).closed
unfolding sees
sees_closed m x b y e f q c = rw (← q, c) (sees_none (queue_at m x) true b e f)

pub sees_open : (m : Machine) (x : ℕ) (b : Bool) (y : Port) → b ≡ is_empty (queue_at m x) → b ≡ true → y ≡ port_at m x → y.closed ≡ false →
    waiting ≡ sees (queue_at m x) (port_at m x).closed
unfolding sees
sees_open m x b y e f q c = rw (← q, c) (sees_none (queue_at m x) false b e f)
