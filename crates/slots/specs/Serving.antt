-- A dirty slot's turn, by whether it has a split and whether that split's root has ended.
use Rattle.std.specs.Prelude.{◌≡◌, [], ℕ, ◌≤◌, ◌<◌, length}
use Rattle.std.proofs.Common.{sym, ◌∙◌, arith}
use Rattle.std.proofs.Math.Bool.{true, false}
use Rattle.std.proofs.Math.Option.{Option, none, some}
use Rattle.rules.specs.Table.{get}
use Rattle.rules.specs.Plan.{root_of}
use Rattle.rules.specs.Port.{capacity}
use Rattle.rules.specs.Machine.{Machine, Port, place, slot_places, port_at, queue_at}
use Rattle.rules.specs.Scan.{leave, serve, advance}
use Rattle.order.specs.Inv.{split_in}
use Rattle.order.specs.Ranged.{Ranged}
use Rattle.order.specs.Ranging.{of_ranged, to_ranged}
use Rattle.order.specs.RangingWake.{writer_ranging}
use Rattle.order.specs.RangingAdvance.{served_ranging}
use Rattle.order.specs.Lowers.{none_to}
use Rattle.slots.specs.Outputs.{put_out}

-- Ranges

pub split_low : (k t : ℕ) (m : Machine) → Ranged m → split_in m.active k ≡ some t → t < 16
split_low k t m r e = omega (arith, (r.lists.active k t e).1, r.job.splits_high)

-- what waits in a bounded port
pub queue_low : (x : ℕ) (m : Machine) → Ranged m → x < slot_places → length (queue_at m x) ≤ capacity
queue_low x m r h = ((r.queues x).bounded h).0

pub put_ranged : (k t n x : ℕ) (m m' : Machine) → Ranged m → m.outputs ≡ [] → split_in m.active k ≡ some t → n ≡ root_of m.job → x ≡ place k n →
    m' ≡ put_out x t m → Ranged m'
put_ranged k t n x m m' r o e a b c =
    rw (c, b, a) (to_ranged _ (writer_ranging ⊥ none_to _ (place k (root_of m.job)) (served_ranging m k t e o (of_ranged m r))))

-- The split of a slot

module _ (k t n x : ℕ) (v : Port) (m m₁ : Machine) (a : n ≡ root_of m.job) (b : x ≡ place k n) (e : v ≡ port_at m x) (f : m₁ ≡ put_out x t m) where
  pub serve_open : v.closed ≡ false → m₁ ≡ serve k t (place k (root_of m.job)) m
  unfolding serve
  serve_open c = let u : (port_at m (place k (root_of m.job))).closed ≡ false = rw (e, b, a) at c in rw (f, b, a, u, serve)

  pub serve_closed : (m₂ : Machine) (s : ℕ) → v.closed ≡ true → s ≡ t → m₂ ≡ leave k s m₁ → m₂ ≡ serve k t (place k (root_of m.job)) m
  unfolding serve
  serve_closed m₂ s c q d = let u : (port_at m (place k (root_of m.job))).closed ≡ true = rw (e, b, a) at c in rw (d, q, f, b, a, u, serve)

-- A slot without a split, and one with it

pub advance_none : (k : ℕ) (o : Option ℕ) (m : Machine) → o ≡ get none m.active k → o ≡ none → m ≡ advance k m
unfolding advance
advance_none k o m e d = let u : get none m.active k ≡ none = sym e ∙ d in rw (u, advance)

pub advance_some : (k t : ℕ) (o : Option ℕ) (m m' : Machine) → o ≡ get none m.active k → o ≡ some t → m' ≡ serve k t (place k (root_of m.job)) m →
    m' ≡ advance k m
unfolding advance
advance_some k t o m m' e d f = let u : get none m.active k ≡ some t = sym e ∙ d in rw (f, u, advance)
