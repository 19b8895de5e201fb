-- The root of a lowered split gets its port, and the machine is at rest.
use Rattle.std.specs.Prelude.{◌≡◌, refl, ◌⊎◌, true, ◌&&◌, not, List, ℕ, ◌<◌, length}
use Rattle.std.proofs.Common.{sym, ap, ◌∙◌, inl, inr, arith}
use Rattle.std.proofs.Math.Option.{some}
use Rattle.rules.specs.Plan.{Row, root_of, keeps}
use Rattle.rules.specs.Machine.{Machine, slot, place, slot_at_place, node_at_place, Port}
use Rattle.rules.specs.Lower.{connect}
use Rattle.laws.specs.Table.{by_bool, by_eq, clash}
use Rattle.order.specs.Inv.{Live, There, reader_of, port_of, pipe_of, inlets_of, At, bit}
use Rattle.order.specs.State.{Rests}
use Rattle.order.specs.Base.{place_of, place_slot, place_apart}
use Rattle.order.specs.Tally.{sum_none}
use Rattle.order.specs.Lowers.{Connected, laid_count, Lowers, none_to}
use Rattle.order.specs.Laying.{Laying, laying}
use Rattle.order.specs.Connects.{Wired, MayRead, connect_ok, connect_wired}

-- a slot in which every pipeline has its port, the root's too, is at rest
module _ (k s i : ℕ) (out : ℕ → List Row) (told : ℕ) (m : Machine) (v : Laying k s i none_to out told m) (ports : (q : ℕ) → Live m.pipes q → slot_at_place q ≡ k → There m.ports q)
    (root : There m.ports (place k (root_of m.job)) × (reader_of m.ports (place k (root_of m.job)) ≡ slot)) where
  -- every pipeline is connected
  connected : (q : ℕ) → Live m.pipes q → Connected k m.ports q
  connected q l = by_eq (slot_at_place q) k (λ e. inr (ports q l e)) (λ n. inl n)

  -- none is laid only
  none_laid : laid_count k m.pipes m.ports ≡ 0
  none_laid = sum_none (λ n. bit ((pipe_of m.pipes (place k n)).live && not (port_of m.ports (place k n)).there)) 0 24
      (λ n a b. by_bool (pipe_of m.pipes (place k n)).live (λ e. rw (e, ports (place k n) e (place_slot k n (omega arith)))) (λ e. rw e))

  -- every reader is there
  read : (x p h : ℕ) → (Live m.pipes p × At (inlets_of m.inlets p) h x) ⊎ none_to x p h → Live m.pipes p × At (inlets_of m.inlets p) h x
  read x p h (inl y) = y
  read x p h (inr y) = absurd y

  -- all groups
  rests : Rests out told m
  rests = record {
    F = v.F;
    W = v.W;
    job = v.job;
    slots = v.slots;
    pipes = v.pipes;
    ports = record {
      alive = λ p l b w. v.ports.alive p l b (connected p l);
      opens = v.ports.opens;
      inlets = v.ports.inlets;
      readers = λ x p h t e. read x p h (v.ports.readers x p h t e);
      slots = v.ports.slots;
      roots = λ l t a. by_eq l k (λ e. rw e root) (λ n. v.ports.roots l t n a);
      absent = v.ports.absent;
      blank = v.ports.blank;
    };
    shares = v.shares;
    flow = v.flow;
    past = v.past;
    splits = v.splits;
    queued = record { flags = λ p l w. v.queued.flags p l (connected p l); counts = v.queued.counts };
    waits = v.waits;
    dirt = v.dirt;
    quiet = v.quiet;
    packs = v.packs;
    reads = v.reads;
    once = v.once;
    delivered = v.delivered;
    numbers = record { size = v.numbers.size; balance = omega (arith, v.numbers.balance, none_laid); few = v.numbers.few };
    tells = v.tells;
    sound = v.sound;
  }

module _ (k s : ℕ) (out : ℕ → List Row) (told : ℕ) (m : Machine) (v : Lowers k s (length m.job.nodes) none_to out told m) (kp : keeps m.job (root_of m.job) s ≡ true) where
  abbrev root : ℕ
  root = root_of m.job

  abbrev after : Machine
  after = connect (place k root) slot m

  -- the root is a node
  root_low : root < length m.job.nodes
  root_low = omega (arith, v.job.nodes_low)

  -- and has a place
  root_few : root < 24
  root_few = omega (arith, root_low, v.job.nodes_high)

  -- it is laid
  alive : Live m.pipes (place k root)
  alive = v.progress.laid root root_low root_low kp

  -- the slot reads it
  reads : MayRead m.job root (place k root) slot none_to none_to
  reads = record { some = λ e. clash (cc); root = λ e. refl; wide = λ x q h t. t; names = λ q h e. clash (cc) }

  -- before
  ready : Laying k s (length m.job.nodes) none_to out told m
  ready = laying k s (length m.job.nodes) none_to out told m v

  -- what has changed
  wired : Wired (place k root) slot m after
  wired = connect_wired k s (length m.job.nodes) root none_to none_to out told m slot ready root_few alive v.progress.rootless (v.progress.calm root root_few alive v.progress.rootless) reads

  -- after
  done : Laying k s (length m.job.nodes) none_to out told after
  done = connect_ok k s (length m.job.nodes) root none_to none_to out told m slot ready root_few alive v.progress.rootless (v.progress.calm root root_few alive v.progress.rootless) reads

  -- every node but the root is joined
  node_there : (n : ℕ) → n < length m.job.nodes → keeps m.job n s ≡ true → There after.ports (place k n)
  node_there n b e = by_eq n root
      (λ d. rw (d, wired.port_near))
      (λ d. let y = v.job.under n (omega (arith, b, d)) in
      rw (wired.port_far (place k n) (place_apart k n root d)) (v.progress.joined n y.0 b e y.1 (v.job.up n y.0 y.1).1))

  -- every pipeline of the slot has its port
  all_there : (q : ℕ) → Live after.pipes q → slot_at_place q ≡ k → There after.ports q
  all_there q l e =
      let y = v.pipes.slots q (sym (wired.live q) ∙ l) (omega (arith, e, v.slot_below)) in
      let d : y.split ≡ s = some_eq y.split s (sym y.is ∙ rw e v.split) in
      rw (place_of q, e) (node_there (node_at_place q) y.node (rw d at y.keep))
    where
      some_eq : (a b : ℕ) → some a ≡ some b → a ≡ b
      some_eq a b h = cc

  -- the lowered split is at rest
  pub lower_end : Rests out told after
  lower_end = rests k s (length m.job.nodes) out told after done all_there (rw wired.job (rw wired.port_near, ap (λ (z : Port). z.reader) wired.port_near))
