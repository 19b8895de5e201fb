-- A split is over, and a split is activated: it is lowered into a free slot, or is over at once.
use Rattle.std.specs.Prelude.{◌≡◌, ◌≢◌, true, false, List, ℕ, suc, ◌<◌, length}
use Rattle.std.proofs.Common.{sym, ap, ◌∙◌, arith, zero-add}
use Rattle.std.proofs.Math.Option.{none, some}
use Rattle.rules.specs.Table.{put}
use Rattle.rules.specs.Job.{Job}
use Rattle.rules.specs.Plan.{Row, root_of, keeps}
use Rattle.rules.specs.Machine.{Machine, slot, place, with_next, with_active}
use Rattle.rules.specs.Lower.{connect}
use Rattle.rules.specs.Scan.{end_split, activate}
use Rattle.laws.specs.Table.{by_bool, by_eq}
use Rattle.laws.specs.NodeRows.{keeps_none, root_rows}
use Rattle.order.specs.Inv.{split_in}
use Rattle.order.specs.State.{Rests}
use Rattle.order.specs.Next.{shares_next, once_next}
use Rattle.order.specs.LowerBegin.{lower_begin}
use Rattle.order.specs.LowerFrom.{lower_from, by_nodes}
use Rattle.order.specs.LowerAll.{LeafOk, lower_all}
use Rattle.order.specs.LowerEnd.{lower_end}
use Rattle.order.specs.Leave.{finish_ok}

module _ (out : ℕ → List Row) (told : ℕ) (m : Machine) (v : Rests out told m) (more : m.next < length m.job.splits) where
  -- the next split is not active
  not_active : (k : ℕ) → split_in m.active k ≢ some m.next
  not_active k e = let z = (v.slots.active k m.next e).1 in omega arith

  -- a split that keeps no rows is taken
  passed : keeps m.job (root_of m.job) m.next ≡ false → Rests out told (with_next (suc m.next) m)
  passed e = record {
    F = v.F;
    W = v.W;
    job = v.job;
    slots = record {
      bound = more;
      active = λ k s a. let y = v.slots.active k s a in (y.0, omega (arith, y.1));
      apart = v.slots.apart;
      over = λ t f. let y = v.slots.over t f in (omega (arith, y.0), y.1);
    };
    pipes = v.pipes;
    ports = v.ports;
    shares = shares_next m.job (λ p. ⊥) m.next m.unbuilt m.pipes m.sources m.ports m.queues v.shares;
    flow = v.flow;
    past = v.past;
    splits = record {
      active = v.splits.active;
      over = λ t h n. by_eq t m.next
          (λ d. rw d (v.splits.later m.next (omega arith) ∙ sym (sym (root_rows m.job v.job m.next more) ∙ keeps_none m.job (root_of m.job) m.next e)))
          (λ d. v.splits.over t (omega arith) n);
      later = λ t h. v.splits.later t (omega arith);
    };
    queued = v.queued;
    waits = v.waits;
    dirt = v.dirt;
    quiet = v.quiet;
    packs = v.packs;
    reads = v.reads;
    once = once_next m.job m.next m.unbuilt m.pipes m.sources m.reads v.once;
    delivered = v.delivered;
    numbers = v.numbers;
    tells = v.tells;
    sound = v.sound;
  }

  -- and is over
  pub pass_ok : keeps m.job (root_of m.job) m.next ≡ false → Rests out told (end_split m.next (with_next (suc m.next) m))
  pass_ok e = finish_ok out told (with_next (suc m.next) m) (passed e) m.next (omega arith) not_active

  module _ (k : ℕ) (leaf : LeafOk k m.next out told) (low : k < m.job.slots) (free : split_in m.active k ≡ none) where
    abbrev begun : Machine
    begun = with_next (suc m.next) (with_active (put none m.active k (some m.next)) m)

    -- a split that keeps rows is lowered
    pub take_ok : keeps m.job (root_of m.job) m.next ≡ true
        → Rests out told (connect (place k (root_of m.job)) slot (lower_from k m.next 0 (length m.job.nodes) begun))
    take_ok e =
        let y = lower_all k m.next out told leaf (length m.job.nodes) 0 begun (zero-add (length m.job.nodes)) (lower_begin k out told m v more low free) in
        let low-all = lower_from k m.next 0 (length m.job.nodes) begun in
        let d : length low-all.job.nodes ≡ length m.job.nodes = ap (λ (j : Job). length j.nodes) y.1 in
        let r : root_of low-all.job ≡ root_of m.job = ap root_of y.1 in
        rw r at (lower_end k m.next out told low-all (rw d y.0) (rw y.1 e))

    -- the next split is activated
    pub activate_ok : Rests out told (activate k m)
    unfolding activate
    activate_ok = by_bool (keeps m.job (root_of m.job) m.next)
        (λ e. rw (activate, e, by_nodes k m.next begun v.job) (take_ok e))
        (λ e. rw (activate, e) (pass_ok e))
