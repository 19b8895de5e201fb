-- The measure of a ranged state is bounded.
use Rattle.std.specs.Prelude.{◌≡◌, ◌⊎◌, Bool, true, false, not, [], ◌∷◌, ℕ, ◌+◌, ◌-◌, ◌*◌, ◌/◌, ◌%◌, ◌^◌, ◌<◌, ◌≤◌, length, ltb}
use Rattle.std.proofs.Common.{inl, inr, arith, mul-le-mul_left, ltb-true, ltb-false}
use Rattle.std.proofs.Math.Option.{Option, none, some, get_or}
use Rattle.rules.specs.Table.{get}
use Rattle.rules.specs.Plan.{node_of}
use Rattle.rules.specs.InletSet.{InletSet}
use Rattle.rules.specs.Operators.{Source, segment, concat, pack}
use Rattle.rules.specs.Machine.{Machine, slot_places, port_places, share_port, inlets_at, source_at, stage_at}
use Rattle.rules.specs.Check.{set_ok}
use Rattle.laws.specs.Table.{by_bool}
use Rattle.order.specs.Inv.{Live, queue_of, whole}
use Rattle.order.specs.Tally.{bit_most, few_differ}
use Rattle.order.specs.Ranged.{Ranged}
use Rattle.order.specs.Measure.{unit, weight, weight_slot, weight_share, run_weight, run_slot, run_share, finish_left, source_left, cut_left, run_count, load, wake, measure, pipes_most, ports_most, stirs_most, marks_most}
use Rattle.order.specs.Fed.{few_runs, one_run, inlets_few}
use Rattle.order.specs.Each.{set_differ, set_below}

-- Sets of different numbers below n have at most n

pub set_few : (n : ℕ) (s : InletSet) → set_ok n s ≡ true → length s ≤ n
set_few n s h = few_differ n s (set_differ n s h) (λ q e. set_below n s q h e)

-- The load

finish_most : (o : Option ℕ) → finish_left o ≤ 3
finish_most none = omega arith
finish_most (some k) = omega arith

module _ (w r c : ℕ) (h : w * r ≤ c) where
  -- a part of the runs
  part_most : (k : ℕ) → w * (r - k) ≤ c
  part_most k = let l : r - k ≤ r = omega arith in omega (arith, h, mul-le-mul_left w l)

  source_most : (s : Source) → source_left w r s ≤ 1 + c
  source_most (segment a b e) = omega (arith, part_most e, bit_most (not a))
  source_most (concat i) = omega arith
  source_most pack = omega arith

  cut_most : (g : Bool) (o : Option ℕ) → cut_left w r g o ≤ 1 + c
  cut_most true o = omega (arith, part_most (get_or o 0))
  cut_most false o = omega arith

module _ (m : Machine) (r : Ranged m) where
  -- the runs of a pipeline
  work_most : (p : ℕ) → Live m.pipes p → run_weight p * run_count m p ≤ 385 * unit
  work_most p is = by_bool (ltb p slot_places)
      (λ e.
      let s = run_slot p (ltb-true p slot_places e) in
      let f = mul-le-mul_left (run_weight p) (few_runs m r p is) in
      omega (arith, f, s))
      (λ e.
      let h = ltb-false p slot_places e in
      rw (run_share p h, one_run m r p is h) (omega arith))

  -- the batches of a port
  ports_held : (x : ℕ) → x < port_places → weight x * length (queue_of m.queues x) ≤ unit
  ports_held x l = by_bool (ltb x slot_places)
      (λ e.
      let h = ltb-true x slot_places e in
      let f = mul-le-mul_left (weight x) ((r.queues x).bounded h).0 in
      omega (arith, f, weight_slot x h))
      (λ e.
      let h = ltb-false x slot_places e in
      let d : x ≡ share_port ((x - 72) / 16) ((x - 72) % 16) = omega arith in
      let q : length (queue_of m.queues x) ≤ 1 = one ((x - 72) / 16) ((r.queues x).share ((x - 72) / 16) ((x - 72) % 16) (omega arith) d) in
      let f = mul-le-mul_left (weight x) q in
      omega (arith, f, weight_share x h))
    where
      one : (l : ℕ) → (queue_of m.queues x ≡ []) ⊎ ((queue_of m.queues x ≡ whole m.job l ∷ []) × (1 ≤ (node_of m.job l).rows)) → length (queue_of m.queues x) ≤ 1
      one l (inl e) = rw e (omega arith)
      one l (inr e) = rw e.0 (omega arith)

  -- all work
  pub load_bound : load m < 2 ^ 26
  load_bound =
      let a = pipes_most (run_count m) m.pipes m.sources m.stages (2 * (385 * unit) + 6) (λ p is.
      omega (
        arith,
        source_most (run_weight p) (run_count m p) (385 * unit) (work_most p is) (source_at m p),
        cut_most (run_weight p) (run_count m p) (385 * unit) (work_most p is) (stage_at m p).continuing (stage_at m p).cut,
        finish_most (stage_at m p).finishing,
      ))
      in
      let b = ports_most m.queues unit ports_held in
      omega (arith, a, b)

  -- all that is to be woken
  pub wake_bound : wake m < 2 ^ 20
  wake_bound =
      let a = stirs_most m.pipes m.touched 23 (λ p is. omega (arith, set_few (length (inlets_at m p)) (get [] m.touched p) (r.pipes p is).touched, inlets_few m r p is)) in
      let b = marks_most m.ports in
      omega (arith, a, b, r.lists.ready_size, r.lists.dirty_size)

  -- so the measure is less than a step's fuel
  pub measure_bound : measure m < 2 ^ 100
  measure_bound = omega (arith, load_bound, wake_bound, r.job.splits_high)
