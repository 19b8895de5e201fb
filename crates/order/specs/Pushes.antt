-- What is put out raises the load by less than what it was taken from.
use Rattle.std.specs.Prelude.{◌≡◌, refl, Bool, true, false, ℕ, suc, ◌+◌, ◌-◌, ◌*◌, ◌<◌, ◌≤◌, length, eqb, ltb, if◌then◌else◌}
use Rattle.std.proofs.Common.{◌∙◌, arith, length-append, ltb-true, ltb-false, lt-ltb}
use mathlib.Core.List.{List, [], ◌∷◌, ◌++◌, map, flat_map}
use Rattle.std.proofs.Math.Option.{some}
use Rattle.std.proofs.lemmas.List.{length-map}
use Rattle.rules.specs.Table.{filter, up_from}
use Rattle.rules.specs.Plan.{node_of, is_leaf, leaves, leaves_of}
use Rattle.rules.specs.Port.{Batch}
use Rattle.rules.specs.Operators.{Step, end, more, final, emit}
use Rattle.rules.specs.Machine.{Machine, Stage, slot_places, places, node_at_place, port_at, queue_at, stage_at, pieces_at, outlets, share_port, share_ports, set_stage}
use Rattle.rules.specs.Ports.{has_place, push_to, push_each, push_out}
use Rattle.rules.specs.Drive.{is_end, is_more, stage_step, give_out, said_more, finished_stages}
use Rattle.laws.specs.Table.{by_bool}
use Rattle.laws.specs.Rows.{All}
use Rattle.laws.specs.JobOk.{JobOk}
use Rattle.order.specs.Inv.{Live}
use Rattle.order.specs.Outlets.{outlets_share}
use Rattle.order.specs.Measure.{unit, weight, weight_slot, weight_most, run_weight, run_slot, run_share, finish_left, cut_left, run_count, load, stage_change, queue_push}
use Rattle.order.specs.Lists.{up_length}
use Rattle.order.specs.Emit.{emit_some}

-- the job and the next split stay
abbrev pub Stays : Machine → Machine → Type 0
Stays m m' = (m'.job ≡ m.job) × (m'.next ≡ m.next)

-- Lists of outlets

-- a filter passes no more than there are
pub filter_less : {A : Type 0} (f : A → Bool) (xs : List A) → length (filter f xs) ≤ length xs
unfolding filter
filter_less f [] = omega arith
filter_less f (x ∷ xs) = by_bool (f x) (λ e. rw (e, filter) (omega (arith, filter_less f xs))) (λ e. rw (e, filter) (omega (arith, filter_less f xs)))

-- 16 ports for each leaf
blocks_length : (n : ℕ) (ls : List ℕ) → n ≤ 16 → length (flat_map (λ l. map (share_port l) (up_from 0 n)) ls) ≤ 16 * length ls
unfolding flat_map
blocks_length n [] h = omega arith
blocks_length n (l ∷ ls) h =
    let e = length-append (map (share_port l) (up_from 0 n)) (flat_map (λ k. map (share_port k) (up_from 0 n)) ls) in
    let d = length-map (up_from 0 n) (share_port l) ∙ up_length 0 n in
    omega (arith, e, d, blocks_length n ls h)

-- a pipeline has at most 384 outlets
pub outlets_few : (m : Machine) (p : ℕ) → JobOk m.job → slot_places ≤ p → length (outlets m p) ≤ 384
outlets_few m p ok h =
    let j = m.job in
    let a = filter_less (λ x. (port_at m x).there) (share_ports j (node_at_place p)) in
    let b = blocks_length (length j.splits) (leaves_of j (node_at_place p)) ok.splits_high in
    let c = filter_less (λ l. eqb (node_of j l).segment (node_of j (node_at_place p)).segment) (leaves j) in
    let d = filter_less (is_leaf j) (up_from 0 (length j.nodes)) in
    rw (outlets_share m p h) (omega (arith, a, b, c, d, up_length 0 (length j.nodes), ok.nodes_high))

-- Pushes

-- a batch in one port
push_to_lem : (b : Batch) (x : ℕ) (m : Machine) → load (push_to b x m) ≤ load m + weight x
push_to_lem b x m = by_bool (has_place x (queue_at m x))
    (λ e. rw e (omega (arith, queue_push m.queues x (queue_at m x ++ b ∷ []) (omega (arith, length-append (queue_at m x) (b ∷ []))))))
    (λ e. rw e (omega (arith, queue_push m.queues x (queue_at m x) (omega arith))))

-- in each of a list, none of which is worth more than c
pub push_each_lem : (b : Batch) (c : ℕ) (xs : List ℕ) (m : Machine) → All (λ x. weight x ≤ c) xs → (load (push_each b xs m) ≤ load m + c * length xs) × Stays m (push_each b xs m)
unfolding push_each
push_each_lem b c [] m h = (omega arith, (refl, refl))
push_each_lem b c (x ∷ xs) m h =
    let t = push_each_lem b c xs (push_to b x m) h.1 in
    (omega (arith, t.0, push_to_lem b x m, h.0), t.1)

-- a batch in every outlet
pub out_weight : ℕ → ℕ
out_weight p = if ltb p slot_places then weight p else 384 * unit

-- that is less than the run was worth
pub out_less : (p : ℕ) → out_weight p < run_weight p
unfolding out_weight
out_less p = by_bool (ltb p slot_places)
    (λ e. let h = ltb-true p slot_places e in rw e (omega (arith, weight_slot p h, run_slot p h)))
    (λ e. let h = ltb-false p slot_places e in rw e (omega (arith, run_share p h)))

-- a slot's pipeline has one outlet
pub out_slot : (p : ℕ) → p < slot_places → out_weight p ≡ weight p
unfolding out_weight
out_slot p h = rw (lt-ltb p slot_places h)

all_most : (xs : List ℕ) → All (λ x. weight x ≤ unit) xs
all_most [] = tt
all_most (x ∷ xs) = (weight_most x, all_most xs)

-- what a batch in every outlet adds
push_outlets : (p : ℕ) (b : Batch) (m : Machine) → JobOk m.job → (load (push_each b (outlets m p) m) ≤ load m + out_weight p) × Stays m (push_each b (outlets m p) m)
unfolding out_weight
push_outlets p b m ok = by_bool (ltb p slot_places)
    (λ e.
    let t = push_each_lem b (weight p) (p ∷ []) m (omega arith, tt) in
    rw e (omega (arith, t.0), t.1))
    (λ e.
    let h = ltb-false p slot_places e in
    let t = push_each_lem b unit (outlets m p) m (all_most (outlets m p)) in
    let c : (if ltb p slot_places then weight p else 384 * unit) ≡ 384 * unit = rw e in
    (omega (arith, t.0, c, outlets_few m p ok h), t.1))

-- an empty batch adds nothing
pub push_out_lem : (p : ℕ) (b : Batch) (m : Machine) → JobOk m.job → (load (push_out p b m) ≤ load m + out_weight p) × Stays m (push_out p b m)
push_out_lem p b m ok = by_bool (eqb b.rows 0) (λ e. rw (e, push_out) (omega arith, (refl, refl))) (λ e. rw (e, push_out) (push_outlets p b m ok))

-- Stages

-- a product with one factor less
pub one_less : (w r k : ℕ) → k < r → w * (r - suc k) + w ≡ w * (r - k)
one_less w r k h = let e : r - k ≡ suc (r - suc k) = omega arith in rw e (omega arith)

module _ (p : ℕ) (m : Machine) (low : p < places) (is : Live m.pipes p) where
  -- the stage after its run
  abbrev restaged : ℕ → Step → Machine
  restaged at s = let x = stage_at m p in
      set_stage p (record { cut = some (if is_end s then at else suc at); continuing = is_more s; finishing = x.finishing; more = x.more }) m

  -- a run that the stage gives is paid by the runs left to it
  stage_gives : (at : ℕ) → JobOk m.job → (s : Step) → (is_end s ≡ false → at < run_count m p)
      → (load (give_out p (s, restaged at s)) + cut_left (run_weight p) (run_count m p) (stage_at m p).continuing (stage_at m p).cut ≤ load m + run_weight p * (run_count m p - at)) × Stays m (give_out p (s, restaged at s))
  unfolding give_out
  stage_gives at ok end h =
      let v : Stage = record { cut = some at; continuing = false; finishing = (stage_at m p).finishing; more = (stage_at m p).more } in
      let c = stage_change (run_count m) m.pipes m.sources m.stages p low is v in
      (omega (arith, c), (refl, refl))
  stage_gives at ok (more b) h =
      let v : Stage = record { cut = some (suc at); continuing = true; finishing = (stage_at m p).finishing; more = (stage_at m p).more } in
      let c = stage_change (run_count m) m.pipes m.sources m.stages p low is v in
      let t = push_out_lem p b (restaged at (more b)) ok in
      (omega (arith, c, t.0, out_less p, one_less (run_weight p) (run_count m p) at (h refl)), t.1)
  stage_gives at ok (final b) h =
      let v : Stage = record { cut = some (suc at); continuing = false; finishing = (stage_at m p).finishing; more = (stage_at m p).more } in
      let c = stage_change (run_count m) m.pipes m.sources m.stages p low is v in
      let t = push_out_lem p b (restaged at (final b)) ok in
      (omega (arith, c, t.0, out_less p, one_less (run_weight p) (run_count m p) at (h refl)), t.1)

  -- the stage's next run
  pub stage_step_lem : (at : ℕ) → JobOk m.job
      → (load (give_out p (stage_step p at m)) + cut_left (run_weight p) (run_count m p) (stage_at m p).continuing (stage_at m p).cut ≤ load m + run_weight p * (run_count m p - at)) × Stays m (give_out p (stage_step p at m))
  stage_step_lem at ok = stage_gives at ok (emit (pieces_at m p) at) (emit_some (pieces_at m p) at)

  -- what a source says besides is no load
  pub said_more_lem : (b : Bool) → load (said_more p b m) ≡ load m
  said_more_lem b =
      let x = stage_at m p in
      let c = stage_change (run_count m) m.pipes m.sources m.stages p low is (record { cut = x.cut; continuing = x.continuing; finishing = x.finishing; more = b }) in
      omega (arith, c)

  -- one more of the stages has finished
  pub finishes_less : (n : ℕ) → finish_left (some n) < finish_left (stage_at m p).finishing → load (finished_stages p n m) < load m
  finishes_less n h =
      let x = stage_at m p in
      let c = stage_change (run_count m) m.pipes m.sources m.stages p low is (record { cut = x.cut; continuing = x.continuing; finishing = some n; more = x.more }) in
      omega (arith, c)
