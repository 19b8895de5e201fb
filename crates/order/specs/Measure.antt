-- The measure of a step: splits to come, then the work that pipelines and queued batches still are, then what is to be woken.
use Rattle.std.specs.Prelude.{◌≡◌, refl, Bool, true, false, not, List, [], ℕ, suc, ◌+◌, ◌-◌, ◌*◌, ◌^◌, ◌<◌, ◌≤◌, length, ltb, if◌then◌else◌}
use Rattle.std.proofs.Common.{ap, ◌∙◌, arith, mul-le-mul_left, ltb-true, ltb-false, lt-ltb, le-ltb}
use Rattle.std.proofs.Math.Option.{Option, none, some, get_or}
use Rattle.rules.specs.Table.{get, put, sum_of, up_from}
use Rattle.rules.specs.InletSet.{InletSet}
use Rattle.rules.specs.Port.{Batch}
use Rattle.rules.specs.Operators.{Source, segment, concat, pack}
use Rattle.rules.specs.Machine.{Machine, Pipeline, Stage, Port, no_pipe, no_source, no_stage, no_port, node_at_place, slot_places, places, port_places, pieces_at}
use Rattle.rules.specs.Wake.{at_outlet}
use Rattle.laws.specs.Table.{by_bool, same, other, clash}
use Rattle.order.specs.Inv.{Live, bit, pipe_of, state_of, source_of, stage_of, port_of, queue_of}
use Rattle.order.specs.Tally.{sum_change, sum_same, bit_most, bits_most}
use Rattle.order.specs.Sums.{sum_most, sum_raise, sum_bound}

-- a whole segment in a shared port is worth more than all that is cut of it
abbrev pub unit : ℕ
unit = 512

-- what a batch in a port is worth: less at a greater node
pub weight : ℕ → ℕ
weight x = if ltb x slot_places then 25 - node_at_place x else unit

-- and a run that is still to come
pub run_weight : ℕ → ℕ
run_weight p = if ltb p slot_places then 26 - node_at_place p else 385 * unit

-- in a slot's port
pub weight_slot : (x : ℕ) → x < slot_places → weight x ≡ 25 - node_at_place x
unfolding weight
weight_slot x h = rw (lt-ltb x slot_places h)

-- in a shared port
pub weight_share : (x : ℕ) → slot_places ≤ x → weight x ≡ unit
unfolding weight
weight_share x h = rw (le-ltb x slot_places h)

pub weight_most : (x : ℕ) → weight x ≤ unit
weight_most x = by_bool (ltb x slot_places)
    (λ e. let h = weight_slot x (ltb-true x slot_places e) in omega (arith, h))
    (λ e. let h = weight_share x (ltb-false x slot_places e) in omega (arith, h))

-- of a slot's pipeline
pub run_slot : (p : ℕ) → p < slot_places → run_weight p ≡ 26 - node_at_place p
unfolding run_weight
run_slot p h = rw (lt-ltb p slot_places h)

-- of a shared source
pub run_share : (p : ℕ) → slot_places ≤ p → run_weight p ≡ 385 * unit
unfolding run_weight
run_share p h = rw (le-ltb p slot_places h)

-- stages that have not finished
abbrev pub finish_left : Option ℕ → ℕ
finish_left none = 3
finish_left (some k) = 2 - k

-- a source that asked or not, with r runs of weight w in all
abbrev pub source_left : ℕ → ℕ → Source → ℕ
source_left w r (segment a b e) = bit (not a) + w * (r - e)
source_left w r (concat i) = 0
source_left w r pack = 0

-- what a continuing stage still cuts of its r runs
abbrev pub cut_left : ℕ → ℕ → Bool → Option ℕ → ℕ
cut_left w r true at = 1 + w * (r - get_or at 0)
cut_left w r false at = 0

abbrev pub stage_left : ℕ → ℕ → Stage → ℕ
stage_left w r x = finish_left x.finishing + cut_left w r x.continuing x.cut

-- a dead pipeline counts for nothing
abbrev pub when_live : Bool → ℕ → ℕ
when_live true n = n
when_live false n = 0

-- the work of the pipeline at p
abbrev cost : (ℕ → ℕ) → List Pipeline → List Source → List Stage → ℕ → ℕ
cost r P S G p = when_live (pipe_of P p).live (1 + source_left (run_weight p) (r p) (source_of S p) + stage_left (run_weight p) (r p) (stage_of G p))

-- the pipelines' work, r giving the runs of a place
pub pipe_load : (ℕ → ℕ) → List Pipeline → List Source → List Stage → ℕ
pipe_load r P S G = sum_of (cost r P S G) (up_from 0 places)

-- the work queued in a port
abbrev held : List (List Batch) → ℕ → ℕ
held Q x = weight x * length (queue_of Q x)

-- the work queued in all ports
pub port_load : List (List Batch) → ℕ
port_load Q = sum_of (held Q) (up_from 0 port_places)

-- the runs of a place
abbrev pub run_count : Machine → ℕ → ℕ
run_count m p = length (pieces_at m p)

-- all work
abbrev pub load : Machine → ℕ
load m = pipe_load (run_count m) m.pipes m.sources m.stages + port_load m.queues

-- what is to be woken for a pipeline
abbrev stirs : Pipeline → InletSet → ℕ
stirs x t = when_live x.live (24 * bit (at_outlet x.state) + length t)

abbrev stir : List Pipeline → List InletSet → ℕ → ℕ
stir P T p = stirs (pipe_of P p) (get [] T p)

-- pipelines at their outlet, and inlets touched
pub pipe_wake : List Pipeline → List InletSet → ℕ
pipe_wake P T = sum_of (stir P T) (up_from 0 places)

abbrev mark : List Port → ℕ → ℕ
mark O x = bit (port_of O x).changed

-- ports that are marked
pub marks : List Port → ℕ
marks O = sum_of (mark O) (up_from 0 port_places)

-- all that is to be woken
abbrev pub wake : Machine → ℕ
wake m = 25 * length m.ready + pipe_wake m.pipes m.touched + 400 * length m.dirty + 401 * marks m.ports

-- the measure
abbrev pub measure : Machine → ℕ
measure m = ((length m.job.splits - m.next) * 2 ^ 26 + load m) * 2 ^ 20 + wake m

-- One entry changed

module _ (r : ℕ → ℕ) (P : List Pipeline) (S : List Source) (G : List Stage) (p : ℕ) (low : p < places) (is : Live P p) where
  -- another source
  pub source_change : (v : Source) → pipe_load r P (put no_source S p v) G + source_left (run_weight p) (r p) (source_of S p) ≡ pipe_load r P S G + source_left (run_weight p) (r p) v
  unfolding pipe_load
  source_change v =
      let c = sum_change (cost r P (put no_source S p v) G) (cost r P S G) p 0 places (omega arith) (omega arith) (λ i d. rw other) in
      let a : cost r P S G p ≡ 1 + source_left (run_weight p) (r p) (source_of S p) + stage_left (run_weight p) (r p) (stage_of G p) = rw is in
      let b : cost r P (put no_source S p v) G p ≡ 1 + source_left (run_weight p) (r p) v + stage_left (run_weight p) (r p) (stage_of G p) = rw (is, same) in
      omega (arith, c, a, b)

  -- another stage
  pub stage_change : (v : Stage) → pipe_load r P S (put no_stage G p v) + stage_left (run_weight p) (r p) (stage_of G p) ≡ pipe_load r P S G + stage_left (run_weight p) (r p) v
  unfolding pipe_load
  stage_change v =
      let c = sum_change (cost r P S (put no_stage G p v)) (cost r P S G) p 0 places (omega arith) (omega arith) (λ i d. rw other) in
      let a : cost r P S G p ≡ 1 + source_left (run_weight p) (r p) (source_of S p) + stage_left (run_weight p) (r p) (stage_of G p) = rw is in
      let b : cost r P S (put no_stage G p v) p ≡ 1 + source_left (run_weight p) (r p) (source_of S p) + stage_left (run_weight p) (r p) v = rw (is, same) in
      omega (arith, c, a, b)

  -- a pipeline that goes
  pub gone_less : (v : Pipeline) → v.live ≡ false → pipe_load r (put no_pipe P p v) S G < pipe_load r P S G
  unfolding pipe_load
  gone_less v e =
      let c = sum_change (cost r (put no_pipe P p v) S G) (cost r P S G) p 0 places (omega arith) (omega arith) (λ i d. rw other) in
      let a : cost r P S G p ≡ 1 + source_left (run_weight p) (r p) (source_of S p) + stage_left (run_weight p) (r p) (stage_of G p) = rw is in
      let b : cost r (put no_pipe P p v) S G p ≡ 0 = rw (same, e) in
      omega (arith, c, a, b)

when_less : (a b : Bool) (n : ℕ) → (a ≡ true → b ≡ true) → when_live a n ≤ when_live b n
when_less true true n h = omega arith
when_less true false n h = clash (cc (h refl))
when_less false b n h = omega arith

-- fewer pipelines live
pub pipes_fewer : (r : ℕ → ℕ) (P P' : List Pipeline) (S : List Source) (G : List Stage) → ((q : ℕ) → Live P' q → Live P q) → pipe_load r P' S G ≤ pipe_load r P S G
unfolding pipe_load
pipes_fewer r P P' S G h = sum_most (cost r P' S G) (cost r P S G) 0 places
    (λ i l u. when_less (pipe_of P' i).live (pipe_of P i).live (1 + source_left (run_weight i) (r i) (source_of S i) + stage_left (run_weight i) (r i) (stage_of G i)) (h i))

-- another queue
pub queue_change : (Q : List (List Batch)) (x : ℕ) (q : List Batch) → x < port_places → port_load (put [] Q x q) + weight x * length (queue_of Q x) ≡ port_load Q + weight x * length q
unfolding port_load
queue_change Q x q h =
    let c = sum_change (held (put [] Q x q)) (held Q) x 0 port_places (omega arith) (omega arith) (λ i d. rw other) in
    let b : held (put [] Q x q) x ≡ weight x * length q = rw same in
    omega (arith, c, b)

-- at any port: a shorter queue
pub queue_less : (Q : List (List Batch)) (x : ℕ) (q : List Batch) → length q ≤ length (queue_of Q x) → port_load (put [] Q x q) ≤ port_load Q
unfolding port_load
queue_less Q x q h =
    let b : held (put [] Q x q) x ≡ weight x * length q = rw same in
    let t = sum_raise (held (put [] Q x q)) (held Q) x 0 port_places (λ i d. rw other) (omega (arith, b, mul-le-mul_left (weight x) h)) in
    omega (arith, t)

-- and one batch more
pub queue_push : (Q : List (List Batch)) (x : ℕ) (q : List Batch) → length q ≤ suc (length (queue_of Q x)) → port_load (put [] Q x q) ≤ port_load Q + weight x
unfolding port_load
queue_push Q x q h =
    let b : held (put [] Q x q) x ≡ weight x * length q = rw same in
    sum_raise (held (put [] Q x q)) (held Q) x (weight x) port_places (λ i d. rw other) (omega (arith, b, mul-le-mul_left (weight x) h))

-- Bounds

when_most : (b : Bool) (n c : ℕ) → (b ≡ true → n ≤ c) → when_live b n ≤ c
when_most true n c h = h refl
when_most false n c h = omega arith

-- every pipeline has at most c
pub pipes_most : (r : ℕ → ℕ) (P : List Pipeline) (S : List Source) (G : List Stage) (c : ℕ)
    → ((p : ℕ) → Live P p → 1 + source_left (run_weight p) (r p) (source_of S p) + stage_left (run_weight p) (r p) (stage_of G p) ≤ c) → pipe_load r P S G ≤ places * c
unfolding pipe_load
pipes_most r P S G c h = sum_bound (cost r P S G) c 0 places (λ p l u. when_most (pipe_of P p).live (1 + source_left (run_weight p) (r p) (source_of S p) + stage_left (run_weight p) (r p) (stage_of G p)) c (h p))

-- every port has at most c
pub ports_most : (Q : List (List Batch)) (c : ℕ) → ((x : ℕ) → x < port_places → weight x * length (queue_of Q x) ≤ c) → port_load Q ≤ port_places * c
unfolding port_load
ports_most Q c h = sum_bound (held Q) c 0 port_places (λ x l u. h x (omega arith))

-- every pipeline touched at most c
pub stirs_most : (P : List Pipeline) (T : List InletSet) (c : ℕ) → ((p : ℕ) → Live P p → length (get [] T p) ≤ c) → pipe_wake P T ≤ places * (24 + c)
unfolding pipe_wake
stirs_most P T c h = sum_bound (stir P T) (24 + c) 0 places
    (λ p l u. when_most (pipe_of P p).live (24 * bit (at_outlet (state_of P p)) + length (get [] T p)) (24 + c) (λ is. omega (arith, h p is, bit_most (at_outlet (state_of P p)))))

-- a mark for each port
pub marks_most : (O : List Port) → marks O ≤ port_places
unfolding marks
marks_most O = bits_most (λ x. (port_of O x).changed) 0 port_places

-- What is to be woken: one entry changed

-- a pipeline in another state
pub state_raise : (P : List Pipeline) (T : List InletSet) (p : ℕ) (v : Pipeline) (c : ℕ) → (v.live ≡ true → Live P p)
    → 24 * bit (at_outlet v.state) ≤ 24 * bit (at_outlet (state_of P p)) + c → pipe_wake (put no_pipe P p v) T ≤ pipe_wake P T + c
unfolding pipe_wake
state_raise P T p v c l h =
    let a : stir (put no_pipe P p v) T p ≡ when_live v.live (24 * bit (at_outlet v.state) + length (get [] T p)) = ap (λ (x : Pipeline). stirs x (get [] T p)) (same no_pipe P p v) in
    sum_raise (stir (put no_pipe P p v) T) (stir P T) p c places (λ i d. ap (λ (x : Pipeline). stirs x (get [] T i)) (other no_pipe P p i v d))
    (rw a (by_bool v.live
    (λ e. let b = l e in rw (e, b) (omega (arith, h)))
    (λ e. rw e (omega arith))))

-- one that leaves its outlet
pub outlet_left : (P : List Pipeline) (T : List InletSet) (p : ℕ) (v : Pipeline) → p < places → Live P p → at_outlet (state_of P p) ≡ true → at_outlet v.state ≡ false
    → pipe_wake (put no_pipe P p v) T + 24 ≤ pipe_wake P T
unfolding pipe_wake
outlet_left P T p v low is o n =
    let c = sum_change (stir (put no_pipe P p v) T) (stir P T) p 0 places (omega arith) (omega arith) (λ i d. ap (λ (x : Pipeline). stirs x (get [] T i)) (other no_pipe P p i v d)) in
    let a : stir (put no_pipe P p v) T p ≡ when_live v.live (0 + length (get [] T p)) = ap (λ (x : Pipeline). stirs x (get [] T p)) (same no_pipe P p v) ∙ rw n in
    let b : stir P T p ≡ 24 + length (get [] T p) = rw (is, o) in
    let d : when_live v.live (0 + length (get [] T p)) ≤ length (get [] T p) = by_bool v.live (λ e. rw e (omega arith)) (λ e. rw e (omega arith)) in
    omega (arith, c, a, b, d)

-- other touched inlets
pub touched_change : (P : List Pipeline) (T : List InletSet) (p : ℕ) (v : InletSet) → p < places → Live P p
    → pipe_wake P (put [] T p v) + length (get [] T p) ≡ pipe_wake P T + length v
unfolding pipe_wake
touched_change P T p v low is =
    let c = sum_change (stir P (put [] T p v)) (stir P T) p 0 places (omega arith) (omega arith) (λ i d. rw other) in
    let a : stir P (put [] T p v) p ≡ 24 * bit (at_outlet (state_of P p)) + length v = rw (is, same) in
    let b : stir P T p ≡ 24 * bit (at_outlet (state_of P p)) + length (get [] T p) = rw is in
    omega (arith, c, a, b)

-- a mark that is taken away
pub mark_taken : (O : List Port) (x : ℕ) (v : Port) → x < port_places → (port_of O x).changed ≡ true → v.changed ≡ false → marks (put no_port O x v) + 1 ≡ marks O
unfolding marks
mark_taken O x v low h n =
    let c = sum_change (mark (put no_port O x v)) (mark O) x 0 port_places (omega arith) (omega arith) (λ i d. rw other) in
    let a : mark (put no_port O x v) x ≡ 0 = rw (same, n) in
    let b : mark O x ≡ 1 = rw h in
    omega (arith, c, a, b)

-- or not set
pub mark_less : (O : List Port) (x : ℕ) (v : Port) → (v.changed ≡ true → (port_of O x).changed ≡ true) → marks (put no_port O x v) ≤ marks O
unfolding marks
mark_less O x v h =
    let a : mark (put no_port O x v) x ≡ bit v.changed = rw same in
    let t = sum_raise (mark (put no_port O x v)) (mark O) x 0 port_places (λ i d. rw other)
    (rw a (by_bool v.changed (λ e. let b = h e in rw (e, b) (omega arith)) (λ e. rw e (omega arith)))) in
    omega (arith, t)

-- the runs of places without a pipeline do not count
pub runs_same : (r s : ℕ → ℕ) (P : List Pipeline) (S : List Source) (G : List Stage) → ((p : ℕ) → Live P p → r p ≡ s p) → pipe_load r P S G ≡ pipe_load s P S G
unfolding pipe_load
runs_same r s P S G h = sum_same (cost r P S G) (cost s P S G) 0 places
    (λ p l u. by_bool (pipe_of P p).live (λ e. let b = h p e in rw (e, b)) (λ e. rw e))
