-- What opening leaves is in range.
use Rattle.std.specs.Prelude.{◌≡◌, refl, Bool, true, false, List, [], map, ℕ, zero, suc, ◌+◌, replicate, eqb}
use Rattle.std.proofs.Common.{ap, inr, inl, arith, eqb-true}
use Rattle.std.proofs.Math.Option.{Option, none}
use Rattle.rules.specs.Table.{get, up_from}
use Rattle.rules.specs.Job.{Job, max_nodes}
use Rattle.rules.specs.Plan.{is_leaf, first_leaf, is_shared}
use Rattle.rules.specs.Machine.{Port, places, port_places, no_pipe, no_port, shared_first, blank, start}
use Rattle.laws.specs.Table.{get_replicate, clash}
use Rattle.laws.specs.JobOk.{JobOk}
use Rattle.order.specs.Inv.{Live, There}
use Rattle.order.specs.Each.{both3}
use Rattle.order.specs.Ranged.{Sizes, ListRange, IsFirst, Ranged}

-- an entry of a table of tests, number by number
tested : (f : ℕ → Bool) (i n k : ℕ) → get false (map f (up_from i n)) k ≡ true → f (i + k) ≡ true
unfolding up_from
tested f i zero k h = clash (cc)
tested f i (suc n) zero h = let e : i + 0 ≡ i = omega arith in rw e h
tested f i (suc n) (suc k) h = let e : i + suc k ≡ suc i + k = omega arith in rw e (tested f (suc i) n k h)

-- a segment whose source is to be made is named by its first leaf
unbuilt_first : (j : Job) (g : ℕ) → get false (map (shared_first j) (up_from 0 max_nodes)) g ≡ true → IsFirst j g
unbuilt_first j g h =
    let e : 0 + g ≡ g = omega arith in
    let t : shared_first j g ≡ true = rw e at (tested (shared_first j) 0 max_nodes g h) in
    let r = both3 (is_leaf j g) (eqb (first_leaf j g) g) (is_shared j g) t in
    (r.0, eqb-true (first_leaf j g) g r.1)

start_sizes : (j : Job) → Sizes (start j)
unfolding start blank up_from
start_sizes j = record {
  pipes = refl;
  sources = refl;
  stages = refl;
  inlets = refl;
  touched = refl;
  changed = refl;
  waits = refl;
  seen = refl;
  ports = refl;
  queues = refl;
  active = refl;
  finished = refl;
  unbuilt = refl;
}

start_lists : (j : Job) → ListRange (start j)
unfolding start blank
start_lists j = record {
  is_next = omega arith;
  made = omega arith;
  freed_size = omega arith;
  ready_size = omega arith;
  reads_size = omega arith;
  news_size = omega arith;
  dirty_size = omega arith;
  outputs_size = omega arith;
  active = λ k s e. clash (cc (get_replicate {A = Option ℕ} none 3 k));
  freed = tt;
  ready = tt;
  reads = tt;
  owners = tt;
  news = tt;
  dirty = tt;
  outputs = tt;
  unbuilt = unbuilt_first j;
}

-- no pipeline, no port
no_pipes : (n p : ℕ) → Live (replicate n no_pipe) p → ⊥
no_pipes n p l = clash (cc (get_replicate no_pipe n p))

no_ports : (n x : ℕ) → There (replicate n no_port) x → ⊥
no_ports n x t = clash (cc (get_replicate no_port n x))

pub start_ranged : (j : Job) → JobOk j → Ranged (start j)
unfolding start blank
start_ranged j k = record {
  job = k;
  sizes = start_sizes j;
  lists = start_lists j;
  pipes = λ p l. absurd (no_pipes places p l);
  ports = λ x t. absurd (no_ports port_places x t);
  queues = λ x. record {
    bounded = λ h. rw (get_replicate {A = List _} [] port_places x) (omega arith, tt);
    share = λ l t h e. inl (get_replicate [] port_places x);
  };
  vacant = λ x. inr (ap (λ (v : Port). v.reader) (get_replicate no_port port_places x));
}
