-- What opening leaves meets the invariant.
use Rattle.std.specs.Prelude.{◌≡◌, Bool, true, ◌&&◌, List, [], map, length, replicate, eqb, ltb, if◌then◌else◌}
use Rattle.std.proofs.Math.Path.{refl}
use Rattle.std.proofs.Common.{sym, ap, ◌∙◌, eq-eqb, ltb-true, ltb-false, lt-ltb, le-ltb, eqb-true}
use Rattle.std.proofs.Math.Bool.{false}
use Rattle.std.proofs.Math.Option.{Option, none, some}
use Prim.Native.Nat.{ℕ, zero, suc, ◌+◌, ◌-◌, ◌/◌, ◌<◌, ◌≤◌}
use native.Mathlib.Omega.{arith}
use Rattle.std.proofs.Math.ListN.{length-replicate}
use Rattle.rules.specs.Table.{get, has, up_from}
use Rattle.rules.specs.Job.{Job, max_nodes, max_slots, max_splits}
use Rattle.rules.specs.Plan.{Row, node_of, is_leaf, first_leaf, is_shared}
use Rattle.rules.specs.Port.{batch_rows}
use Rattle.rules.specs.Machine.{Machine, Port, share_port, slot_places, places, port_places, no_pipe, no_source, no_stage, no_port, shared_first, blank, start}
use Rattle.laws.specs.Table.{get_replicate, clash, and_left, and_right, by_bool}
use Rattle.laws.specs.JobOk.{JobOk}
use Rattle.laws.specs.Spots.{get_numbers}
use Rattle.order.specs.Inv.{Live, There, shut, queue_of, whole, lives}
use Rattle.order.specs.State.{Rests}
use Rattle.order.specs.Leaves.{first_leaf_lem, first_first, shared_same, leaf_below}

module _ {A : Type 0} (f : ℕ → A) (d : A) where
  -- a table made number by number has no other entries
  pub past_numbers : (i k n : ℕ) → k ≤ n → get d (map f (up_from i k)) n ≡ d
  unfolding up_from
  past_numbers i zero n h = refl
  past_numbers i (suc k) zero h = absurd (omega arith)
  past_numbers i (suc k) (suc n) h = past_numbers (suc i) k n (omega arith)

lives_none : (n : ℕ) → lives (replicate n no_pipe) ≡ 0
lives_none zero = refl
lives_none (suc n) = let e : lives (replicate n no_pipe) ≡ 0 = lives_none n in omega arith

-- the rows of a shared port that is not there
open_rows : Job → ℕ → List Row
open_rows j x = if ltb x slot_places then [] else batch_rows (whole j ((x - slot_places) / 16))

low_rows : (j : Job) (x : ℕ) → x < slot_places → open_rows j x ≡ []
unfolding open_rows
low_rows j x h = rw (lt-ltb x slot_places h)

share_rows : (j : Job) (l t : ℕ) → t < 16 → open_rows j (share_port l t) ≡ batch_rows (whole j l)
unfolding open_rows
share_rows j l t h =
    let e : (share_port l t - slot_places) / 16 ≡ l = omega arith in
    let g : slot_places ≤ share_port l t = omega arith in
    rw (le-ltb (share_port l t) slot_places g, e)

untold : [] ≡ up_from 0 (0 - 0)
unfolding up_from
untold = refl

shared_parts : (j : Job) (g : ℕ) → shared_first j g ≡ true → (is_leaf j g ≡ true) × (first_leaf j g ≡ g) × (is_shared j g ≡ true)
shared_parts j g e =
    let h : is_leaf j g && eqb (first_leaf j g) g ≡ true = and_left (is_leaf j g && eqb (first_leaf j g) g) (is_shared j g) e in (
      and_left (is_leaf j g) (eqb (first_leaf j g) g) h,
      eqb-true (first_leaf j g) g (and_right (is_leaf j g) (eqb (first_leaf j g) g) h),
      and_right (is_leaf j g && eqb (first_leaf j g) g) (is_shared j g) e,
    )

abbrev unbuilt_at : Job → List Bool
unbuilt_at j = map (shared_first j) (up_from 0 max_nodes)

-- a segment whose source is to be made
unbuilt_is : (j : Job) (g : ℕ) → get false (unbuilt_at j) g ≡ true → shared_first j g ≡ true
unbuilt_is j g e = by_bool (ltb g max_nodes)
    (λ h. let z : 0 + g ≡ g = omega arith in rw z at (sym (get_numbers (shared_first j) false 0 max_nodes g (ltb-true g max_nodes h)) ∙ e))
    (λ h. clash (cc (past_numbers (shared_first j) false 0 max_nodes g (ltb-false g max_nodes h))))

-- nothing shared has been built
built_none : (j : Job) (l : ℕ) → JobOk j → is_leaf j l ≡ true → is_shared j l ≡ true → get false (unbuilt_at j) (first_leaf j l) ≡ false → ⊥
built_none j l k e s b =
    let f : (is_leaf j (first_leaf j l) ≡ true) × ((node_of j (first_leaf j l)).segment ≡ (node_of j l).segment) = first_leaf_lem j l e in
    let h : first_leaf j l < length j.nodes = leaf_below j (first_leaf j l) f.0 in
    let t : shared_first j (first_leaf j l) ≡ true =
    rw (f.0, eq-eqb (first_leaf j (first_leaf j l)) (first_leaf j l) (first_first j l e)) (shared_same j (first_leaf j l) l f.1 ∙ s) in
    let z : 0 + first_leaf j l ≡ first_leaf j l = omega arith in
    let g : get false (unbuilt_at j) (first_leaf j l) ≡ shared_first j (first_leaf j l) =
    rw z at (get_numbers (shared_first j) false 0 max_nodes (first_leaf j l) (omega (arith, k.nodes_high))) in
    clash (cc)

-- a machine with nothing in use, for tables of any size
abbrev bare : Job → ℕ → ℕ → ℕ → ℕ → Machine
bare j n x a f = record {
  job = j;
  pipes = replicate n no_pipe;
  sources = replicate n no_source;
  stages = replicate n no_stage;
  inlets = replicate n [];
  touched = replicate n [];
  changed = replicate n [];
  waits = replicate n [];
  seen = replicate n [];
  ports = replicate x no_port;
  queues = replicate x [];
  ready = [];
  freed = [];
  made = 0;
  reads = [];
  news = [];
  dirty = [];
  next = 0;
  active = replicate a none;
  finished = replicate f false;
  unbuilt = unbuilt_at j;
  outputs = [];
  fault = false;
}

module _ (j : Job) (k : JobOk j) (n o a f : ℕ) where
  dead {ℓ} : {P : Type ℓ} (p : ℕ) → Live (replicate n no_pipe) p → P
  dead p l = clash (cc (get_replicate no_pipe n p))

  away {ℓ} : {P : Type ℓ} (x : ℕ) → There (replicate o no_port) x → P
  away x t = clash (cc (get_replicate no_port o x))

  idle {ℓ} : {P : Type ℓ} (i s : ℕ) → get none (replicate a none) i ≡ some s → P
  idle i s e = clash (cc (get_replicate {A = Option ℕ} none a i))

  empty : (x : ℕ) → queue_of (replicate o []) x ≡ []
  empty x = get_replicate [] o x

  opened : (x : ℕ) → shut (replicate o no_port) x ≡ false
  opened x = ap (λ (y : Port). y.closed) (get_replicate no_port o x)

  bare_ok : n ≡ places → Rests (λ s. []) 0 (bare j n o a f)
  unfolding has
  bare_ok e = record {
    F = open_rows j;
    W = λ x. [];
    job = k;
    slots = record { bound = omega arith; active = λ i s h. idle i s h; apart = λ i l s h g. idle i s h; over = λ s h. clash (cc (get_replicate false f s)) };
    pipes = record { bound = λ p l. dead p l; slots = λ p l h. dead p l; shares = λ p l h. dead p l; stages = λ p l h. dead p l };
    ports = record {
      alive = λ p l h g. dead p l;
      opens = λ x h t. away x t;
      inlets = λ p i x l h. dead p l;
      readers = λ x p i t. away x t;
      slots = λ x h t. away x t;
      roots = λ i s h. idle i s h;
      absent = λ x h. empty x;
      blank = λ x h. opened x;
    };
    shares = record {
      ports = λ x h t. away x t;
      waits = λ l t h g b. absurd (built_none j l k h g b);
      unbuilt = λ g h. shared_parts j g (unbuilt_is j g h);
    };
    flow = record {
      port = λ x h. rw (empty x, low_rows j x h, opened x);
      share = λ l t h. rw (empty (share_port l t), share_rows j l t h, opened (share_port l t));
      pipes = λ p h l. dead p l;
      mine = λ h l. dead places l;
      ends = λ p h l. dead p l;
      even = λ p i h x y l. dead p l;
    };
    past = record { before = λ p c i x l. dead p l; within = λ p c l. dead p l; all = λ p i x l. dead p l; emit = λ p l. dead p l; more = λ p l. dead p l; stage_count = λ p i l. dead p l; spent = λ p l. dead p l };
    splits = record { active = λ i s h. idle i s h; over = λ s h. absurd (omega arith); later = λ s h. refl };
    queued = record { flags = λ p l. dead p l; counts = λ p. rw (get_replicate no_pipe n p) };
    waits = record { on_io = λ p l. dead p l; on_inlet = λ p i l. dead p l; on_outlet = λ p l. dead p l };
    dirt = record { clean = λ i s h. idle i s h; active = λ i h. clash (cc); differ = tt };
    quiet = record { marks = λ x h. clash (cc (get_replicate no_port o x)); touches = λ p l. dead p l; present = λ x h. clash (cc (get_replicate no_port o x)) };
    packs = record { size = λ p l. dead p l; unique = λ p l. dead p l; within = λ p i l. dead p l; known = λ p i l. dead p l; waits = λ p i x l. dead p l; seen = λ p i x l. dead p l };
    reads = record {
      leaf = λ r h. absurd (omega arith);
      once = λ r q h. absurd (omega arith);
      owned = λ r p h. absurd (omega arith);
      pended = λ p l. dead p l;
      unasked = λ p e r b l. dead p l;
      came = λ p e b l. dead p l;
      fresh = λ p e b l. dead p l;
    };
    once = record { single = λ p q l. dead p l; unread = λ l r h c i. absurd (omega arith); unsourced = λ l p h c i. dead p i };
    delivered = record { queues = λ x. rw (empty x) tt; outputs = tt; stages = λ p l. dead p l; solid = λ x. rw (empty x) tt; solid_outs = tt };
    numbers = record { size = length-replicate n no_pipe ∙ e; balance = let z : lives (replicate n no_pipe) ≡ 0 = lives_none n in omega arith; few = omega arith };
    tells = (omega arith, untold);
    sound = refl;
  }

-- opening's state
pub start_ok : (j : Job) → JobOk j → Rests (λ s. []) 0 (start j)
unfolding start blank
start_ok j k = bare_ok j k places port_places max_slots max_splits refl
