-- The front batches of a pack's inlets, and rows taken of each.
use Rattle.std.specs.Prelude.{◌≡◌, refl, Bool, true, false, ◌||◌, List, [], ◌∷◌, map, ℕ, ◌+◌, ◌≤◌, ◌<◌}
use Rattle.std.proofs.Common.{sym, ◌∙◌, arith, take-suc, take-suc-set, le-leb}
use Rattle.std.proofs.Math.Path.{ap}
use Rattle.std.proofs.lemmas.List.{map-append}
use Rattle.std.proofs.Math.Numerals.{add-one}
use lib.ListN.{length, take, drop, set, drop_of_length-le}
use Rattle.rules.specs.Table.{get, any, all, is_empty}
use Rattle.rules.specs.Job.{Job}
use Rattle.rules.specs.Plan.{Cell}
use Rattle.rules.specs.Port.{Batch, taken}
use Rattle.rules.specs.Machine.{Machine, slot_places, inlets_at, queue_at, set_queue}
use Rattle.rules.specs.Drive.{observe, take_each, front_of}
use Rattle.laws.specs.Table.{get_get_or}
use Rattle.laws.specs.JobOk.{JobOk}
use Rattle.laws.specs.Rows.{All, All-get}
use Rattle.batches.specs.declared.batch.Batch as code
use Rattle.batches.specs.Batch.{batch_of, fits_row, fits}
use Rattle.order.specs.RangeParts.{Fed, CellFits, QueueFits, Fits}
use Rattle.order.specs.RangeMoves.{set_queue_lem}
use Rattle.order.specs.RangeBatch.{taken_fits}
use Rattle.order.specs.RangeStep.{Fronts, fronts_on}
use Rattle.source_steps.specs.Noting.{Packing, packing_next}
use Rattle.numbers.specs.Loops.{drop_next}

-- nothing to take
abbrev pub idle : Machine → ℕ → Bool
idle m x = is_empty (queue_at m x)

-- a test of each, one after another
pub any_next : (f : ℕ → Bool) (l : List ℕ) (i : ℕ) → i < length l → any f (drop i l) ≡ (f (get 0 l i) || any f (drop (i + 1) l))
unfolding any
any_next f l i h = rw (drop_next 0 l i h)

pub any_here : (f : ℕ → Bool) (l : List ℕ) (i : ℕ) (b : Bool) → i < length l → any f l ≡ any f (drop i l) → b ≡ f (get 0 l i) → b ≡ true → true ≡ any f l
any_here f l i b h e q t = rw (e, any_next f l i h, ← q, t)

pub any_later : (f : ℕ → Bool) (l : List ℕ) (i : ℕ) (b : Bool) → i < length l → any f l ≡ any f (drop i l) → b ≡ f (get 0 l i) → b ≡ false →
    any f l ≡ any f (drop (i + 1) l)
any_later f l i b h e q t = e ∙ any_next f l i h ∙ rw (← q, t)

pub any_end : (f : ℕ → Bool) (l : List ℕ) (i : ℕ) → length l ≤ i → any f l ≡ any f (drop i l) → false ≡ any f l
unfolding any
any_end f l i h e = sym (e ∙ ap (any f) (drop_of_length-le l {i = i} h))

-- a bounded port with something to take
abbrev pub Filled : Machine → ℕ → Type 0
Filled m x = (x < 72) × (0 < length (queue_at m x))

-- the port of an inlet is one
pub filled_at : (m : Machine) (p i x : ℕ) → All (Filled m) (inlets_at m p) → i < length (inlets_at m p) → x ≡ get 0 (inlets_at m p) i → Filled m x
filled_at m p i x a h e = rw e (All-get (Filled m) 0 (inlets_at m p) i a h)

-- one front batch more
pub fronts_more : (f : ℕ → Batch) (bs : List code.Batch) (xs : List ℕ) (i x : ℕ) (b : code.Batch) → i < length bs → i < length xs → x ≡ get 0 xs i →
    batch_of b ≡ f x
    → map batch_of (take i bs) ≡ map f (take i xs) → map batch_of (take (i + 1) (set bs i b)) ≡ map f (take (i + 1) xs)
fronts_more f bs xs i x b h k e q t =
    let y : batch_of b ≡ f (get 0 xs i) = q ∙ ap f e in
    rw (
      add-one i,
      take-suc-set bs i b h,
      take-suc xs i 0 k,
      map-append batch_of (take i bs) (b ∷ []),
      map-append f (take i xs) (lib.ListN.get_or xs i 0 ∷ []),
      t,
      y,
      get_get_or 0 xs i,
    )

-- Rows taken of each

-- n rows can be taken of each of these, which feed a pack
pub record Taking (p n : ℕ) (xs : List ℕ) (m : Machine) : Type 0 where
  pub pack : Packing p m
  pub ports : All (λ x. x < slot_places) xs
  pub fed : Fed m.job p xs
  pub fronts : All (Fronts m n) xs

-- those from inlet i on are left
pub record Takes (p n i : ℕ) (m₀ m : Machine) : Type 0 where
  pub left : Taking p n (drop i (inlets_at m₀ p)) m
  pub inlets : inlets_at m p ≡ inlets_at m₀ p
  pub rest : take_each p n i (drop i (inlets_at m₀ p)) m ≡ take_each p n 0 (inlets_at m₀ p) m₀

pub takes_start : (m : Machine) (p n : ℕ) → Taking p n (inlets_at m p) m → Takes p n 0 m m
takes_start m p n t = record { left = t; inlets = refl; rest = refl }

-- rows of a batch in range
rows_fit : (j : Job) (n k : ℕ) (cs : List Cell) → JobOk j → n ≤ k → All (CellFits j k) cs → all (λ (c : Cell). fits_row n c.row) cs ≡ true
unfolding all
rows_fit j n k [] ok h a = refl
rows_fit j n k (c ∷ cs) ok h a =
    let f = a.0 in
    rw (le-leb (c.row + n) 4294967295 (omega (arith, f.4, ok.rows_high f.0)), rows_fit j n k cs ok h a.1)

front_fits : (m : Machine) (n x : ℕ) → Fits m → x < slot_places → Fronts m n x → fits n (front_of m x) ≡ true
front_fits m n x f h a =
    let e = a.2 in
    let q = rw e at (f.queues x) in
    rw e (rows_fit m.job n a.0.rows a.0.cells f.job a.3 (q.bounded h).1.0.2)

front_there : (m : Machine) (n x : ℕ) → Fronts m n x → 0 < length (queue_at m x)
front_there m n x a = let e = a.2 in rw e (omega arith)

module _ (m₀ m : Machine) (p n i x : ℕ) (t : Takes p n i m₀ m) (h : i < length (inlets_at m₀ p)) (e : x ≡ get 0 (inlets_at m p) i) where
  port_is : get 0 (inlets_at m₀ p) i ≡ x
  port_is = sym (e ∙ ap (λ (l : List ℕ). get 0 l i) t.inlets)

  here : drop i (inlets_at m₀ p) ≡ x ∷ drop (i + 1) (inlets_at m₀ p)
  here = drop_next 0 (inlets_at m₀ p) i h ∙ ap (λ (y : ℕ). y ∷ drop (i + 1) (inlets_at m₀ p)) port_is

  now : Taking p n (x ∷ drop (i + 1) (inlets_at m₀ p)) m
  now = rw here at t.left

  pub takes_bound : x < 72
  takes_bound = now.ports.0

  pub takes_there : 0 < length (queue_at m x)
  takes_there = front_there m n x now.fronts.0

  pub takes_fit : fits n (front_of m x) ≡ true
  takes_fit = front_fits m n x now.pack.fits takes_bound now.fronts.0

  -- the rows are taken
  pub takes_queue : (m₁ : Machine) → m₁ ≡ set_queue x (taken n (queue_at m x)) m → Packing p m₁
  takes_queue m₁ q =
      let a = now.fronts.0 in
      let d = a.2 in
      let f = now.pack.fits in
      let r : QueueFits m.job x (taken n (queue_at m x)) = rw d (taken_fits m.job x n a.0 a.1 takes_bound a.3 (rw d at (f.queues x))) in
      rw q (record { fits = set_queue_lem m x (taken n (queue_at m x)) f (omega (arith, takes_bound)) r; live = now.pack.live; source = now.pack.source })

  pub takes_inlet : (m₁ : Machine) → m₁ ≡ set_queue x (taken n (queue_at m x)) m → i < length (inlets_at m₁ p)
  takes_inlet m₁ q = rw (q, t.inlets) h

  -- and the inlet is looked at
  pub takes_next : (m₁ m₂ : Machine) → m₁ ≡ set_queue x (taken n (queue_at m x)) m → m₂ ≡ observe p i m₁ → Takes p n (i + 1) m₀ m₂
  unfolding take_each
  takes_next m₁ m₂ q r =
      let w : m₂ ≡ observe p i (set_queue x (taken n (queue_at m x)) m) = r ∙ ap (observe p i) q in
      let k = packing_next m₁ m₂ p i (takes_queue m₁ q) (takes_inlet m₁ q) r in
      let s = rw (here) at t.rest in
      record {
        left = record {
          pack = k;
          ports = now.ports.1;
          fed = rw w now.fed.3;
          fronts = rw w (fronts_on m n x (taken n (queue_at m x)) (drop (i + 1) (inlets_at m₀ p)) now.fed.2 now.fronts.1);
        };
        inlets = rw w t.inlets;
        rest = rw (w, add-one i) (rw (add-one i) at s);
      }

pub takes_end : (m₀ m : Machine) (p n i : ℕ) → Takes p n i m₀ m → length (inlets_at m₀ p) ≤ i → m ≡ take_each p n 0 (inlets_at m₀ p) m₀
unfolding take_each
takes_end m₀ m p n i t h = rw (drop_of_length-le (inlets_at m₀ p) {i = i} h) at t.rest
