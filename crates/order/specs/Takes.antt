-- What a pack takes of its inlets: no queue grows, and at least one batch is used up.
use Rattle.std.specs.Prelude.{◌≡◌, refl, ◌≢◌, Bool, false, List, [], ◌∷◌, map, leb}
use Rattle.std.proofs.Common.{inl, inr, arith}
use Prim.Native.Nat.{ℕ, suc, ◌+◌, ◌<◌, ◌≤◌}
use Rattle.std.proofs.Math.ListN.{length}
use borrow.Author.Tests.{leb-true, leb-false, eq-eqb}
use Rattle.rules.specs.Table.{any}
use Rattle.rules.specs.Port.{Batch, taken}
use Rattle.rules.specs.Operators.{least}
use Rattle.rules.specs.Machine.{Machine, port_places, queue_at, set_queue}
use Rattle.rules.specs.Drive.{observe, observe_all, take_each}
use Rattle.laws.specs.Table.{by_bool, by_eq, other, or_left, or_right}
use Rattle.order.specs.Among.{Among}
use Rattle.order.specs.Measure.{weight, load, queue_change, queue_less}
use Rattle.order.specs.Take.{taken_less}

-- tables that a test of the source, or what it takes, leaves as they are
pub record Frame (m m' : Machine) : Type 0 where
  pub job : m'.job ≡ m.job
  pub next : m'.next ≡ m.next
  pub active : m'.active ≡ m.active
  pub pipes : m'.pipes ≡ m.pipes
  pub sources : m'.sources ≡ m.sources
  pub stages : m'.stages ≡ m.stages
  pub inlets : m'.inlets ≡ m.inlets

-- what is taken leaves all but queues and what a pack notes
pub take_frame : (p n i : ℕ) (xs : List ℕ) (m : Machine) → Frame m (take_each p n i xs m)
unfolding take_each
take_frame p n i [] m = record { job = refl; next = refl; active = refl; pipes = refl; sources = refl; stages = refl; inlets = refl }
take_frame p n i (x ∷ xs) m =
    let f = take_frame p n (suc i) xs (observe p i (set_queue x (taken n (queue_at m x)) m)) in
    record { job = f.job; next = f.next; active = f.active; pipes = f.pipes; sources = f.sources; stages = f.stages; inlets = f.inlets }

-- looking leaves the queues too
pub observe_frame : (p : ℕ) (is : List ℕ) (m : Machine) → Frame m (observe_all p is m)
unfolding observe_all
observe_frame p [] m = record { job = refl; next = refl; active = refl; pipes = refl; sources = refl; stages = refl; inlets = refl }
observe_frame p (i ∷ is) m =
    let f = observe_frame p is (observe p i m) in
    record { job = f.job; next = f.next; active = f.active; pipes = f.pipes; sources = f.sources; stages = f.stages; inlets = f.inlets }

-- so no load comes
pub observe_load : (p : ℕ) (is : List ℕ) (m : Machine) → load (observe_all p is m) ≡ load m
unfolding observe_all
observe_load p [] m = refl
observe_load p (i ∷ is) m = observe_load p is (observe p i m)

-- so it raises no load
take_less : (p n i : ℕ) (xs : List ℕ) (m : Machine) → load (take_each p n i xs m) ≤ load m
unfolding take_each
take_less p n i [] m = omega arith
take_less p n i (x ∷ xs) m =
    let t = take_less p n (suc i) xs (observe p i (set_queue x (taken n (queue_at m x)) m)) in
    let q = queue_less m.queues x (taken n (queue_at m x)) (taken_less n (queue_at m x)) in
    omega (arith, t, q)

-- the port whose front batch has all the rows that are taken
module _ (p n y : ℕ) (b : Batch) (bs : List Batch) (low : y < port_places) (whole : b.rows ≡ n) where
  -- at the next inlet: it is that port, or another
  take_next : (i x : ℕ) (xs : List ℕ) (m : Machine) → Among y (x ∷ xs) → queue_at m y ≡ b ∷ bs
      → ((k : Machine) → Among y xs → queue_at k y ≡ b ∷ bs → load (take_each p n (suc i) xs k) + weight y ≤ load k)
      → load (take_each p n i (x ∷ xs) m) + weight y ≤ load m
  unfolding take_each taken
  take_next i x xs m a q ih =
      let k : Machine = observe p i (set_queue x (taken n (queue_at m x)) m) in
      by_eq y x
      (λ e.
      let t : taken n (queue_at m x) ≡ bs = rw (← e, q, eq-eqb b.rows n whole, taken) in
      let c = queue_change m.queues y bs low in
      let d : length (queue_at m y) ≡ suc (length bs) = rw q in
      let g : load k + weight y ≡ load m = rw (t, ← e) (omega (arith, c, rw d at c)) in
      omega (arith, take_less p n (suc i) xs k, g))
      (λ d.
      let c = queue_less m.queues x (taken n (queue_at m x)) (taken_less n (queue_at m x)) in
      let t = ih k (rest a d) (rw other q) in
      omega (arith, c, t))
    where
      rest : Among y (x ∷ xs) → y ≢ x → Among y xs
      rest (inl e) d = absurd (d e)
      rest (inr r) d = r

  -- its batch is used up
  pub take_falls : (i : ℕ) (xs : List ℕ) (m : Machine) → Among y xs → queue_at m y ≡ b ∷ bs → load (take_each p n i xs m) + weight y ≤ load m
  take_falls i [] m a q = absurd a
  take_falls i (x ∷ xs) m a q = take_next i x xs m a q (λ k r s. take_falls (suc i) xs k r s)

-- one of the batches is the least
pub least_one : (f : ℕ → Batch) (x : ℕ) (xs : List ℕ) → (y : ℕ) × Among y (x ∷ xs) × ((f y).rows ≡ least (map f (x ∷ xs)))
unfolding least
least_one f x [] = (x, inl refl, refl)
least_one f x (z ∷ zs) =
    let t : (y : ℕ) × Among y (z ∷ zs) × ((f y).rows ≡ least (map f (z ∷ zs))) = least_one f z zs in
    by_bool (leb (f x).rows (least (map f (z ∷ zs))))
    (λ e. let h = leb-true (f x).rows (least (map f (z ∷ zs))) e in (x, inl refl, omega arith))
    (λ e. let h = leb-false (f x).rows (least (map f (z ∷ zs))) e in (t.0, inr t.1, omega (arith, t.2)))

-- none passes a test that not any passes
pub none_of_lem : (f : ℕ → Bool) (xs : List ℕ) (y : ℕ) → any f xs ≡ false → Among y xs → f y ≡ false
unfolding any
none_of_lem f [] y h a = absurd a
none_of_lem f (x ∷ xs) y h (inl e) = rw e (or_left (f x) (any f xs) h)
none_of_lem f (x ∷ xs) y h (inr a) = none_of_lem f xs y (or_right (f x) (any f xs) h) a
