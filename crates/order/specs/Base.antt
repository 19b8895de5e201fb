-- Arithmetic of places, entries of lists, and cases of readers, inlets, stages and rounds.
use Rattle.std.specs.Prelude.{◌≡◌, refl, ◌≢◌, Bool, true, false, List, [], ◌∷◌, map, ℕ, zero, suc, ◌<◌, ◌≤◌, length}
use Rattle.std.proofs.Common.{ap, arith}
use Rattle.std.proofs.Math.Option.{some}
use Rattle.rules.specs.Port.{Batch, waiting, sees, ended, ready}
use Rattle.rules.specs.Table.{get, given, is_some}
use Rattle.rules.specs.Drive.{stop, Why, again, Round, is_over}
use Rattle.rules.specs.Machine.{Machine, Stage, Reader, nobody, slot, pipe, place, node_at_place, slot_at_place, share_port, slot_places}
use Rattle.rules.specs.Ports.{is_nobody}
use Rattle.laws.specs.Table.{by_bool, by_eq, clash}
use Rattle.order.specs.Inv.{At, bit}

-- Places

pub place_node : (k n : ℕ) → n < 24 → node_at_place (place k n) ≡ n
place_node k n h = omega arith

pub place_slot : (k n : ℕ) → n < 24 → slot_at_place (place k n) ≡ k
place_slot k n h = omega arith

pub place_of : (p : ℕ) → p ≡ place (slot_at_place p) (node_at_place p)
place_of p = omega arith

pub node_below : (p : ℕ) → node_at_place p < 24
node_below p = omega arith

pub place_bound : (k n : ℕ) → k < 3 → n < 24 → place k n < slot_places
place_bound k n h i = omega arith

pub slot_below : (p : ℕ) → p < slot_places → slot_at_place p < 3
slot_below p h = omega arith

pub place_apart : (k n i : ℕ) → n ≢ i → place k n ≢ place k i
place_apart k n i h e = h (omega arith)

pub share_above : (l t : ℕ) → slot_places ≤ share_port l t
share_above l t = omega arith

pub share_leaf : (l t k s : ℕ) → t < 16 → s < 16 → share_port l t ≡ share_port k s → l ≡ k
share_leaf l t k s h i e = omega arith

pub share_split : (l t k s : ℕ) → t < 16 → s < 16 → share_port l t ≡ share_port k s → t ≡ s
share_split l t k s h i e = omega arith

-- Entries

pub at_below : (xs : List ℕ) (i x : ℕ) → At xs i x → i < length xs
at_below [] i x a = absurd a
at_below (z ∷ zs) zero x a = omega arith
at_below (z ∷ zs) (suc i) x a = let h : i < length zs = at_below zs i x a in omega arith

pub at_get : (d : ℕ) (xs : List ℕ) (i x : ℕ) → At xs i x → get d xs i ≡ x
at_get d [] i x a = absurd a
at_get d (z ∷ zs) zero x a = a
at_get d (z ∷ zs) (suc i) x a = at_get d zs i x a

pub get_at : (d : ℕ) (xs : List ℕ) (i : ℕ) → i < length xs → At xs i (get d xs i)
get_at d [] i h = absurd (omega arith)
get_at d (z ∷ zs) zero h = refl
get_at d (z ∷ zs) (suc i) h = get_at d zs i (omega arith)

pub at_map : (f : ℕ → ℕ) (xs : List ℕ) (i x : ℕ) → At xs i x → At (map f xs) i (f x)
at_map f [] i x a = absurd a
at_map f (z ∷ zs) zero x a = ap f a
at_map f (z ∷ zs) (suc i) x a = at_map f zs i x a

-- a stage is still to finish where not all have
pub more_stages : (x : Stage) (k : ℕ) → is_over x ≡ false → x.continuing ≡ false → x.finishing ≡ some k → k ≤ bit (given x.cut) → suc k ≤ bit (given x.cut)
unfolding is_some
more_stages x k o c f h = by_bool (given x.cut)
    (λ g. by_eq k 1 (λ e. clash (cc (o, c, f, g, e))) (λ n. rw g (omega (arith, rw g at h))))
    (λ g. by_eq k 0 (λ e. clash (cc (o, c, f, g, e))) (λ n. absurd (omega (arith, rw g at h))))

-- a reader is nobody
pub nobody_is : (r : Reader) → is_nobody r ≡ true → r ≡ nobody
nobody_is nobody e = refl
nobody_is slot e = clash (cc)
nobody_is (pipe p i) e = clash (cc)

-- what an inlet's look says of it
pub sees_waiting : (q : List Batch) (c : Bool) → sees q c ≡ waiting → (q ≡ []) × (c ≡ false)
unfolding sees
sees_waiting [] true e = clash (cc)
sees_waiting [] false e = (refl, refl)
sees_waiting (b ∷ bs) c e = clash (cc)

-- an inlet that has ended is empty and closed
pub sees_ended : (q : List Batch) (c : Bool) → sees q c ≡ ended → (q ≡ []) × (c ≡ true)
unfolding sees
sees_ended [] true e = (refl, refl)
sees_ended [] false e = clash (cc)
sees_ended (b ∷ bs) c e = clash (cc)

-- a ready inlet has a batch
pub sees_ready : (q : List Batch) (c : Bool) → sees q c ≡ ready → (b : Batch) × (bs : List Batch) × (q ≡ b ∷ bs)
unfolding sees
sees_ready [] true e = clash (cc)
sees_ready [] false e = clash (cc)
sees_ready (b ∷ bs) c e = (b, bs, refl)

-- a round that goes on or stops
pub by_round {ℓ} : {P : Type ℓ} (r : Round) → ((m : Machine) → r ≡ again m → P) → ((w : Why) (m : Machine) → r ≡ stop w m → P) → P
by_round (again m) a s = a m refl
by_round (stop w m) a s = s w m refl
