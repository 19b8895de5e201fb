-- The pipelines that go by rising number: all of a slot's, or, as a fourth slot, the shared sources that nobody reads.
use Rattle.std.specs.Prelude.{◌≡◌, refl, ◌≢◌, Bool, true, false, ◌||◌, ℕ, zero, suc, ◌+◌, ◌-◌, ◌≤◌, ◌<◌, length, ltb, if◌then◌else◌}
use Rattle.std.proofs.Common.{sym, ap₂, subst, ◌∙◌, arith, lt-ltb, le-ltb, ltb-true, ltb-false}
use Rattle.std.proofs.Math.Path.{ap}
use mathlib.Core.List.{List, [], ◌∷◌, map}
use Rattle.std.proofs.Math.Option.{Option, none, some}
use Rattle.rules.specs.Table.{get, put, filter, has, is_empty, up_from}
use Rattle.rules.specs.Job.{Job, Kind}
use Rattle.rules.specs.InletSet.{InletSet}
use Rattle.rules.specs.Port.{Seen}
use Rattle.rules.specs.Operators.{Source, segment, concat, pack}
use Rattle.rules.specs.Plan.{node_of}
use Rattle.rules.specs.Machine.{Machine, Pipeline, Port, no_pipe, no_port, place, node_at_place, slot_places, port_places, inlets_at, live, source_at, share_ports, with_ready}
use Rattle.rules.specs.Ports.{drop_each}
use Rattle.rules.specs.Pipelines.{gone, retire, without, by_number, retire_each}
use Rattle.rules.specs.Scan.{is_unread, places_of}
use Rattle.laws.specs.Table.{by_bool, clash, same, other}
use Rattle.laws.specs.Rows.{All}
use Rattle.order.specs.Inv.{Live, Differ}
use Rattle.order.specs.Lists.{by_has}
use Rattle.order.specs.Leave.{differ_up, differ_filter}
use Rattle.order.specs.Ranged.{Ranged}
use Rattle.order.specs.Ranging.{of_ranged, to_ranged}
use Rattle.order.specs.RangingAdvance.{leaves_ranging}
use Rattle.order.specs.RangingRetire.{drop_all, retire_less}
use Rattle.order.specs.RangeParts.{SourceFits}
use Rattle.order.specs.RangeFits.{fits}
use Rattle.order.specs.RangeRetire.{inlets_bound}
use Rattle.leaving.specs.Rising.{better, better_none, living, lowest, lowest_none, lowest_some, lowest_lives}

-- a pipeline of a slot goes with it, a shared source where nobody reads it
abbrev pub may_go : Machine → ℕ → Bool
may_go m p = ltb p slot_places || is_unread m p

abbrev pub going : Machine → ℕ → List ℕ
going m k = filter (may_go m) (places_of k)

-- the best one so far, and place p
abbrev pub picked : Machine → ℕ → Option ℕ → Option ℕ
picked m p best = if may_go m p then better m.pipes best (living m.pipes p) else best

pub may_shared : (m : Machine) (p : ℕ) (b : Bool) → slot_places ≤ p → b ≡ is_unread m p → b ≡ may_go m p
may_shared m p b h e = e ∙ sym (ap (λ (c : Bool). c || is_unread m p) (le-ltb p slot_places h))

-- Which of the two it is

module _ (m : Machine) (p : ℕ) (best : Option ℕ) (l g : Bool) (lives : l ≡ live m p) where
  pub picked_dead : l ≡ false → best ≡ picked m p best
  picked_dead e = let d : (get no_pipe m.pipes p).live ≡ false = sym lives
      ∙ e in by_bool (may_go m p) (λ c. rw (c, d) (sym (better_none m.pipes best))) (λ c. rw c)

  pub picked_stays : g ≡ may_go m p → g ≡ false → best ≡ picked m p best
  picked_stays may e = let d : may_go m p ≡ false = sym may
      ∙ e in sym (ap (λ (c : Bool). if c then better m.pipes best (living m.pipes p) else best) d)

  pub picked_goes : g ≡ may_go m p → g ≡ true → l ≡ true → (o : Option ℕ) → best ≡ o → better m.pipes o (some p) ≡ picked m p best
  picked_goes may e t o q =
      let d : may_go m p ≡ true = sym may ∙ e in
      let c : (get no_pipe m.pipes p).live ≡ true = sym lives ∙ t in
      sym (ap (λ (c : Bool). if c then better m.pipes best (living m.pipes p) else best) d
      ∙ ap₂ (λ (x : Option ℕ) (y : Bool). better m.pipes x (if y then some p else none)) q c)

-- the one that goes next
abbrev pub next_of : Machine → ℕ → Option ℕ
next_of m k = lowest m.pipes none (going m k)

-- A look at each place in turn

abbrev look_from : Machine → ℕ → ℕ → Option ℕ → Option ℕ
look_from m k i best = lowest m.pipes best (filter (may_go m) (map (place k) (up_from i (24 - i))))

look_step : (m : Machine) (k i n : ℕ) (best : Option ℕ) → lowest m.pipes best (filter (may_go m) (map (place k) (up_from i (suc n))))
    ≡ lowest m.pipes (picked m (place k i) best) (filter (may_go m) (map (place k) (up_from (suc i) n)))
unfolding lowest filter up_from
look_step m k i n best = by_bool (may_go m (place k i)) (λ e. rw (e, filter)) (λ e. rw (e, filter))

-- what is left to find from node i on is what was to find
pub record Looking (m : Machine) (k i : ℕ) (best : Option ℕ) : Type 0 where
  pub few : i ≤ 24
  pub same : next_of m k ≡ look_from m k i best

pub looking_start : (m : Machine) (k : ℕ) → Looking m k 0 none
looking_start m k = record { few = omega arith; same = refl }

pub looking_next : (m : Machine) (k i p : ℕ) (best best' : Option ℕ) → i < 24 → p ≡ place k i → best' ≡ picked m p best → Looking m k i best
    → Looking m k (i + 1) best'
looking_next m k i p best best' h e f d =
    let s : i + 1 ≡ suc i = omega arith in
    let a : 24 - i ≡ suc (24 - suc i) = omega arith in
    rw (s, f, e) (record {
      few = h;
      same = d.same ∙ rw a (look_step m k i (24 - suc i) best);
    })

pub looking_end : (m : Machine) (k i : ℕ) (best : Option ℕ) → 24 ≤ i → Looking m k i best → best ≡ next_of m k
unfolding lowest filter up_from
looking_end m k i best h d = let e : i ≡ 24 = omega (arith, h, d.few) in sym (rw e at d.same)

-- A pipeline leaves the ready stack and goes

abbrev pub withdrawn : ℕ → Machine → Machine
withdrawn p m = retire p (with_ready (without p m.ready) m)

drops_pipes : (xs : List ℕ) (m : Machine) → (drop_each xs m).pipes ≡ m.pipes
drops_pipes xs m = let d = drop_all xs m in rw d.is

withdrawn_pipes : (p : ℕ) (m : Machine) → (withdrawn p m).pipes ≡ put no_pipe m.pipes p (gone no_pipe)
unfolding retire
withdrawn_pipes p m = ap (λ (P : List Pipeline). put no_pipe P p (gone no_pipe)) (drops_pipes (inlets_at m p) (with_ready (without p m.ready) m))

withdrawn_dead : (p : ℕ) (m : Machine) → (get no_pipe (withdrawn p m).pipes p).live ≡ false
withdrawn_dead p m = rw (withdrawn_pipes p m, same no_pipe m.pipes p (gone no_pipe))

withdrawn_off : (p : ℕ) (m : Machine) (q : ℕ) → q ≢ p → get no_pipe (withdrawn p m).pipes q ≡ get no_pipe m.pipes q
withdrawn_off p m q n = rw (withdrawn_pipes p m) (other no_pipe m.pipes p q (gone no_pipe) n)

-- a shared source has no inlets, so no port goes with it
shared_alone : (j : Job) (A : List (Option ℕ)) (p : ℕ) (k : Kind) (s : Source) (xs : List ℕ) (w : InletSet) (es : List Seen) → slot_places ≤ p
    → SourceFits j A p k s xs w es → xs ≡ []
shared_alone j A p k (segment a b e) xs w es h f = f.1
shared_alone j A p k (concat i) xs w es h f = absurd (let d : p < slot_places = f.1 in omega arith)
shared_alone j A p k pack xs w es h f = absurd (let d : p < slot_places = f.1 in omega arith)

withdrawn_ports : (p : ℕ) (m : Machine) → inlets_at m p ≡ [] → (withdrawn p m).ports ≡ m.ports
unfolding retire drop_each
withdrawn_ports p m e = ap (λ (xs : List ℕ). (drop_each xs (with_ready (without p m.ready) m)).ports) e

-- Who goes is the same when one has gone

abbrev unread_in : Job → List Port → ℕ → Bool
unread_in j O q = is_empty (if ltb q slot_places then q ∷ [] else filter (λ x. (get no_port O x).there) (share_ports j (node_at_place q)))

filter_same : (f g : ℕ → Bool) (k i n : ℕ) → ((p : ℕ) → p < place k (i + n) → place k i ≤ p → f p ≡ g p)
    → filter f (map (place k) (up_from i n)) ≡ filter g (map (place k) (up_from i n))
unfolding filter up_from
filter_same f g k i zero h = refl
filter_same f g k i (suc n) h =
    let e : f (place k i) ≡ g (place k i) = h (place k i) (omega arith) (omega arith) in
    let t = filter_same f g k (suc i) n (λ p a b. h p (omega arith) (omega arith)) in
    by_bool (g (place k i)) (λ d. rw (e, d, filter, t)) (λ d. rw (e, d, filter, t))

all_in : (l : List ℕ) → filter (λ p. true) l ≡ l
unfolding filter
all_in [] = refl
all_in (x ∷ xs) = ap (λ (t : List ℕ). x ∷ t) (all_in xs)

pub going_slot : (m : Machine) (k : ℕ) → k < 3 → going m k ≡ places_of k
going_slot m k h = filter_same (may_go m) (λ p. true) k 0 24 (λ p a b. rw (lt-ltb p slot_places (omega arith))) ∙ all_in (places_of k)

pub going_shared : (m : Machine) → going m 3 ≡ filter (is_unread m) (up_from slot_places 24)
unfolding up_from
going_shared m = filter_same (may_go m) (is_unread m) 3 0 24
    (λ p a b. let e : ltb p slot_places ≡ false = le-ltb p slot_places (omega arith) in ap (λ (c : Bool). c || is_unread m p) e)

-- a place of the list
going_at : (m : Machine) (k i n p : ℕ) → has p (filter (may_go m) (map (place k) (up_from i n))) ≡ true → (place k i ≤ p) × (p < place k (i + n))
unfolding filter up_from has
going_at m k i zero p h = clash (cc)
going_at m k i (suc n) p h = by_bool (may_go m (place k i))
    (λ e. by_has p (place k i) (filter (may_go m) (map (place k) (up_from (suc i) n))) (rw (e, filter) at h) (λ d. (omega arith, omega arith))
    (λ d. let w = going_at m k (suc i) n p d in (omega (arith, w.0), omega (arith, w.1))))
    (λ e. let w = going_at m k (suc i) n p (rw (e, filter) at h) in (omega (arith, w.0), omega (arith, w.1)))

going_still : (m : Machine) (k p : ℕ) → k < 4 → Ranged m → Live m.pipes p → has p (going m k) ≡ true → going (withdrawn p m) k ≡ going m k
going_still m k p h r l a = by_bool (ltb k 3)
    (λ e. let d : k < 3 = ltb-true k 3 e in going_slot (withdrawn p m) k d ∙ sym (going_slot m k d))
    (λ e.
    let d : 3 ≤ k = ltb-false k 3 e in
    let w = going_at m k 0 24 p a in
    let c : inlets_at m p ≡ [] =
    shared_alone m.job m.active p (node_of m.job (node_at_place p)).kind (source_at m p) (inlets_at m p) (get [] m.waits p) (get [] m.seen p)
    (omega (arith, w.0)) ((fits m r).pipes p l).source in
    filter_same (may_go (withdrawn p m)) (may_go m) k 0 24
    (λ q x y. ap (λ (u : Bool). ltb q slot_places || u) (ap₂ (λ (j : Job) (O : List Port). unread_in j O q)
    (retire_less (with_ready (without p m.ready) m) p).job (withdrawn_ports p m c))))

-- Those that go, one after the other

abbrev pub retire_rising : ℕ → Machine → Machine
retire_rising k m = retire_each (by_number m.pipes (going m k)) m

going_differ : (m : Machine) (k : ℕ) → Differ (going m k)
going_differ m k = differ_filter (may_go m) (places_of k) (differ_up (place k) (λ a b e. omega arith) 0 24)

-- what is left to do is what was to do, and the next one is found
pub record Retiring (k : ℕ) (m₀ m : Machine) (o : Option ℕ) : Type 0 where
  pub ranged : Ranged m
  pub same : retire_rising k m ≡ retire_rising k m₀
  pub found : o ≡ next_of m k

pub retiring_start : (k : ℕ) (m : Machine) (o : Option ℕ) → Ranged m → o ≡ next_of m k → Retiring k m m o
retiring_start k m o r e = record { ranged = r; same = refl; found = e }

module _ (k p : ℕ) (m₀ m : Machine) (low : k < 4) (d : Retiring k m₀ m (some p)) where
  pub next_lives : (has p (going m k) ≡ true) × Live m.pipes p
  next_lives = lowest_lives m.pipes (going m k) p (sym d.found)

  pub next_inlets : All (λ x. x < port_places) (inlets_at m p)
  next_inlets = inlets_bound m p (fits m d.ranged) next_lives.1

  sequence : by_number m.pipes (going m k) ≡ p ∷ by_number (withdrawn p m).pipes (going (withdrawn p m) k)
  sequence =
      lowest_some m.pipes (withdrawn p m).pipes p (withdrawn_dead p m) (withdrawn_off p m) (going m k) (going_differ m k) (sym d.found)
      ∙ ap (λ (ps : List ℕ). p ∷ by_number (withdrawn p m).pipes ps) (sym (going_still m k p low d.ranged next_lives.1 next_lives.0))

  step_is : retire_rising k m ≡ retire_rising k (withdrawn p m)
  unfolding retire_each
  step_is = ap (λ (ps : List ℕ). retire_each ps m) sequence

  pub retiring_next : (m' : Machine) (o : Option ℕ) → m' ≡ withdrawn p m → o ≡ next_of m' k → Retiring k m₀ m' o
  retiring_next m' o e f = record {
    ranged = subst Ranged (sym e) (to_ranged (withdrawn p m) (leaves_ranging m p next_lives.1 (of_ranged m d.ranged)));
    same = ap (retire_rising k) e ∙ sym step_is ∙ d.same;
    found = f;
  }

  -- one fewer goes
  pub retiring_falls : (m' : Machine) → m' ≡ withdrawn p m → length (by_number m'.pipes (going m' k)) < length (by_number m.pipes (going m k))
  retiring_falls m' e = rw (e, sequence) (omega arith)

-- nobody is left
pub retiring_end : (k : ℕ) (m₀ m : Machine) → Retiring k m₀ m none → m ≡ retire_rising k m₀
unfolding retire_each
retiring_end k m₀ m d = ap (λ (ps : List ℕ). retire_each ps m) (sym (lowest_none m.pipes (going m k) (sym d.found))) ∙ d.same
