-- What check 12's test of a pipeline's source and stage says of its inlets: a batch in one is worth more than one in the outlet.
use Rattle.std.specs.Prelude.{◌≡◌, Bool, ◌&&◌, ◌||◌, not, ℕ, suc, ◌-◌, ◌*◌, ◌<◌, ◌≤◌, if◌then◌else◌}
use Rattle.std.proofs.Math.Path.{refl, ap}
use Rattle.std.proofs.Common.{◌∙◌, arith}
use Rattle.std.proofs.Math.Bool.{true, false}
use mathlib.Core.List.{List, [], ◌∷◌}
use Rattle.std.proofs.Math.Option.{some}
use Rattle.std.proofs.Math.ListN.{length}
use Rattle.std.proofs.lemmas.List.{length-map}
use Rattle.std.proofs.Math.Dec.{eqb, leb, ltb}
use borrow.Author.Tests.{ltb-true, leb-true, eqb-true, le-ltb}
use Rattle.rules.specs.Table.{get, all, is_some, given, is_empty}
use Rattle.rules.specs.Job.{Kind, Run, is_segment}
use Rattle.rules.specs.Plan.{node_of, kept, Piece}
use Rattle.rules.specs.InletSet.{InletSet}
use Rattle.rules.specs.Operators.{Source, segment, concat, pack}
use Rattle.rules.specs.Machine.{Machine, Stage, slot_places, port_places, node_at_place, slot_at_place, is_share_port, inlets_at, source_at, stage_at}
use Rattle.rules.specs.Check.{fed_below, fed_shared, is_shared, is_concat, pack_ok, set_ok, source_ok, stage_ok, stages, at_most}
use Rattle.laws.specs.Table.{by_bool, by_list, clash, and_left, and_right}
use Rattle.laws.specs.Rows.{All}
use Rattle.laws.specs.JobOk.{JobOk}
use Rattle.laws.specs.NodeRows.{kept_few}
use Rattle.laws.specs.Kids.{is_some_lem}
use Rattle.order.specs.Inv.{Live}
use Rattle.order.specs.Ranged.{Ranged}
use Rattle.order.specs.Measure.{weight, weight_slot, weight_share, run_count}

-- ports of which a batch is worth more than one in the outlet of p
abbrev pub Worth : ℕ → List ℕ → Type 0
Worth p xs = All (λ x. (x < port_places) × (weight p < weight x)) xs

-- ports that are shared, or none
abbrev pub Shared : List ℕ → Type 0
Shared xs = All (λ x. slot_places ≤ x) xs

-- all behind x are greater
all_above : (x : ℕ) (xs : List ℕ) → all (ltb x) xs ≡ true → All (λ y. suc x ≤ y) xs
unfolding all
all_above x [] h = tt
all_above x (y ∷ ys) h = (ltb-true x y (and_left (ltb x y) (all (ltb x) ys) h), all_above x ys (and_right (ltb x y) (all (ltb x) ys) h))

-- they stand in the slot of p
below_slot : (m : Machine) (p : ℕ) (xs : List ℕ) → fed_below m p xs ≡ true → All (λ x. 24 * slot_at_place p ≤ x) xs
unfolding fed_below
below_slot m p [] e = tt
below_slot m p (x ∷ xs) e =
    let a : eqb (slot_at_place x) (slot_at_place p) ≡ true = search (and_left, and_right) in
    let c : fed_below m p xs ≡ true = search (and_left, and_right) in
    let d : slot_at_place x ≡ slot_at_place p = eqb-true (slot_at_place x) (slot_at_place p) a in
    (omega arith, below_slot m p xs c)

-- the ports of a node's children
below_worth : (m : Machine) (p : ℕ) → JobOk m.job → p < slot_places → (xs : List ℕ) → fed_below m p xs ≡ true → Worth p xs
unfolding fed_below
below_worth m p ok h [] e = tt
below_worth m p ok h (x ∷ xs) e =
    let a : eqb (slot_at_place x) (slot_at_place p) ≡ true = search (and_left, and_right) in
    let b : is_some (node_at_place p) (node_of m.job (node_at_place x)).parent ≡ true = search (and_left, and_right) in
    let c : fed_below m p xs ≡ true = search (and_left, and_right) in
    let d : slot_at_place x ≡ slot_at_place p = eqb-true (slot_at_place x) (slot_at_place p) a in
    let u = (ok.up (node_at_place x) (node_at_place p) (is_some_lem (node_at_place p) (node_of m.job (node_at_place x)).parent b)).0 in
    let l : x < slot_places = omega arith in
    ((omega arith, omega (arith, weight_slot x l, weight_slot p h, u)), below_worth m p ok h xs c)

-- they rise, and stand before p in its slot
below_count : (m : Machine) (p k : ℕ) → JobOk m.job → (xs : List ℕ) → fed_below m p xs ≡ true → All (λ x. k ≤ x) xs → length xs ≤ p - k
unfolding fed_below
below_count m p k ok [] e h = omega arith
below_count m p k ok (x ∷ xs) e h =
    let a : eqb (slot_at_place x) (slot_at_place p) ≡ true = search (and_left, and_right) in
    let b : is_some (node_at_place p) (node_of m.job (node_at_place x)).parent ≡ true = search (and_left, and_right) in
    let c : fed_below m p xs ≡ true = search (and_left, and_right) in
    let g : all (ltb x) xs ≡ true = search (and_left, and_right) in
    let d : slot_at_place x ≡ slot_at_place p = eqb-true (slot_at_place x) (slot_at_place p) a in
    let u = (ok.up (node_at_place x) (node_at_place p) (is_some_lem (node_at_place p) (node_of m.job (node_at_place x)).parent b)).0 in
    let t = below_count m p (suc x) ok xs c (all_above x xs g) in
    let l : x < p = omega (arith, d, u) in
    omega (arith, t, l, h.0)

-- so there are at most 23
below_few : (m : Machine) (p : ℕ) → JobOk m.job → (xs : List ℕ) → fed_below m p xs ≡ true → length xs ≤ 23
below_few m p ok xs e = let t = below_count m p (24 * slot_at_place p) ok xs e (below_slot m p xs e) in omega (arith, t)

-- so they are not shared
below_unshared : (m : Machine) (p : ℕ) (xs : List ℕ) → p < slot_places → fed_below m p xs ≡ true → fed_shared m p xs ≡ false
unfolding fed_below fed_shared
below_unshared m p [] h e = refl
below_unshared m p (x ∷ []) h e = by_bool (is_share_port x)
    (λ d.
    let a : eqb (slot_at_place x) (slot_at_place p) ≡ true = search (and_left, and_right) in
    let q = eqb-true (slot_at_place x) (slot_at_place p) a in
    let g = leb-true slot_places x d in
    absurd (omega arith))
    (λ d. rw d)
below_unshared m p (x ∷ y ∷ xs) h e = refl

-- a shared port
share_worth : (m : Machine) (p : ℕ) (xs : List ℕ) → fed_shared m p xs ≡ true → Worth p xs × Shared xs × (p < slot_places)
unfolding fed_shared
share_worth m p [] e = clash (cc)
share_worth m p (x ∷ []) e =
    let a : is_share_port x ≡ true = search (and_left, and_right) in
    let b : ltb x port_places ≡ true = search (and_left, and_right) in
    let c : ltb p slot_places ≡ true = search (and_left, and_right) in
    let l = leb-true slot_places x a in
    let h = ltb-true p slot_places c in
    let k = ltb-true x port_places b in
    (((k, omega (arith, weight_share x l, weight_slot p h)), tt), (l, tt), h)
share_worth m p (x ∷ y ∷ xs) e = clash (cc)

-- a shared port is one
share_few : (m : Machine) (p : ℕ) (xs : List ℕ) → fed_shared m p xs ≡ true → length xs ≤ 23
unfolding fed_shared
share_few m p [] e = clash (cc)
share_few m p (x ∷ []) e = omega arith
share_few m p (x ∷ y ∷ xs) e = clash (cc)

-- a pipeline of any kind has at most 23 inlets
inlets_kind : (m : Machine) (p : ℕ) → JobOk m.job → (k : Kind) (s : Source) → source_ok m p k s ≡ true → length (inlets_at m p) ≤ 23
unfolding is_empty
inlets_kind m p ok k (segment a b e) h =
    let n : is_empty (inlets_at m p) ≡ true = search (and_left, and_right) in
    by_list (inlets_at m p) (λ d. rw d (omega arith)) (λ x xs d. clash (cc))
inlets_kind m p ok k (concat i) h =
    let c : if is_concat k then fed_below m p (inlets_at m p) else (is_segment k && fed_shared m p (inlets_at m p)) ≡ true = search (and_left, and_right) in
    by_bool (is_concat k)
    (λ d. below_few m p ok (inlets_at m p) (rw d at c))
    (λ d. share_few m p (inlets_at m p) (and_right (is_segment k) (fed_shared m p (inlets_at m p)) (rw d at c)))
inlets_kind m p ok k pack h =
    let a : fed_below m p (inlets_at m p) ≡ true = search (and_left, and_right) in
    below_few m p ok (inlets_at m p) a

-- What a round needs

abbrev pub Fit : Machine → ℕ → Stage → Source → Type 0
Fit m p g (segment a b e) = given g.cut ≡ false
Fit m p g (concat i) = (i ≤ length (inlets_at m p)) × Worth p (inlets_at m p) × (given g.cut ≡ true → Shared (inlets_at m p))
Fit m p g pack = (given g.cut ≡ false) × Worth p (inlets_at m p) × (inlets_at m p ≡ [] → get [] m.seen p ≡ [])

not_given : (a b : Bool) → a || not b ≡ true → a ≡ false → b ≡ false
not_given true b h e = clash (cc)
not_given false true h e = clash (cc)
not_given false false h e = refl

-- no numbers are below 0
empty_set : (s : InletSet) → set_ok 0 s ≡ true → s ≡ []
unfolding set_ok
empty_set [] h = refl
empty_set (i ∷ is) h =
    let a : ltb i 0 ≡ true = search (and_left, and_right) in
    let b = ltb-true i 0 a in
    absurd (omega arith)

no_length : {A : Type 0} (l : List A) → length l ≡ 0 → l ≡ []
no_length [] h = refl
no_length (x ∷ l) h = absurd (omega arith)

module _ (m : Machine) (p : ℕ) (ok : JobOk m.job) (g : Stage) (gs : stage_ok m p g ≡ true) where
  -- an inlet that is not shared is not cut
  uncut : is_shared m p ≡ false → given g.cut ≡ false
  uncut h =
      let a : is_shared m p || not (given g.cut) ≡ true = search (and_left, and_right) in
      not_given (is_shared m p) (given g.cut) a h

  -- at most one stage has finished
  pub finish_low : (n : ℕ) → g.finishing ≡ some n → n ≤ 1
  finish_low n e =
      let a : at_most (stages g) g.finishing ≡ true = search (and_left, and_right) in
      let b = leb-true n (stages g) (rw e at a) in
      by_bool (given g.cut) (λ d. let c : stages g ≡ 1 = rw d in omega (arith, b, c)) (λ d. let c : stages g ≡ 0 = rw d in omega (arith, b, c))

  -- the tests say all this
  fit_kind : (k : Kind) (s : Source) → source_ok m p k s ≡ true → Fit m p g s
  unfolding is_empty fed_shared
  fit_kind k (segment a b e) h =
      let n : is_empty (inlets_at m p) ≡ true = search (and_left, and_right) in
      uncut (none_in (inlets_at m p) n)
    where
      none_in : (xs : List ℕ) → is_empty xs ≡ true → fed_shared m p xs ≡ false
      none_in [] e = refl
      none_in (x ∷ xs) e = clash (cc)
  fit_kind k (concat i) h =
      let a : leb i (length (inlets_at m p)) ≡ true = search (and_left, and_right) in
      let b : ltb p slot_places ≡ true = search (and_left, and_right) in
      let c : if is_concat k then fed_below m p (inlets_at m p) else (is_segment k && fed_shared m p (inlets_at m p)) ≡ true = search (and_left, and_right) in
      let l = ltb-true p slot_places b in
      by_bool (is_concat k)
      (λ d.
      let f : fed_below m p (inlets_at m p) ≡ true = rw d at c in
      (leb-true i (length (inlets_at m p)) a, below_worth m p ok l (inlets_at m p) f, λ t. let u = uncut (below_unshared m p (inlets_at m p) l f) in clash (cc)))
      (λ d.
      let f : is_segment k && fed_shared m p (inlets_at m p) ≡ true = rw d at c in
      let w = share_worth m p (inlets_at m p) (and_right (is_segment k) (fed_shared m p (inlets_at m p)) f) in
      (leb-true i (length (inlets_at m p)) a, w.0, λ t. w.1))
  fit_kind k pack h =
      let a : fed_below m p (inlets_at m p) ≡ true = search (and_left, and_right) in
      let b : ltb p slot_places ≡ true = search (and_left, and_right) in
      let c : pack_ok m p ≡ true = search (and_left, and_right) in
      let l = ltb-true p slot_places b in
      let s : eqb (length (get [] m.seen p)) (length (inlets_at m p)) ≡ true = search (and_left, and_right) in
      let t = eqb-true (length (get [] m.seen p)) (length (inlets_at m p)) s in (
        uncut (below_unshared m p (inlets_at m p) l a),
        below_worth m p ok l (inlets_at m p) a,
        λ e. no_length (get [] m.seen p) (t ∙ ap length e),
      )

module _ (m : Machine) (r : Ranged m) (p : ℕ) (is : Live m.pipes p) where
  -- so a ranged pipeline fits
  pub fits : Fit m p (stage_at m p) (source_at m p)
  fits = fit_kind m p r.job (stage_at m p) (r.pipes p is).stage (node_of m.job (node_at_place p)).kind (source_at m p) (r.pipes p is).source

  pub inlets_few : length (inlets_at m p) ≤ 23
  inlets_few = inlets_kind m p r.job (node_of m.job (node_at_place p)).kind (source_at m p) (r.pipes p is).source

  -- a pack without inlets has none that changed
  pub none_changed : inlets_at m p ≡ [] → get [] m.changed p ≡ []
  none_changed e = empty_set (get [] m.changed p) (rw e at (r.pipes p is).changed)

  -- at most 16 runs
  pub few_runs : run_count m p ≤ 16
  few_runs = by_bool (ltb p slot_places)
      (λ d.
      let w = (r.pipes p is).place.1 (ltb-true p slot_places d) in
      let l = (r.lists.active (slot_at_place p) w.0 w.1).1 in
      rw (
        d,
        w.1,
        length-map {B = Piece} (kept m.job (node_at_place p) w.0)
            (λ (q : Run). record { leaf = node_at_place p; segment = (node_of m.job (node_at_place p)).segment; run = q }),
      )
      (kept_few m.job r.job (node_at_place p) w.0 l))
      (λ d. rw d (omega arith))

  -- a shared source has one
  pub one_run : slot_places ≤ p → run_count m p ≡ 1
  one_run h = rw (le-ltb p slot_places h)
