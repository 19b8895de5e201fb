-- What a pack notes of its inlets.
use Rattle.std.proofs.Math.Path.{◌≡◌}
use Rattle.std.specs.Prelude.{refl, true, ℕ, ◌+◌, ◌*◌, ◌≤◌, ◌<◌, length, take, drop, eqb, if◌then◌else◌, Result}
use Rattle.std.specs.Result.{result_unwrap_or}
use Rattle.std.proofs.Common.{ap, ◌∙◌, arith, length-take, lt-ltb}
use mathlib.Core.List.{List, [], ◌∷◌}
use Rattle.std.proofs.Math.Option.{none, some}
use Rattle.std.proofs.Math.ListN.{get_elem?}
use Rattle.rules.specs.Table.{get, put}
use Rattle.rules.specs.InletSet.{InletSet}
use Rattle.rules.specs.Port.{Seen, waiting, ready, ended}
use Rattle.rules.specs.Operators.{pack, noted}
use Rattle.rules.specs.Machine.{Machine, inlets_at, source_at, set_seen, set_waits}
use Rattle.rules.specs.Drive.{observe, observe_all}
use Rattle.laws.specs.Table.{by_bool}
use Rattle.laws.specs.Rows.{All}
use Rattle.inlet_set.specs.InletSet.{set_of}
use Rattle.pack_source.specs.declared.pack.PackSource.{PackSource}
use Rattle.pack_source.specs.Pack.{View, seen_in, view_of, notes, observes, observed, Observes}
use Rattle.order.specs.Inv.{Live}
use Rattle.order.specs.Tally.{few_differ}
use Rattle.order.specs.RangeParts.{SetFits, PackFits, Fits}
use Rattle.order.specs.RangeTest.{source_at_lem, set_all, noted_set, observe_fits}
use Rattle.tables.specs.Decode.{seen_of}
use Rattle.tables.specs.View.{view, Sized}
use Rattle.tables.specs.Loaded.{seen_loaded}
use Rattle.source_steps.specs.Held.{unwrapped}
use Rattle.source_steps.specs.Touch.{accepts_fits, set_below}

-- a live pack in a state in range
pub record Packing (p : ℕ) (m : Machine) : Type 0 where
  pub fits : Fits m
  pub live : Live m.pipes p
  pub source : source_at m p ≡ pack

pub packing_next : (m n : Machine) (p i : ℕ) → Packing p m → i < length (inlets_at m p) → n ≡ observe p i m → Packing p n
packing_next m n p i f h e = rw e (record { fits = observe_fits m p i f.fits f.live f.source h; live = f.live; source = f.source })

pub pack_fits : (m : Machine) (p : ℕ) → Packing p m → PackFits (length (inlets_at m p)) (get [] m.waits p) (get [] m.seen p)
pack_fits m p f = (source_at_lem m p pack f.fits f.live f.source).3

-- a pack's table has four places
seen_count : (r : List ℕ) → length (seen_of r) ≤ length r
unfolding seen_of
seen_count [] = omega arith
seen_count (b ∷ r) =
    by_bool (eqb b 1) (λ e. rw (e, seen_of) (omega (arith, seen_count r)))
    (λ e. by_bool (eqb b 2) (λ f. rw (e, f, seen_of) (omega (arith, seen_count r)))
    (λ f. by_bool (eqb b 3) (λ g. rw (e, f, g, seen_of) (omega (arith, seen_count r))) (λ g. rw (e, f, g, seen_of) (omega arith))))

pub seen_few : (s : List ℕ) (p : ℕ) → Sized s → p < 96 → length (get [] (view s).seen p) ≤ 4
seen_few s p z h =
    let r = take 4 (drop (14367 + p * 4) s) in
    rw (seen_loaded s z p h) (omega (arith, seen_count r, length-take 4 (drop (14367 + p * 4) s)))

pub inlets_few : (s : List ℕ) (p : ℕ) → Sized s → p < 96 → Packing p (view s) → length (inlets_at (view s) p) ≤ 4
inlets_few s p z h f = omega (arith, seen_few s p z h, (pack_fits (view s) p f).size)

-- what a state has of a pack
abbrev pub note_of : Machine → ℕ → View
note_of m p = record { seen = get [] m.seen p; waits = get [] m.waits p }

notes_fits : (n i : ℕ) (s : Seen) (w : InletSet) → i < n → n ≤ 4 → SetFits n w → notes s i w ≡ true
notes_fits n i waiting w h k f = accepts_fits i w (set_below n w (omega arith) f) (omega arith)
notes_fits n i ready w h k f = refl
notes_fits n i ended w h k f = refl

-- a pack x that was loaded, and y after it looked at inlet i
module _ (m : Machine) (p i : ℕ) (s : Seen) (x y : PackSource) (o : Result PackSource PackSource) (f : Packing p m) (h : i < length (inlets_at m p))
    (few : length (inlets_at m p) ≤ 4)
    (v : view_of x ≡ note_of m p) (b : Observes x i s o) (u : y ≡ result_unwrap_or o x) where
  observes_fits : observes (note_of m p) i s ≡ true
  observes_fits =
      let g = pack_fits m p f in
      rw (lt-ltb i (length (get [] m.seen p)) (omega (arith, g.size)), notes_fits (length (inlets_at m p)) i s (get [] m.waits p) h few g.set)

  pub observed_is : view_of y ≡ observed i s (note_of m p)
  observed_is =
      ap view_of (u ∙ unwrapped o x (b.ok ∙ ap (λ (z : View). observes z i s) v ∙ observes_fits))
      ∙ b.pack
      ∙ ap (λ (z : View). if observes z i s then observed i s z else z) v
      ∙ rw observes_fits

  pub waits_few : length (set_of y.waiting) ≤ 4
  waits_few =
      let e : set_of y.waiting ≡ noted s i (get [] m.waits p) = ap (λ (z : View). z.waits) observed_is in
      let g = noted_set (length (inlets_at m p)) i s (get [] m.waits p) h (pack_fits m p f).set in
      rw e (omega (arith, few_differ (length (inlets_at m p)) (noted s i (get [] m.waits p)) g.0 g.1))

  pub note_is : (n : Machine) → n ≡ set_seen p (seen_in y) (set_waits p (set_of y.waiting) m)
      → n ≡ set_seen p (put waiting (get [] m.seen p) i s) (set_waits p (noted s i (get [] m.waits p)) m)
  note_is n e = e ∙ ap (λ (z : View). set_seen p z.seen (set_waits p z.waits m)) observed_is

-- Inlets that changed, the newest first

pub record Observing (p : ℕ) (is : List ℕ) (m₀ m : Machine) : Type 0 where
  pub pack : Packing p m
  pub below : All (λ i. i < length (inlets_at m p)) is
  pub rest : observe_all p is m ≡ observe_all p (get [] m₀.changed p) m₀

pub observing_start : (m : Machine) (p : ℕ) (is : List ℕ) → Packing p m → is ≡ get [] m.changed p → Observing p is m m
observing_start m p is f e =
    rw e (record { pack = f; below = set_all (length (inlets_at m p)) (get [] m.changed p) (f.fits.pipes p f.live).changed; rest = refl })

-- the newest of them is taken, and js are left
module _ (m₀ m : Machine) (p i : ℕ) where
  pub observing_here : (is : List ℕ) → Observing p is m₀ m → some i ≡ get_elem? is 0 → i < length (inlets_at m p)
  observing_here [] o e = let z : ◌≡◌ {A = ℕ} 0 1 = cc in absurd (omega arith)
  observing_here (j ∷ is) o e = let q : i ≡ j = cc in rw q o.below.0

  pub observing_next : (is js : List ℕ) (n : Machine) → Observing p is m₀ m → some i ≡ get_elem? is 0 → js ≡ drop 1 is → n ≡ observe p i m → Observing p js m₀ n
  unfolding observe_all
  observing_next [] js n o e d q = let z : ◌≡◌ {A = ℕ} 0 1 = cc in absurd (omega arith)
  observing_next (j ∷ is) js n o e d q =
      let t : i ≡ j = cc in
      rw d (record { pack = packing_next m n p i o.pack (observing_here (j ∷ is) o e) q; below = rw q o.below.1; rest = rw (q, t) o.rest })

  pub observing_less : (is js : List ℕ) → some i ≡ get_elem? is 0 → js ≡ drop 1 is → length js < length is
  observing_less [] js e d = let z : ◌≡◌ {A = ℕ} 0 1 = cc in absurd (omega arith)
  observing_less (j ∷ is) js e d = rw d (omega arith)

pub observing_end : (m₀ m : Machine) (p : ℕ) (is : List ℕ) → Observing p is m₀ m → none ≡ get_elem? is 0 → m ≡ observe_all p (get [] m₀.changed p) m₀
unfolding observe_all
observing_end m₀ m p [] o e = o.rest
observing_end m₀ m p (j ∷ is) o e = let z : ◌≡◌ {A = ℕ} 0 1 = cc in absurd (omega arith)
