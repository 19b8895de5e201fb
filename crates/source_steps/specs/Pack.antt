-- What a pack answers and gives.
use Rattle.std.specs.Prelude.{◌≡◌, Bool, true, false, List, [], ◌∷◌, map, ℕ, ◌-◌, ◌<◌, length, eqb, Option, unwrap_or}
use Rattle.std.proofs.Common.{sym, ap, ◌∙◌, arith, le-leb, eq-eqb, ne_eqb}
use Rattle.rules.specs.Table.{get, any, is_empty, up_from}
use Rattle.rules.specs.Port.{Batch}
use Rattle.rules.specs.Operators.{end, final, pack, pack_fault, ended_count, least, side_by_side}
use Rattle.rules.specs.Machine.{Machine, node_at_place, slot_places, inlets_at, queue_at, fault_if}
use Rattle.rules.specs.Drive.{touch, take_each, front_of, pack_rows, pack_step}
use Rattle.laws.specs.Rows.{All}
use Rattle.inlet_set.specs.InletSet.{set_of}
use Rattle.pack_source.specs.declared.pack.PackSource.{PackSource}
use Rattle.pack_source.specs.Pack.{View, seen_in, view_of}
use Rattle.pack_source.specs.Fronts.{narrow, Joins}
use Rattle.batches.specs.declared.batch.Batch as code
use Rattle.batches.specs.Batch.{batch_of}
use Rattle.order.specs.RangeParts.{Fed}
use Rattle.order.specs.RangeBatch.{sides_fit, least_most}
use Rattle.order.specs.RangeWidth.{pack_width}
use Rattle.order.specs.RangeRetire.{fed_bound}
use Rattle.order.specs.RangeTest.{source_at_lem, up_below}
use Rattle.order.specs.RangeWake.{touch_fits}
use Rattle.order.specs.RangeStep.{Front, fronts_of_lem, fronts_both, fronts_some}
use Rattle.source_steps.specs.Held.{unwrapped_by}
use Rattle.source_steps.specs.Noting.{Packing, note_of}
use Rattle.source_steps.specs.Fronts.{Filled, Taking}

-- what was loaded is what the state has
pub fault_of : (m : Machine) (p : ℕ) (x : PackSource) (b : Bool) → view_of x ≡ note_of m p → b ≡ pack_fault (seen_in x) (set_of x.waiting) →
    b ≡ pack_fault (get [] m.seen p) (get [] m.waits p)
fault_of m p x b e q = q ∙ ap (λ (v : View). pack_fault v.seen v.waits) e

pub waits_of : (m : Machine) (p : ℕ) (x : PackSource) → view_of x ≡ note_of m p → set_of x.waiting ≡ get [] m.waits p
waits_of m p x e = ap (λ (v : View). v.waits) e

pub seen_of : (m : Machine) (p : ℕ) (x : PackSource) → view_of x ≡ note_of m p → seen_in x ≡ get [] m.seen p
seen_of m p x e = ap (λ (v : View). v.seen) e

-- Rows

module _ (m : Machine) (p : ℕ) (k : Packing p m) (e : any (λ x. is_empty (queue_at m x)) (inlets_at m p) ≡ false) where
  feeds : Fed m.job p (inlets_at m p)
  feeds = (source_at_lem m p pack k.fits k.live k.source).2

  ports : All (λ x. x < slot_places) (inlets_at m p)
  ports = fed_bound m.job p (inlets_at m p) (source_at_lem m p pack k.fits k.live k.source).1 feeds

  fronts : All (Front m) (inlets_at m p)
  fronts = fronts_of_lem m (inlets_at m p) k.fits ports e

  filled_all : (xs : List ℕ) → All (λ x. x < slot_places) xs → All (Front m) xs → All (Filled m) xs
  filled_all [] a b = tt
  filled_all (x ∷ xs) a b = let q = b.0.1 in ((a.0, rw q (omega arith)), filled_all xs a.1 b.1)

  -- every inlet has a front batch
  pub filled : All (Filled m) (inlets_at m p)
  filled = filled_all (inlets_at m p) ports fronts

  -- their columns fit side by side
  pub sides_narrow : narrow (map (front_of m) (inlets_at m p)) ≡ true
  sides_narrow =
      let xs = inlets_at m p in
      let s = source_at_lem m p pack k.fits k.live k.source in
      let w = sides_fit 0 m.job (front_of m) xs (fronts_both m 0 xs fronts (least_most (front_of m) 0 xs (omega arith))) in
      let d = pack_width m.job p xs k.fits.job (k.fits.pipes p k.live).place.0 s.0 feeds in
      le-leb (length (side_by_side 0 (map (front_of m) xs)).cells) 4 (omega (arith, w.0, d, k.fits.job.width_high (node_at_place p)))

  -- rows can be taken of each
  pub taking : (n k₀ : ℕ) (m₁ : Machine) → n ≡ least (map (front_of m) (inlets_at m p)) → k₀ ≡ length (inlets_at m p) → m₁ ≡ touch p (up_from 0 (k₀ - 0)) m →
      Taking p n (inlets_at m₁ p) m₁
  taking n k₀ m₁ q c t =
      let xs = inlets_at m p in
      let h = least_most (front_of m) n xs (omega arith) in
      let z : k₀ - 0 ≡ length xs = omega arith in
      let r : m₁ ≡ touch p (up_from 0 (length xs)) m = t ∙ ap (λ (i : ℕ). touch p (up_from 0 i) m) z in
      let f = touch_fits m p (up_from 0 (length xs)) k.fits k.live (up_below (length xs) 0 (length xs) (omega arith)) in
      rw r (record { pack = record { fits = f; live = k.live; source = k.source }; ports = ports; fed = feeds; fronts = fronts_some m n xs fronts h })

  -- what is given, and the state then
  pub rows_given : (n : ℕ) (bs : List Batch) (o : Option code.Batch) (c d : code.Batch) (b : Batch) → bs ≡ map (front_of m) (inlets_at m p) → n ≡ least bs →
      Joins n bs o → c ≡ unwrap_or o d → b ≡ batch_of c → final b ≡ (pack_rows p (inlets_at m p) m).0
  rows_given n bs o c d b q l j u t =
      let a : narrow bs ≡ true = rw q sides_narrow in
      let e : batch_of c ≡ side_by_side n bs = ap batch_of u ∙ unwrapped_by batch_of o d (side_by_side n bs) (rw a at j) in
      ap final (t ∙ e) ∙ rw (l, q)

  pub rows_state : (n k₀ : ℕ) (bs : List Batch) (m₁ m₂ : Machine) → bs ≡ map (front_of m) (inlets_at m p) → n ≡ least bs → k₀ ≡ length (inlets_at m p)
      → m₁ ≡ touch p (up_from 0 (k₀ - 0)) m → m₂ ≡ take_each p n 0 (inlets_at m₁ p) m₁ → m₂ ≡ (pack_rows p (inlets_at m p) m).1
  rows_state n k₀ bs m₁ m₂ q d c r t =
      let z : k₀ - 0 ≡ k₀ = omega arith in
      rw (t, r, z, c, d, q)

-- Steps

pub step_ended : (m : Machine) (p k n : ℕ) → n ≡ ended_count (get [] m.seen p) → k ≡ length (inlets_at m p) → n ≡ k → (end, m) ≡ pack_step p (inlets_at m p) m
step_ended m p k n e f h = rw (eq-eqb (ended_count (get [] m.seen p)) (length (inlets_at m p)) (sym e ∙ h ∙ f), pack_step)

module _ (m : Machine) (p k n : ℕ) (e : n ≡ ended_count (get [] m.seen p)) (f : k ≡ length (inlets_at m p)) (h : n ≡ k → ⊥) where
  not_ended : eqb (ended_count (get [] m.seen p)) (length (inlets_at m p)) ≡ false
  not_ended = ne_eqb (ended_count (get [] m.seen p)) (length (inlets_at m p)) (λ q. h (e ∙ q ∙ sym f))

  pub step_empty : any (λ x. is_empty (queue_at m x)) (inlets_at m p) ≡ true → (end, fault_if true m) ≡ pack_step p (inlets_at m p) m
  step_empty q = rw (not_ended, pack_step, q)

  pub step_rows : any (λ x. is_empty (queue_at m x)) (inlets_at m p) ≡ false → pack_rows p (inlets_at m p) m ≡ pack_step p (inlets_at m p) m
  step_rows q = rw (not_ended, pack_step, q)
