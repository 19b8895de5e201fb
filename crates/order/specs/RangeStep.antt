-- What a source gives is in range, and giving keeps `Fits`.
use Rattle.std.specs.Prelude.{◌≡◌, refl, ◌≢◌, ◌⊎◌, Bool, true, false, List, [], ◌∷◌, map, ℕ, zero, suc, ◌+◌, ◌-◌, ◌/◌, ◌%◌, ◌<◌, ◌≤◌, length, eqb, ltb, if◌then◌else◌}
use Rattle.std.proofs.Common.{sym, ap, ◌∙◌, inl, inr, arith, ltb-true, ltb-false}
use Rattle.std.proofs.Math.Option.{Option, none, some, get_or}
use Rattle.std.proofs.lemmas.Bool.{eqb-false}
use Rattle.rules.specs.Table.{get, any, filter, is_empty, up_from}
use Rattle.rules.specs.Job.{Run, Job, is_segment}
use Rattle.rules.specs.Plan.{Piece, pieces_of, node_of, is_leaf, kept}
use Rattle.rules.specs.Port.{Batch, Seen, taken}
use Rattle.rules.specs.Operators.{Step, end, more, final, Source, segment, concat, pack, piece_batch, more_if, emit, ended_count, least, bytes_came}
use Rattle.rules.specs.Machine.{Machine, node_at_place, slot_at_place, share_port, slot_places, port_places, source_at, inlets_at, queue_at, pieces_at, set_queue}
use Rattle.rules.specs.Drive.{touch, observe, is_end, segment_step, take_front, concat_step, take_each, front_of, pack_rows, pack_step, source_step}
use Rattle.rules.specs.Check.{is_concat}
use Rattle.laws.specs.Table.{by_bool, by_eq, by_list, clash, same, other, and_left, or_left, or_right}
use Rattle.laws.specs.JobOk.{JobOk}
use Rattle.laws.specs.Rows.{All, All-get}
use Rattle.laws.specs.NodeRows.{kept_sound}
use Rattle.order.specs.Inv.{Live, segment_of, whole}
use Rattle.order.specs.RangeParts.{pieces_for, Fed, FedShared, PlaceFits, BatchFits, QueueFits, Fits}
use Rattle.order.specs.RangeMoves.{set_source_lem, set_queue_lem}
use Rattle.order.specs.RangeWake.{touch_fits}
use Rattle.order.specs.RangeBatch.{tail_fits, taken_fits, sides_fit, least_low, least_most}
use Rattle.order.specs.RangeWidth.{pack_width, concat_width}
use Rattle.order.specs.RangePorts.{Calm, OutFits}
use Rattle.order.specs.RangeRetire.{fed_bound, inlets_bound}
use Rattle.order.specs.RangeTest.{source_at_lem, observe_fits, up_below}
use Rattle.order.specs.Leaves.{leaf_below, leaf_kind}
use Rattle.order.specs.Emit.{emit_some}
use Rattle.order.specs.Take.{taken_less}

-- a batch that a step gives
abbrev pub Gives : (Batch → Type 0) → Step → Type 0
Gives P end = Unit {0}
Gives P (more b) = P b
Gives P (final b) = P b

-- Runs

gives_if : (P : Batch → Type 0) (t : Bool) (b : Batch) → P b → Gives P (more_if t b)
gives_if P true b h = h
gives_if P false b h = h

pub emit_gives : (P : Batch → Type 0) (ps : List Piece) (e : ℕ) → All (λ (a : Piece). P (piece_batch a)) ps → Gives P (emit ps e)
unfolding emit
emit_gives P [] e h = tt
emit_gives P (a ∷ []) zero h = h.0
emit_gives P (a ∷ b ∷ ps) zero h = gives_if P (eqb b.leaf a.leaf) (piece_batch a) h.0
emit_gives P (a ∷ []) (suc e) h = emit_gives P [] e tt
emit_gives P (a ∷ b ∷ ps) (suc e) h = emit_gives P (b ∷ ps) e h.1

-- a run of a leaf's rows
run_fits : (j : Job) (n : ℕ) (r : Run) → JobOk j → n < length j.nodes → is_segment (node_of j n).kind ≡ true → (1 ≤ r.size) × (r.start + r.size ≤ (node_of j n).rows)
    → BatchFits j (node_of j n).width (piece_batch (record { leaf = n; segment = (node_of j n).segment; run = r }))
run_fits j n r ok h k s = (s.0, omega (arith, ok.leaf n h k), ((n, h, k, refl, omega (arith, s.1)), tt))

kept_out : (j : Job) (p : ℕ) (rs : List Run) → JobOk j → node_at_place p < length j.nodes → is_segment (node_of j (node_at_place p)).kind ≡ true → p < slot_places
    → All (λ (r : Run). (1 ≤ r.size) × (r.start + r.size ≤ (node_of j (node_at_place p)).rows)) rs
    → All (λ (a : Piece). OutFits j p (piece_batch a)) (pieces_of (node_at_place p) (segment_of j p) rs)
kept_out j p [] ok h k s a = tt
kept_out j p (r ∷ rs) ok h k s a = (((λ _. run_fits j (node_at_place p) r ok h k a.0), λ q. absurd (omega arith)), kept_out j p rs ok h k s a.1)

-- the runs of a segment source
pub runs_out : (j : Job) (A : List (Option ℕ)) (p : ℕ) → JobOk j → PlaceFits j A p → is_segment (node_of j (node_at_place p)).kind ≡ true
    → All (λ (a : Piece). OutFits j p (piece_batch a)) (pieces_for j A p)
runs_out j A p ok f k = by_bool (ltb p slot_places)
    (λ d. rw d (kept_out j p (kept j (node_at_place p) (get_or (get none A (slot_at_place p)) 0)) ok f.0 k (ltb-true p slot_places d) (kept_sound j (node_at_place p) (get_or (get none A (slot_at_place p)) 0))))
    (λ d. rw d (((λ q. absurd (omega (arith, ltb-false p slot_places d))), λ _. refl), tt))

-- What a source gives

pub record Stepped (p : ℕ) (m : Machine) (r : Step × Machine) : Type 0 where
  pub fits : Fits r.1
  pub calm : Calm m r.1
  pub gives : Gives (OutFits m.job p) r.0
  -- its own port holds no more than before
  pub less : length (queue_at r.1 p) ≤ length (queue_at m p)

segment_step_lem : (m : Machine) (p e : ℕ) (a b : Bool) → Fits m → Live m.pipes p → source_at m p ≡ segment a b e → Stepped p m (segment_step p a b e m)
segment_step_lem m p e a b f l q =
    let s = source_at_lem m p (segment a b e) f l q in
    let g = emit (pieces_at m p) e in
    by_bool (bytes_came b e)
    (λ h. rw (h, segment_step) (record {
      fits = set_source_lem m p (if is_end g then segment a b e else segment a false (suc e)) f l
          (by_bool (is_end g) (λ d. rw d s) (λ d. rw d (s.0, s.1, emit_some (pieces_at m p) e d)));
      calm = (refl, refl, refl, refl);
      gives = emit_gives (OutFits m.job p) (pieces_at m p) e (runs_out m.job m.active p f.job (f.pipes p l).place s.0);
      less = omega arith;
    }))
    (λ h. rw (h, segment_step) (record { fits = f; calm = (refl, refl, refl, refl); gives = tt; less = omega arith }))

-- the parents of ports that feed
fed_parents : (j : Job) (p : ℕ) (xs : List ℕ) → Fed j p xs → All (λ x. (node_of j (node_at_place x)).parent ≡ some (node_at_place p)) xs
fed_parents j p [] f = tt
fed_parents j p (x ∷ xs) f = (f.1, fed_parents j p xs f.3)

share_of : (x : ℕ) → slot_places ≤ x → x ≡ share_port ((x - slot_places) / 16) ((x - slot_places) % 16)
share_of x h = omega arith

-- the front batch of an inlet fits the node that reads it
whole_fits : (j : Job) (l w : ℕ) (b : Batch) (bs : List Batch) → is_leaf j l ≡ true → w ≡ 1
    → (◌≡◌ {A = List Batch} (b ∷ bs) []) ⊎ ((◌≡◌ {A = List Batch} (b ∷ bs) (whole j l ∷ [])) × (1 ≤ (node_of j l).rows)) → BatchFits j w b
whole_fits j l w b bs k h (inl e) = clash (cc)
whole_fits j l w b bs k h (inr e) = let q = e.0 in let d : b ≡ whole j l = cc in
    rw d (e.1, omega arith, ((l, leaf_below j l k, leaf_kind j l k, refl, omega arith), tt))

front_fits : (m : Machine) (p i : ℕ) (b : Batch) (bs : List Batch) → Fits m → Live m.pipes p → source_at m p ≡ concat i → i < length (inlets_at m p) → QueueFits m.job (get 0 (inlets_at m p) i) (b ∷ bs)
    → OutFits m.job p b
front_fits m p i b bs f l q h r =
    let s = source_at_lem m p (concat i) f l q in
    let n = (f.pipes p l).place.0 in
    (λ _. front s.1 s.2 n, λ k. absurd (omega (arith, s.1)))
  where
    front : p < slot_places → (((is_concat (node_of m.job (node_at_place p)).kind ≡ true) × Fed m.job p (inlets_at m p)) ⊎
        ((is_segment (node_of m.job (node_at_place p)).kind ≡ true) × FedShared m.job p (inlets_at m p)))
        → node_at_place p < length m.job.nodes → BatchFits m.job (node_of m.job (node_at_place p)).width b
    front k (inl d) n =
        let x = get 0 (inlets_at m p) i in
        let z = All-get (λ y. y < slot_places) 0 (inlets_at m p) i (fed_bound m.job p (inlets_at m p) k d.1) h in
        let u = All-get (λ y. (node_of m.job (node_at_place y)).parent ≡ some (node_at_place p)) 0 (inlets_at m p) i (fed_parents m.job p (inlets_at m p) d.1) h in
        rw (concat_width m.job (node_at_place p) (node_at_place x) f.job n d.0 u) at (r.bounded z).1.0
    front k (inr d) n =
        let e = d.1.1 in
        let x = d.1.0 in
        let w : i ≡ 0 = let g = rw e at h in omega arith in
        let v = rw (w, e) at r.share in
        whole_fits m.job ((x - slot_places) / 16) (node_of m.job (node_at_place p)).width b bs (and_left _ _ d.1.5)
        (f.job.leaf (node_at_place p) n d.0)
        (v ((x - slot_places) / 16) ((x - slot_places) % 16) (omega arith) (share_of x d.1.2))

-- a shorter queue
shorter : (m : Machine) (p x : ℕ) (q : List Batch) → length q ≤ length (queue_at m x) → length (queue_at (set_queue x q m) p) ≤ length (queue_at m p)
shorter m p x q h = by_eq p x (λ e. rw (e, same) h) (λ n. rw other (omega arith))

-- the front batch of an inlet is taken
front_step : (m : Machine) (p i : ℕ) (q : List Batch) → Fits m → Live m.pipes p → source_at m p ≡ concat i → i < length (inlets_at m p) → queue_at m (get 0 (inlets_at m p) i) ≡ q
    → Stepped p m (take_front (get 0 (inlets_at m p) i) q (touch p (i ∷ []) m))
unfolding take_front
front_step m p i [] f l s h e = record { fits = touch_fits m p (i ∷ []) f l (h, tt); calm = (refl, refl, refl, refl); gives = tt; less = omega arith }
front_step m p i (b ∷ bs) f l s h e =
    let x = get 0 (inlets_at m p) i in
    let m' = touch p (i ∷ []) m in
    let r : QueueFits m.job x (b ∷ bs) = rw e at (f.queues x) in
    record {
      fits = set_queue_lem m' x bs (touch_fits m p (i ∷ []) f l (h, tt)) (All-get (λ y. y < port_places) 0 (inlets_at m p) i (inlets_bound m p f l) h) (tail_fits m.job x b bs r);
      calm = (refl, refl, refl, refl);
      gives = front_fits m p i b bs f l s h r;
      less = shorter m' p x bs (rw e (omega arith));
    }

concat_step_lem : (m : Machine) (p i : ℕ) → Fits m → Live m.pipes p → source_at m p ≡ concat i → Stepped p m (concat_step p i m)
concat_step_lem m p i f l q =
    let n = length (inlets_at m p) in
    let s = source_at_lem m p (concat i) f l q in
    by_bool (eqb i n)
    (λ e. rw (e, concat_step) (record { fits = f; calm = (refl, refl, refl, refl); gives = tt; less = omega arith }))
    (λ e. let d : i ≢ n = eqb-false i n e in
    rw (e, concat_step) (front_step m p i (queue_at m (get 0 (inlets_at m p) i)) f l q (omega (arith, s.0)) refl))

-- Rows taken of every inlet

-- a queue whose front batch has n rows at least
abbrev pub Fronts : Machine → ℕ → ℕ → Type 0
Fronts m n x = (b : Batch) × (bs : List Batch) × (queue_at m x ≡ b ∷ bs) × (n ≤ b.rows)

pub fronts_on : (m : Machine) (n x : ℕ) (q : List Batch) (ys : List ℕ) → All (λ y. x < y) ys → All (Fronts m n) ys → All (Fronts (set_queue x q m) n) ys
fronts_on m n x q [] h a = tt
fronts_on m n x q (y ∷ ys) h a =
    let d : y ≢ x = omega (arith, h.0) in
    ((a.0.0, a.0.1, rw other a.0.2, a.0.3), fronts_on m n x q ys h.1 a.1)

pub one_taken : (m : Machine) (p n i x : ℕ) → Fits m → Live m.pipes p → source_at m p ≡ pack → i < length (inlets_at m p) → x < slot_places → Fronts m n x
    → Fits (observe p i (set_queue x (taken n (queue_at m x)) m))
one_taken m p n i x f l s h b a =
    let e = a.2 in
    let q : QueueFits m.job x (taken n (queue_at m x)) = rw e (taken_fits m.job x n a.0 a.1 b a.3 (rw e at (f.queues x))) in
    observe_fits (set_queue x (taken n (queue_at m x)) m) p i (set_queue_lem m x (taken n (queue_at m x)) f (omega arith) q) l s h

takes_fits : (xs : List ℕ) (p n i : ℕ) (m : Machine) → Fits m → Live m.pipes p → source_at m p ≡ pack → i + length xs ≤ length (inlets_at m p) → All (λ x. x < slot_places) xs → Fed m.job p xs → All (Fronts m n) xs
    → Fits (take_each p n i xs m)
unfolding take_each
takes_fits [] p n i m f l s h b d a = f
takes_fits (x ∷ xs) p n i m f l s h b d a =
    takes_fits xs p n (suc i) (observe p i (set_queue x (taken n (queue_at m x)) m)) (one_taken m p n i x f l s (omega arith) b.0 a.0) l s (omega arith) b.1 d.3
    (fronts_on m n x (taken n (queue_at m x)) xs d.2 a.1)

takes_calm : (xs : List ℕ) (p n i : ℕ) (m : Machine) → Calm m (take_each p n i xs m)
unfolding take_each
takes_calm [] p n i m = (refl, refl, refl, refl)
takes_calm (x ∷ xs) p n i m = takes_calm xs p n (suc i) (observe p i (set_queue x (taken n (queue_at m x)) m))

takes_less : (xs : List ℕ) (p n i : ℕ) (m : Machine) → length (queue_at (take_each p n i xs m) p) ≤ length (queue_at m p)
unfolding take_each
takes_less [] p n i m = omega arith
takes_less (x ∷ xs) p n i m =
    let r = takes_less xs p n (suc i) (observe p i (set_queue x (taken n (queue_at m x)) m)) in
    let s = shorter m p x (taken n (queue_at m x)) (taken_less n (queue_at m x)) in
    omega (arith, r, s)

-- Packs

-- no inlet is empty: each has a front batch in range
front_of_lem : (m : Machine) (x : ℕ) → Fits m → x < slot_places → is_empty (queue_at m x) ≡ false → (bs : List Batch) × (queue_at m x ≡ front_of m x ∷ bs)
    × BatchFits m.job (node_of m.job (node_at_place x)).width (front_of m x)
unfolding is_empty
front_of_lem m x f h e = by_list (queue_at m x) (λ d. clash (cc)) (λ b bs d. let q = rw d at (f.queues x) in (bs, rw d, rw d (q.bounded h).1.0))

pub fronts_of_lem : (m : Machine) (xs : List ℕ) → Fits m → All (λ x. x < slot_places) xs → any (λ x. is_empty (queue_at m x)) xs ≡ false
    → All (λ x. (bs : List Batch) × (queue_at m x ≡ front_of m x ∷ bs) × BatchFits m.job (node_of m.job (node_at_place x)).width (front_of m x)) xs
unfolding any
fronts_of_lem m [] f b e = tt
fronts_of_lem m (x ∷ xs) f b e =
    let t = any (λ y. is_empty (queue_at m y)) xs in
    (front_of_lem m x f b.0 (or_left (is_empty (queue_at m x)) t e), fronts_of_lem m xs f b.1 (or_right (is_empty (queue_at m x)) t e))

module _ (m : Machine) where
  abbrev pub Front : ℕ → Type 0
  Front x = (bs : List Batch) × (queue_at m x ≡ front_of m x ∷ bs) × BatchFits m.job (node_of m.job (node_at_place x)).width (front_of m x)

  fronts_rows : (xs : List ℕ) → All Front xs → All (λ x. 1 ≤ (front_of m x).rows) xs
  fronts_rows [] a = tt
  fronts_rows (x ∷ xs) a = (a.0.2.0, fronts_rows xs a.1)

  pub fronts_both : (n : ℕ) (xs : List ℕ) → All Front xs → All (λ x. n ≤ (front_of m x).rows) xs
      → All (λ x. (n ≤ (front_of m x).rows) × BatchFits m.job (node_of m.job (node_at_place x)).width (front_of m x)) xs
  fronts_both n [] a h = tt
  fronts_both n (x ∷ xs) a h = ((h.0, a.0.2), fronts_both n xs a.1 h.1)

  pub fronts_some : (n : ℕ) (xs : List ℕ) → All Front xs → All (λ x. n ≤ (front_of m x).rows) xs → All (Fronts m n) xs
  fronts_some n [] a h = tt
  fronts_some n (x ∷ xs) a h = ((front_of m x, a.0.0, a.0.1, h.0), fronts_some n xs a.1 h.1)

rows_low : (m : Machine) (xs : List ℕ) → xs ≢ [] → All (Front m) xs → 1 ≤ least (map (front_of m) xs)
rows_low m [] h a = absurd (h refl)
rows_low m (x ∷ xs) h a = least_low (front_of m) x xs (fronts_rows m (x ∷ xs) a)

pack_rows_lem : (m : Machine) (p : ℕ) → Fits m → Live m.pipes p → source_at m p ≡ pack → inlets_at m p ≢ [] → any (λ x. is_empty (queue_at m x)) (inlets_at m p) ≡ false → Stepped p m (pack_rows p (inlets_at m p) m)
pack_rows_lem m p f l q d e =
    let xs = inlets_at m p in
    let s = source_at_lem m p pack f l q in
    let b = fed_bound m.job p xs s.1 s.2 in
    let a = fronts_of_lem m xs f b e in
    let n = least (map (front_of m) xs) in
    let h = least_most (front_of m) n xs (omega arith) in
    let w = sides_fit n m.job (front_of m) xs (fronts_both m n xs a h) in
    let k = pack_width m.job p xs f.job (f.pipes p l).place.0 s.0 s.2 in
    let m' = touch p (up_from 0 (length xs)) m in
    record {
      fits = takes_fits xs p n 0 m' (touch_fits m p (up_from 0 (length xs)) f l (up_below (length xs) 0 (length xs) (omega arith))) l q (omega arith) b s.2 (fronts_some m n xs a h);
      calm = takes_calm xs p n 0 m';
      gives = (λ _. (rows_low m xs d a, omega (arith, w.0, k), w.1), λ z. absurd (omega (arith, s.1)));
      less = takes_less xs p n 0 m';
    }

-- without inlets, all have ended
none_ended : (es : List Seen) → length es ≡ 0 → ended_count es ≡ 0
unfolding filter
none_ended [] e = refl
none_ended (x ∷ es) e = absurd (omega arith)

pack_step_lem : (m : Machine) (p : ℕ) → Fits m → Live m.pipes p → source_at m p ≡ pack → Stepped p m (pack_step p (inlets_at m p) m)
pack_step_lem m p f l q =
    let xs = inlets_at m p in
    let es = get [] m.seen p in
    let s = source_at_lem m p pack f l q in
    by_bool (eqb (ended_count es) (length xs))
    (λ e. rw (e, pack_step) (record { fits = f; calm = (refl, refl, refl, refl); gives = tt; less = omega arith }))
    (λ e. by_bool (any (λ x. is_empty (queue_at m x)) xs)
    (λ d. rw (e, pack_step, d) (record { fits = f; calm = (refl, refl, refl, refl); gives = tt; less = omega arith }))
    (λ d. rw (e, pack_step, d) (pack_rows_lem m p f l q (some_inlet es xs s.3.size (eqb-false (ended_count es) (length xs) e)) d)))
  where
    some_inlet : (es : List Seen) (xs : List ℕ) → length es ≡ length xs → ended_count es ≢ length xs → xs ≢ []
    some_inlet es xs z n e = let w : length xs ≡ 0 = ap length e in n (none_ended es (z ∙ w) ∙ sym w)

-- whatever the source is
pub step_fits : (m : Machine) (p : ℕ) (s : Source) → Fits m → Live m.pipes p → source_at m p ≡ s → Stepped p m (source_step p s m)
step_fits m p (segment a b e) f l q = segment_step_lem m p e a b f l q
step_fits m p (concat i) f l q = concat_step_lem m p i f l q
step_fits m p pack f l q = pack_step_lem m p f l q
