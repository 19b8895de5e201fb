-- What a segment source emits, and what `compute` makes of it.
use Rattle.std.specs.Prelude.{◌≡◌, refl, ◌⊎◌, Bool, true, false, not, ℕ, zero, suc, ◌+◌, ◌<◌, ◌≤◌, min, max, length, drop, eqb, ltb, if◌then◌else◌}
use Rattle.std.proofs.Common.{ap, ◌∙◌, inl, inr, arith, ltb-true, lt-ltb, le-ltb}
use mathlib.Core.List.{List, [], ◌∷◌, ◌++◌, flat_map}
use Rattle.std.proofs.Math.Option.{none, some}
use Rattle.rules.specs.Table.{is_empty}
use Rattle.rules.specs.Job.{Run, Job}
use Rattle.rules.specs.Plan.{Piece, pieces_of, kept_pieces, cut, kept, node_of, split_of}
use Rattle.rules.specs.Port.{Batch}
use Rattle.rules.specs.Operators.{Source, segment, Step, end, more, final, piece_batch, more_if, emit, bytes_came}
use Rattle.rules.specs.Machine.{Machine, slot_places, slot_at_place, node_at_place, source_at, stage_at, segment_at, pieces_at, set_source}
use Rattle.rules.specs.Ports.{push_out}
use Rattle.rules.specs.Drive.{compute, said_more, finished_stages, source_out, segment_step, source_step, is_more, is_end}
use Rattle.laws.specs.Table.{by_bool, clash, same}
use Rattle.laws.specs.Rows.{All}
use Rattle.order.specs.Inv.{pieces_in, split_in, pend}

-- the runs from e on say what is emitted
pub emit_end : (ps : List Piece) (e : ℕ) → drop e ps ≡ [] → emit ps e ≡ end
unfolding emit
emit_end [] e h = refl
emit_end (a ∷ []) zero h = clash (cc)
emit_end (a ∷ b ∷ ps) zero h = clash (cc)
emit_end (a ∷ ps) (suc e) h = emit_end ps e h

-- the step gives batch b
abbrev pub Gives : Step → Batch → Type 0
Gives s b = (s ≡ more b) ⊎ (s ≡ final b)

more_gives : (t : Bool) (b : Batch) → Gives (more_if t b) b
more_gives true b = inl refl
more_gives false b = inr refl

pub emit_run : (ps : List Piece) (e : ℕ) (a : Piece) (rest : List Piece) → drop e ps ≡ a ∷ rest → Gives (emit ps e) (piece_batch a)
unfolding emit
emit_run [] zero a rest h = clash (cc)
emit_run [] (suc e) a rest h = clash (cc)
emit_run (s ∷ []) zero a rest h = let q : s ≡ a = cc in inr (rw q)
emit_run (s ∷ t ∷ ps) zero a rest h = let q : s ≡ a = cc in rw (← q) (more_gives (eqb t.leaf s.leaf) (piece_batch s))
emit_run (s ∷ ps) (suc e) a rest h = emit_run ps e a rest h

pub drop_next : (ps : List Piece) (e : ℕ) (a : Piece) (rest : List Piece) → drop e ps ≡ a ∷ rest → drop (suc e) ps ≡ rest
drop_next [] zero a rest h = clash (cc)
drop_next [] (suc e) a rest h = clash (cc)
drop_next (s ∷ ps) zero a rest h = cc
drop_next (s ∷ ps) (suc e) a rest h = drop_next ps e a rest h

-- Kept runs are not empty

abbrev pub Sized : Piece → Type 0
Sized a = 0 < a.run.size

abbrev RunSized : Run → Type 0
RunSized r = 0 < r.size

sized_append : (a c : List Run) → All RunSized a → All RunSized c → All RunSized (a ++ c)
sized_append [] c h k = k
sized_append (r ∷ rs) c h k = (h.0, sized_append rs c h.1 k)

cut_sized : (base lo hi : ℕ) (r : Run) → All RunSized (cut base lo hi r)
cut_sized base lo hi r =
    let x = max (base + r.start) lo in
    let y = min (base + r.start + r.size) hi in
    by_bool (ltb x y) (λ d. rw (d, cut) (omega (arith, ltb-true x y d), tt)) (λ d. rw (d, cut) tt)

all_cut : (base lo hi : ℕ) (rs : List Run) → All RunSized (flat_map (cut base lo hi) rs)
unfolding flat_map
all_cut base lo hi [] = tt
all_cut base lo hi (r ∷ rs) = sized_append (cut base lo hi r) (flat_map (cut base lo hi) rs) (cut_sized base lo hi r) (all_cut base lo hi rs)

-- something of each run, and of each run with its leaf
pub all_pieces : (P : Piece → Type 0) (l g : ℕ) (rs : List Run) → All (λ (r : Run). P (record { leaf = l; segment = g; run = r })) rs
    → All P (pieces_of l g rs)
all_pieces P l g [] h = tt
all_pieces P l g (r ∷ rs) h = (h.0, all_pieces P l g rs h.1)

pub kept_sized : (j : Job) (n s : ℕ) → All Sized (kept_pieces j n s)
unfolding kept
kept_sized j n s = all_pieces Sized n (node_of j n).segment (kept j n s)
    (all_cut (split_of j s).start (node_of j n).at ((node_of j n).at + (node_of j n).rows) (split_of j s).runs)

-- and each names the leaf and its segment
abbrev pub Named : Job → ℕ → Piece → Type 0
Named j l a = (a.leaf ≡ l) × (a.segment ≡ (node_of j l).segment)

named_all : (j : Job) (l : ℕ) (rs : List Run) → All (Named j l) (pieces_of l (node_of j l).segment rs)
named_all j l [] = tt
named_all j l (r ∷ rs) = ((refl, refl), named_all j l rs)

pub kept_named : (j : Job) (l s : ℕ) → All (Named j l) (kept_pieces j l s)
kept_named j l s = named_all j l (kept j l s)

pub drop_all : (P : Piece → Type 0) (ps : List Piece) (e : ℕ) (a : Piece) (rest : List Piece) → All P ps → drop e ps ≡ a ∷ rest → P a
drop_all P [] zero a rest h q = clash (cc)
drop_all P [] (suc e) a rest h q = clash (cc)
drop_all P (s ∷ ps) zero a rest h q = let d : s ≡ a = cc in rw d at h.0
drop_all P (s ∷ ps) (suc e) a rest h q = drop_all P ps e a rest h.1 q

-- a kept node has a first run
pub keeps_first : (l g : ℕ) (rs : List Run) (e : ℕ) → not (is_empty rs) ≡ true → drop e (pieces_of l g rs) ≡ [] → 1 ≤ e
unfolding is_empty
keeps_first l g [] e h q = clash (cc)
keeps_first l g (r ∷ rs) zero h q = clash (cc)
keeps_first l g (r ∷ rs) (suc e) h q = omega arith

-- The runs of a place

pub runs_slot : (m : Machine) (me s : ℕ) → me < slot_places → split_in m.active (slot_at_place me) ≡ some s
    → (pieces_at m me ≡ kept_pieces m.job (node_at_place me) s)
    × (pieces_in m.job me (split_in m.active (slot_at_place me)) ≡ kept_pieces m.job (node_at_place me) s)
runs_slot m me s h e = (rw (lt-ltb me slot_places h, e), rw e)

pub runs_share : (m : Machine) (me : ℕ) → slot_places ≤ me
    → pieces_at m me ≡ pieces_of (node_at_place me) (segment_at m me) (record { start = 0; size = (node_of m.job (node_at_place me)).rows } ∷ [])
runs_share m me h = rw (le-ltb me slot_places h)

-- What the source gives goes on

unfoldable pub goes : ℕ → Step × Machine → Machine
goes p r = let n = said_more p (is_more r.0) r.1 in elim r.0 [ end ↦ finished_stages p 0 n | more b ↦ source_out p b n | final b ↦ source_out p b n ]

-- a segment source whose read has come has bytes, or had them
pub had_bytes : (b : Bool) (e : ℕ) → pend (segment true b e) ≡ false → bytes_came b e ≡ true
had_bytes true e h = refl
had_bytes false zero h = clash (cc)
had_bytes false (suc e) h = lt-ltb 0 (suc e) (omega arith)

-- so it emits
step_is : (me : ℕ) (m : Machine) (a b : Bool) (e : ℕ) (s : Step) → bytes_came b e ≡ true → emit (pieces_at m me) e ≡ s
    → source_step me (segment a b e) m ≡ (s, set_source me (if is_end s then segment a b e else segment a false (suc e)) m)
step_is me m a b e s d h = rw (d, segment_step, h)

compute_is : (me : ℕ) (m : Machine) (a b : Bool) (e : ℕ) (s : Step) → bytes_came b e ≡ true → source_at m me ≡ segment a b e → emit (pieces_at m me) e ≡ s
    → compute me m ≡ goes me (s, set_source me (if is_end s then segment a b e else segment a false (suc e)) m)
unfolding compute goes
compute_is me m a b e s d q h = ap (λ (z : Source). goes me (source_step me z m)) q ∙ ap (goes me) (step_is me m a b e s d h)

pub compute_end : (me : ℕ) (m : Machine) (a b : Bool) (e : ℕ) → bytes_came b e ≡ true → source_at m me ≡ segment a b e → emit (pieces_at m me) e ≡ end
    → compute me m ≡ finished_stages me 0 (said_more me false (set_source me (segment a b e) m))
unfolding goes
compute_end me m a b e d q h = compute_is me m a b e end d q h

uncut_out : (me : ℕ) (b : Batch) (m : Machine) (mo : Bool) → (stage_at m me).cut ≡ none → source_out me b (said_more me mo m) ≡ push_out me b (said_more me mo m)
unfolding source_out
uncut_out me b m mo c = let q : (stage_at (said_more me mo m) me).cut ≡ none = rw same c in rw (q, source_out)

pub compute_run : (me : ℕ) (m : Machine) (a b : Bool) (e : ℕ) (c : Batch) → bytes_came b e ≡ true → source_at m me ≡ segment a b e → (stage_at m me).cut ≡ none
    → Gives (emit (pieces_at m me) e) c
    → (mo : Bool) × (compute me m ≡ push_out me c (said_more me mo (set_source me (segment a false (suc e)) m)))
unfolding goes
compute_run me m a b e c d s u (inl h) = (true, compute_is me m a b e (more c) d s h ∙ uncut_out me c (set_source me (segment a false (suc e)) m) true u)
compute_run me m a b e c d s u (inr h) = (false, compute_is me m a b e (final c) d s h ∙ uncut_out me c (set_source me (segment a false (suc e)) m) false u)

-- what is emitted is one of the runs
pub emit_some : (ps : List Piece) (k : ℕ) → is_end (emit ps k) ≡ false → k < length ps
unfolding emit
emit_some [] k h = clash (cc)
emit_some (a ∷ []) zero h = omega arith
emit_some (a ∷ b ∷ ps) zero h = omega arith
emit_some (a ∷ ps) (suc k) h = let t : k < length ps = emit_some ps k h in omega arith
