-- The cutting stage gives the kept runs of a segment, one after the other.
use Rattle.std.specs.Prelude.{◌≡◌, refl, Bool, ℕ, zero, suc, ◌<◌, ◌≤◌, drop, if◌then◌else◌}
use Rattle.std.proofs.Math.Path.{sym}
use Rattle.std.proofs.Common.{◌∙◌, subst}
use Rattle.std.proofs.Math.Bool.{true, false}
use mathlib.Core.List.{List, [], ◌∷◌, ◌++◌, flat_map, append_assoc}
use Rattle.std.proofs.Math.Option.{Option, none, some, get_or}
use Rattle.std.proofs.Math.Dec.{eqb}
use borrow.Author.Tests.{eq-eqb, lt-ltb}
use Rattle.rules.specs.Table.{given}
use Rattle.rules.specs.Job.{Job}
use Rattle.rules.specs.Plan.{Row, Piece, kept_pieces}
use Rattle.rules.specs.Port.{batch_rows}
use Rattle.rules.specs.Operators.{concat, Step, end, more, final, piece_batch, emit}
use Rattle.rules.specs.Machine.{Machine, Stage, node_at_place, slot_at_place, slot_places, source_at, stage_at, inlets_at, segment_at, pieces_at, set_stage}
use Rattle.rules.specs.Ports.{push_out}
use Rattle.rules.specs.Wake.{any_full}
use Rattle.rules.specs.Drive.{stage_step, give_out, is_more, is_end}
use Rattle.laws.specs.Table.{by_list, clash}
use Rattle.laws.specs.Rows.{run_rows, All}
use Rattle.order.specs.Inv.{staged, pending, join, pieces_in, split_in, Came}
use Rattle.order.specs.State.{Busy}
use Rattle.order.specs.Take.{pieces_for}
use Rattle.order.specs.Push.{push_ok}
use Rattle.order.specs.Restage.{restage}
use Rattle.order.specs.Emit.{Named, drop_next, kept_sized, kept_named}

-- Runs

-- a run has a row
abbrev pub HasRow : Piece → Type 0
HasRow a = 1 ≤ a.run.size

runs_in_rows : (j : Job) (p : ℕ) (s : Option ℕ) → All HasRow (pieces_in j p s)
runs_in_rows j p none = kept_sized j (node_at_place p) 0
runs_in_rows j p (some s) = kept_sized j (node_at_place p) s

-- each names the leaf of the place
runs_named : (j : Job) (p : ℕ) (s : Option ℕ) → All (Named j (node_at_place p)) (pieces_in j p s)
runs_named j p none = kept_named j (node_at_place p) 0
runs_named j p (some s) = kept_named j (node_at_place p) s

-- those from k on
all_drop : (P : Piece → Type 0) (k : ℕ) (ps : List Piece) → All P ps → All P (drop k ps)
all_drop P zero ps h = h
all_drop P (suc k) [] h = tt
all_drop P (suc k) (a ∷ ps) h = all_drop P k ps h.1

-- what comes of run k is what comes of the first of those from k on
pub emit_drop : (k : ℕ) (ps : List Piece) → emit ps k ≡ emit (drop k ps) 0
unfolding emit
emit_drop zero ps = refl
emit_drop (suc k) [] = refl
emit_drop (suc k) (a ∷ []) = emit_drop k []
emit_drop (suc k) (a ∷ b ∷ ps) = emit_drop k (b ∷ ps)

-- the runs that a stage cuts are those of the place's split
pub runs_at_lem : (m : Machine) (p : ℕ) → p < slot_places → pieces_at m p ≡ pieces_in m.job p (split_in m.active (slot_at_place p))
runs_at_lem m p h = rw (lt-ltb p slot_places h) (by_split (split_in m.active (slot_at_place p)))
  where
    by_split : (s : Option ℕ) → kept_pieces m.job (node_at_place p) (get_or s 0) ≡ pieces_in m.job p s
    by_split none = refl
    by_split (some s) = refl

-- Rows

-- the rows through a stage do not depend on where it stands
staged_any : (ps : List Piece) (c : Option ℕ) (k : ℕ) (rows : List Row) → given c ≡ true → staged ps c rows ≡ staged ps (some k) rows
unfolding given
staged_any ps none k rows e = clash (cc)
staged_any ps (some at) k [] e = refl
staged_any ps (some at) k (r ∷ rows) e = refl

-- rows move from what is pending to the hand
stage_rows : (ps : List Piece) (hand hand' p p' rows : List Row) (c : Option ℕ) (k : ℕ) → given c ≡ true → hand ++ p ≡ hand' ++ p'
    → hand ++ (p ++ staged ps c rows) ≡ hand' ++ (p' ++ staged ps (some k) rows)
stage_rows ps hand hand' p p' rows c k e h = sym (append_assoc hand p (staged ps c rows))
    ∙ (rw (h, staged_any ps c k rows e) (append_assoc hand' p' (staged ps (some k) rows)))

-- what the stage of a place still has to give
abbrev pub due : Machine → ℕ → Bool → Option ℕ → List Row
due m p c k = pending (pieces_for m p) c k

-- the stage at place k: it continues, or not
abbrev pub moved : Bool → ℕ → Stage → Stage
moved c k x = record { cut = some k; continuing = c; finishing = x.finishing; more = x.more }

-- what the stage gives goes out
abbrev stepped : ℕ → ℕ → Machine → Step → Machine
stepped me at m s = give_out me (s, set_stage me (moved (is_more s) (if is_end s then at else suc at) (stage_at m me)) m)

module _ (out : ℕ → List Row) (told me : ℕ) (m : Machine) (hand : List Row) (u : Busy me hand out told m) (i : ℕ) (es : source_at m me ≡ concat i)
    (ec : given (stage_at m me).cut ≡ true) (ef : (stage_at m me).finishing ≡ none) (came : Came m.job m.reads (segment_at m me)) where
  -- the stage goes on to place k, and leaves hand' to be written
  pub moved_ok : (hand' : List Row) (c : Bool) (k : ℕ)
      → hand ++ due m me (stage_at m me).continuing (stage_at m me).cut
      ≡ hand' ++ due m me c (some k)
      → Busy me hand' out told (set_stage me (moved c k (stage_at m me)) m)
  unfolding given
  moved_ok hand' c k h = restage me hand hand' out told m u (moved c k (stage_at m me)) (record {
    cut = sym ec;
    goes = λ e. (refl, came);
    rows = rw es (stage_rows (pieces_for m me) hand hand'
        (due m me (stage_at m me).continuing (stage_at m me).cut)
        (due m me c (some k))
        (join u.inv.F (drop i (inlets_at m me))) (stage_at m me).cut k ec h);
    ends = λ e. clash (cc);
    stages = λ n e. clash (cc);
    spent = λ e. clash (cc);
    more = u.inv.past.more me u.running.live;
  })

  -- a run is pushed
  stage_push : me < slot_places → any_full m me ≡ false → (a : Piece) → HasRow a → a.segment ≡ segment_at m me → (c : Bool) (k : ℕ)
      → hand ++ due m me (stage_at m me).continuing (stage_at m me).cut
      ≡ batch_rows (piece_batch a) ++ due m me c (some k)
      → Busy me [] out told (push_out me (piece_batch a) (set_stage me (moved c k (stage_at m me)) m))
  stage_push h f a g n c k e =
      push_ok out told me (set_stage me (moved c k (stage_at m me)) m) h (piece_batch a) g (subst (Came m.job m.reads) (sym n) came, tt)
      (moved_ok (batch_rows (piece_batch a)) c k e) f

  -- the stage's step, by what it gives
  step_as : (at : ℕ) (s : Step) → emit (pieces_at m me) at ≡ s → Busy me [] out told (stepped me at m s)
      → Busy me [] out told (give_out me (stage_step me at m))
  step_as at s e b = subst (λ t. Busy me [] out told (stepped me at m t)) (sym e) b

  -- the stage gives run `at`, and continues while more are left
  pub stage_ok : me < slot_places → any_full m me ≡ false → (at : ℕ)
      → hand ++ due m me (stage_at m me).continuing (stage_at m me).cut
      ≡ run_rows (drop at (pieces_for m me))
      → Busy me [] out told (give_out me (stage_step me at m))
  unfolding give_out emit run_rows flat_map
  stage_ok h f at e =
      let ps = pieces_for m me in
      let s = split_in m.active (slot_at_place me) in
      let z : emit (pieces_at m me) at ≡ emit (drop at ps) 0 = rw (runs_at_lem m me h) (emit_drop at ps) in
      by_list (drop at ps)
      (λ n. step_as at end (z ∙ rw n) (moved_ok [] false at (e ∙ rw n)))
      (λ a l n.
      let g : All HasRow (a ∷ l) = rw n at (all_drop HasRow at ps (runs_in_rows m.job me s)) in
      let of = Named m.job (node_at_place me) in
      let i : All of (a ∷ l) = rw n at (all_drop of at ps (runs_named m.job me s)) in
      by_list l
      (λ d. step_as at (final (piece_batch a)) (z ∙ rw (n, d)) (stage_push h f a g.0 i.0.1 false (suc at) (e ∙ rw (n, d))))
      (λ q ls d.
      let w : All of (q ∷ ls) = rw d at i.1 in
      let t : eqb q.leaf a.leaf ≡ true = eq-eqb q.leaf a.leaf (w.0.0 ∙ sym i.0.0) in
      step_as at (more (piece_batch a)) (z ∙ rw (n, d, t)) (stage_push h f a g.0 i.0.1 true (suc at) (e ∙ rw (n, drop_next ps at a l n)))))
