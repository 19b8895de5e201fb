-- A stored job that fits is one whose records are restored and give it back.
use Rattle.std.specs.Prelude.{◌≡◌, refl, ◌≢◌, true, false, not, List, [], ◌∷◌, ℕ, ◌-◌, ◌≤◌, length, eqb}
use Rattle.std.proofs.Common.{ap, ◌∙◌, arith, eqb-true, eq-eqb, ne_eqb, le-ltb}
use Rattle.std.proofs.Math.Option.{Option, none, some}
use Rattle.std.proofs.lemmas.Bool.{not-true}
use Rattle.rules.specs.Table.{given, all}
use Rattle.rules.specs.Job.{Node, Job, Draft, accepted, slots, node_at, plan_rows, max_rows, no_draft, restore, finish}
use Rattle.rules.specs.Plan.{node_of, root_of}
use Rattle.rules.specs.Check.{job_ok}
use Rattle.laws.specs.Table.{clash}
use Rattle.laws.specs.Kids.{same_rows}
use Rattle.laws.specs.Draft.{passed_unless}
use Rattle.laws.specs.Places.{placed}
use Rattle.laws.specs.Again.{written_keep, written_start, again_of}
use Rattle.laws.specs.Stored.{both}
use Rattle.stored.specs.Walk.{walk, ends, split_fits}
use Rattle.stored.specs.Kept.{Kept}
use Rattle.stored.specs.Steps.{walk_next}
use Rattle.stored.proofs.Splits.{Rooted, More, not_empty, splits_next}
use Rattle.stored.specs.Ends.{nodes_are}

-- what the test of a stored job says
pub record Fits (j : Job) : Type 0 where
  pub slots_low : 1 ≤ j.slots
  pub slots_high : j.slots ≤ 3
  pub nodes_low : 1 ≤ length j.nodes
  pub nodes_high : length j.nodes ≤ 24
  pub splits_high : length j.splits ≤ 16
  pub walks : ends j.nodes (walk j.nodes 0 (length j.nodes) []) ≡ true
  pub splits : all (split_fits (node_of j (root_of j)).rows) j.splits ≡ true

-- one root at the end of the walk
record Root (ns : List Node) (c : ℕ) : Type 0 where
  alone : (node_at ns c).parent ≡ none
  at_zero : (node_at ns c).at ≡ 0

-- no number is none
not_given : (o : Option ℕ) → given o ≡ false → o ≡ none
unfolding given
not_given none e = refl
not_given (some x) e = clash (cc)

-- what the end of a walk tells
ends_told : (ns : List Node) (o : Option (List ℕ)) → ends ns o ≡ true → (c : ℕ) × (o ≡ some (c ∷ [])) × Root ns c
ends_told ns none h = clash (cc)
ends_told ns (some []) h = clash (cc)
ends_told ns (some (c ∷ [])) h =
    let b = both (not (given (node_at ns c).parent)) (eqb (node_at ns c).at 0) h in
    (c, refl, record { alone = not_given _ (not-true _ b.0); at_zero = eqb-true _ _ b.1 })
ends_told ns (some (c ∷ b ∷ free)) h = clash (cc)

-- the draft of no node yet
abbrev first : ℕ → Draft
first s = record { slots = s; nodes = []; free = []; splits = [] }

-- is one of the stored nodes so far
first_kept : (ns : List Node) (s : ℕ) → 1 ≤ s → s ≤ 3 → Kept ns s (first s)
unfolding restore
first_kept ns s l h = record {
  written = written_keep (slots s) no_draft (first s) tt written_start (passed_unless _ _ (refl, (rw (ne_eqb s 0 (omega arith), le-ltb 3 s h), tt)));
  slots = refl;
  splits = refl;
  bares = λ k b. absurd (omega arith);
  parents = λ k q e. clash (cc);
  stands = λ q b. absurd (omega arith);
}

-- a draft with one root finishes
rooted_finish : (d : Draft) → Rooted d → finish d ≡ accepted (record { slots = d.slots; nodes = placed d.nodes; splits = d.splits })
rooted_finish d v = passed_unless _ _ (ne_eqb d.slots 0 v.slots, (not_empty d.nodes v.nodes, (rw (eq-eqb (length d.free) 1 v.one), tt)))

-- the root's rows are the stored ones
root_rows : (j : Job) (d : Draft) → Kept j.nodes j.slots d → 1 ≤ length j.nodes → length d.nodes ≡ length j.nodes → plan_rows d ≡ (node_of j (root_of j)).rows
root_rows j d k low size =
    same_rows (node_at d.nodes (length d.nodes - 1)) (node_at j.nodes (length d.nodes - 1)) (k.bares (length d.nodes - 1) (omega arith))
    ∙ ap (λ n. (node_of j (n - 1)).rows) size

-- the draft of all stored nodes and all splits finishes to the job
more_ok : (j : Job) (d e : Draft) → Kept j.nodes j.slots d → Rooted e → More d e j.splits → placed d.nodes ≡ j.nodes → job_ok j ≡ true
more_ok j d e k r m p =
    let a : e.slots ≡ j.slots = m.slots ∙ k.slots in
    let b : placed e.nodes ≡ j.nodes = ap placed m.nodes ∙ p in
    let c : e.splits ≡ j.splits = m.splits ∙ rw k.splits in
    again_of e j r.written (rooted_finish e r ∙ (λ i. accepted (record { slots = a i; nodes = b i; splits = c i })))

-- the draft of all stored nodes, with one root, takes the splits
kept_ok : (j : Job) (d : Draft) (c : ℕ) → Fits j → Kept j.nodes j.slots d → length d.nodes ≡ length j.nodes → d.free ≡ c ∷ [] → Root j.nodes c → job_ok j ≡ true
kept_ok j d c f k size one root =
    let z : j.slots ≢ 0 = omega (arith, f.slots_low) in
    let r : Rooted d = record { written = k.written; slots = rw k.slots z; nodes = omega (arith, f.nodes_low); one = rw one } in
    let s = splits_next j.splits d r (rw k.splits (omega (arith, f.splits_high))) (rw (root_rows j d k f.nodes_low size) f.splits) in
    more_ok j d s.0 k s.1 s.2 (nodes_are j.nodes j.slots d k z c size f.nodes_low one root.alone root.at_zero)

-- a stored job that fits passes
pub fits_ok : (j : Job) → ((n : ℕ) → (node_of j n).rows ≤ max_rows) → Fits j → job_ok j ≡ true
fits_ok j b f =
    let t = ends_told j.nodes (walk j.nodes 0 (length j.nodes) []) f.walks in
    let n = walk_next j.nodes j.slots (length j.nodes) (first j.slots) (t.0 ∷ []) (omega (arith, f.slots_low)) b (first_kept j.nodes j.slots f.slots_low f.slots_high) (omega (arith, f.nodes_high)) t.1 in
    kept_ok j n.0 t.0 f n.1 (omega (arith, n.2)) n.3 t.2
