-- What is laid at a place: the sets of its inlets, and the rest.
use Rattle.std.specs.Prelude.{◌≡◌, refl, Bool, true, false, List, [], ℕ, ◌≤◌, min, length, replicate, if◌then◌else◌}
use Rattle.std.proofs.Common.{sym, ◌∙◌, arith}
use Rattle.std.proofs.Math.Option.{Option, none}
use Rattle.std.proofs.lemmas.List.{length-reverse}
use Rattle.rules.specs.Table.{up_from}
use Rattle.rules.specs.InletSet.{InletSet}
use Rattle.rules.specs.Port.{waiting}
use Rattle.rules.specs.Operators.{Source}
use Rattle.rules.specs.Machine.{Machine, Pipeline, Stage, live, set_pipe, set_source, set_stage, set_inlets, set_touched, set_changed, set_waits, set_seen, fault_if}
use Rattle.rules.specs.Pipelines.{all_inlets, fresh, is_pack_source, lay}
use Rattle.pack_source.specs.Pack as packs
use Rattle.order.specs.Lists.{up_length}
use Rattle.tables.specs.Change.{Becomes}

-- the place is taken
pub lay_taken : (p : ℕ) (source : Source) (cut : Option ℕ) (xs : List ℕ) (m : Machine) (b : Bool) → b ≡ live m p → b ≡ true →
    fault_if true m ≡ lay p source cut xs m
unfolding lay
lay_taken p source cut xs m b e t = let u : live m p ≡ true = sym e ∙ t in rw (u, lay)

-- of a source that notes its inlets all n, of another none
noted_waits : (b : Bool) (n : ℕ) → all_inlets (if b then n else 0) ≡ (if b then all_inlets n else [])
unfolding up_from
noted_waits true n = refl
noted_waits false n = refl

noted_seen : (b : Bool) (n : ℕ) → replicate (if b then n else 0) waiting ≡ (if b then replicate n waiting else [])
noted_seen true n = refl
noted_seen false n = refl

-- the sets, then the rest
pub lay_free : (p : ℕ) (source : Source) (cut : Option ℕ) (xs : List ℕ) (n k : ℕ) (m : Machine) (b : Bool) → b ≡ live m p → b ≡ false
    → length xs ≡ n → k ≡ (if is_pack_source source then n else 0)
    → set_pipe p fresh (set_source p source (set_stage p (record { cut = cut; continuing = false; finishing = none; more = false }) (set_inlets p xs
    (set_touched p [] (set_changed p (all_inlets n) (set_waits p (all_inlets k) (set_seen p (replicate k waiting) m)))))))
    ≡ lay p source cut xs m
unfolding lay
lay_free p source cut xs n k m b e t l q =
    let u : live m p ≡ false = sym e ∙ t in
    rw (u, lay, l, q, noted_waits (is_pack_source source) n, noted_seen (is_pack_source source) n)

-- the sets of n inlets, of which k are noted, one after another
pub sets_laid : (p n k : ℕ) (v : packs.View) (c t : InletSet) (s₀ s₁ s₂ s₃ : List ℕ) → n ≤ 23 → k ≤ 4
    → v ≡ packs.fresh (min k 4) → c ≡ all_inlets (min n 23) → t ≡ []
    → Becomes (λ m. set_seen p v.seen (set_waits p v.waits m)) s₀ s₁ → Becomes (set_changed p c) s₁ s₂ → Becomes (set_touched p t) s₂ s₃
    → Becomes (λ m. set_touched p [] (set_changed p (all_inlets n) (set_waits p (all_inlets k) (set_seen p (replicate k waiting) m)))) s₀ s₃
sets_laid p n k v c t s₀ s₁ s₂ s₃ h l e f g x y z =
    let a : min k 4 ≡ k = omega arith in
    let b : min n 23 ≡ n = omega arith in
    (rw (z.0, y.0, x.0, e, f, g, a, b), z.1 ∙ y.1 ∙ x.1)

-- at most 4 of a pack's inlets wait
pub few_waits : (k : ℕ) (v : packs.View) → v ≡ packs.fresh (min k 4) → length v.waits ≤ 4
few_waits k v e = rw e (rw (length-reverse (up_from 0 (min k 4)), up_length 0 (min k 4)) (omega arith))

-- at most 4 are noted
pub noted_few : (b : Bool) (n k : ℕ) → k ≡ (if b then n else 0) → (b ≡ true → n ≤ 4) → k ≤ 4
noted_few true n k e h = rw e (h refl)
noted_few false n k e h = omega arith

-- the pipeline itself, its source, its stage and its inlets, one after another
pub parts_laid : (p : ℕ) (source : Source) (st : Stage) (xs : List ℕ) (v : Pipeline) (s₀ s₁ s₂ s₃ s₄ : List ℕ)
    → Becomes (set_inlets p xs) s₀ s₁ → Becomes (set_stage p st) s₁ s₂ → Becomes (set_source p source) s₂ s₃ → Becomes (set_pipe p v) s₃ s₄ → v ≡ fresh
    → Becomes (λ m. set_pipe p fresh (set_source p source (set_stage p st (set_inlets p xs m)))) s₀ s₄
parts_laid p source st xs v s₀ s₁ s₂ s₃ s₄ a b c d e = (rw (d.0, e, c.0, b.0, a.0) refl, d.1 ∙ c.1 ∙ b.1 ∙ a.1)
