-- Where the input stands in its buffer.
use Rattle.std.specs.Prelude.{◌≡◌, Bool, List, [], ◌∷◌, ℕ, zero, suc, ◌+◌, ◌-◌, ◌≤◌, length, take, drop, eqb, if◌then◌else◌}
use Rattle.std.proofs.Common.{sym, ◌∙◌, arith, length-take, length-drop, take-take, drop-drop}
use Rattle.std.proofs.Math.Seq.{take-nil}
use Rattle.feeding.specs.declared.Coming.{Coming}
use Rattle.feeding.specs.declared.Coming.TheVariants.{More, Full, Ended}
use Rattle.turns.specs.declared.input.Place.{Place}

-- a place within n bytes
abbrev pub Within : Place → ℕ → Type 0
Within p n = (p.at ≤ p.have) × (p.have ≤ n)

-- the bytes that are there and not yet used
abbrev pub pending : Place → List ℕ → List ℕ
pending p b = take (p.have - p.at) (drop p.at b)

-- what may follow them, in a buffer of n bytes
abbrev pub coming_of : Place → ℕ → Coming
coming_of p n = if p.ended then Ended else if eqb (p.have - p.at) n then Full else More

-- buffer b becomes d: what was not used is at the front, and what was read behind it
pub record Refilled (p : Place) (b d : List ℕ) (r : Place) : Type 0 where
  pub within : Within r (length d)
  pub front : take (p.have - p.at) (pending r d) ≡ pending p b
  pub ended : r.ended ≡ eqb r.have (p.have - p.at)

pub refilled : (p : Place) (have : ℕ) (ended : Bool) (b c d : List ℕ)
    → let n = p.have - p.at in take n c ≡ take n (drop p.at b) → take n d ≡ take n c → n ≤ have
    → have ≤ length d → ended ≡ eqb have n → Refilled p b d (record { at = 0; have = have; ended = ended })
refilled p have ended b c d e f h k g =
    let m : have - 0 ≡ have = omega arith in
    record { within = (omega arith, k); front = rw m (take-take (p.have - p.at) have d h ∙ f ∙ e); ended = g }

-- some of them used
pub drop_take : (u n : ℕ) (l : List ℕ) → drop u (take n l) ≡ take (n - u) (drop u l)
drop_take zero n l = let k : n - 0 ≡ n = omega arith in rw k
drop_take (suc u) zero l = let k : 0 - suc u ≡ 0 = omega arith in rw k
drop_take (suc u) (suc n) [] = sym (take-nil (suc n - suc u))
drop_take (suc u) (suc n) (x ∷ l) = let k : suc n - suc u ≡ n - u = omega arith in rw k (drop_take u n l)

pub pending_size : (p : Place) (b : List ℕ) → Within p (length b) → length (pending p b) ≡ p.have - p.at
pending_size p b w = simp (length-take, length-drop) (omega (arith, w.0, w.1))

pub used_pending : (at have used : ℕ) (ended : Bool) (b : List ℕ) → pending (record { at = at + used; have = have; ended = ended }) b
    ≡ drop used (take (have - at) (drop at b))
used_pending at have used ended b =
    let k : have - (at + used) ≡ have - at - used = omega arith in
    rw (k, ← drop-drop used at b) (sym (drop_take used (have - at) (drop at b)))
