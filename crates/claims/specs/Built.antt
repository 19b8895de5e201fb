-- The first claim of a segment, and a claim.
use Rattle.std.specs.Prelude.{◌≡◌, Bool, true, false, [], map, ℕ, ◌+◌, ◌≤◌, ◌<◌, length}
use Rattle.std.proofs.Common.{sym, ◌∙◌, arith, le-leb}
use Rattle.std.proofs.Math.Option.{Option, none, some}
use Rattle.std.proofs.lemmas.Bool.{lt-leb}
use Rattle.rules.specs.Table.{get, put}
use Rattle.rules.specs.Plan.{first_leaf}
use Rattle.rules.specs.Operators.{segment}
use Rattle.rules.specs.Machine.{Machine, with_unbuilt}
use Rattle.rules.specs.Pipelines.{lay, add}
use Rattle.rules.specs.Shares.{newest_waiting, claimants, port_of, first_for, make_ports, claim_port, build, claim}

-- the ports, then the source of the whole segment
abbrev pub built : ℕ → Machine → Machine
built l m = add (72 + l) (lay (72 + l) (segment false false 0) none [] (make_ports (map port_of (claimants m l)) m))

-- with one claimant only
pub build_one : (p l t n : ℕ) (m : Machine) → n ≡ length (claimants m l) → n ≤ 1 → build p l t (claimants m l) m ≡ (none, m)
unfolding build
build_one p l t n m e h = rw (le-leb (length (claimants m l)) 1 (omega arith), build)

-- with more
pub build_more : (p l t n : ℕ) (x o : Option ℕ) (m m₁ m₂ : Machine) → n ≡ length (claimants m l) → 1 < n → x ≡ first_for t (claimants m l) →
    m₁ ≡ built l m
    → claim_port p x m₁ ≡ (o, m₂) → build p l t (claimants m l) m ≡ (o, m₂)
unfolding build
build_more p l t n x o m m₁ m₂ e h f g c = rw (lt-leb (length (claimants m l)) 1 (omega arith), build, ← f, ← g) c

-- no port waits for the claim
abbrev pub claim_new : ℕ → ℕ → ℕ → Machine → Option ℕ × Machine
claim_new p l t m =
    let g = first_leaf m.job l in
    elim (get false m.unbuilt g) [
      | false ↦ (none, m)
      | true ↦ build p l t (claimants m l) (with_unbuilt (put false m.unbuilt g false) m)
    ]

pub new_none : (p l t g : ℕ) (m : Machine) (b : Bool) → g ≡ first_leaf m.job l → b ≡ get false m.unbuilt g → b ≡ false → claim_new p l t m ≡ (none, m)
new_none p l t g m b e f h = let u : get false m.unbuilt (first_leaf m.job l) ≡ false = rw (← e) (sym f ∙ h) in rw (u, claim_new)

pub new_built : (p l t g : ℕ) (m : Machine) (b : Bool) (r : Option ℕ × Machine) → g ≡ first_leaf m.job l → b ≡ get false m.unbuilt g → b ≡ true
    → build p l t (claimants m l) (with_unbuilt (put false m.unbuilt g false) m) ≡ r → claim_new p l t m ≡ r
new_built p l t g m b r e f h k = let u : get false m.unbuilt (first_leaf m.job l) ≡ true = rw (← e) (sym f ∙ h) in rw (u, claim_new, ← e) k

-- a port waits
pub claim_waiting : (p l t x : ℕ) (m : Machine) (r : Option ℕ × Machine) → some x ≡ newest_waiting m l t → claim_port p (some x) m ≡ r → claim p l t m ≡ r
unfolding claim
claim_waiting p l t x m r e k = let u : newest_waiting m l t ≡ some x = sym e in rw (u, claim) k

pub claim_else : (p l t : ℕ) (m : Machine) (r : Option ℕ × Machine) → none ≡ newest_waiting m l t → claim_new p l t m ≡ r → claim p l t m ≡ r
unfolding claim
claim_else p l t m r e k = let u : newest_waiting m l t ≡ none = sym e in rw (u, claim) k
