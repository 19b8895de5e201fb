-- Counting: the ready stack is never full, and pipelines in use.
use Rattle.std.specs.Prelude.{◌≡◌, refl, ◌≢◌, false, ◌&&◌, List, [], ◌∷◌, ℕ, zero, suc, ◌<◌, ◌≤◌, length}
use Rattle.std.proofs.Common.{arith, eq-eqb, ne_eqb}
use Rattle.rules.specs.Machine.{Pipeline, places}
use Rattle.laws.specs.Table.{by_bool, clash}
use Rattle.order.specs.Inv.{count, lives, pipe_of, Live, Queued}
use Rattle.order.specs.Tally.{fewer}

-- what a list counts with one more in front
pub count_same : (p : ℕ) (xs : List ℕ) → count p (p ∷ xs) ≡ suc (count p xs)
count_same p xs = rw (eq-eqb p p refl) (omega arith)

pub count_other : (q p : ℕ) (xs : List ℕ) → q ≢ p → count q (p ∷ xs) ≡ count q xs
count_other q p xs n = rw (ne_eqb q p n) (omega arith)

-- the ready stack has place for a pipeline that is not on it
pub room : (who : ℕ → Type 0) (P : List Pipeline) (ready : List ℕ) (p : ℕ) → Queued who P ready → ((q : ℕ) → Live P q → q < places)
    → Live P p → (pipe_of P p).queued ≡ false → length ready < places
room who P ready p v b l e = fewer places (λ q. (pipe_of P q).live && (pipe_of P q).queued) ready v.counts
    (λ q h. by_bool (pipe_of P q).live (λ d. clash (let c : q < places = b q d in omega arith)) (λ d. rw d)) p (b p l) (rw (l, e))

-- a live pipeline is counted
pub lives_some : (P : List Pipeline) (i : ℕ) → Live P i → 1 ≤ lives P
lives_some [] i l = clash (cc)
lives_some (x ∷ P) zero l = rw l (omega arith)
lives_some (x ∷ P) (suc i) l = let ih : 1 ≤ lives P = lives_some P i l in omega arith

-- as many in use where the same places are
pub lives_alike : (P P' : List Pipeline) → length P' ≡ length P → ((p : ℕ) → (pipe_of P' p).live ≡ (pipe_of P p).live) → lives P' ≡ lives P
lives_alike [] [] e h = refl
lives_alike [] (y ∷ P') e h = absurd (omega arith)
lives_alike (x ∷ P) [] e h = absurd (omega arith)
lives_alike (x ∷ P) (y ∷ P') e h = rw (h 0, lives_alike P P' (omega arith) (λ p. h (suc p)))
