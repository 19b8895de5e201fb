-- The newest port that waits, from the last leaf down.
use Rattle.std.specs.Prelude.{◌≡◌, refl, Bool, true, false, ◌&&◌, List, [], ◌∷◌, ◌++◌, map, reverse, ℕ, suc, ◌+◌, ◌*◌, ◌≤◌, length, if◌then◌else◌}
use Rattle.std.proofs.Common.{sym, ap, ◌∙◌, append-nil, arith}
use Rattle.std.proofs.lemmas.List.{reverse-append}
use Rattle.std.proofs.Math.Option.{Option, none, some}
use Rattle.rules.specs.Table.{filter, find, up_from}
use Rattle.rules.specs.Job.{Job}
use Rattle.rules.specs.Plan.{is_leaf, names}
use Rattle.rules.specs.Machine.{Machine, share_port}
use Rattle.rules.specs.Shares.{is_waiting, newest_waiting}
use Rattle.laws.specs.Table.{by_bool, clash}
use Rattle.laws.specs.Again.{up_more}
use Rattle.reach.specs.Leaves.{same_segment}
use Rattle.claims.specs.Lists.{filter_yes, filter_no, filter_append, find_yes, find_no}

-- the leaves of the segment of leaf g below node i
abbrev upto : Job → ℕ → ℕ → List ℕ
upto j g i = filter (same_segment j g) (filter (is_leaf j) (up_from 0 i))

upto_next : (j : Job) (g i : ℕ) → upto j g (suc i) ≡ upto j g i ++ (if names j g i then i ∷ [] else [])
unfolding filter
upto_next j g i =
    let z : 0 + i ≡ i = omega arith in
    rw (
      up_more 0 i,
      z,
      filter_append (is_leaf j) (up_from 0 i) (i ∷ []),
      filter_append (same_segment j g) (filter (is_leaf j) (up_from 0 i))
          (filter (is_leaf j) (i ∷ [])),
    )
    (ap (λ (t : List ℕ). upto j g i ++ t) last)
  where
    last : filter (same_segment j g) (filter (is_leaf j) (i ∷ [])) ≡ (if names j g i then i ∷ [] else [])
    last = by_bool (is_leaf j i)
        (λ e. by_bool (same_segment j g i)
        (λ d. rw (filter_yes (is_leaf j) i [] e, filter_yes (same_segment j g) i [] d, e, d))
        (λ d. rw (filter_yes (is_leaf j) i [] e, filter_no (same_segment j g) i [] d, e, d)))
        (λ e. rw (filter_no (is_leaf j) i [] e, e))

-- the newest waiting port of the leaves below node i
abbrev pub newest_upto : Machine → ℕ → ℕ → ℕ → Option ℕ
newest_upto m g s i = find (is_waiting m) (map (λ k. share_port k s) (reverse (upto m.job g i)))

newest_by : (m : Machine) (g s i : ℕ) (b : Bool) → names m.job g i ≡ b
    → newest_upto m g s (suc i) ≡ find (is_waiting m) (map (λ k. share_port k s) (if b then i ∷ reverse (upto m.job g i) else reverse (upto m.job g i)))
newest_by m g s i true e =
    ap (λ (xs : List ℕ). find (is_waiting m) (map (λ k. share_port k s) (reverse xs))) (upto_next m.job g i)
    ∙ rw e (ap (λ (xs : List ℕ). find (is_waiting m) (map (λ k. share_port k s) xs)) (reverse-append (upto m.job g i) (i ∷ [])))
newest_by m g s i false e =
    ap (λ (xs : List ℕ). find (is_waiting m) (map (λ k. share_port k s) (reverse xs))) (upto_next m.job g i)
    ∙ rw e (ap (λ (xs : List ℕ). find (is_waiting m) (map (λ k. share_port k s) (reverse xs))) (append-nil (upto m.job g i)))

-- what is found below node i is what is found
abbrev pub NewestIn : Machine → ℕ → ℕ → ℕ → Type 0
NewestIn m g s i = newest_waiting m g s ≡ newest_upto m g s i

pub newest_start : (m : Machine) (g s n : ℕ) → n ≡ length m.job.nodes → NewestIn m g s n
newest_start m g s n e = rw e refl

-- node i has it
pub newest_here : (m : Machine) (g s i k : ℕ) (b : Bool) → suc k ≡ i → NewestIn m g s i →
    b ≡ (names m.job g k && is_waiting m (share_port k s)) → b ≡ true
    → some (72 + (16 * k + s)) ≡ newest_waiting m g s
newest_here m g s i k b e n q t =
    by_bool (names m.job g k)
    (λ d. let w : is_waiting m (share_port k s) ≡ true = rw d at (sym q ∙ t) in
    sym (n ∙ rw (← e) (newest_by m g s k true d ∙ find_yes (is_waiting m) (share_port k s) (map (λ k. share_port k s) (reverse (upto m.job g k))) w)))
    (λ d. clash (cc (rw d at (sym q ∙ t))))

-- it has not
pub newest_next : (m : Machine) (g s i k : ℕ) (b : Bool) → suc k ≡ i → NewestIn m g s i → b ≡ (names m.job g k && is_waiting m (share_port k s)) →
    b ≡ false → NewestIn m g s k
newest_next m g s i k b e n q t =
    by_bool (names m.job g k)
    (λ d. let w : is_waiting m (share_port k s) ≡ false = rw d at (sym q ∙ t) in
    n ∙ rw (← e) (newest_by m g s k true d ∙ find_no (is_waiting m) (share_port k s) (map (λ k. share_port k s) (reverse (upto m.job g k))) w))
    (λ d. n ∙ rw (← e) (newest_by m g s k false d))

-- no node is left
pub newest_none : (m : Machine) (g s i : ℕ) → i ≤ 0 → NewestIn m g s i → none ≡ newest_waiting m g s
unfolding filter find up_from
newest_none m g s i h n = let e : i ≡ 0 = omega arith in sym (n ∙ rw e refl)
