-- The kept children of a node, as entries of a list.
use Rattle.std.specs.Prelude.{◌≡◌, refl, Bool, true, List, [], ◌∷◌, map, ℕ, zero, suc, eqb}
use Rattle.std.proofs.Common.{sym, ◌∙◌, eq-eqb, ne_eqb}
use Rattle.std.proofs.Math.Option.{some}
use Rattle.rules.specs.Table.{has, filter}
use Rattle.rules.specs.Job.{Job, kids}
use Rattle.rules.specs.Plan.{node_of, keeps, kept_kids}
use Rattle.laws.specs.Table.{by_bool, by_eq, clash}
use Rattle.laws.specs.Rising.{Rising}
use Rattle.laws.specs.Kids.{kids_rise, kids_has, some_is, is_some_lem}
use Rattle.order.specs.Inv.{At}
use Rattle.order.specs.Lists.{has_filter, at_has, has_at}
use Rattle.order.specs.Among.{rising_filter}

-- Entries and members

-- what has passed
pub filter_has : (f : ℕ → Bool) (xs : List ℕ) (x : ℕ) → has x (filter f xs) ≡ true → (has x xs ≡ true) × (f x ≡ true)
unfolding has filter
filter_has f [] x h = clash (cc)
filter_has f (y ∷ ys) x h = by_bool (f y)
    (λ d. by_eq x y (λ e. (rw (eq-eqb x y e), rw e d)) (λ n. let r = filter_has f ys x (rw (ne_eqb x y n) at (rw (d, filter) at h)) in (rw (ne_eqb x y n) r.0, r.1)))
    (λ d. let r = filter_has f ys x (rw (d, filter) at h) in (by_bool (eqb x y) (λ e. rw e) (λ e. rw e r.0), r.1))

-- an entry of what f makes
pub map_at : (f : ℕ → ℕ) (xs : List ℕ) (i y : ℕ) → At (map f xs) i y → (x : ℕ) × At xs i x × (y ≡ f x)
map_at f [] i y a = absurd a
map_at f (x ∷ xs) zero y a = (x, refl, sym a)
map_at f (x ∷ xs) (suc i) y a = map_at f xs i y a

-- Kept children

-- they rise
pub kept_rise : (j : Job) (n s : ℕ) → Rising 0 (kept_kids j n s)
kept_rise j n s = rising_filter (λ c. keeps j c s) 0 (kids j.nodes n) (kids_rise 0 n j.nodes)

-- they are children, and keep rows
pub kid_at : (j : Job) (n s i c : ℕ) → At (kept_kids j n s) i c → ((node_of j c).parent ≡ some n) × (keeps j c s ≡ true)
kid_at j n s i c a = let r = filter_has (λ c. keeps j c s) (kids j.nodes n) c (at_has (kept_kids j n s) i c a) in
    (is_some_lem n (node_of j c).parent (sym (kids_has j.nodes n c) ∙ r.0), r.1)

-- and all such are among them
pub at_kid : (j : Job) (n s c : ℕ) → (node_of j c).parent ≡ some n → keeps j c s ≡ true → (i : ℕ) × At (kept_kids j n s) i c
at_kid j n s c e k = has_at (kept_kids j n s) c (has_filter (λ c. keeps j c s) (kids j.nodes n) c (kids_has j.nodes n c ∙ some_is n (node_of j c).parent e) k)
