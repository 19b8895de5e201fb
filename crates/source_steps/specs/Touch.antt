-- Sets of different inlets, of which there are at most 23.
use Rattle.std.specs.Prelude.{◌≡◌, Bool, true, List, [], ◌∷◌, ℕ, suc, ◌+◌, ◌-◌, ◌≤◌, ◌<◌, length}
use Rattle.std.proofs.Common.{sym, ap, ◌∙◌, add-one, arith, lt-ltb}
use Rattle.rules.specs.Table.{get, has, up_from}
use Rattle.rules.specs.InletSet.{InletSet, insert, insert_all}
use Rattle.rules.specs.Machine.{Machine, set_touched}
use Rattle.rules.specs.Drive.{touch}
use Rattle.laws.specs.Table.{by_bool, by_eq}
use Rattle.laws.specs.Rising.{has_tail}
use Rattle.inlet_set.specs.declared.set.InletSet as code
use Rattle.inlet_set.specs.InletSet.{set_of}
use Rattle.inlet_set.specs.Insert.{accepts, Insert}
use Rattle.order.specs.Inv.{Live}
use Rattle.order.specs.Tally.{few_differ}
use Rattle.order.specs.RangeParts.{SetFits, Fits}

-- a set of different numbers below 23 without i has fewer than 23
pub accepts_fits : (i : ℕ) (s : List ℕ) → SetFits 23 s → i < 23 → accepts i s ≡ true
accepts_fits i s f h =
    by_bool (has i s)
    (λ e. rw (lt-ltb i 23 h, e))
    (λ e. let k : length (i ∷ s) ≤ 23 = few_differ 23 (i ∷ s) (e, f.0) (λ q t. by_eq q i (λ d. rw d h) (λ d. f.1 q (sym (has_tail q i s d) ∙ t))) in
    rw (lt-ltb i 23 h, e, lt-ltb (length s) 23 (omega (arith, k))))

-- one more
pub joined_is : (i : ℕ) (s r : code.InletSet) (accepted : Bool) → SetFits 23 (set_of s) → i < 23 → Insert i s accepted r → set_of r ≡ insert i (set_of s)
joined_is i s r accepted f h q = q.set ∙ rw (accepts_fits i (set_of s) f h)

-- the numbers from i on, below n, one after another
pub join_next : (i n : ℕ) (s : InletSet) → i < n → insert_all (up_from i (n - i)) s ≡ insert_all (up_from (i + 1) (n - (i + 1))) (insert i s)
unfolding insert_all up_from
join_next i n s h = let e : n - i ≡ suc (n - suc i) = omega arith in rw (add-one i, e)

pub join_end : (i n : ℕ) (s : InletSet) → n ≤ i → insert_all (up_from i (n - i)) s ≡ s
unfolding insert_all up_from
join_end i n s h = let e : n - i ≡ 0 = omega arith in rw e

-- one inlet is read, and those of a list
pub touch_one : (m n : Machine) (p i : ℕ) → n ≡ touch p (up_from i (i + 1 - i)) m → n ≡ touch p (i ∷ []) m
unfolding up_from
touch_one m n p i q = let e : i + 1 - i ≡ suc 0 = omega arith in q ∙ ap (λ (is : List ℕ). touch p is m) (rw e)

pub touch_all : (m n : Machine) (p : ℕ) (is : List ℕ) (t : InletSet) → t ≡ insert_all is (get [] m.touched p) → n ≡ set_touched p t m → n ≡ touch p is m
touch_all m n p is t e q = q ∙ ap (λ (u : InletSet). set_touched p u m) e

-- numbers below n are below 23
pub set_below : (n : ℕ) (s : InletSet) → n ≤ 23 → SetFits n s → SetFits 23 s
set_below n s h f = (f.0, λ i e. omega (arith, f.1 i e))

-- what a live pipeline has touched
pub touched_fits : (m : Machine) (p n : ℕ) → Fits m → Live m.pipes p → n ≡ length (get [] m.inlets p) → n ≤ 23 → SetFits 23 (get [] m.touched p)
touched_fits m p n f l e h = set_below (length (get [] m.inlets p)) (get [] m.touched p) (omega arith) (f.pipes p l).touched
