-- Members of lists, the pairs of a segment, and how many leaves and ports are left to a split.
use Rattle.std.specs.Prelude.{◌≡◌, refl, ◌≢◌, ◌⊎◌, Bool, false, ◌&&◌, not, ℕ, suc, ◌<◌, ◌≤◌, length, eqb, ltb, leb}
use Rattle.std.proofs.Common.{sym, ap, subst, ◌∙◌, inl, inr, arith, lt-ltb, eqb-true, eq-eqb, leb-true, leb-false, le-leb}
use Rattle.std.proofs.Math.Bool.{true}
use mathlib.Core.List.{List, [], ◌∷◌, ◌++◌, map, flat_map, reverse, reverse_aux, map-append}
use Rattle.std.proofs.Math.Option.{none, some}
use Rattle.std.proofs.lemmas.Bool.{lt-leb}
use Rattle.rules.specs.Table.{get, filter, find, up_from}
use Rattle.rules.specs.Job.{Job}
use Rattle.rules.specs.Plan.{node_of, keeps, is_leaf, leaves_of, overlaps, reaches, pairs, is_shared}
use Rattle.rules.specs.Machine.{Machine, share_port}
use Rattle.rules.specs.Shares.{is_waiting, newest_waiting, claimants, port_of, first_for}
use Rattle.laws.specs.Table.{by_bool, by_eq, by_option, clash, and_both}
use Rattle.laws.specs.Rising.{Rising, rising_weak}
use Rattle.order.specs.Lowers.{kept_from}
use Rattle.order.specs.Among.{Among, among_up, up_among, among_filter, filter_among, rising_low, rising_up, rising_filter, rising_append}
use Rattle.order.specs.Outlets.{leaf_among, among_leaf, leaves_rise}
use Rattle.order.specs.Leaves.{or_inr}

-- Members

-- x is in a list
abbrev pub In : {A : Type 0} → A → List A → Type 0
In x [] = ⊥
In x (y ∷ ys) = (x ≡ y) ⊎ In x ys

module _ {A : Type 0} where
  pub in_filter : (f : A → Bool) (x : A) (xs : List A) → In x xs → f x ≡ true → In x (filter f xs)
  unfolding filter
  in_filter f x [] a e = absurd a
  in_filter f x (y ∷ ys) (inl q) e = let d : f y ≡ true = rw (← q) e in rw (d, filter) (inl q)
  in_filter f x (y ∷ ys) (inr a) e = by_bool (f y) (λ d. rw (d, filter) (inr (in_filter f x ys a e))) (λ d. rw (d, filter) (in_filter f x ys a e))

  pub filter_in : (f : A → Bool) (x : A) (xs : List A) → In x (filter f xs) → In x xs × (f x ≡ true)
  unfolding filter
  filter_in f x [] a = absurd a
  filter_in f x (y ∷ ys) a =
      by_bool (f y) (λ d. taken (rw (d, filter) at a) d (filter_in f x ys)) (λ d. let r : In x ys × (f x ≡ true) = filter_in f x ys (rw (d, filter) at a) in (inr r.0, r.1))
    where
      taken : (x ≡ y) ⊎ In x (filter f ys) → f y ≡ true → (In x (filter f ys) → In x ys × (f x ≡ true)) → In x (y ∷ ys) × (f x ≡ true)
      taken (inl q) d h = (inl q, rw q d)
      taken (inr b) d h = (inr (h b).0, (h b).1)

  -- members of two lists
  pub in_left : (x : A) (xs ys : List A) → In x xs → In x (xs ++ ys)
  in_left x [] ys a = absurd a
  in_left x (z ∷ zs) ys (inl e) = inl e
  in_left x (z ∷ zs) ys (inr a) = inr (in_left x zs ys a)

  pub in_right : (x : A) (xs ys : List A) → In x ys → In x (xs ++ ys)
  in_right x [] ys a = a
  in_right x (z ∷ zs) ys a = inr (in_right x zs ys a)

  pub in_both {ℓ} : {P : Type ℓ} (x : A) (xs ys : List A) → In x (xs ++ ys) → (In x xs → P) → (In x ys → P) → P
  in_both x [] ys a l r = r a
  in_both x (z ∷ zs) ys (inl e) l r = l (inl e)
  in_both x (z ∷ zs) ys (inr a) l r = in_both x zs ys a (λ b. l (inr b)) r

  -- a member and another: there are two
  pub some_in : (x : A) (xs : List A) → In x xs → 1 ≤ length xs
  some_in x [] a = absurd a
  some_in x (y ∷ ys) a = omega arith

  pub two_in : (x y : A) (xs : List A) → In x xs → In y xs → x ≢ y → 1 < length xs
  two_in x y [] a b n = absurd a
  two_in x y (z ∷ zs) (inl p) (inl q) n = absurd (n (p ∙ sym q))
  two_in x y (z ∷ zs) (inl p) (inr b) n = let h = some_in y zs b in omega (arith, h)
  two_in x y (z ∷ zs) (inr a) b n = let h = some_in x zs a in omega (arith, h)

  -- of one member only
  pub one_in : (x y : A) (xs : List A) → In x xs → In y xs → length xs ≤ 1 → x ≡ y
  one_in x y [] a b n = absurd a
  one_in x y (z ∷ []) (inl p) (inl q) n = p ∙ sym q
  one_in x y (z ∷ []) (inl p) (inr b) n = absurd b
  one_in x y (z ∷ []) (inr a) b n = absurd a
  one_in x y (z ∷ w ∷ zs) a b n = absurd (omega arith)

  -- the first that passes a test
  pub find_some : (f : A → Bool) (x : A) (xs : List A) → find f xs ≡ some x → In x xs × (f x ≡ true)
  unfolding find
  find_some f x [] e = clash (cc)
  find_some f x (y ∷ ys) e = by_bool (f y)
      (λ d. let q : x ≡ y = cc (rw (d, find) at e) in (inl q, rw q d))
      (λ d. let r : In x ys × (f x ≡ true) = find_some f x ys (rw (d, find) at e) in (inr r.0, r.1))

  pub find_none : (f : A → Bool) (x : A) (xs : List A) → find f xs ≡ none → In x xs → f x ≡ false
  unfolding find
  find_none f x [] e a = absurd a
  find_none f x (y ∷ ys) e (inl q) = by_bool (f y) (λ d. clash (cc (rw (d, find) at e))) (λ d. rw q d)
  find_none f x (y ∷ ys) e (inr a) = by_bool (f y) (λ d. clash (cc (rw (d, find) at e))) (λ d. find_none f x ys (rw (d, find) at e) a)

  -- members of a reversed list
  onto_in : (x : A) (xs ys : List A) → In x (reverse_aux xs ys) → In x xs ⊎ In x ys
  onto_in x [] ys a = inr a
  onto_in x (z ∷ zs) ys a = sort (onto_in x zs (z ∷ ys) a)
    where
      sort : In x zs ⊎ In x (z ∷ ys) → In x (z ∷ zs) ⊎ In x ys
      sort (inl b) = inl (inr b)
      sort (inr (inl e)) = inl (inl e)
      sort (inr (inr b)) = inr b

  in_onto : (x : A) (xs ys : List A) → In x xs ⊎ In x ys → In x (reverse_aux xs ys)
  in_onto x [] ys (inl a) = absurd a
  in_onto x [] ys (inr a) = a
  in_onto x (z ∷ zs) ys (inl (inl e)) = in_onto x zs (z ∷ ys) (inr (inl e))
  in_onto x (z ∷ zs) ys (inl (inr a)) = in_onto x zs (z ∷ ys) (inl a)
  in_onto x (z ∷ zs) ys (inr a) = in_onto x zs (z ∷ ys) (inr (inr a))

  pub reverse_in : (x : A) (xs : List A) → In x (reverse xs) → In x xs
  reverse_in x xs a = left (onto_in x xs [] a)
    where
      left : In x xs ⊎ ⊥ → In x xs
      left (inl b) = b
      left (inr b) = absurd b

  pub in_reverse : (x : A) (xs : List A) → In x xs → In x (reverse xs)
  in_reverse x xs a = in_onto x xs [] (inl a)

module _ {A B : Type 0} (f : A → B) where
  pub in_map : (x : A) (xs : List A) → In x xs → In (f x) (map f xs)
  in_map x [] a = absurd a
  in_map x (y ∷ ys) (inl e) = inl (ap f e)
  in_map x (y ∷ ys) (inr a) = inr (in_map x ys a)

  pub map_in : (y : B) (xs : List A) → In y (map f xs) → (x : A) × In x xs × (y ≡ f x)
  map_in y [] a = absurd a
  map_in y (x ∷ xs) (inl e) = (x, inl refl, e)
  map_in y (x ∷ xs) (inr a) = let r : (z : A) × In z xs × (y ≡ f z) = map_in y xs a in (r.0, inr r.1, r.2)

-- of numbers
pub in_among : (x : ℕ) (xs : List ℕ) → In x xs → Among x xs
in_among x [] a = a
in_among x (y ∷ ys) (inl e) = inl e
in_among x (y ∷ ys) (inr a) = inr (in_among x ys a)

pub among_in : (x : ℕ) (xs : List ℕ) → Among x xs → In x xs
among_in x [] a = a
among_in x (y ∷ ys) (inl e) = inl e
among_in x (y ∷ ys) (inr a) = inr (among_in x ys a)

-- Pairs

-- a leaf and a split
abbrev pub Pair : Type 0
Pair = ℕ × ℕ

-- numbers with the lists that they have
abbrev each : (ℕ → List ℕ) → List ℕ → List Pair
each f ls = flat_map (λ l. map (λ s. (l, s)) (f l)) ls

-- their members
pair_each : (f : ℕ → List ℕ) (l t : ℕ) (ls : List ℕ) → Among l ls → Among t (f l) → In {A = Pair} (l, t) (each f ls)
unfolding flat_map
pair_each f l t [] a b = absurd a
pair_each f l t (k ∷ ks) (inl e) b = in_left {A = Pair} (l, t) (map (λ s. (k, s)) (f k)) (each f ks) (rw e (in_map {B = Pair} (λ s. (k, s)) t (f k) (among_in t (f k) (rw e at b))))
pair_each f l t (k ∷ ks) (inr a) b = in_right {A = Pair} (l, t) (map (λ s. (k, s)) (f k)) (each f ks) (pair_each f l t ks a b)

each_pair : (f : ℕ → List ℕ) (c : Pair) (ls : List ℕ) → In c (each f ls) → Among c.0 ls × Among c.1 (f c.0)
unfolding flat_map
each_pair f c [] a = absurd a
each_pair f c (k ∷ ks) a = in_both c (map (λ s. (k, s)) (f k)) (each f ks) a
    (λ b. let r : (s : ℕ) × In s (f k) × (c ≡ (k, s)) = map_in {B = Pair} (λ s. (k, s)) c (f k) b in
    (inl (ap (λ (z : Pair). z.0) r.2), rw r.2 (in_among r.0 (f k) r.1)))
    (λ b. let r : Among c.0 ks × Among c.1 (f c.0) = each_pair f c ks b in (inr r.0, r.1))

module _ (j : Job) (g : ℕ) where
  -- a leaf of the segment and a split that overlaps it
  pub pair_in : (l t : ℕ) → is_leaf j l ≡ true → (node_of j l).segment ≡ (node_of j g).segment → t < length j.splits → overlaps j l t ≡ true → In {A = Pair} (l, t) (pairs j g)
  pair_in l t a e b o = pair_each (λ l. filter (overlaps j l) (up_from 0 (length j.splits))) l t (leaves_of j g) (leaf_among j g l a e)
      (among_filter (overlaps j l) t (up_from 0 (length j.splits)) (among_up t 0 (length j.splits) (omega arith) (omega arith)) o)

  pub in_pair : (c : Pair) → In c (pairs j g) → (is_leaf j c.0 ≡ true) × ((node_of j c.0).segment ≡ (node_of j g).segment) × (c.1 < length j.splits) × (overlaps j c.0 c.1 ≡ true)
  in_pair c a =
      let r = each_pair (λ l. filter (overlaps j l) (up_from 0 (length j.splits))) c (leaves_of j g) a in
      let h = among_leaf j g c.0 r.0 in
      let q = filter_among (overlaps j c.0) c.1 (up_from 0 (length j.splits)) r.1 in
      let b = (up_among c.1 0 (length j.splits) q.0).1 in
      (h.0, h.1, omega (arith, b), q.1)

  -- a segment with two pairs is shared
  pub pairs_shared : (c d : Pair) → In c (pairs j g) → In d (pairs j g) → c ≢ d → is_shared j g ≡ true
  pairs_shared c d a b n = or_inr (ltb 1 (length (filter (reaches j) (leaves_of j g)))) (ltb 1 (length (pairs j g))) (lt-ltb 1 (length (pairs j g)) (two_in c d (pairs j g) a b n))

-- Claims

-- the newest port that waits is one of the segment and the split
pub newest_some : (m : Machine) (l s x : ℕ) → newest_waiting m l s ≡ some x
    → (k : ℕ) × (is_leaf m.job k ≡ true) × ((node_of m.job k).segment ≡ (node_of m.job l).segment) × (x ≡ share_port k s) × (is_waiting m x ≡ true)
newest_some m l s x e =
    let r = find_some (is_waiting m) x (map (λ i. share_port i s) (reverse (leaves_of m.job l))) e in
    let q = map_in (λ i. share_port i s) x (reverse (leaves_of m.job l)) r.0 in
    let h = among_leaf m.job l q.0 (in_among q.0 (leaves_of m.job l) (reverse_in q.0 (leaves_of m.job l) q.1)) in
    (q.0, h.0, h.1, q.2, r.1)

-- or none waits
pub newest_none : (m : Machine) (l s k : ℕ) → newest_waiting m l s ≡ none → Among k (leaves_of m.job l) → is_waiting m (share_port k s) ≡ false
newest_none m l s k e a = find_none (is_waiting m) (share_port k s) (map (λ i. share_port i s) (reverse (leaves_of m.job l))) e
    (in_map (λ i. share_port i s) k (reverse (leaves_of m.job l)) (in_reverse k (leaves_of m.job l) (among_in k (leaves_of m.job l) a)))

-- the first port made for a split that has one
pub first_for_lem : (s : ℕ) (cs : List Pair) (l : ℕ) → In {A = Pair} (l, s) cs → (n : ℕ) × In {A = Pair} (n, s) cs × (first_for s cs ≡ some (share_port n s))
first_for_lem s cs l a = by_option (find (λ (c : Pair). eqb c.1 s) cs)
    (λ e. clash (cc (find_none (λ (c : Pair). eqb c.1 s) (l, s) cs e a, eq-eqb s s refl)))
    (λ c e.
    let r = find_some (λ (d : Pair). eqb d.1 s) c cs e in
    let q : c.1 ≡ s = eqb-true c.1 s r.1 in
    (c.0, subst (λ t. In {A = Pair} (c.0, t) cs) q r.0, rw (e, first_for) (ap (λ t. some (share_port c.0 t)) q)))

-- the ports of pairs rise
pair_ports : (f : ℕ → List ℕ) (lo : ℕ) (ls : List ℕ) → Rising lo ls → ((l : ℕ) → Rising 0 (f l)) → ((l t : ℕ) → Among t (f l) → t < 16) → Rising (share_port lo 0) (map port_of (each f ls))
unfolding flat_map
pair_ports f lo [] r up low = tt
pair_ports f lo (l ∷ ls) r up low = rw (map-append port_of (map (λ s. (l, s)) (f l)) (each f ls))
    (rising_append (share_port lo 0) (share_port (suc l) 0) (map port_of (map (λ s. (l, s)) (f l))) (map port_of (each f ls))
    (block (share_port lo 0) 0 (f l) (omega (arith, r.0)) (up l))
    (λ x a. inside x (f l) (low l) a) (omega (arith, r.0)) (pair_ports f (suc l) ls r.1 up low))
  where
    block : (b a : ℕ) (ts : List ℕ) → b ≤ share_port l a → Rising a ts → Rising b (map port_of (map (λ s. (l, s)) ts))
    block b a [] h r = tt
    block b a (t ∷ ts) h r = (omega (arith, r.0), block (suc (share_port l t)) (suc t) ts (omega arith) r.1)

    inside : (x : ℕ) (ts : List ℕ) → ((t : ℕ) → Among t ts → t < 16) → Among x (map port_of (map (λ s. (l, s)) ts)) → x < share_port (suc l) 0
    inside x [] h a = absurd a
    inside x (t ∷ ts) h (inl e) = let z = h t (inl refl) in omega arith
    inside x (t ∷ ts) h (inr a) = inside x ts (λ u b. h u (inr b)) a

-- what rises still does when some are left out
pub rising_sub : {A : Type 0} (h : A → ℕ) (f : A → Bool) (n : ℕ) (xs : List A) → Rising n (map h xs) → Rising n (map h (filter f xs))
unfolding filter
rising_sub h f n [] r = tt
rising_sub h f n (x ∷ xs) r = let t = rising_sub h f (suc (h x)) xs r.1 in
    by_bool (f x) (λ d. rw (d, filter) (r.0, t)) (λ d. rw (d, filter) (rising_weak (suc (h x)) n (map h (filter f xs)) (omega (arith, r.0)) t))

-- the ports of the claimants differ
pub claimants_rise : (m : Machine) (l : ℕ) → length m.job.splits ≤ 16 → Rising 0 (map port_of (claimants m l))
claimants_rise m l h =
    let f : ℕ → List ℕ = λ k. filter (overlaps m.job k) (up_from 0 (length m.job.splits)) in
    rising_sub port_of (λ (c : Pair). not (get false m.finished c.1)) 0 (pairs m.job l)
    (rising_weak (share_port 0 0) 0 (map port_of (pairs m.job l)) (omega arith) (pair_ports f 0 (leaves_of m.job l) (leaves_rise m.job l)
    (λ k. rising_filter (overlaps m.job k) 0 (up_from 0 (length m.job.splits)) (rising_up 0 (length m.job.splits)))
    (λ k t a. let z = (up_among t 0 (length m.job.splits) (filter_among (overlaps m.job k) t (up_from 0 (length m.job.splits)) a).0).1 in omega (arith, z))))

-- Counting

-- tests that agree on a list
pub filter_agree : (f g : ℕ → Bool) (xs : List ℕ) → ((x : ℕ) → Among x xs → f x ≡ g x) → filter f xs ≡ filter g xs
unfolding filter
filter_agree f g [] h = refl
filter_agree f g (x ∷ xs) h = let t = filter_agree f g xs (λ y a. h y (inr a)) in
    by_bool (g x) (λ e. rw (h x (inl refl) ∙ e, e, filter, t)) (λ e. rw (h x (inl refl) ∙ e, e, filter) t)

-- and but for one
pub filter_less : (f g : ℕ → Bool) (n x : ℕ) (xs : List ℕ) → Rising n xs → Among x xs → f x ≡ true → g x ≡ false → ((y : ℕ) → Among y xs → y ≢ x → f y ≡ g y)
    → length (filter f xs) ≡ suc (length (filter g xs))
unfolding filter
filter_less f g n x [] r a p q h = absurd a
filter_less f g n x (y ∷ ys) r a p q h = by_eq y x
    (λ e. let u : f y ≡ true = rw e p in let v : g y ≡ false = rw e q in
    rw (u, v, filter) (ap suc (ap length (filter_agree f g ys (λ z b. h z (inr b) (λ d. let w = rising_low (suc y) z ys r.1 b in omega arith))))))
    (λ e. let t = filter_less f g (suc y) x ys r.1 (rest a e) p q (λ z b. h z (inr b)) in
    by_bool (g y) (λ d. rw (h y (inl refl) e ∙ d, d, filter) (ap suc t)) (λ d. rw (h y (inl refl) e ∙ d, d, filter) t))
  where
    rest : (x ≡ y) ⊎ Among x ys → y ≢ x → Among x ys
    rest (inl d) e = absurd (e (sym d))
    rest (inr b) e = b

-- a leaf that keeps rows is left no more
pub kept_less : (j : Job) (s i g : ℕ) → is_leaf j i ≡ true → (node_of j i).segment ≡ (node_of j g).segment → keeps j i s ≡ true → kept_from j s i g ≡ suc (kept_from j s (suc i) g)
kept_less j s i g a e k = filter_less (λ l. leb i l && keeps j l s) (λ l. leb (suc i) l && keeps j l s) 0 i (leaves_of j g) (leaves_rise j g) (leaf_among j g i a e)
    (and_both (leb i i) (keeps j i s) (le-leb i i (omega arith)) k)
    (rw (lt-leb (suc i) i (omega arith)))
    (λ y b d. by_bool (leb (suc i) y)
    (λ q. rw (q, le-leb i y (let z = leb-true (suc i) y q in omega arith)))
    (λ q. rw (q, lt-leb i y (let z = leb-false (suc i) y q in omega arith))))

-- no member passes a test
pub none_waiting : (f : ℕ → Bool) (xs : List ℕ) → ((x : ℕ) → Among x xs → f x ≡ false) → length (filter f xs) ≡ 0
unfolding filter
none_waiting f [] h = refl
none_waiting f (x ∷ xs) h = rw (h x (inl refl), filter) (none_waiting f xs (λ y a. h y (inr a)))
