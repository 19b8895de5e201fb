-- The children of a node that keep rows, node after node.
use Rattle.std.specs.Prelude.{◌≡◌, refl, Bool, true, ◌&&◌, List, [], ◌∷◌, ◌++◌, map, ℕ, suc, ◌+◌, ◌≤◌, ◌<◌, length, take, set, if◌then◌else◌}
use Rattle.std.proofs.Common.{sym, ◌∙◌, append-nil, arith, length-append, take-suc-set, add-one}
use Rattle.std.proofs.Math.Path.{ap}
use Rattle.std.proofs.Math.Bool.{false}
use Rattle.std.proofs.lemmas.List.{map-append, length-map}
use Rattle.std.proofs.Math.Option.{some}
use Rattle.rules.specs.Table.{filter, up_from, is_some}
use Rattle.rules.specs.Job.{Node, Job, no_node, node_at, kids_from}
use Rattle.rules.specs.Plan.{node_of, keeps, kept_kids}
use Rattle.rules.specs.Machine.{place}
use Rattle.laws.specs.Table.{by_bool, get_past}
use Rattle.laws.specs.Rows.{All}
use Rattle.laws.specs.JobOk.{JobOk}
use Rattle.laws.specs.Kids.{is_some_lem}
use Rattle.laws.specs.Again.{up_more}
use Rattle.laws.specs.KidPlaces.{All-map}
use Rattle.order.specs.Each.{All-image}
use Rattle.order.specs.RangingJoin.{kids_in}
use Rattle.claims.specs.Lists.{filter_yes, filter_no, filter_append, none_up, up_append}

-- node c is a child of node n, and keeps rows of split t
abbrev pub kept_kid : Job → ℕ → ℕ → ℕ → Bool
kept_kid j n t c = is_some n (node_of j c).parent && keeps j c t

-- its port in slot k, if it is one
abbrev pub kid_port : ℕ → Bool → ℕ → List ℕ
kid_port k b c = if b then place k c ∷ [] else []

-- Children as numbers in a row

kids_filter : (f : ℕ → Bool) (i q : ℕ) (ns : List Node) → ((k : ℕ) → f (i + k) ≡ is_some q (node_at ns k).parent) →
    kids_from i q ns ≡ filter f (up_from i (length ns))
unfolding kids_from filter up_from
kids_filter f i q [] h = refl
kids_filter f i q (x ∷ xs) h =
    let z : i + 0 ≡ i = omega arith in
    let e : f i ≡ is_some q x.parent = rw z at (h 0) in
    let ih = kids_filter f (suc i) q xs (λ k. let s : suc i + k ≡ i + suc k = omega arith in rw s (h (suc k))) in
    by_bool (is_some q x.parent)
    (λ d. rw (d, kids_from, filter_yes f i (up_from (suc i) (length xs)) (e ∙ d), ih))
    (λ d. rw (d, kids_from, filter_no f i (up_from (suc i) (length xs)) (e ∙ d)) ih)

two_tests : (f g : ℕ → Bool) (xs : List ℕ) → filter g (filter f xs) ≡ filter (λ x. f x && g x) xs
unfolding filter
two_tests f g [] = refl
two_tests f g (x ∷ xs) = by_bool (f x)
    (λ e. by_bool (g x)
    (λ d. rw (filter_yes f x xs e, filter_yes g x (filter f xs) d, filter_yes (λ y. f y && g y) x xs (rw (e, d) refl), two_tests f g xs))
    (λ d. rw (filter_yes f x xs e, filter_no g x (filter f xs) d, filter_no (λ y. f y && g y) x xs (rw (e, d) refl)) (two_tests f g xs)))
    (λ e. rw (filter_no f x xs e, filter_no (λ y. f y && g y) x xs (rw e refl)) (two_tests f g xs))

-- none passes from a on
more_none : (f : ℕ → Bool) (a d : ℕ) → ((c : ℕ) → a ≤ c → f c ≡ false) → filter f (up_from 0 (a + d)) ≡ filter f (up_from 0 a)
more_none f a d h =
    let z : 0 + a ≡ a = omega arith in
    ap (filter f) (sym (up_append 0 a d)) ∙ filter_append f (up_from 0 a) (up_from (0 + a) d)
    ∙ ap (λ (t : List ℕ). filter f (up_from 0 a) ++ t) (none_up f (0 + a) d (λ c l u. h c (omega arith)))
    ∙ append-nil (filter f (up_from 0 a))

same_below : (f : ℕ → Bool) (a b : ℕ) → ((c : ℕ) → a ≤ c → f c ≡ false) → ((c : ℕ) → b ≤ c → f c ≡ false) → filter f (up_from 0 a) ≡ filter f (up_from 0 b)
same_below f a b h g =
    let e : a + b ≡ b + a = omega arith in
    sym (more_none f a b h) ∙ ap (λ (k : ℕ). filter f (up_from 0 k)) e ∙ more_none f b a g

-- a child stands before its parent
module _ (j : Job) (ok : JobOk j) (n t : ℕ) where
  late : (c : ℕ) → n ≤ c → kept_kid j n t c ≡ false
  unfolding is_some
  late c h = by_bool (is_some n (node_of j c).parent) (λ e. absurd (omega (arith, (ok.up c n (is_some_lem n (node_of j c).parent e)).0))) (λ e. rw e)

  past : (c : ℕ) → length j.nodes ≤ c → kept_kid j n t c ≡ false
  unfolding is_some
  past c h = let e : is_some n (node_of j c).parent ≡ false = ap (λ (x : Node). is_some n x.parent) (get_past no_node j.nodes c h) in rw e

  pub kids_are : kept_kids j n t ≡ filter (kept_kid j n t) (up_from 0 n)
  kids_are =
      ap (filter (λ c. keeps j c t)) (kids_filter (λ c. is_some n (node_of j c).parent) 0 n j.nodes (λ k. let z : 0 + k ≡ k = omega arith in rw z refl))
      ∙ two_tests (λ c. is_some n (node_of j c).parent) (λ c. keeps j c t) (up_from 0 (length j.nodes))
      ∙ same_below (kept_kid j n t) (length j.nodes) n past late

  -- their places
  pub kids_low : (k : ℕ) → k < 3 → All (λ x. x < 96) (map (place k) (kept_kids j n t))
  kids_low k h = All-image (λ x. x < 96) (place k) (kept_kids j n t) (All-map (λ c. (c < length j.nodes) × (c < 24) × ((node_of j c).parent ≡ some n))
      (λ c. place k c < 96) (λ c u. omega (arith, u.1)) (kept_kids j n t) (kids_in j ok n t))

-- The loop

-- the ports of the children before node c
abbrev pub ports_to : Job → ℕ → ℕ → ℕ → ℕ → List ℕ
ports_to j k t n c = map (place k) (filter (kept_kid j n t) (up_from 0 c))

one_more : (f : ℕ → Bool) (c : ℕ) → filter f (up_from 0 (suc c)) ≡ filter f (up_from 0 c) ++ (if f c then c ∷ [] else [])
unfolding filter
one_more f c =
    let z : 0 + c ≡ c = omega arith in
    rw (up_more 0 c, z, filter_append f (up_from 0 c) (c ∷ [])) (by_bool (f c) (λ e. rw (filter_yes f c [] e, e)) (λ e. rw (filter_no f c [] e, e)))

port_is : (k : ℕ) (b : Bool) (c : ℕ) → map (place k) (if b then c ∷ [] else []) ≡ kid_port k b c
port_is k true c = refl
port_is k false c = refl

ports_more : (j : Job) (k t n c : ℕ) → ports_to j k t n (c + 1) ≡ ports_to j k t n c ++ kid_port k (kept_kid j n t c) c
ports_more j k t n c =
    rw (add-one c)
    (ap (map (place k)) (one_more (kept_kid j n t) c)
    ∙ map-append (place k) (filter (kept_kid j n t) (up_from 0 c)) (if kept_kid j n t c then c ∷ [] else [])
    ∙ ap (λ (y : List ℕ). ports_to j k t n c ++ y) (port_is k (kept_kid j n t c) c))

-- at most one for each node
port_few : (k : ℕ) (b : Bool) (c : ℕ) → length (kid_port k b c) ≤ 1
port_few k true c = omega arith
port_few k false c = omega arith

-- one more in the table
pub inlet_more : (ps : List ℕ) (n x : ℕ) → n < length ps → take (n + 1) (set ps n x) ≡ take n ps ++ x ∷ []
inlet_more ps n x h = rw (add-one n) (take-suc-set ps n x h)

-- a child, or none
pub with_yes : (k c x r l : ℕ) (a b : Bool) (xs ys : List ℕ) → b ≡ a → b ≡ true → x ≡ place k c → ys ≡ xs ++ x ∷ [] → r ≡ l + 1
    → (ys ≡ xs ++ kid_port k a c) × (r ≡ l + length (kid_port k a c))
with_yes k c x r l a b xs ys e h p q u = let d : a ≡ true = sym e ∙ h in rw (d, q, p, u) (refl, refl)

pub with_no : (k c l : ℕ) (a b : Bool) (xs : List ℕ) → b ≡ a → b ≡ false → (xs ≡ xs ++ kid_port k a c) × (l ≡ l + length (kid_port k a c))
with_no k c l a b xs e h = let d : a ≡ false = sym e ∙ h in rw d (sym (append-nil xs), omega arith)

-- the ports of the children before node c are listed
abbrev pub Listed : Job → ℕ → ℕ → ℕ → ℕ → ℕ → List ℕ → Type 0
Listed j k t n c l xs = (l ≤ c) × (l ≡ length (ports_to j k t n c)) × (xs ≡ ports_to j k t n c)

pub listed_none : (j : Job) (k t n : ℕ) → Listed j k t n 0 0 []
unfolding filter up_from
listed_none j k t n = (omega arith, refl, refl)

pub listed_next : (j : Job) (k t n c l r : ℕ) (xs ys : List ℕ) → ys ≡ xs ++ kid_port k (kept_kid j n t c) c → r ≡ l + length (kid_port k (kept_kid j n t c) c) →
    Listed j k t n c l xs → Listed j k t n (c + 1) r ys
listed_next j k t n c l r xs ys e f d =
    let p : List ℕ = kid_port k (kept_kid j n t c) c in
    let m : ports_to j k t n (c + 1) ≡ ports_to j k t n c ++ p = ports_more j k t n c in (
      omega (arith, f, d.0, port_few k (kept_kid j n t c) c),
      f ∙ ap (λ (a : ℕ). a + length p) d.1
          ∙ sym (ap length m ∙ length-append (ports_to j k t n c) p),
      e ∙ ap (λ (a : List ℕ). a ++ p) d.2 ∙ sym m,
    )

pub listed_all : (j : Job) (k t n c l : ℕ) (xs : List ℕ) → JobOk j → n < 24 → c ≤ n → n ≤ c → Listed j k t n c l xs
    → (xs ≡ map (place k) (kept_kids j n t)) × (l ≡ length (kept_kids j n t)) × (l ≤ 23)
listed_all j k t n c l xs ok h a b d =
    let e : c ≡ n = omega arith in
    let m : ports_to j k t n c ≡ map (place k) (kept_kids j n t) = rw e (sym (ap (map (place k)) (kids_are j ok n t))) in
    (d.2 ∙ m, d.1 ∙ ap length m ∙ length-map (kept_kids j n t) (place k), omega (arith, d.0))
