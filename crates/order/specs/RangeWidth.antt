-- The widths of a node and of the children that feed it.
use Rattle.std.specs.Prelude.{◌≡◌, refl, ◌≢◌, true, false, not, List, [], ◌∷◌, map, ℕ, suc, ◌<◌, ◌≤◌, length, eqb}
use Rattle.std.proofs.Common.{sym, ◌∙◌, arith, eqb-true}
use Rattle.std.proofs.Math.Option.{some}
use Rattle.std.proofs.lemmas.Bool.{not-false}
use Rattle.rules.specs.Table.{has, any, sum_of}
use Rattle.rules.specs.Job.{Kind, Node, Job, node_at, kids, is_segment, is_pack, width_of, unequal, segment as aSegment, concat as aConcat, pack as aPack}
use Rattle.rules.specs.Plan.{node_of}
use Rattle.rules.specs.Machine.{node_at_place, slot_at_place}
use Rattle.rules.specs.Check.{is_concat}
use Rattle.laws.specs.Table.{by_eq, clash, or_left, or_right}
use Rattle.laws.specs.JobOk.{JobOk, Joined}
use Rattle.laws.specs.Rows.{All}
use Rattle.laws.specs.Rising.{Rising, rising_from, has_head, has_tail, has_nil}
use Rattle.laws.specs.Kids.{kids_has, kids_rise, some_is}
use Rattle.laws.specs.KidRows.{sum_map}
use Rattle.order.specs.RangeParts.{Fed}

-- Sums over some members of a rising list

sub_sum : (f : ℕ → ℕ) (a : ℕ) (ys ks : List ℕ) → Rising a ys → Rising a ks → ((i : ℕ) → has i ys ≡ true → has i ks ≡ true) → sum_of f ys ≤ sum_of f ks
unfolding sum_of
sub_sum f a [] ks r s h = omega arith
sub_sum f a (y ∷ ys) [] r s h = clash (cc (h y (has_head y ys), has_nil y))
sub_sum f a (y ∷ ys) (k ∷ ks) r s h = by_eq y k
    (λ e. let c = sub_sum f (suc k) ys ks (rw e at r.1) s.1 (λ i q. sym (has_tail i k ks (above i q e)) ∙ h i (has_tail i y ys (over i q) ∙ q)) in rw e (omega (arith, c)))
    (λ d.
    let l : suc k ≤ y = rising_from (suc k) ks y s.1 (sym (has_tail y k ks d) ∙ h y (has_head y ys)) in
    let c = sub_sum f (suc k) (y ∷ ys) ks (l, r.1) s.1 (λ i q. sym (has_tail i k ks (beyond i q l)) ∙ h i q) in
    omega (arith, c))
  where
    over : (i : ℕ) → has i ys ≡ true → i ≢ y
    over i q e = omega (arith, rising_from (suc y) ys i r.1 q)

    above : (i : ℕ) → has i ys ≡ true → y ≡ k → i ≢ k
    above i q e d = omega (arith, rising_from (suc y) ys i r.1 q)

    beyond : (i : ℕ) → has i (y ∷ ys) ≡ true → suc k ≤ y → i ≢ k
    beyond i q l e = omega (arith, rising_from y (y ∷ ys) i (omega arith, r.1) q)

sum_nodes : (ns : List Node) (ks : List ℕ) → sum_of (λ (y : Node). y.width) (map (node_at ns) ks) ≡ sum_of (λ k. (node_at ns k).width) ks
unfolding sum_of
sum_nodes ns [] = refl
sum_nodes ns (k ∷ ks) = rw (sum_nodes ns ks)

-- The nodes that feed a pipeline

module _ (j : Job) (p : ℕ) where
  fed_above : (x : ℕ) (xs : List ℕ) → slot_at_place x ≡ slot_at_place p → All (λ y. x < y) xs → Fed j p xs → All (λ y. node_at_place x < node_at_place y) xs
  fed_above x [] e a f = tt
  fed_above x (y ∷ ys) e a f = (omega (arith, e, a.0, f.0), fed_above x ys e a.1 f.3)

  fed_rise : (a : ℕ) (xs : List ℕ) → All (λ y. a ≤ node_at_place y) xs → Fed j p xs → Rising a (map node_at_place xs)
  fed_rise a [] h f = tt
  fed_rise a (x ∷ xs) h f = (h.0, fed_rise (suc (node_at_place x)) xs (fed_above x xs f.0 f.2 f.3) f.3)

  fed_all : (xs : List ℕ) → All (λ y. 0 ≤ node_at_place y) xs
  fed_all [] = tt
  fed_all (x ∷ xs) = (omega arith, fed_all xs)

  fed_kid : (xs : List ℕ) (i : ℕ) → Fed j p xs → has i (map node_at_place xs) ≡ true → (node_of j i).parent ≡ some (node_at_place p)
  fed_kid [] i f e = clash (cc (has_nil i))
  fed_kid (x ∷ xs) i f e = by_eq i (node_at_place x) (λ d. rw d f.1) (λ d. fed_kid xs i f.3 (sym (has_tail i (node_at_place x) (map node_at_place xs) d) ∙ e))

  fed_sum : (xs : List ℕ) → Fed j p xs → sum_of (λ x. (node_of j (node_at_place x)).width) xs ≤ sum_of (λ k. (node_of j k).width) (kids j.nodes (node_at_place p))
  fed_sum xs f =
      let s = sub_sum (λ k. (node_of j k).width) 0 (map node_at_place xs) (kids j.nodes (node_at_place p)) (fed_rise 0 xs (fed_all xs) f) (kids_rise 0 (node_at_place p) j.nodes)
      (λ i e. kids_has j.nodes (node_at_place p) i ∙ some_is (node_at_place p) (node_of j i).parent (fed_kid xs i f e)) in
      omega (arith, sum_map (λ k. (node_of j k).width) node_at_place xs, s)

-- Widths

pack_kind : (k : Kind) → is_pack k ≡ true → k ≡ aPack
pack_kind aSegment e = clash (cc)
pack_kind aConcat e = clash (cc)
pack_kind aPack e = refl

concat_kind : (k : Kind) → is_concat k ≡ true → k ≡ aConcat
concat_kind aSegment e = clash (cc)
concat_kind aConcat e = refl
concat_kind aPack e = clash (cc)

inner_width : (j : Job) (n : ℕ) → JobOk j → n < length j.nodes → (k : Kind) → (node_of j n).kind ≡ k → is_segment k ≡ false → Joined j.nodes n
inner_width j n ok h k e s = ok.joined n h (rw e s)

pack_sum : (xs : List Node) → width_of aPack xs ≡ sum_of (λ (y : Node). y.width) xs
unfolding width_of sum_of
pack_sum [] = refl
pack_sum (x ∷ xs) = refl

-- the children that feed a pack have no more columns than it
pub pack_width : (j : Job) (p : ℕ) (xs : List ℕ) → JobOk j → node_at_place p < length j.nodes → is_pack (node_of j (node_at_place p)).kind ≡ true → Fed j p xs
    → sum_of (λ x. (node_of j (node_at_place x)).width) xs ≤ (node_of j (node_at_place p)).width
pack_width j p xs ok h k f =
    let n = node_at_place p in
    let e = pack_kind (node_of j n).kind k in
    let w = (inner_width j n ok h aPack e refl).width in
    let s = pack_sum (map (node_at j.nodes) (kids j.nodes n)) in
    omega (arith, fed_sum j p xs f, rw e at w, s, sum_nodes j.nodes (kids j.nodes n))

any_width : (w : ℕ) (ns : List Node) (cs : List ℕ) (c : ℕ) → any (λ (y : Node). not (eqb y.width w)) (map (node_at ns) cs) ≡ false → has c cs ≡ true → (node_at ns c).width ≡ w
unfolding any
any_width w ns [] c e h = clash (cc (has_nil c))
any_width w ns (x ∷ cs) c e h =
    let rest = any (λ (y : Node). not (eqb y.width w)) (map (node_at ns) cs) in
    let t = not (eqb (node_at ns x).width w) in
    by_eq c x (λ d. rw d (eqb-true (node_at ns x).width w (not-false (eqb (node_at ns x).width w) (or_left t rest e))))
    (λ d. any_width w ns cs c (or_right t rest e) (sym (has_tail c x cs d) ∙ h))

-- children of a concat have its width
concat_each : (ns : List Node) (w : ℕ) (cs : List ℕ) (c : ℕ) → w ≡ width_of aConcat (map (node_at ns) cs) → unequal aConcat (map (node_at ns) cs) ≡ false → has c cs ≡ true → (node_at ns c).width ≡ w
unfolding width_of unequal
concat_each ns w [] c e u h = clash (cc (has_nil c))
concat_each ns w (x ∷ cs) c e u h = by_eq c x (λ d. rw d (sym e)) (λ d. any_width (node_at ns x).width ns cs c u (sym (has_tail c x cs d) ∙ h) ∙ sym e)

-- a concat has the width of each of its children
pub concat_width : (j : Job) (n c : ℕ) → JobOk j → n < length j.nodes → is_concat (node_of j n).kind ≡ true → (node_of j c).parent ≡ some n → (node_of j c).width ≡ (node_of j n).width
concat_width j n c ok h k e =
    let q = concat_kind (node_of j n).kind k in
    let r = inner_width j n ok h aConcat q refl in
    concat_each j.nodes (node_of j n).width (kids j.nodes n) c (rw q at r.width) (rw q at r.equal) (kids_has j.nodes n c ∙ some_is n (node_of j c).parent e)
