-- Which of some pipelines is the next to go: the live one of the least number, and of equal numbers the first. Taken again and again, each as the
-- others then stand, it gives the sequence of `by_number`.
use Rattle.std.specs.Prelude.{◌≡◌, ◌≢◌, ◌&&◌, ℕ, ◌<◌, ◌≤◌, leb, ltb, if◌then◌else◌}
use Rattle.std.proofs.Math.Path.{refl, sym, ap, subst}
use Rattle.std.proofs.Common.{◌∙◌, arith, lt-ltb, le-ltb, ltb-true, ltb-false, leb-true, leb-false}
use Rattle.std.proofs.Math.Bool.{true, false}
use mathlib.Core.List.{List, [], ◌∷◌}
use Rattle.std.proofs.Math.Option.{Option, none, some}
use Rattle.rules.specs.Table.{get, has}
use Rattle.rules.specs.Machine.{Pipeline, no_pipe}
use Rattle.rules.specs.Pipelines.{inserted, by_number}
use Rattle.laws.specs.Table.{by_bool, by_eq, by_list, clash, and_left, and_right}
use Rattle.order.specs.Inv.{Live, Differ, pipe_of}
use Rattle.order.specs.Retires.{has_none, one_has, number_has, number_differ}

abbrev pub number_of : List Pipeline → ℕ → ℕ
number_of P p = (get no_pipe P p).number

-- the second of two where its number is less
abbrev pub better : List Pipeline → Option ℕ → Option ℕ → Option ℕ
better P none o = o
better P (some b) none = some b
better P (some b) (some p) = if ltb (number_of P p) (number_of P b) then some p else some b

pub better_second : (P : List Pipeline) (b p x y : ℕ) → x ≡ number_of P b → y ≡ number_of P p → y < x → some p ≡ better P (some b) (some p)
better_second P b p x y e f h = rw (lt-ltb (number_of P p) (number_of P b) (omega arith))

pub better_first : (P : List Pipeline) (b p x y : ℕ) → x ≡ number_of P b → y ≡ number_of P p → x ≤ y → some b ≡ better P (some b) (some p)
better_first P b p x y e f h = rw (le-ltb (number_of P p) (number_of P b) (omega arith))

-- a place, where a pipeline lives there
abbrev pub living : List Pipeline → ℕ → Option ℕ
living P p = if (get no_pipe P p).live then some p else none

-- the next to go of the one found so far and some more places
unfoldable pub lowest : List Pipeline → Option ℕ → List ℕ → Option ℕ
lowest P best [] = best
lowest P best (p ∷ ps) = lowest P (better P best (living P p)) ps

-- Laws of the better one

pub better_none : (P : List Pipeline) (o : Option ℕ) → better P o none ≡ o
better_none P none = refl
better_none P (some b) = refl

three : (P : List Pipeline) (x y z : ℕ) → better P (better P (some x) (some y)) (some z) ≡ better P (some x) (better P (some y) (some z))
three P x y z = by_bool (ltb (number_of P y) (number_of P x))
    (λ e. by_bool (ltb (number_of P z) (number_of P y))
    (λ d. rw (
      e,
      d,
      lt-ltb (number_of P z) (number_of P x)
          (omega (arith, ltb-true (number_of P y) (number_of P x) e, ltb-true (number_of P z) (number_of P y) d)),
    ))
    (λ d. rw (e, d, e)))
    (λ e. by_bool (ltb (number_of P z) (number_of P y))
    (λ d. rw (e, d))
    (λ d. rw (
      e,
      d,
      e,
      le-ltb (number_of P z) (number_of P x)
          (omega (arith, ltb-false (number_of P y) (number_of P x) e, ltb-false (number_of P z) (number_of P y) d)),
    )))

better_then : (P : List Pipeline) (a b c : Option ℕ) → better P (better P a b) c ≡ better P a (better P b c)
better_then P none b c = refl
better_then P (some x) none c = refl
better_then P (some x) (some y) none = better_none P (better P (some x) (some y))
better_then P (some x) (some y) (some z) = three P x y z

-- The first of those in sequence

abbrev first : List ℕ → Option ℕ
first [] = none
first (x ∷ xs) = some x

first_inserted : (P : List Pipeline) (p : ℕ) (l : List ℕ) → first (inserted P p l) ≡ better P (some p) (first l)
unfolding inserted
first_inserted P p [] = refl
first_inserted P p (q ∷ qs) = by_bool (leb (number_of P p) (number_of P q))
    (λ e. rw (e, inserted, le-ltb (number_of P q) (number_of P p) (leb-true (number_of P p) (number_of P q) e)))
    (λ e. rw (e, inserted, lt-ltb (number_of P q) (number_of P p) (leb-false (number_of P p) (number_of P q) e)))

lowest_first : (P : List Pipeline) (best : Option ℕ) (ps : List ℕ) → lowest P best ps ≡ better P best (first (by_number P ps))
unfolding lowest by_number
lowest_first P best [] = sym (better_none P best)
lowest_first P best (p ∷ ps) = by_bool (get no_pipe P p).live
    (λ e. rw (e, by_number, first_inserted P p (by_number P ps))
    (lowest_first P (better P best (some p)) ps ∙ better_then P best (some p) (first (by_number P ps))))
    (λ e. rw (e, by_number, better_none P best) (lowest_first P best ps))

-- nobody is left
pub lowest_none : (P : List Pipeline) (ps : List ℕ) → lowest P none ps ≡ none → by_number P ps ≡ []
lowest_none P ps e = by_list (by_number P ps) (λ d. d) (λ p l d. clash (cc (lowest_first P none ps, ap first d, e)))

-- One went, and the others stand as they stood

module _ (P P' : List Pipeline) (p : ℕ) (dead : (get no_pipe P' p).live ≡ false) (off : (q : ℕ) → q ≢ p → get no_pipe P' q ≡ get no_pipe P q) where
  inserted_off : (q : ℕ) (l : List ℕ) → q ≢ p → has p l ≡ false → inserted P' q l ≡ inserted P q l
  unfolding inserted has
  inserted_off q [] n h = refl
  inserted_off q (r ∷ rs) n h =
      let d = has_none p r rs h in
      let k : get no_pipe P' r ≡ get no_pipe P r = off r (λ i. d.0 (sym i)) in
      by_bool (leb (number_of P q) (number_of P r))
      (λ e. rw (off q n, k, e, inserted))
      (λ e. rw (off q n, k, e, inserted, inserted_off q rs n d.1))

  none_in : (ps : List ℕ) → has p ps ≡ false → has p (by_number P ps) ≡ false
  none_in ps h = number_has P p ps ∙ rw h

  number_off : (ps : List ℕ) → has p ps ≡ false → by_number P' ps ≡ by_number P ps
  unfolding by_number has
  number_off [] h = refl
  number_off (q ∷ qs) h =
      let d = has_none p q qs h in
      let n : q ≢ p = λ i. d.0 (sym i) in
      by_bool (get no_pipe P q).live
      (λ e. rw (off q n, e, by_number, number_off qs d.1) (inserted_off q (by_number P qs) n (none_in qs d.1)))
      (λ e. rw (off q n, e, by_number) (number_off qs d.1))

  -- the places behind one that goes first
  gone_first : (q : ℕ) (qs : List ℕ) → q ≡ p → has q qs ≡ false → by_number P qs ≡ by_number P' (q ∷ qs)
  unfolding by_number
  gone_first q qs e h = let d : (get no_pipe P' q).live ≡ false = rw e dead in rw (d, by_number) (sym (number_off qs (rw e at h)))

  number_rest : (ps rest : List ℕ) → Differ ps → by_number P ps ≡ p ∷ rest → rest ≡ by_number P' ps
  unfolding by_number inserted has
  number_rest [] rest u e = clash (cc)
  number_rest (q ∷ qs) rest u e = by_bool (get no_pipe P q).live
      (λ l. by_list (by_number P qs)
      (λ d. let f : q ∷ [] ≡ p ∷ rest = rw (l, by_number, d) at e in
      let i : q ≡ p = cc in let k : rest ≡ [] = cc in k ∙ sym d ∙ gone_first q qs i u.0)
      (λ r rs d. by_bool (leb (number_of P q) (number_of P r))
      (λ b. let f : q ∷ r ∷ rs ≡ p ∷ rest = rw (l, by_number, d, b, inserted) at e in
      let i : q ≡ p = cc in let k : rest ≡ r ∷ rs = cc in k ∙ sym d ∙ gone_first q qs i u.0)
      (λ b. let f : r ∷ inserted P q rs ≡ p ∷ rest = rw (l, by_number, d, b, inserted) at e in
      let i : r ≡ p = cc in
      let k : rest ≡ inserted P q rs = cc in
      let c : by_number P qs ≡ p ∷ rs = d ∙ ap (λ (x : ℕ). x ∷ rs) i in
      let w : Differ (p ∷ rs) = subst (λ (t : List ℕ). Differ t) c (number_differ P qs u.1) in
      let n : q ≢ p = λ j. clash (cc (u.0, j, and_left (has p qs) (pipe_of P p).live (sym (number_has P p qs) ∙ ap (has p) c ∙ one_has p rs))) in
      let o : (get no_pipe P' q).live ≡ true = ap (λ (x : Pipeline). x.live) (off q n) ∙ l in
      k ∙ sym (inserted_off q rs n w.0) ∙ rw (o, by_number) (ap (inserted P' q) (number_rest qs rs u.1 c)))))
      (λ l. let f : by_number P qs ≡ p ∷ rest = rw (l, by_number) at e in
      let o : (get no_pipe P' q).live ≡ false = by_eq q p (λ j. rw j dead) (λ j. ap (λ (x : Pipeline). x.live) (off q j) ∙ l) in
      rw (o, by_number) (number_rest qs rest u.1 f))

  -- the next to go, then the others
  pub lowest_some : (ps : List ℕ) → Differ ps → lowest P none ps ≡ some p → by_number P ps ≡ p ∷ by_number P' ps
  lowest_some ps u e = by_list (by_number P ps)
      (λ d. clash (cc (lowest_first P none ps, ap first d, e)))
      (λ q l d.
      let i : q ≡ p = cc (lowest_first P none ps, ap first d, e) in
      let c : by_number P ps ≡ p ∷ l = d ∙ ap (λ (x : ℕ). x ∷ l) i in
      c ∙ ap (λ (t : List ℕ). p ∷ t) (number_rest ps l u c))

-- it is one of the places, and lives
pub lowest_lives : (P : List Pipeline) (ps : List ℕ) (p : ℕ) → lowest P none ps ≡ some p → (has p ps ≡ true) × Live P p
lowest_lives P ps p e = by_list (by_number P ps)
    (λ d. clash (cc (lowest_first P none ps, ap first d, e)))
    (λ q l d.
    let i : q ≡ p = cc (lowest_first P none ps, ap first d, e) in
    let h : has p ps && (pipe_of P p).live ≡ true = sym (number_has P p ps) ∙ ap (has p) d ∙ rw i (one_has p l) in
    (and_left (has p ps) (pipe_of P p).live h, and_right (has p ps) (pipe_of P p).live h))
