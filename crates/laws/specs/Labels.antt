-- A record that is read: it does to the draft what a record of a stored job does, or leaves it, where a join stands for its one child. So what is
-- known of stored jobs is known of those that are read. And the labels: a number for each node, rising, below the number of node records.
use Rattle.std.specs.Prelude.{◌≡◌, refl, ◌⊎◌, Bool, true, false, ◌&&◌, ℕ, suc, ◌≤◌, length, leb, ltb, if◌then◌else◌}
use Rattle.std.proofs.Common.{ap, ◌∙◌, subst, inl, inr, arith, le-leb, lt-ltb, leb-true, leb-false}
use mathlib.Core.List.{List, [], ◌∷◌, reverse, reverse_aux}
use Rattle.std.proofs.Math.Dec.{eqb}
use Rattle.std.proofs.lemmas.Bool.{lt-leb}
use Rattle.rules.specs.Job.{Kind, Draft, Reading, Outcome, refused_by, accepted, Record, slots, leaf, join, split, set_parents}
use Rattle.rules.specs.Job.{max_nodes, join_runs, join_causes, new_join, accept_slots, accept_leaf, accept_join, restore_join, accept_split, goes_on, grows}
use Rattle.rules.specs.Job.{stands_for, read_as, accept, restore}
use Rattle.rules.specs.Check.{labels_from, labels_ok}
use Rattle.laws.specs.Table.{clash, and_left}
use Rattle.laws.specs.Rising.{Falling, falling_weak}
use Rattle.laws.specs.More.{grown}
use Rattle.laws.specs.Draft.{DraftOk, RecordOk, unless_passed, passed_unless, restore_ok}
use Rattle.laws.specs.Meeting.{split_restored}

pub record ReadingOk (x : Reading) : Type 0 where
  pub draft : DraftOk x.draft
  pub size : length x.labels ≡ length x.draft.nodes
  pub falls : Falling x.count x.labels
  pub most : x.count ≤ max_nodes

-- Labels

falling_length : (b : ℕ) (l : List ℕ) → Falling b l → length l ≤ b
falling_length b [] h = omega arith
falling_length b (n ∷ l) h = omega (arith, falling_length n l h.1, h.0)

-- there are no more nodes than node records
pub fewer : (x : Reading) → ReadingOk x → length x.draft.nodes ≤ x.count
fewer x v = omega (arith, v.size, falling_length x.count x.labels v.falls)

from_lower : (a b : ℕ) (l : List ℕ) → a ≤ b → labels_from b l ≡ true → labels_from a l ≡ true
unfolding labels_from
from_lower a b [] h e = refl
from_lower a b (n ∷ l) h e =
    let f : leb b n ≡ true = and_left (leb b n) (ltb n max_nodes) (and_left (leb b n && ltb n max_nodes) (labels_from (suc n) l) e) in
    rw (le-leb a n (omega (arith, h, leb-true b n f))) (rw f at e)

falling_onto : (b : ℕ) (l r : List ℕ) → Falling b l → b ≤ max_nodes → labels_from b r ≡ true → labels_from 0 (reverse_aux l r) ≡ true
unfolding labels_from
falling_onto b [] r f h e = from_lower 0 b r (omega arith) e
falling_onto b (n ∷ l) r f h e =
    falling_onto n l (n ∷ r) f.1 (omega (arith, f.0, h))
    (rw (le-leb n n (omega arith), lt-ltb n max_nodes (omega (arith, f.0, h))) (from_lower (suc n) b r (omega (arith, f.0)) e))

-- those that fall, turned round, pass their check
pub falling_pass : (b : ℕ) (l : List ℕ) → Falling b l → b ≤ max_nodes → labels_ok (reverse l) ≡ true
unfolding labels_from
falling_pass b l f h = falling_onto b l [] f h refl

-- Records

-- what is read was accepted
pub read_passed : (f : Draft → Reading) (o : Outcome Draft) (y : Reading) → read_as f o ≡ accepted y → (e : Draft) × (o ≡ accepted e) × (f e ≡ y)
read_passed f (refused_by r) y h = clash (cc)
read_passed f (accepted d) y h = (d, refl, cc)

-- fewer nodes than node records are not too many
leaf_again : (count g n : ℕ) (d e : Draft) → length d.nodes ≤ count → accept_leaf count g n d ≡ accepted e
    → accept_leaf (length d.nodes) g n d ≡ accepted e
leaf_again count g n d e b h =
    let r = unless_passed _ _ e h in
    let few = lt-leb max_nodes (length d.nodes) (omega (arith, b, leb-false max_nodes count r.0.1.0)) in
    passed_unless _ _ (r.0.0, (few, r.0.1.1)) ∙ ap (λ (y : Draft). accepted y) r.1

join_again : (count : ℕ) (k : Kind) (n : ℕ) (d e : Draft) → length d.nodes ≤ count → accept_join count k n d ≡ accepted e → eqb n 1 ≡ false
    → restore_join k n d ≡ accepted e
join_again count k n d e b h o =
    let r = unless_passed _ _ e h in
    let few = lt-leb max_nodes (length d.nodes) (omega (arith, b, leb-false max_nodes count r.0.1.0)) in
    let p = r.0.1.1 in
    passed_unless (join_causes (length d.nodes) k n d ((12, eqb n 1) ∷ [])) (new_join k n d)
    (r.0.0, (few, (p.0, (p.1.0, (p.1.1.0, (p.1.1.1.0, (o, tt))))))) ∙ ap (λ (y : Draft). accepted y) r.1

-- what a record does to the draft
abbrev pub Does : Reading → Reading → Type 0
Does x y = (y.draft ≡ x.draft) ⊎ ((t : Record) × RecordOk t × (restore t x.draft ≡ accepted y.draft))

pub record Read (x y : Reading) : Type 0 where
  pub ok : ReadingOk y
  pub does : Does x y

module _ (x : Reading) (v : ReadingOk x) where
  -- no node comes
  goes : (t : Record) (e : Draft) → RecordOk t → restore t x.draft ≡ accepted e → e.nodes ≡ x.draft.nodes → Read x (goes_on x e)
  goes t e o q s = record {
    ok = record { draft = restore_ok t x.draft e o v.draft q; size = rw s v.size; falls = v.falls; most = v.most };
    does = inr (t, o, q);
  }

  -- a node comes
  comes : (t : Record) (e : Draft) → RecordOk t → restore t x.draft ≡ accepted e → leb max_nodes x.count ≡ false
      → length e.nodes ≡ suc (length x.draft.nodes) → Read x (grows x e)
  comes t e o q b s = record {
    ok = record {
      draft = restore_ok t x.draft e o v.draft q;
      size = omega (arith, v.size, s);
      falls = (omega arith, v.falls);
      most = omega (arith, leb-false max_nodes x.count b);
    };
    does = inr (t, o, q);
  }

  -- a join stands for its child
  stands : (e : Draft) → leb max_nodes x.count ≡ false → Read x (stands_for x e)
  stands e b = record {
    ok = record {
      draft = v.draft;
      size = v.size;
      falls = falling_weak x.count (suc x.count) x.labels (omega arith) v.falls;
      most = omega (arith, leb-false max_nodes x.count b);
    };
    does = inl refl;
  }

  read_leaf : (g n : ℕ) (y : Reading) → RecordOk (leaf g n) → accept (leaf g n) x ≡ accepted y → Read x y
  unfolding accept restore set_parents
  read_leaf g n y o h =
      let t = read_passed (grows x) (accept_leaf x.count g n x.draft) y h in
      let r = unless_passed _ _ t.0 t.1 in
      let q = leaf_again x.count g n x.draft t.0 (fewer x v) t.1 in
      rw (← t.2) (comes (leaf g n) t.0 o q r.0.1.0 (rw (← r.1) (grown x.draft v.draft.free 0 _).size))

  -- one child, or not
  by_one : (b : Bool) (y : Reading) (e : Draft) → (if b then stands_for x else grows x) e ≡ y → Read x (stands_for x e) → (b ≡ false → Read x (grows x e))
      → Read x y
  by_one true y e h s g = subst (Read x) h s
  by_one false y e h s g = subst (Read x) h (g refl)

  read_join : (k : Kind) (n : ℕ) (y : Reading) → RecordOk (join k n) → accept (join k n) x ≡ accepted y → Read x y
  unfolding accept restore
  read_join k n y o h =
      let t = read_passed (if eqb n 1 then stands_for x else grows x) (accept_join x.count k n x.draft) y h in
      let r = unless_passed _ _ t.0 t.1 in
      by_one (eqb n 1) y t.0 t.2 (stands t.0 r.0.1.0)
      (λ b.
      let q = join_again x.count k n x.draft t.0 (fewer x v) t.1 b in
      comes (join k n) t.0 o q r.0.1.0 (rw (← r.1) (grown x.draft v.draft.free n _).size))

  -- an accepted record does what a restored one does, or leaves the draft
  pub accept_reads : (r : Record) (y : Reading) → RecordOk r → accept r x ≡ accepted y → Read x y
  unfolding accept restore
  accept_reads (slots n) y o h =
      let t = read_passed (goes_on x) (accept_slots n x.draft) y h in
      rw (← t.2) (goes (slots n) t.0 tt t.1 (rw (← (unless_passed _ _ t.0 t.1).1) refl))
  accept_reads (leaf g n) y o h = read_leaf g n y o h
  accept_reads (join k n) y o h = read_join k n y o h
  accept_reads (split a b rs) y o h =
      let t = read_passed (goes_on x) (accept_split a b rs x.draft) y h in
      let q = split_restored a b rs x.draft t.0 t.1 in
      rw (← t.2) (goes (split a b (join_runs rs)) t.0 tt q (rw (← (unless_passed _ _ t.0 q).1) refl))
