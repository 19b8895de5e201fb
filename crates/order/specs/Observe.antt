-- A pack looks at its inlets: what it notes, and that it writes nothing else.
use Rattle.std.specs.Prelude.{◌≡◌, refl, ◌≢◌, true, false, List, [], ◌∷◌, ℕ, ◌<◌, length}
use Rattle.std.proofs.Common.{sym, ◌∙◌, subst, arith}
use Rattle.rules.specs.Table.{get, put, has}
use Rattle.rules.specs.InletSet.{InletSet}
use Rattle.rules.specs.Port.{Seen, waiting, ready, ended}
use Rattle.rules.specs.Operators.{noted}
use Rattle.rules.specs.Machine.{Machine, shows, with_touched, with_waits, with_seen}
use Rattle.rules.specs.Drive.{observe, observe_all}
use Rattle.laws.specs.Table.{by_bool, by_eq, clash, same, other, put_length}
use Rattle.laws.specs.Rising.{has_head, has_tail}
use Rattle.order.specs.Inv.{Differ, is_waits}
use Rattle.order.specs.Sets.{insert_same, insert_other, insert_unique, insert_all_more, remove_same, remove_other, remove_unique}

-- an inlet noted waits if it was seen waiting, and the others as before
pub noted_same : (s : Seen) (i : ℕ) (w : InletSet) → Differ w → has i (noted s i w) ≡ is_waits s
noted_same waiting i w u = insert_same i w
noted_same ready i w u = remove_same i w u
noted_same ended i w u = remove_same i w u

-- every other inlet is in the set as before
pub noted_other : (s : Seen) (i h : ℕ) (w : InletSet) → h ≢ i → has h (noted s i w) ≡ has h w
noted_other waiting i h w n = insert_other i h w n
noted_other ready i h w n = remove_other i h w n
noted_other ended i h w n = remove_other i h w n

-- the numbers still differ
noted_unique : (s : Seen) (i : ℕ) (w : InletSet) → Differ w → Differ (noted s i w)
noted_unique waiting i w u = insert_unique i w u
noted_unique ready i w u = remove_unique i w u
noted_unique ended i w u = remove_unique i w u

-- of k inlets, those seen waiting are in the waiting set
pub record Noted (k : ℕ) (w : InletSet) (es : List Seen) : Type 0 where
  pub size : length es ≡ k
  pub waits : (i : ℕ) → i < k → has i w ≡ is_waits (get waiting es i)
  pub unique : Differ w
  pub within : (i : ℕ) → has i w ≡ true → i < k

-- one inlet is noted
note_ok : (k i : ℕ) (s : Seen) (w : InletSet) (es : List Seen) → i < k → Noted k w es → Noted k (noted s i w) (put waiting es i s)
note_ok k i s w es b v = record {
  size = put_length waiting es i s (omega (arith, v.size)) ∙ v.size;
  waits = λ h c. by_eq h i (λ e. rw (e, same) (noted_same s i w v.unique)) (λ n. rw (noted_other s i h w n, other) (v.waits h c));
  unique = noted_unique s i w v.unique;
  within = λ h e. by_eq h i (λ c. omega arith) (λ n. v.within h (sym (noted_other s i h w n) ∙ e));
}

-- what a pack p has written that has looked at some inlets
pub record Looked (p : ℕ) (is : List ℕ) (m m' : Machine) : Type 0 where
  pub only : m' ≡ with_touched m'.touched (with_waits m'.waits (with_seen m'.seen m))
  pub touched_other : (q : ℕ) → q ≢ p → get [] m'.touched q ≡ get [] m.touched q
  pub waits_other : (q : ℕ) → q ≢ p → get [] m'.waits q ≡ get [] m.waits q
  pub seen_other : (q : ℕ) → q ≢ p → get [] m'.seen q ≡ get [] m.seen q
  pub more : (i : ℕ) → has i (get [] m.touched p) ≡ true → has i (get [] m'.touched p) ≡ true
  pub notes : (k : ℕ) → ((i : ℕ) → has i is ≡ true → i < k) → Noted k (get [] m.waits p) (get [] m.seen p)
      → Noted k (get [] m'.waits p) (get [] m'.seen p)
  -- an inlet looked at is seen as it is, the others as before
  pub right : (i : ℕ) → has i is ≡ true → get waiting (get [] m'.seen p) i ≡ shows m p i
  pub left : (i : ℕ) → has i is ≡ false → get waiting (get [] m'.seen p) i ≡ get waiting (get [] m.seen p) i

-- none is looked at
looked_none : (p : ℕ) (m : Machine) → Looked p [] m m
unfolding has
looked_none p m = record {
  only = refl;
  touched_other = λ q n. refl;
  waits_other = λ q n. refl;
  seen_other = λ q n. refl;
  more = λ i e. e;
  notes = λ k b v. v;
  right = λ i e. clash (cc);
  left = λ i e. refl;
}

-- one more is looked at first
looked_next : (p i : ℕ) (is : List ℕ) (m m' : Machine) → Looked p is (observe p i m) m' → Looked p (i ∷ is) m m'
unfolding has
looked_next p i is m m' r = record {
  only = r.only;
  touched_other = λ q n. r.touched_other q n ∙ rw other;
  waits_other = λ q n. r.waits_other q n ∙ rw other;
  seen_other = λ q n. r.seen_other q n ∙ rw other;
  more = λ h e. r.more h (rw same (insert_all_more (i ∷ []) h (get [] m.touched p) e));
  notes = λ k b v. r.notes k (λ h e. by_eq h i (λ c. b h (subst (λ j. has j (i ∷ is) ≡ true) (sym c) (has_head i is))) (λ n. b h (has_tail h i is n ∙ e)))
      (simp same (note_ok k i (shows m p i) (get [] m.waits p) (get [] m.seen p) (b i (has_head i is)) v));
  right = λ h e. by_bool (has h is) (λ c. r.right h c)
      (λ c. by_eq h i (λ d. rw d (r.left i (rw d at c) ∙ rw (same, same))) (λ n. clash (cc (has_tail h i is n))));
  left = λ h e. by_eq h i (λ d. clash (cc (has_head i is))) (λ n. r.left h (sym (has_tail h i is n) ∙ e) ∙ rw (same, other));
}

-- all of a list are looked at
pub looked : (p : ℕ) (is : List ℕ) (m : Machine) → Looked p is m (observe_all p is m)
unfolding observe_all
looked p [] m = looked_none p m
looked p (i ∷ is) m = looked_next p i is m (observe_all p is (observe p i m)) (looked p is (observe p i m))
