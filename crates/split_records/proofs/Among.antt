-- The loop over the splits: where it starts, what an accepted split says, and what stands behind one.
use mathlib.Core.Path.{◌≡◌, refl, ap, sym, ◌∙◌}
use mathlib.Core.Bool.{Bool, true, false, ◌||◌, true≢false}
use mathlib.Core.List.{List, [], ◌∷◌, ◌++◌}
use mathlib.Core.Option.{some}
use Prim.Native.Nat.{ℕ, ◌+◌, ◌≤◌, ◌<◌}
use native.Mathlib.Omega.{arith}
use lib.Dec.{eqb, leb, ltb}
use lib.ListN.{length, drop, get_or, set, drop_of_length-le}
use lib.Seq.{get_or-set_same, get_or-set_other}
use borrow.Author.Tests.{leb-false, eqb-true, eqb-false}
use Rattle.rules.specs.Table.{is_empty}
use Rattle.rules.specs.Job as rule
use Rattle.laws.specs.Table.{or_left, or_right}
use Rattle.laws.specs.Meeting.{split_passed}
use Rattle.laws.specs.Labels.{read_passed}
use Rattle.jobs.specs.Job.{front}
use Rattle.jobs.specs.Refusal.{refusal_of}
use Rattle.jobs.specs.declared.refusal.Refusal.{Refusal}
use Rattle.jobs.proofs.Front.{front_length, front_more}
use Rattle.node_records.specs.Draft.{draft_with, reading_with}
use Rattle.split_records.specs.Split.{outline_of, Heads, Lies, AllLie, no_outline}
use Rattle.split_records.specs.Reading.{Stands, AtSplits, LateBut}
use Rattle.node_records.specs.Marks.{is_split}
use Rattle.node_records.specs.declared.Draft.{Draft}
use Rattle.split_records.specs.declared.Head.{Head}
use Rattle.split_records.specs.declared.Outline.{Outline}
use Rattle.split_records.proofs.LoopLaws.{read_stop, read_next}

module _ (xs : List ℕ) (x : rule.Reading) (at : ℕ) (q : Stands xs x at) where
  -- in front of the first split
  pub at_first : (r : rule.Record) (rest : List ℕ) → some (r, rest) ≡ rule.next_record (drop at xs) → is_split r ≡ true → AtSplits xs x at
  at_first r rest e s =
      record {
        stands = q;
        only = λ p t f l.
            let g : ◌≡◌ {A = rule.Record × List ℕ} (p, t) (r, rest) = cc in
            absurd (true≢false (sym s ∙ (rw (ap (λ (y : rule.Record × List ℕ). y.0) g) at l)));
      }

  -- at the end of bytes without a split
  pub at_end : length xs ≤ at → AtSplits xs x at
  unfolding rule.next_record
  at_end k =
      record { stands = q; only = λ p t f l. let z : ◌≡◌ {A = ℕ} 0 1 = cc (rw (drop_of_length-le xs {i = at} k) at f) in absurd (omega arith) }

-- What an accepted split says

-- the slots had come, and there was room
record Room (d : rule.Draft) : Type 0 where
  after_slots : eqb d.slots 0 ≡ false
  below : length d.splits < 16

split_room : (r : rule.Record) (x y : rule.Reading) → LateBut r x → rule.accept r x ≡ rule.accepted y → Room x.draft
unfolding rule.accept
split_room (rule.slots n) x y l a = let z : ◌≡◌ {A = ℕ} 0 1 = cc (l refl, a) in absurd (omega arith)
split_room (rule.leaf g n) x y l a = let z : ◌≡◌ {A = ℕ} 0 1 = cc (l refl, a) in absurd (omega arith)
split_room (rule.join k n) x y l a = let z : ◌≡◌ {A = ℕ} 0 1 = cc (l refl, a) in absurd (omega arith)
split_room (rule.split s t rs) x y l a =
    let d = x.draft in
    let e = read_passed (rule.goes_on x) (rule.accept_split s t rs d) y a in
    let p = (split_passed s t rs d e.0 e.1).1 in
    record {
      after_slots = p.0;
      below =
          leb-false 16 (length d.splits)
          (or_right (is_empty d.nodes) (leb 16 (length d.splits)) (or_left (is_empty d.nodes || leb 16 (length d.splits)) (ltb 16 (length rs))
          p.1.0));
    }

-- Behind a split

one_more : (ys : List rule.Split) (y : rule.Split) → is_empty (ys ++ y ∷ []) ≡ false
unfolding is_empty
one_more [] y = refl
one_more (x ∷ ys) y = refl

late_but : (r : rule.Record) (x : rule.Reading) → eqb x.draft.slots 0 ≡ false → is_empty x.draft.splits ≡ false → LateBut r x
unfolding rule.accept rule.unless
late_but (rule.slots n) x a b h = rw a
late_but (rule.leaf g n) x a b h = rw (a, b)
late_but (rule.join k n) x a b h = rw (a, b)
late_but (rule.split s t rs) x a b h = absurd (true≢false h)

-- A turn of the loop: what its record comes to, for any draft with so many splits, and that it is a split or out of sequence

module _ (xs : List ℕ) (d : Draft) (h : Head) (hs : (ys : List rule.Split) → Heads (draft_with d ys) h (length ys)) (splits : List Outline) (count at : ℕ)
    (fit : count ≤ length splits) (q : AtSplits xs (reading_with d (front (outline_of xs) splits count)) at) (l : at < length xs)
    (r : rule.Record) (next : ℕ) (e : some (r, drop next xs) ≡ rule.next_record (drop at xs)) where
  -- the splits so far
  abbrev before : List rule.Split
  before = front (outline_of xs) splits count

  number : length before ≡ count
  number = front_length (outline_of xs) splits count fit

  pub turn_stops : (s : Refusal) → ((x : rule.Reading) → Heads x.draft h count → LateBut r x → rule.refused_by (refusal_of s) ≡ rule.accept r x)
      → rule.refused_by (refusal_of s) ≡ rule.records xs
  turn_stops s c =
      sym (read_stop xs (reading_with d before) at l r next e (refusal_of s) q.stands
      (sym (c (reading_with d before) (rw number at (hs before)) (q.only r (drop next xs) e))))

  module _ (s : Outline) (c : (x : rule.Reading) → Heads x.draft h count → LateBut r x
      → rule.accepted (rule.goes_on x (rule.new_split (outline_of xs s) x.draft)) ≡ rule.accept r x) where
    taken : rule.accept r (reading_with d before) ≡ rule.accepted (reading_with d (before ++ outline_of xs s ∷ []))
    taken = sym (c (reading_with d before) (rw number at (hs before)) (q.only r (drop next xs) e))

    room : Room (draft_with d before)
    room = split_room r (reading_with d before) (reading_with d (before ++ outline_of xs s ∷ [])) (q.only r (drop next xs) e) taken

    pub turn_fits : count < 16
    turn_fits = omega (arith, room.below, number)

    pub turn_goes : length splits ≡ 16 → at < next → AtSplits xs (reading_with d (front (outline_of xs) (set splits count s) (count + 1))) next
    turn_goes w k =
        rw (front_more (outline_of xs) splits count s (omega (arith, turn_fits)))
        (record {
          stands = read_next xs (reading_with d before) at l r next e (reading_with d (before ++ outline_of xs s ∷ [])) q.stands taken k;
          only = λ p t f. late_but p (reading_with d (before ++ outline_of xs s ∷ [])) room.after_slots (one_more before (outline_of xs s));
        })

-- the runs of one outline more lie within the bytes
module _ (xs : List ℕ) (splits : List Outline) (count : ℕ) (x : Outline) (v : AllLie xs splits count) (y : Lies xs x) (fit : count < length splits) where
  lie_by : (k : ℕ) (b : Bool) → eqb k count ≡ b → k < count + 1 → Lies xs (get_or (set splits count x) k no_outline)
  lie_by k true e h = let f : k ≡ count = eqb-true k count e in rw (f, get_or-set_same splits count x no_outline fit) y
  lie_by k false e h =
      let f : k ≡ count → ⊥ = eqb-false k count e in
      rw (get_or-set_other splits count k x no_outline f) (v k (omega (arith, h, f)))

  pub all_lie : AllLie xs (set splits count x) (count + 1)
  all_lie k h = lie_by k (eqb k count) refl h
