-- The loops over the records: the rule's answer on all bytes is its answer on those that are left, with fuel enough for them.
use Rattle.std.specs.Prelude.{Ok, Err}
use mathlib.Core.Path.{◌≡◌, refl, sym, ◌∙◌}
use mathlib.Core.List.{List, [], ◌∷◌}
use mathlib.Core.Option.{none, some}
use Prim.Native.Nat.{ℕ, zero, suc, ◌+◌, ◌≤◌, ◌<◌}
use native.Mathlib.Omega.{arith}
use lib.ListN.{length, drop, length-drop, drop_of_length-le}
use Rattle.rules.specs.Job as rule
use Rattle.jobs.specs.Refusal.{Verdict, judged}
use Rattle.split_records.specs.Reading.{Stands}

-- One record

module _ (f : ℕ) (x : rule.Reading) where
  step_short : (l : List ℕ) → 0 < length l → rule.next_record l ≡ none → rule.read_all rule.accept (suc f) x l ≡ rule.refused 2
  unfolding rule.read_all
  step_short [] h e = absurd (omega arith)
  step_short (b ∷ bs) h e = rw (rule.read_all, e)

  module _ (r : rule.Record) (rest : List ℕ) where
    step_stop : (l : List ℕ) (n : rule.Refusal) → 0 < length l → rule.next_record l ≡ some (r, rest) → rule.accept r x ≡ rule.refused_by n →
        rule.read_all rule.accept (suc f) x l ≡ rule.refused_by n
    unfolding rule.read_all
    step_stop [] n h e a = absurd (omega arith)
    step_stop (b ∷ bs) n h e a = rw (rule.read_all, e, a)

    step_go : (l : List ℕ) (y : rule.Reading) → 0 < length l → rule.next_record l ≡ some (r, rest) → rule.accept r x ≡ rule.accepted y
        → rule.read_all rule.accept (suc f) x l ≡ rule.read_all rule.accept f y rest
    unfolding rule.read_all
    step_go [] y h e a = absurd (omega arith)
    step_go (b ∷ bs) y h e a = rw (rule.read_all, e, a)

step_end : (f : ℕ) (x : rule.Reading) → rule.read_all rule.accept f x [] ≡ rule.accepted x
unfolding rule.read_all
step_end zero x = refl
step_end (suc f) x = refl

-- All records

pub read_start : (xs : List ℕ) (x : rule.Reading) → x ≡ rule.no_reading → Stands xs x 0
read_start xs x e = record { fuel = length xs; enough = omega arith; is = rw e }

module _ (xs : List ℕ) (x : rule.Reading) (at : ℕ) (l : at < length xs) where
  left : 0 < length (drop at xs)
  left = simp length-drop (omega arith)

  short_by : rule.next_record (drop at xs) ≡ none → (f : ℕ) → length xs ≤ at + f → rule.read_all rule.accept f x (drop at xs) ≡ rule.records xs
      → rule.records xs ≡ rule.refused 2
  short_by e zero h i = absurd (omega arith)
  short_by e (suc f) h i = sym i ∙ step_short f x (drop at xs) left e

  pub read_short : Stands xs x at → none ≡ rule.next_record (drop at xs) → rule.refused 2 ≡ rule.records xs
  read_short q e = sym (short_by (sym e) q.fuel q.enough q.is)

  module _ (r : rule.Record) (next : ℕ) (e : some (r, drop next xs) ≡ rule.next_record (drop at xs)) where
    stop_by : (n : rule.Refusal) → rule.accept r x ≡ rule.refused_by n → (f : ℕ) → length xs ≤ at + f
        → rule.read_all rule.accept f x (drop at xs) ≡ rule.records xs → rule.records xs ≡ rule.refused_by n
    stop_by n a zero h i = absurd (omega arith)
    stop_by n a (suc f) h i = sym i ∙ step_stop f x r (drop next xs) (drop at xs) n left (sym e) a

    pub read_stop : (n : rule.Refusal) → Stands xs x at → rule.accept r x ≡ rule.refused_by n → rule.records xs ≡ rule.refused_by n
    read_stop n q a = stop_by n a q.fuel q.enough q.is

    go_by : (y : rule.Reading) → rule.accept r x ≡ rule.accepted y → at < next → (f : ℕ) → length xs ≤ at + f
        → rule.read_all rule.accept f x (drop at xs) ≡ rule.records xs → Stands xs y next
    go_by y a k zero h i = absurd (omega arith)
    go_by y a k (suc f) h i =
        record { fuel = f; enough = omega arith; is = sym (step_go f x r (drop next xs) (drop at xs) y left (sym e) a) ∙ i }

    pub read_next : (y : rule.Reading) → Stands xs x at → rule.accept r x ≡ rule.accepted y → at < next → Stands xs y next
    read_next y q a k = go_by y a k q.fuel q.enough q.is

pub read_end : (xs : List ℕ) (x : rule.Reading) (at : ℕ) → Stands xs x at → length xs ≤ at → rule.accepted x ≡ rule.records xs
read_end xs x at q h = sym (step_end q.fuel x) ∙ rw (drop_of_length-le xs {i = at} h) at q.is

-- an answer on a draft, as one on a reading
pub read_judged : (f : rule.Draft → rule.Reading) (v : Verdict) (d : rule.Draft) → judged v (f d) ≡ rule.read_as f (judged v d)
read_judged f (Ok u) d = refl
read_judged f (Err r) d = refl
