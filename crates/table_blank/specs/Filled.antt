-- A table of the state whose records are written from the first on.
use Rattle.std.specs.Prelude.{◌≡◌, refl, true, List, [], ◌∷◌, ◌++◌, ℕ, ◌+◌, ◌*◌, ◌≤◌, ◌<◌, leb, length, get_or, take, drop}
use Rattle.std.proofs.Common.{sym, ap, ◌∙◌, add-one, take-suc-set}
use Rattle.std.proofs.lemmas.List.{set-get_or}
use Rattle.laws.specs.Table.{put_set}
use Rattle.jobs.specs.Job.{front}
use Rattle.jobs.proofs.Front.{front_more}
use Rattle.layout.specs.Cut.{cut, apart}
use Rattle.layout.specs.Records.{table, length_table}
use Rattle.layout.specs.Stored.{lent, stored_lent}
use Rattle.tables.specs.View.{machine_len}

-- one more of a table that is read
pub front_next : {A B : Type 0} (f : A → B) (xs : List A) (n : ℕ) (d : A) (v : B) → n < length xs → v ≡ f (get_or xs n d) →
    front f xs (n + 1) ≡ front f xs n ++ v ∷ []
front_next {A = A} f xs n d v h e = ap (λ (l : List A). front f l (n + 1)) (sym (set-get_or xs n d)) ∙ front_more f xs n (get_or xs n d) h ∙ rw e refl

-- t is s where the first k of the n records of a size from base on say xs; all outside this table stays
pub record Filled {R : Type 0} (dec : List ℕ → R) (base size n : ℕ) (s t : List ℕ) (k : ℕ) (xs : List R) : Type 0 where
  pub own : take k (table dec size n (cut base (base + n * size) t)) ≡ xs
  pub others : (lo hi : ℕ) → apart lo hi base (base + n * size) ≡ true → cut lo hi t ≡ cut lo hi s
  pub past : drop machine_len t ≡ drop machine_len s

module _ {R : Type 0} (dec : List ℕ → R) (base size n : ℕ) (s : List ℕ) where
  -- none yet
  pub filled_none : Filled dec base size n s s 0 []
  filled_none = record { own = refl; others = λ lo hi e. refl; past = refl }

  -- one more
  pub filled_more : (t : List ℕ) (i : ℕ) (xs zs : List R) (ys : List ℕ) (d : R) → i < n → base + n * size ≤ length t →
      leb (base + n * size) machine_len ≡ true → length ys ≡ size
      → zs ≡ xs ++ dec ys ∷ [] → Filled dec base size n s t i xs → Filled dec base size n s (lent base size i t ys) (i + 1) zs
  filled_more t i xs zs ys d h l z e q f =
      let w = stored_lent base size n t i ys h l e in
      let c : i < length (table dec size n (cut base (base + n * size) t)) = rw (length_table dec size n (cut base (base + n * size) t)) h in
      record {
        own = rw (add-one i, w.own dec d, put_set d (table dec size n (cut base (base + n * size) t)) i (dec ys) c)
            (take-suc-set (table dec size n (cut base (base + n * size) t)) i (dec ys) c ∙ ap (λ (r : List R). r ++ dec ys ∷ []) f.own ∙ sym q);
        others = λ lo hi a. w.others lo hi a ∙ f.others lo hi a;
        past = w.past machine_len z ∙ f.past;
      }
