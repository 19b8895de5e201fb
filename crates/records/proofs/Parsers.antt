-- The fields of each record, from what its words and its runs are.
use mathlib.Core.Path.{◌≡◌, sym}
use mathlib.Core.List.{List}
use mathlib.Core.Option.{none, some}
use Prim.Native.Nat.{ℕ}
use Rattle.rules.specs.Job.{Parser, Record, Run, word, runs, count_field, leaf_fields, split_fields, leaf, split, give, ◌>>=◌}

module _ {A B : Type 0} (r : Parser A) (f : A → Parser B) (bytes : List ℕ) where
  bind_none : r bytes ≡ none → ◌>>=◌ r f bytes ≡ none
  bind_none e = rw (e, ◌>>=◌)

  bind_some : (x : A) (rest : List ℕ) → r bytes ≡ some (x, rest) → ◌>>=◌ r f bytes ≡ f x rest
  bind_some x rest e = rw (e, ◌>>=◌)

module _ (ys : List ℕ) where
  pub count_none : (f : ℕ → Record) → none ≡ word ys → none ≡ count_field f ys
  count_none f e = sym (bind_none word (λ n. give (f n)) ys (sym e))

  pub count_some : (f : ℕ → Record) (n : ℕ) (zs : List ℕ) → some (n, zs) ≡ word ys → some (f n, zs) ≡ count_field f ys
  count_some f n zs e = sym (bind_some word (λ n. give (f n)) ys n zs (sym e))

module _ (ys : List ℕ) where
  pub leaf_none : none ≡ word ys → none ≡ leaf_fields ys
  leaf_none e = sym (bind_none word (λ g. count_field (leaf g)) ys (sym e))

  pub leaf_rest : (g : ℕ) (zs : List ℕ) → some (g, zs) ≡ word ys → count_field (leaf g) zs ≡ leaf_fields ys
  leaf_rest g zs e = sym (bind_some word (λ g. count_field (leaf g)) ys g zs (sym e))

-- what follows a split's start, its end and its count
abbrev pub split_runs : ℕ → ℕ → ℕ → Parser Record
split_runs a b n = do
  rs ← runs n
  give (split a b rs)

abbrev pub split_count : ℕ → ℕ → Parser Record
split_count a b = do
  n ← word
  split_runs a b n

abbrev pub split_end : ℕ → Parser Record
split_end a = do
  b ← word
  split_count a b

module _ (ys : List ℕ) where
  pub split_none : none ≡ word ys → none ≡ split_fields ys
  split_none e = sym (bind_none word split_end ys (sym e))

  pub split_rest : (a : ℕ) (zs : List ℕ) → some (a, zs) ≡ word ys → split_end a zs ≡ split_fields ys
  split_rest a zs e = sym (bind_some word split_end ys a zs (sym e))

  module _ (a : ℕ) where
    pub end_none : none ≡ word ys → none ≡ split_end a ys
    end_none e = sym (bind_none word (split_count a) ys (sym e))

    pub end_rest : (b : ℕ) (zs : List ℕ) → some (b, zs) ≡ word ys → split_count a b zs ≡ split_end a ys
    end_rest b zs e = sym (bind_some word (split_count a) ys b zs (sym e))

  module _ (a b : ℕ) where
    pub number_none : none ≡ word ys → none ≡ split_count a b ys
    number_none e = sym (bind_none word (split_runs a b) ys (sym e))

    pub number_rest : (n : ℕ) (zs : List ℕ) → some (n, zs) ≡ word ys → split_runs a b n zs ≡ split_count a b ys
    number_rest n zs e = sym (bind_some word (split_runs a b) ys n zs (sym e))

    pub runs_none : (n : ℕ) → runs n ys ≡ none → none ≡ split_runs a b n ys
    runs_none n e = sym (bind_none (runs n) (λ rs. give (split a b rs)) ys e)

    pub runs_some : (n : ℕ) (rs : List Run) (zs : List ℕ) → runs n ys ≡ some (rs, zs) → some (split a b rs, zs) ≡ split_runs a b n ys
    runs_some n rs zs e = sym (bind_some (runs n) (λ rs. give (split a b rs)) ys rs zs e)
