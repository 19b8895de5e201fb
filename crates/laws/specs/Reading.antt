-- What reading bytes tells of the records.
use Rattle.std.specs.Prelude.{◌≡◌, refl, Bool, true, false, List, [], ◌∷◌, ℕ, zero, suc, ◌+◌, ◌*◌, ◌≤◌, if◌then◌else◌}
use Rattle.std.proofs.Common.{subst, arith}
use Rattle.std.proofs.Math.Option.{some, some-injective}
use Rattle.rules.specs.Job.{Bytes, Parser, ◌>>=◌, give, word, runs, Run, Record, slots, leaf, join, split, concat, pack, max_rows, fields, next_record, is_mark, SC, SG, CC, PK, SP, leaf_fields, split_fields, count_field}
use Rattle.laws.specs.Table.{by_option, clash}
use Rattle.laws.specs.Draft.{RecordOk}

-- from bytes, a parser gives what P holds of, and leaves bytes
abbrev pub Gives : {A : Type 0} → (A → Type 0) → Parser A → Type 0
Gives {A} P p = (bytes : List ℕ) (r : A × List ℕ) → Bytes bytes → p bytes ≡ some r → P r.0 × Bytes r.1

module _ {A : Type 0} (P : A → Type 0) where
  -- what a parser gave is what it was to give
  given : (x : A) (rest : List ℕ) (r : A × List ℕ) → some (x, rest) ≡ some r → P x → Bytes rest → P r.0 × Bytes r.1
  given x rest r e h b = subst (λ (y : A × List ℕ). P y.0 × Bytes y.1) (some-injective (x, rest) r e) (h, b)

  -- giving a value
  give_gives : (x : A) → P x → Gives P (give x)
  give_gives x h bytes r b e = given x bytes r e h b

  -- a choice of parsers
  if_gives : (t : Bool) (p q : Parser A) → Gives P p → Gives P q → Gives P (if t then p else q)
  if_gives true p q h k = h
  if_gives false p q h k = k

module _ {A B : Type 0} (P : A → Type 0) (Q : B → Type 0) where
  -- one parser after another
  then_gives : (p : Parser A) (f : A → Parser B) → Gives P p → ((x : A) → P x → Gives Q (f x)) → Gives Q (◌>>=◌ p f)
  then_gives p f h k bytes r b e =
      by_option (p bytes) (λ o. clash (cc))
      (λ x o. let y : P x.0 × Bytes x.1 = h bytes x b o in k x.0 y.0 x.1 r y.1 (rw (o, ◌>>=◌) at e))

-- four bytes are less than 2 to the 32
word_gives : Gives (λ n. n ≤ max_rows) word
unfolding word
word_gives [] r b e = clash (cc)
word_gives (x ∷ []) r b e = clash (cc)
word_gives (x ∷ y ∷ []) r b e = clash (cc)
word_gives (x ∷ y ∷ z ∷ []) r b e = clash (cc)
word_gives (x ∷ y ∷ z ∷ w ∷ rest) r b e =
    given (λ (n : ℕ). n ≤ max_rows) (x + 256 * (y + 256 * (z + 256 * w))) rest r e (omega (arith, b 0, b 1, b 2, b 3)) (λ i. b (suc (suc (suc (suc i)))))

-- what is read after a word
word_then : {B : Type 0} (Q : B → Type 0) (f : ℕ → Parser B) → ((n : ℕ) → n ≤ max_rows → Gives Q (f n)) → Gives Q (◌>>=◌ word f)
word_then Q f k = then_gives (λ (n : ℕ). n ≤ max_rows) Q word f word_gives k

-- nothing is asked of runs
abbrev Whatever : List Run → Type 0
Whatever rs = Unit {0}

-- n runs
runs_gives : (n : ℕ) → Gives Whatever (runs n)
unfolding runs
runs_gives zero = give_gives Whatever [] tt
runs_gives (suc n) = word_then Whatever _ (λ a h. word_then Whatever _ (λ l k. then_gives Whatever Whatever (runs n) _ (runs_gives n) (λ rs m. give_gives Whatever _ tt)))

-- a leaf has at most as many rows as a word holds
leaf_gives : Gives RecordOk leaf_fields
leaf_gives = word_then RecordOk _ (λ g h. word_then RecordOk _ (λ n k. give_gives RecordOk (leaf g n) k))

-- a split
split_gives : Gives RecordOk split_fields
split_gives =
    word_then RecordOk _ (λ a h. word_then RecordOk _ (λ b k. word_then RecordOk _ (λ n m.
    then_gives Whatever RecordOk (runs n) _ (runs_gives n) (λ rs z. give_gives RecordOk (split a b rs) tt))))

-- a record of one number
count_gives : (f : ℕ → Record) → ((n : ℕ) → RecordOk (f n)) → Gives RecordOk (count_field f)
count_gives f o = word_then RecordOk _ (λ n h. give_gives RecordOk (f n) (o n))

-- the fields behind a mark: an inner node is a concat or a pack
fields_gives : (a b : ℕ) → Gives RecordOk (fields a b)
unfolding fields
fields_gives a b =
    if_gives RecordOk (is_mark a b SC) _ _ (count_gives slots (λ n. tt))
    (if_gives RecordOk (is_mark a b SG) _ _ leaf_gives
    (if_gives RecordOk (is_mark a b CC) _ _ (count_gives (join concat) (λ n. refl))
    (if_gives RecordOk (is_mark a b PK) _ _ (count_gives (join pack) (λ n. refl))
    (if_gives RecordOk (is_mark a b SP) _ _ split_gives (λ bytes r h e. clash (cc))))))

-- so a record that is read is sound
pub record_gives : Gives RecordOk next_record
unfolding next_record
record_gives [] r b e = clash (cc)
record_gives (x ∷ []) r b e = clash (cc)
record_gives (x ∷ y ∷ rest) r b e = fields_gives x y rest r (λ i. b (suc (suc i))) e
