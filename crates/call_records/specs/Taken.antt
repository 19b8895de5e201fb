-- What a parser takes from the front of bytes does not turn on what follows: a record or a call that is whole stays the same where bytes are added.
use Rattle.std.specs.Prelude.{◌≡◌, refl, Bool, true, false, List, [], ◌∷◌, ◌++◌, ℕ, zero, suc, ◌+◌, ◌*◌, ◌≤◌, ◌<◌, length, if◌then◌else◌}
use Rattle.std.proofs.Common.{sym, ap, subst, ◌∙◌, append_assoc, arith, length-append}
use Rattle.std.proofs.Math.Option.{Option, none, some, some-injective}
use Rattle.laws.specs.Table.{by_option, clash}
use Rattle.rules.specs.Job.{
  Parser,
  ◌>>=◌,
  give,
  word,
  runs,
  Run,
  Record,
  slots,
  leaf,
  join,
  split,
  concat,
  pack,
  fields,
  next_record,
  is_mark,
  SC,
  SG,
  CC,
  PK,
  SP,
  leaf_fields,
  split_fields,
  count_field,
}
use Rattle.rules.specs.Session.{Call, ST, DL, next_call, delivery_fields}

-- a parser took x from the front of some bytes, whatever follows; Q says how many bytes that are
pub record Taken {A : Type 0} (Q : A → ℕ → Type 0) (p : Parser A) (bytes : List ℕ) (x : A) (rest : List ℕ) : Type 0 where
  pub front : List ℕ
  pub is : bytes ≡ front ++ rest
  pub any : (more : List ℕ) → p (front ++ more) ≡ some (x, more)
  pub size : Q x (length front)

abbrev pub Takes : {A : Type 0} → (A → ℕ → Type 0) → Parser A → Type 0
Takes {A} Q p = (bytes : List ℕ) (x : A) (rest : List ℕ) → p bytes ≡ some (x, rest) → Taken Q p bytes x rest

module _ {A : Type 0} where
  both : (x y : A) (l k : List ℕ) → ◌≡◌ {A = Option (A × List ℕ)} (some (x, l)) (some (y, k)) → (x ≡ y) × (l ≡ k)
  both x y l k e =
      let q = some-injective (x, l) (y, k) e in
      (ap (λ (z : A × List ℕ). z.0) q, ap (λ (z : A × List ℕ). z.1) q)

module _ {A : Type 0} (Q : A → ℕ → Type 0) where
  give_takes : (x : A) → Q x 0 → Takes Q (give x)
  give_takes x h bytes y rest e =
      let q = both x y bytes rest e in
      record { front = []; is = q.1; any = λ more. rw q.0; size = subst (λ (z : A). Q z 0) q.0 h }

  if_takes : (t : Bool) (p q : Parser A) → Takes Q p → Takes Q q → Takes Q (if t then p else q)
  if_takes true p q h k = h
  if_takes false p q h k = k

module _ {A B : Type 0} (P : A → ℕ → Type 0) (Q : B → ℕ → Type 0) where
  then_takes : (p : Parser A) (f : A → Parser B) → Takes P p → ((x : A) (n : ℕ) → P x n → Takes (λ (y : B) (k : ℕ). Q y (n + k)) (f x)) → Takes Q (◌>>=◌ p f)
  then_takes p f h k bytes y rest e =
      by_option (p bytes) (λ o. clash (cc))
      (λ r o.
      let t : Taken P p bytes r.0 r.1 = h bytes r.0 r.1 o in
      let u : Taken (λ (z : B) (m : ℕ). Q z (length t.front + m)) (f r.0) r.1 y rest =
      k r.0 (length t.front) t.size r.1 y rest (rw (o, ◌>>=◌) at e) in
      record {
        front = t.front ++ u.front;
        is = t.is ∙ ap (λ (l : List ℕ). t.front ++ l) u.is ∙ sym (append_assoc t.front u.front rest);
        any = λ more. rw (append_assoc t.front u.front more, ◌>>=◌, t.any (u.front ++ more)) (u.any more);
        size = rw (length-append t.front u.front) u.size;
      })

word_takes : Takes (λ (x : ℕ) (n : ℕ). n ≡ 4) word
unfolding word
word_takes [] x rest e = clash (cc)
word_takes (a ∷ []) x rest e = clash (cc)
word_takes (a ∷ b ∷ []) x rest e = clash (cc)
word_takes (a ∷ b ∷ c ∷ []) x rest e = clash (cc)
word_takes (a ∷ b ∷ c ∷ d ∷ l) x rest e =
    let q = both (a + 256 * (b + 256 * (c + 256 * d))) x l rest e in
    record { front = a ∷ b ∷ c ∷ d ∷ []; is = ap (λ (k : List ℕ). a ∷ b ∷ c ∷ d ∷ k) q.1; any = λ more. rw q.0; size = refl }

word_then : {B : Type 0} (Q : B → ℕ → Type 0) (f : ℕ → Parser B) → ((x : ℕ) → Takes (λ (y : B) (k : ℕ). Q y (4 + k)) (f x)) → Takes Q (◌>>=◌ word f)
word_then {B} Q f h =
    then_takes (λ (x : ℕ) (n : ℕ). n ≡ 4) Q word f word_takes
    (λ x n e. subst (λ (m : ℕ). Takes (λ (y : B) (k : ℕ). Q y (m + k)) (f x)) (sym e) (h x))

pub runs_takes : (n : ℕ) → Takes (λ (rs : List Run) (k : ℕ). (length rs ≡ n) × (k ≡ 8 * n)) (runs n)
unfolding runs
runs_takes zero = give_takes _ [] (refl, refl)
runs_takes (suc n) =
    word_then _ _ (λ a. word_then _ _ (λ l.
    then_takes (λ (rs : List Run) (k : ℕ). (length rs ≡ n) × (k ≡ 8 * n)) _ (runs n) _ (runs_takes n)
    (λ rs k h. give_takes _ _ (omega (arith, h.0), omega (arith, h.1)))))

-- how many bytes a record takes: its mark and its fields
abbrev pub size_of : Record → ℕ
size_of (slots n) = 6
size_of (leaf g n) = 10
size_of (join k n) = 6
size_of (split a b rs) = 14 + 8 * length rs

pub size_low : (r : Record) → 6 ≤ size_of r
size_low (slots n) = omega arith
size_low (leaf g n) = omega arith
size_low (join k n) = omega arith
size_low (split a b rs) = omega arith

abbrev Sized : Record → ℕ → Type 0
Sized r k = 2 + k ≡ size_of r

count_takes : (f : ℕ → Record) → ((n : ℕ) → size_of (f n) ≡ 6) → Takes Sized (count_field f)
count_takes f h = word_then Sized _ (λ n. give_takes _ (f n) (sym (h n)))

leaf_takes : Takes Sized leaf_fields
leaf_takes = word_then Sized _ (λ g. word_then _ _ (λ n. give_takes _ (leaf g n) refl))

split_takes : Takes Sized split_fields
split_takes =
    word_then Sized _ (λ a. word_then _ _ (λ b. word_then _ _ (λ n.
    then_takes (λ (rs : List Run) (k : ℕ). (length rs ≡ n) × (k ≡ 8 * n)) _ (runs n) _ (runs_takes n)
    (λ rs k h. give_takes _ (split a b rs) (omega (arith, h.0, h.1))))))

fields_takes : (a b : ℕ) → Takes Sized (fields a b)
unfolding fields
fields_takes a b =
    if_takes Sized (is_mark a b SC) _ _ (count_takes slots (λ n. refl))
    (if_takes Sized (is_mark a b SG) _ _ leaf_takes
    (if_takes Sized (is_mark a b CC) _ _ (count_takes (join concat) (λ n. refl))
    (if_takes Sized (is_mark a b PK) _ _ (count_takes (join pack) (λ n. refl))
    (if_takes Sized (is_mark a b SP) _ _ split_takes (λ bytes x rest e. clash (cc))))))

-- two bytes before
module _ {A : Type 0} (Q : A → ℕ → Type 0) (p q : Parser A) (a b : ℕ) (h : (l : List ℕ) → q (a ∷ b ∷ l) ≡ p l) where
  mark_takes : (bytes : List ℕ) (x : A) (rest : List ℕ) → Taken (λ (y : A) (k : ℕ). Q y (2 + k)) p bytes x rest → Taken Q q (a ∷ b ∷ bytes) x rest
  mark_takes bytes x rest t = record {
    front = a ∷ b ∷ t.front;
    is = ap (λ (l : List ℕ). a ∷ b ∷ l) t.is;
    any = λ more. h (t.front ++ more) ∙ t.any more;
    size = (let e : 2 + length t.front ≡ suc (suc (length t.front)) = omega arith in rw e at t.size);
  }

-- a record
pub record_takes : Takes (λ (r : Record) (k : ℕ). k ≡ size_of r) next_record
unfolding next_record
record_takes [] x rest e = clash (cc)
record_takes (a ∷ []) x rest e = clash (cc)
record_takes (a ∷ b ∷ bytes) x rest e =
    mark_takes (λ (r : Record) (k : ℕ). k ≡ size_of r) (fields a b) next_record a b (λ l. refl) bytes x rest (fields_takes a b bytes x rest e)

-- a call
abbrev call_fields : Bool → Bool → Parser Call
call_fields true u = give ST
call_fields false true = delivery_fields
call_fields false false = λ bytes. none

by_marks : (t u : Bool) (bytes : List ℕ) → (if t then give ST bytes else if u then delivery_fields bytes else none) ≡ call_fields t u bytes
by_marks true u bytes = refl
by_marks false true bytes = refl
by_marks false false bytes = refl

abbrev Some : Call → ℕ → Type 0
Some c k = 0 < k

fields_take : (t u : Bool) → Takes (λ (c : Call) (k : ℕ). 0 < 2 + k) (call_fields t u)
fields_take true u = give_takes _ ST (omega arith)
fields_take false true = word_then _ _ (λ r. word_then _ _ (λ n. give_takes _ (DL r n) (omega arith)))
fields_take false false = λ bytes x rest e. clash (cc)

pub call_takes : Takes Some next_call
unfolding next_call
call_takes [] x rest e = clash (cc)
call_takes (a ∷ []) x rest e = clash (cc)
call_takes (a ∷ b ∷ bytes) x rest e =
    let t = is_mark a b (83, 84) in
    let u = is_mark a b (68, 76) in
    mark_takes Some (call_fields t u) next_call a b (by_marks t u) bytes x rest (fields_take t u bytes x rest (sym (by_marks t u bytes) ∙ e))
