-- Two readers of the job bytes: what they do alike by each record, they do alike by all of them.
use Rattle.std.specs.Prelude.{◌≡◌, refl, Bool, false}
use mathlib.Core.List.{List, [], ◌∷◌}
use Rattle.std.proofs.Math.Option.{Option, none, some}
use Prim.Native.Nat.{ℕ, zero, suc}
use Rattle.rules.specs.Job.{Bytes, Draft, Reading, Refusal, Outcome, refused_by, accepted, Record, unless, unless_fault, read_as, next_record, read_all}
use Rattle.laws.specs.Table.{by_bool, by_option}
use Rattle.laws.specs.Draft.{Passed, RecordOk}
use Rattle.laws.specs.Reading.{record_gives}

-- the same refusal, or values that are alike
abbrev pub Same : {A B : Type 0} → (A → B → Type 0) → Outcome A → Outcome B → Type 0
Same R (refused_by a) (refused_by b) = a ≡ b
Same R (refused_by a) (accepted y) = ⊥
Same R (accepted x) (refused_by b) = ⊥
Same R (accepted x) (accepted y) = R x y

module _ {A B : Type 0} (R : A → B → Type 0) where
  -- one cause and then the others
  unless_next : (c : ℕ × Bool) (cs : List (ℕ × Bool)) (x : A) (y : B) → (c.1 ≡ false → Same R (unless cs x) (unless cs y))
      → Same R (unless (c ∷ cs) x) (unless (c ∷ cs) y)
  unfolding unless
  unless_next c cs x y f = by_bool c.1 (λ e. rw (e, unless) refl) (λ e. rw (e, unless) (f e))

  unless_both : (cs : List (ℕ × Bool)) (x : A) (y : B) → (Passed cs → R x y) → Same R (unless cs x) (unless cs y)
  unfolding unless
  unless_both [] x y f = f tt
  unless_both (c ∷ cs) x y f = unless_next c cs x y (λ e. unless_both cs x y (λ p. f (e, p)))

  -- the same causes
  pub unless_same : (cs es : List (ℕ × Bool)) (x : A) (y : B) → cs ≡ es → (Passed es → R x y) → Same R (unless cs x) (unless es y)
  unless_same cs es x y e f = rw e (unless_both es x y f)

  pub fault_same : (o : Option Refusal) (p : Outcome A) (q : Outcome B) → Same R p q → Same R (unless_fault o p) (unless_fault o q)
  fault_same o (refused_by a) (refused_by b) h = h
  fault_same o (refused_by a) (accepted y) h = absurd h
  fault_same o (accepted x) (refused_by b) h = absurd h
  fault_same none (accepted x) (accepted y) h = h
  fault_same (some r) (accepted x) (accepted y) h = refl

  -- both go on, or are refused alike
  pub then_same : {C D : Type 0} (S : C → D → Type 0) (p : Outcome A) (q : Outcome B) (f : A → Outcome C) (g : B → Outcome D) → Same R p q
      → ((x : A) (y : B) → R x y → Same S (f x) (g y))
      → Same S (elim p [ refused_by r ↦ refused_by r | accepted x ↦ f x ]) (elim q [ refused_by r ↦ refused_by r | accepted y ↦ g y ])
  then_same S (refused_by a) (refused_by b) f g h k = h
  then_same S (refused_by a) (accepted y) f g h k = absurd h
  then_same S (accepted x) (refused_by b) f g h k = absurd h
  then_same S (accepted x) (accepted y) f g h k = k x y h

  -- with what is known of each value
  pub known_same : (P : A → Type 0) (Q : B → Type 0) (p : Outcome A) (q : Outcome B) → ((x : A) → p ≡ accepted x → P x) → ((y : B) → q ≡ accepted y → Q y)
      → Same R p q → Same (λ x y. P x × Q y × R x y) p q
  known_same P Q (refused_by a) (refused_by b) f g h = h
  known_same P Q (refused_by a) (accepted y) f g h = absurd h
  known_same P Q (accepted x) (refused_by b) f g h = absurd h
  known_same P Q (accepted x) (accepted y) f g h = (f x refl, g y refl, h)

pub read_same : (R : Reading → Draft → Type 0) (f : Draft → Reading) (p q : Outcome Draft) → Same (λ d e. R (f d) e) p q → Same R (read_as f p) q
read_same R f (refused_by a) (refused_by b) h = h
read_same R f (refused_by a) (accepted y) h = absurd h
read_same R f (accepted x) (refused_by b) h = absurd h
read_same R f (accepted x) (accepted y) h = h

-- what two readers do alike by each record, they do alike by all of them
module _ {A B : Type 0} (R : A → B → Type 0) (f : Record → A → Outcome A) (g : Record → B → Outcome B)
    (alike : (r : Record) (x : A) (y : B) → RecordOk r → R x y → Same R (f r x) (g r y)) where
  first_alike : (n b : ℕ) (bs : List ℕ) (x : A) (y : B) → Bytes (b ∷ bs) → R x y
      → ((c : A) (e : B) (rest : List ℕ) → Bytes rest → R c e → Same R (read_all f n c rest) (read_all g n e rest))
      → Same R (read_all f (suc n) x (b ∷ bs)) (read_all g (suc n) y (b ∷ bs))
  unfolding read_all
  first_alike n b bs x y h v ih =
      by_option (next_record (b ∷ bs)) (λ o. rw (o, read_all) refl)
      (λ r o.
      let k : RecordOk r.0 × Bytes r.1 = record_gives (b ∷ bs) r h o in
      rw (o, read_all) (then_same R R (f r.0 x) (g r.0 y) (λ c. read_all f n c r.1) (λ e. read_all g n e r.1) (alike r.0 x y k.0 v)
      (λ c e. ih c e r.1 k.1)))

  pub all_alike : (n : ℕ) (x : A) (y : B) (bytes : List ℕ) → Bytes bytes → R x y → Same R (read_all f n x bytes) (read_all g n y bytes)
  unfolding read_all
  all_alike zero x y bytes h v = v
  all_alike (suc n) x y [] h v = v
  all_alike (suc n) x y (b ∷ bs) h v = first_alike n b bs x y h v (all_alike n)
