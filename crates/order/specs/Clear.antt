-- What a pipeline leaves behind when it goes: its inlets are freed, and the reads are as they were.
use Rattle.std.specs.Prelude.{◌≡◌, ◌≢◌, ◌⊎◌, true, false, ℕ, suc, ◌<◌, length, eqb}
use Rattle.std.proofs.Math.Path.{refl}
use Rattle.std.proofs.Common.{ap, ◌∙◌, inl, inr, arith, eq-eqb}
use Rattle.std.proofs.Math.Bool.{or-false}
use mathlib.Core.List.{List, [], ◌∷◌, map}
use Rattle.std.proofs.lemmas.Bool.{lt-leb}
use Rattle.rules.specs.Table.{get, put, has, is_some}
use Rattle.rules.specs.Machine.{Machine, Port, Read, no_pipe, no_port, places, is_share_port, pipe_at, inlets_at, with_pipes, with_ports, with_queues, with_freed}
use Rattle.rules.specs.Ports.{free_port, drop_inlet, drop_each}
use Rattle.rules.specs.Pipelines.{disowned, gone, retire}
use Rattle.laws.specs.Table.{by_bool, by_eq, clash, same, other}
use Rattle.laws.specs.Rising.{has_head}
use Rattle.order.specs.Inv.{port_of, shut, read_at}
use Rattle.order.specs.Lists.{has_later, by_has}

module _ {A : Type 0} (d : A) where
  -- several entries as if never written
  unfoldable pub clear : List ℕ → List A → List A
  clear [] l = l
  clear (x ∷ xs) l = clear xs (put d l x d)

  -- an entry that is not among them, and one that is
  pub clear_out : (xs : List ℕ) (l : List A) (y : ℕ) → has y xs ≡ false → get d (clear xs l) y ≡ get d l y
  unfolding clear has
  clear_out [] l y e = refl
  clear_out (x ∷ xs) l y e = by_bool (eqb y x) (λ c. clash (cc)) (λ c. let n : y ≢ x = λ i. clash (cc (eq-eqb y x i)) in clear_out xs (put d l x d) y (rw c at e) ∙ other d l x y d n)

  pub clear_in : (xs : List ℕ) (l : List A) (y : ℕ) → has y xs ≡ true → get d (clear xs l) y ≡ d
  unfolding clear has
  clear_in [] l y e = clash (cc)
  clear_in (x ∷ xs) l y e = by_bool (has y xs) (λ c. clear_in xs (put d l x d) y c)
      (λ c. clear_out xs (put d l x d) y c ∙ by_has y x xs e (λ i. rw (i, same)) (λ h. clash (cc)))

-- an inlet that is closed, or was freed before, is freed
drop_one : (x : ℕ) (m : Machine) → (shut m.ports x ≡ true) ⊎ (port_of m.ports x ≡ no_port) → drop_inlet x m ≡ free_port x m
drop_one x m (inl e) = rw (e, drop_inlet)
drop_one x m (inr e) = by_bool (is_share_port x) (λ c. rw (e, drop_inlet, c)) (λ c. rw (e, drop_inlet, c, e))

-- all inlets are
drop_is : (xs : List ℕ) (m : Machine) → ((x : ℕ) → has x xs ≡ true → (shut m.ports x ≡ true) ⊎ (port_of m.ports x ≡ no_port))
    → drop_each xs m ≡ with_queues (clear [] xs m.queues) (with_ports (clear no_port xs m.ports) m)
unfolding drop_each clear
drop_is [] m h = refl
drop_is (x ∷ xs) m h = rw (drop_one x m (h x (has_head x xs))) (drop_is xs (free_port x m) (λ y e. by_eq y x (λ i. inr (rw (i, same))) (λ n. rest y n (h y (has_later y x xs e)))))
  where
    rest : (y : ℕ) → y ≢ x → (shut m.ports y ≡ true) ⊎ (port_of m.ports y ≡ no_port)
        → (shut (put no_port m.ports x no_port) y ≡ true) ⊎ (port_of (put no_port m.ports x no_port) y ≡ no_port)
    rest y n (inl e) = inl (ap (λ (z : Port). z.closed) (other no_port m.ports x y no_port n) ∙ e)
    rest y n (inr e) = inr (other no_port m.ports x y no_port n ∙ e)

-- no read waits for the one that goes
disown_none : (p : ℕ) (R : List Read) → ((r : ℕ) → r < length R → is_some p (read_at R r).owner ≡ false) → map (disowned p) R ≡ R
disown_none p [] h = refl
disown_none p (x ∷ R) h = rw (h 0 (omega arith), disown_none p R (λ r k. h (suc r) (omega arith)))

-- what retiring comes to
pub retire_is : (p : ℕ) (m : Machine) → ((x : ℕ) → has x (inlets_at m p) ≡ true → shut m.ports x ≡ true)
    → ((r : ℕ) → r < length m.reads → is_some p (read_at m.reads r).owner ≡ false) → length m.freed < places
    → retire p m ≡ with_freed ((pipe_at m p).number ∷ m.freed) (with_pipes (put no_pipe m.pipes p (gone (pipe_at m p)))
    (with_queues (clear [] (inlets_at m p) m.queues) (with_ports (clear no_port (inlets_at m p) m.ports) m)))
unfolding retire
retire_is p m h d f = rw (drop_is (inlets_at m p) m (λ x e. inl (h x e)), lt-leb places (length m.freed) f, or-false m.fault, disown_none p m.reads d)
