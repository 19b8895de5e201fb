-- Calls answered one after another.
use Rattle.std.specs.Prelude.{◌≡◌, refl, length, Some, None}
use Rattle.std.proofs.Math.Path.{sym, ap}
use Rattle.std.proofs.Common.{◌∙◌, arith}
use mathlib.Core.List.{List, [], ◌∷◌, ◌++◌}
use Rattle.std.proofs.Math.Option.{Option, none, some}
use Prim.Native.Nat.{ℕ, zero, suc, ◌-◌, ◌≤◌, ◌<◌}
use Rattle.std.proofs.Math.ListN.{drop, length-drop, drop_of_length-le}
use Rattle.laws.specs.Table.{clash}
use Rattle.rules.specs.Machine.{Machine}
use Rattle.rules.specs.Session as rule
use Rattle.lines.specs.Page.{Page, puts}
use Rattle.lines.specs.PageLaws.{puts_append}
use Rattle.call_records.specs.Calls.{call_of}
use Rattle.feeding.specs.Turned.{answer_in}
use Rattle.call_records.specs.declared.calls.Call.{Call}

-- the machine that calls leave
unfoldable pub calls_leave : ℕ → List ℕ → Machine → Machine
calls_leave zero bytes m = m
calls_leave (suc f) [] m = m
calls_leave (suc f) (b ∷ bs) m = elim (rule.next_call (b ∷ bs)) [ none ↦ m | some c ↦ calls_leave f c.1 (rule.answer c.0 m).1 ]

calls_end : (f : ℕ) (m : Machine) → rule.calls f [] m ≡ []
unfolding rule.calls
calls_end zero m = refl
calls_end (suc f) m = refl

calls_some : (f : ℕ) (xs : List ℕ) (m : Machine) (c : rule.Call) (rest : List ℕ) → some (c, rest) ≡ rule.next_call xs
    → rule.calls (suc f) xs m ≡ (rule.answer c m).0 ++ rule.calls f rest (rule.answer c m).1
unfolding rule.calls rule.next_call
calls_some f [] m c rest e = clash (cc)
calls_some f (b ∷ bs) m c rest e = rw (← e, rule.calls)

calls_none : (f : ℕ) (xs : List ℕ) (m : Machine) → 0 < length xs → none ≡ rule.next_call xs → rule.calls (suc f) xs m ≡ rule.ended (rule.no_line 2)
unfolding rule.calls
calls_none f [] m h e = absurd (omega arith)
calls_none f (b ∷ bs) m h e = rw (← e, rule.calls)

leave_end : (f : ℕ) (m : Machine) → calls_leave f [] m ≡ m
unfolding calls_leave
leave_end zero m = refl
leave_end (suc f) m = refl

leave_some : (f : ℕ) (xs : List ℕ) (m : Machine) (c : rule.Call) (rest : List ℕ) → some (c, rest) ≡ rule.next_call xs
    → calls_leave (suc f) xs m ≡ calls_leave f rest (rule.answer c m).1
unfolding calls_leave rule.next_call
leave_some f [] m c rest e = clash (cc)
leave_some f (b ∷ bs) m c rest e = rw (← e, calls_leave)

leave_none : (f : ℕ) (xs : List ℕ) (m : Machine) → 0 < length xs → none ≡ rule.next_call xs → calls_leave (suc f) xs m ≡ m
unfolding calls_leave
leave_none f [] m h e = absurd (omega arith)
leave_none f (b ∷ bs) m h e = rw (← e, calls_leave)

-- what is left of the input from a position on, on machine m and page x, comes to the page `all` and the machine `last`, with fuel that is enough
pub record Left (input : List ℕ) (at : ℕ) (m : Machine) (x all : Page) (last : Machine) : Type 0 where
  pub fuel : ℕ
  pub enough : length input - at ≤ fuel
  pub is : puts (rule.calls fuel (drop at input) m) x ≡ all
  pub leaves : calls_leave fuel (drop at input) m ≡ last

pub left_start : (input : List ℕ) (at : ℕ) (m : Machine) (x : Page)
    → Left input at m x (puts (rule.calls (length (drop at input)) (drop at input) m) x) (calls_leave (length (drop at input)) (drop at input) m)
left_start input at m x = record { fuel = length (drop at input); enough = (let l = length-drop at input in omega arith); is = refl; leaves = refl }

pub left_end : (input : List ℕ) (at : ℕ) (m : Machine) (x all : Page) (last : Machine) → length input ≤ at → Left input at m x all last → (x ≡ all) × (m ≡ last)
unfolding puts
left_end input at m x all last h l =
    let e : drop at input ≡ [] = drop_of_length-le input {i = at} h in
    (rw (e, calls_end) at l.is, rw (e, leave_end) at l.leaves)

module _ (input : List ℕ) (at : ℕ) (m : Machine) (x all : Page) (last : Machine) (h : at < length input) where
  go : (f : ℕ) → length input - at ≤ f → puts (rule.calls f (drop at input) m) x ≡ all → calls_leave f (drop at input) m ≡ last
      → (c : rule.Call) (next : ℕ) → some (c, drop next input) ≡ rule.next_call (drop at input) → at < next
      → (n : Machine) (y : Page) → n ≡ (rule.answer c m).1 → y ≡ puts (rule.answer c m).0 x → Left input next n y all last
  go zero k e d c next g l n y p q = absurd (omega arith)
  go (suc f) k e d c next g l n y p q = record {
    fuel = f;
    enough = omega arith;
    is = rw (p, q) (sym (puts_append (rule.answer c m).0 (rule.calls f (drop next input) (rule.answer c m).1) x)
        ∙ ap (λ (t : List ℕ). puts t x) (sym (calls_some f (drop at input) m c (drop next input) g)) ∙ e);
    leaves = rw p (sym (leave_some f (drop at input) m c (drop next input) g) ∙ d);
  }

  halt : (f : ℕ) → length input - at ≤ f → puts (rule.calls f (drop at input) m) x ≡ all → calls_leave f (drop at input) m ≡ last
      → none ≡ rule.next_call (drop at input) → (puts (rule.ended (rule.no_line 2)) x ≡ all) × (m ≡ last)
  halt zero k e d g = absurd (omega arith)
  halt (suc f) k e d g =
      let l : 0 < length (drop at input) = simp length-drop (omega arith) in (
        ap (λ (t : List ℕ). puts t x) (sym (calls_none f (drop at input) m l g)) ∙ e,
        sym (leave_none f (drop at input) m l g) ∙ d,
      )

-- one call more
pub left_next : (input : List ℕ) (at : ℕ) (m : Machine) (x all : Page) (last : Machine) → at < length input → (c : Call) (next : ℕ)
    → some (call_of c, drop next input) ≡ rule.next_call (drop at input) → at < next
    → (n : Machine) (y : Page) (fault : Option ℕ) → fault ≡ none → n ≡ (answer_in fault (Some c) m).1 → y ≡ puts (answer_in fault (Some c) m).0 x
    → Left input at m x all last → Left input next n y all last
left_next input at m x all last h c next g l n y fault s p q a =
    go input at m x all last h a.fuel a.enough a.is a.leaves (call_of c) next g l n y (rw s at p) (rw s at q)

-- a bad one ends them
pub left_bad : (input : List ℕ) (at : ℕ) (m : Machine) (x all : Page) (last : Machine) → at < length input → none ≡ rule.next_call (drop at input)
    → (n : Machine) (y : Page) (fault : Option ℕ) → n ≡ (answer_in fault None m).1 → y ≡ puts (answer_in fault None m).0 x
    → Left input at m x all last → (y ≡ all) × (n ≡ last)
left_bad input at m x all last h g n y fault p q a =
    let k = halt input at m x all last h a.fuel a.enough a.is a.leaves g in (q ∙ k.0, p ∙ k.1)
