-- A step, action by action: what is still to be done comes to the same.
use Rattle.std.specs.Prelude.{◌≡◌, refl, Bool, true, false, List, [], ◌∷◌, ℕ, suc, ◌-◌, ◌<◌, ◌≤◌, length, drop}
use Rattle.std.proofs.Common.{sym, ◌∙◌, arith}
use Rattle.rules.specs.Table.{get}
use Rattle.rules.specs.Machine.{Machine, Output, zeroed, with_outputs}
use Rattle.rules.specs.Drive.{patience}
use Rattle.rules.specs.Scan.{Turn, Answer, refuses, says, output, more, answers, inner, from_reads, stepping}
use Rattle.laws.specs.Table.{clash}
use Rattle.order.specs.Ranged.{Ranged}
use Rattle.order.specs.Measure.{measure}
use Rattle.order.specs.Bounds.{measure_bound}
use Rattle.order.specs.RangeAction.{action_ranged}
use Rattle.order.specs.ActionFalls.{action_falls}
use Rattle.order.specs.Fuel.{steps_stop}
use Rattle.tables.specs.View.{view, machine_len}
use Rattle.tables.specs.Outputs.{no_output}
use Rattle.numbers.specs.Tests.{one_less}

on_true : (b : Bool) (x y : Answer Turn) → b ≡ true → elim b [ true ↦ x | false ↦ y ] ≡ x
on_true b x y e = rw e

on_false : (b : Bool) (x y : Answer Turn) → b ≡ false → elim b [ true ↦ x | false ↦ y ] ≡ y
on_false b x y e = rw e

-- an answer ends the step
answers_by : (f : ℕ) (m : Machine) (a : Answer Turn) → inner m ≡ answers a → stepping (suc f) m ≡ a
unfolding stepping
answers_by f m a e = rw (e, stepping)

pub step_answers : (m : Machine) (a : Answer Turn) → answers a ≡ inner m → a ≡ stepping patience m
step_answers m a e = rw (one_less patience (omega arith)) (sym (answers_by (patience - 1) m a (sym e)))

-- an action with a cause of 14
fails_by : (f : ℕ) (m n : Machine) → inner m ≡ more n → n.fault ≡ true → stepping (suc f) m ≡ refuses 14 zeroed
unfolding stepping
fails_by f m n e d = rw (e, stepping) (on_true n.fault (refuses 14 zeroed) (stepping f n) d)

pub step_fails : (m n : Machine) → more n ≡ inner m → n.fault ≡ true → refuses 14 zeroed ≡ stepping patience m
step_fails m n e d = rw (one_less patience (omega arith)) (sym (fails_by (patience - 1) m n (sym e) d))

-- one after which the step starts over
goes_by : (f : ℕ) (m n : Machine) → inner m ≡ more n → n.fault ≡ false → stepping (suc f) m ≡ stepping f n
unfolding stepping
goes_by f m n e d = rw (e, stepping) (on_false n.fault (refuses 14 zeroed) (stepping f n) d)

pub record Goes (m n : Machine) : Type 0 where
  pub same : stepping patience m ≡ stepping patience n
  pub ranged : Ranged n
  pub less : measure n < measure m

pub step_goes : (m n : Machine) → Ranged m → more n ≡ inner m → n.fault ≡ false → Goes m n
step_goes m n r q d =
    let e = sym q in
    let k = action_ranged m n r e in
    let l = action_falls m n r e k d in
    let b = measure_bound m r in
    record {
      same = rw (one_less patience (omega arith)) (goes_by (patience - 1) m n e d)
          ∙ steps_stop (patience - 1) patience n k (omega (arith, l, b)) (omega (arith, l, b));
      ranged = k;
      less = l;
    }

-- Outputs held

pub none_held : (m : Machine) → length m.outputs ≤ 0 → m.outputs ≡ []
none_held m h = by m.outputs h
  where
    by : (l : List Output) → length l ≤ 0 → l ≡ []
    by [] h = refl
    by (x ∷ l) h = absurd (omega (arith, h))

pub inner_reads : (m : Machine) → m.outputs ≡ [] → from_reads m ≡ inner m
unfolding inner
inner_reads m e = by m.outputs e
  where
    by : (l : List Output) → l ≡ [] → from_reads m ≡ elim l [ [] ↦ from_reads m | o ∷ os ↦ answers (says (output o.split o.batch) (with_outputs os m)) ]
    by [] d = refl
    by (x ∷ l) d = clash (cc)

pub inner_puts : (o : Output) (m n : Machine) → 0 < length m.outputs → o ≡ get no_output m.outputs 0 → n ≡ with_outputs (drop 1 m.outputs) m
    → answers (says (output o.split o.batch) n) ≡ inner m
unfolding inner
inner_puts o m n h e w = rw (w, e) (by m.outputs h)
  where
    by : (l : List Output) → 0 < length l → answers (says (output (get no_output l 0).split (get no_output l 0).batch) (with_outputs (drop 1 l) m))
        ≡ elim l [ [] ↦ from_reads m | o ∷ os ↦ answers (says (output o.split o.batch) (with_outputs os m)) ]
    by [] h = absurd (omega (arith, h))
    by (x ∷ l) h = refl

-- The lent bytes within a step

pub record On (s₀ s : List ℕ) : Type 0 where
  pub size : length s ≡ length s₀
  pub same : stepping patience (view s₀) ≡ stepping patience (view s)
  pub ranged : Ranged (view s)
  pub past : drop machine_len s ≡ drop machine_len s₀

pub on_start : (s : List ℕ) → Ranged (view s) → On s s
on_start s r = record { size = refl; same = refl; ranged = r; past = refl }

pub on_next : (a b c : List ℕ) → On a b → Goes (view b) (view c) → length c ≡ length b → drop machine_len c ≡ drop machine_len b → On a c
on_next a b c x g l d = record { size = l ∙ x.size; same = x.same ∙ g.same; ranged = g.ranged; past = d ∙ x.past }
