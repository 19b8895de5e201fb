-- Ports go one after the other, and the two halves of a split's end.
use Rattle.std.specs.Prelude.{◌≡◌, refl, true, false, List, map, ℕ, suc, ◌+◌, ◌-◌, ◌*◌, ◌≤◌, ◌<◌}
use Rattle.std.proofs.Common.{sym, ap, ◌∙◌, arith}
use Rattle.std.proofs.Math.Option.{none}
use Rattle.rules.specs.Table.{put, up_from}
use Rattle.rules.specs.Machine.{Machine, with_active, with_finished}
use Rattle.rules.specs.Ports.{free_port, free_each}
use Rattle.rules.specs.Pipelines.{by_number, retire_each}
use Rattle.rules.specs.Scan.{split_ports, end_split, empty_slot}
use Rattle.order.specs.Ranged.{Ranged}
use Rattle.order.specs.Ranging.{of_ranged, to_ranged}
use Rattle.order.specs.RangingAdvance.{clear_ranging, ports_ranging}
use Rattle.leaving.specs.Going.{going_slot, going_shared, retire_rising}

-- port f i of each node from i on
abbrev pub ports_from : (ℕ → ℕ) → ℕ → List ℕ
ports_from f i = map f (up_from i (24 - i))

ports_step : (f : ℕ → ℕ) (i n : ℕ) (m : Machine) → free_each (map f (up_from i (suc n))) m ≡ free_each (map f (up_from (suc i) n)) (free_port (f i) m)
unfolding free_each up_from
ports_step f i n m = refl

-- what is left to do from node i on is what was to do
abbrev pub Freeing : (ℕ → ℕ) → ℕ → Machine → Machine → Type 0
Freeing f i m₀ m = (i ≤ 24) × (free_each (ports_from f i) m ≡ free_each (ports_from f 0) m₀)

pub freeing_start : (f : ℕ → ℕ) (m : Machine) → Freeing f 0 m m
freeing_start f m = (omega arith, refl)

pub freeing_next : (f : ℕ → ℕ) (i x : ℕ) (m₀ m m' : Machine) → i < 24 → x ≡ f i → m' ≡ free_port x m → Freeing f i m₀ m → Freeing f (i + 1) m₀ m'
freeing_next f i x m₀ m m' h e g d =
    let s : i + 1 ≡ suc i = omega arith in
    let a : 24 - i ≡ suc (24 - suc i) = omega arith in
    let b : free_each (ports_from f i) m ≡ free_each (ports_from f (suc i)) (free_port (f i) m) = rw a (ports_step f i (24 - suc i) m) in
    rw (s, g, e) (h, sym b ∙ d.1)

pub freeing_end : (f : ℕ → ℕ) (i : ℕ) (m₀ m : Machine) → 24 ≤ i → Freeing f i m₀ m → m ≡ free_each (ports_from f 0) m₀
unfolding free_each up_from
freeing_end f i m₀ m h d = let e : i ≡ 24 = omega (arith, h, d.0) in rw e at d.1

-- the slot's pipelines, its ports, its split
pub empty_is : (k : ℕ) (m m₁ m₂ m₃ : Machine) → k < 3 → m₁ ≡ retire_rising k m → m₂ ≡ free_each (ports_from (λ i. 24 * k + i) 0) m₁
    → m₃ ≡ with_active (put none m₂.active k none) m₂ → m₃ ≡ empty_slot k m
unfolding empty_slot
empty_is k m m₁ m₂ m₃ h e f g = rw (g, f, e, going_slot m k h)

-- the mark, the split's ports, the shared sources that nobody reads
pub end_is : (t : ℕ) (m m₁ m₂ m₃ : Machine) → m₁ ≡ with_finished (put false m.finished t true) m → m₂ ≡ free_each (split_ports t) m₁
    → m₃ ≡ retire_rising 3 m₂ → m₃ ≡ end_split t m
unfolding end_split
end_is t m m₁ m₂ m₃ e f g =
    g ∙ ap (λ (ps : List ℕ). retire_each (by_number m₂.pipes ps) m₂) (going_shared m₂) ∙ rw (f, e)

-- in range on the way
pub emptied_ranged : (k : ℕ) (m m₁ : Machine) → k < 3 → Ranged m → m₁ ≡ empty_slot k m → Ranged m₁
emptied_ranged k m m₁ h r e = rw e (to_ranged (empty_slot k m) (clear_ranging m k h (of_ranged m r)))

pub freed_ranged : (t : ℕ) (m m₁ m₂ : Machine) → t < 16 → Ranged m → m₁ ≡ with_finished (put false m.finished t true) m → m₂ ≡ free_each (split_ports t) m₁
    → Ranged m₂
freed_ranged t m m₁ m₂ h r e f = rw (f, e) (to_ranged _ (ports_ranging m t h (of_ranged m r)))
