-- The runs of a split, copied from the job bytes and joined: some are written, one is in hand, and those from number i on are to come.
use Rattle.std.specs.Prelude.{◌≡◌, true, false, eqb}
use Rattle.std.proofs.Math.Path.{refl, ap}
use Rattle.std.proofs.Common.{sym, ◌∙◌, add-one}
use mathlib.Core.List.{List, [], ◌∷◌, ◌++◌, append_assoc}
use Rattle.std.proofs.Math.Option.{none}
use Prim.Native.Nat.{ℕ, suc, ◌+◌, ◌*◌, ◌-◌, ◌≤◌, ◌<◌}
use native.Mathlib.Omega.{arith}
use borrow.Author.Tests.{eqb-true}
use Rattle.rules.specs.Job as rule
use Rattle.laws.specs.Meeting.{read_within, first_sound, rest_sound}
use Rattle.records.specs.Read.{run_at, runs_at}
use Rattle.split_records.specs.declared.Outline.{Outline}
use Rattle.split_records.specs.Split.{Lies}

module _ (b : List ℕ) (x : Outline) where
  -- the runs from number i on
  abbrev pub rest : ℕ → List rule.Run
  rest i = runs_at b (x.at + 8 * i) (x.count - i)

  -- where a run is in hand: what it makes with those to come stands behind what is written
  pub record InHand (i : ℕ) (ws : List rule.Run) (y : rule.Run) : Type 0 where
    pub is : ws ++ rule.join_onto y (rest i) ≡ rule.join_runs (runs_at b x.at x.count)
    pub sound : rule.read_faults (x.end - x.start) i (y.start + y.size) (rest i) ≡ none

  -- there are none
  pub hand_none : x.count ≡ 0 → [] ≡ rule.join_runs (runs_at b x.at x.count)
  unfolding runs_at
  hand_none e = rw e refl

  -- the first is taken
  pub hand_first : Lies b x → (x.count ≡ 0 → ⊥) → (y : rule.Run) → y ≡ run_at b x.at → InHand 1 [] y
  unfolding runs_at
  hand_first v h y e =
      let n : x.count ≡ suc (x.count - 1) = omega (arith, h) in
      let p : x.at + 8 ≡ x.at + 8 * 1 = omega arith in
      let a : runs_at b x.at x.count ≡ y ∷ rest 1 = ap (λ (m : ℕ). runs_at b x.at m) n ∙ rw (p, e) refl in
      record {
        is = ap rule.join_runs (sym a);
        sound = rest_sound (x.end - x.start) 0 0 y (rest 1) (ap (rule.read_faults (x.end - x.start) 0 0) (sym a) ∙ v.sound);
      }

  module _ (i : ℕ) (ws : List rule.Run) (y z : rule.Run) (h : i < x.count) (e : z ≡ run_at b (x.at + 8 * i)) (v : InHand i ws y) where
    next_is : rest i ≡ z ∷ rest (i + 1)
    unfolding runs_at
    next_is =
        let n : x.count - i ≡ suc (x.count - (i + 1)) = omega arith in
        let p : x.at + 8 * i + 8 ≡ x.at + 8 * (i + 1) = omega arith in
        ap (λ (m : ℕ). runs_at b (x.at + 8 * i) m) n ∙ rw (p, e) refl

    next_sound : rule.read_faults (x.end - x.start) i (y.start + y.size) (z ∷ rest (i + 1)) ≡ none
    next_sound = ap (rule.read_faults (x.end - x.start) i (y.start + y.size)) (sym next_is) ∙ v.sound

    behind_sound : rule.read_faults (x.end - x.start) (i + 1) (z.start + z.size) (rest (i + 1)) ≡ none
    behind_sound =
        ap (λ (n : ℕ). rule.read_faults (x.end - x.start) n (z.start + z.size) (rest (i + 1))) (add-one i)
        ∙ rest_sound (x.end - x.start) i (y.start + y.size) z (rest (i + 1)) next_sound

    module _ (m : eqb (y.start + y.size) z.start ≡ true) where
      -- one that meets it lengthens it, within the split
      pub hand_fits : y.size + z.size ≤ x.end
      hand_fits =
          let w = read_within (x.end - x.start) (y.start + y.size) z
          (first_sound (x.end - x.start) i (y.start + y.size) z (rest (i + 1)) next_sound) in
          omega (arith, w.2, eqb-true (y.start + y.size) z.start m)

      pub hand_longer : InHand (i + 1) ws (rule.longer y z)
      unfolding rule.join_onto
      hand_longer =
          let f : y.start + (y.size + z.size) ≡ z.start + z.size = omega (arith, eqb-true (y.start + y.size) z.start m) in
          let j : rule.join_onto y (z ∷ rest (i + 1)) ≡ rule.join_onto (rule.longer y z) (rest (i + 1)) = rw (m, rule.join_onto) in
          record {
            is = ap (λ (l : List rule.Run). ws ++ l) (sym (ap (rule.join_onto y) next_is ∙ j)) ∙ v.is;
            sound = rw f behind_sound;
          }

    -- one that does not comes in hand, and the other is written
    pub hand_written : eqb (y.start + y.size) z.start ≡ false → InHand (i + 1) (ws ++ y ∷ []) z
    unfolding rule.join_onto
    hand_written m =
        let j : rule.join_onto y (z ∷ rest (i + 1)) ≡ y ∷ rule.join_onto z (rest (i + 1)) = rw (m, rule.join_onto) in
        record {
          is = append_assoc ws (y ∷ []) (rule.join_onto z (rest (i + 1)))
              ∙ ap (λ (l : List rule.Run). ws ++ l) (sym (ap (rule.join_onto y) next_is ∙ j)) ∙ v.is;
          sound = behind_sound;
        }

  -- none is to come
  pub hand_last : (i : ℕ) (ws : List rule.Run) (y : rule.Run) → x.count ≤ i → InHand i ws y → ws ++ y ∷ [] ≡ rule.join_runs (runs_at b x.at x.count)
  unfolding rule.join_onto runs_at
  hand_last i ws y h v =
      let n : x.count - i ≡ 0 = omega arith in
      let j : rule.join_onto y (rest i) ≡ y ∷ [] = rw n refl in
      ap (λ (l : List rule.Run). ws ++ l) (sym j) ∙ v.is
