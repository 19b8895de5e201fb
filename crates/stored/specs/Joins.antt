-- Children that fit a node have its rows and its width as the rules count them.
use Rattle.std.specs.Prelude.{◌≡◌, ◌≢◌, false, ℕ}
use Rattle.std.proofs.Math.Path.{refl, sym}
use Rattle.std.proofs.Common.{◌∙◌}
use mathlib.Core.List.{List, [], ◌∷◌, map}
use Rattle.rules.specs.Job.{Kind, segment, concat, pack, Node, node_at, is_segment, rows_of, width_of, unequal}
use Rattle.laws.specs.Table.{clash}
use Rattle.laws.specs.KidRows.{sum_map}
use Rattle.stored.specs.Lists.{none_other, other_none}
use Rattle.stored.specs.Stand.{Stand, Fit}

module _ (ns : List Node) (x : Node) where
  -- their rows
  pub fit_rows : (k : Kind) (cs : List ℕ) → is_segment k ≡ false → cs ≢ [] → Fit ns k x cs → x.rows ≡ rows_of k (map (node_at ns) cs)
  unfolding rows_of
  fit_rows segment cs s h f = clash (cc)
  fit_rows concat [] s h f = absurd (h refl)
  fit_rows concat (c ∷ cs) s h f = sym f.adds ∙ sym (sum_map (λ (y : Node). y.rows) (node_at ns) (c ∷ cs))
  fit_rows pack [] s h f = absurd (h refl)
  fit_rows pack (c ∷ cs) s h f = sym f.even.0

  -- their width
  pub fit_width : (k : Kind) (cs : List ℕ) → is_segment k ≡ false → cs ≢ [] → Fit ns k x cs → x.width ≡ width_of k (map (node_at ns) cs)
  unfolding width_of
  fit_width segment cs s h f = clash (cc)
  fit_width concat [] s h f = absurd (h refl)
  fit_width concat (c ∷ cs) s h f = sym f.even.0
  fit_width pack [] s h f = absurd (h refl)
  fit_width pack (c ∷ cs) s h f = sym f.adds ∙ sym (sum_map (λ (y : Node). y.width) (node_at ns) (c ∷ cs))

  -- and none differs from the others
  pub fit_equal : (k : Kind) (cs : List ℕ) → is_segment k ≡ false → Fit ns k x cs → unequal k (map (node_at ns) cs) ≡ false
  unfolding unequal
  fit_equal segment cs s f = clash (cc)
  fit_equal concat [] s f = refl
  fit_equal concat (c ∷ cs) s f = rw f.even.0 (none_other (λ (y : Node). y.width) (node_at ns) x.width cs f.even.1)
  fit_equal pack [] s f = refl
  fit_equal pack (c ∷ cs) s f = rw f.even.0 (none_other (λ (y : Node). y.rows) (node_at ns) x.rows cs f.even.1)

  -- children with its rows and its width that stand in it fit
  pub joined_fit : (k : Kind) (cs : List ℕ) → is_segment k ≡ false → cs ≢ [] → x.rows ≡ rows_of k (map (node_at ns) cs) → x.width ≡ width_of k (map (node_at ns) cs)
      → unequal k (map (node_at ns) cs) ≡ false → Stand k (λ c. (node_at ns c).at) (λ c. (node_at ns c).rows) x.at cs → Fit ns k x cs
  unfolding rows_of width_of unequal
  joined_fit segment cs s h r w u p = clash (cc)
  joined_fit concat [] s h r w u p = absurd (h refl)
  joined_fit concat (c ∷ cs) s h r w u p = record {
    even = (sym w, rw (← w) at (other_none (λ (y : Node). y.width) (node_at ns) (node_at ns c).width cs u));
    adds = sym (sum_map (λ (y : Node). y.rows) (node_at ns) (c ∷ cs)) ∙ sym r;
    stand = p;
  }
  joined_fit pack [] s h r w u p = absurd (h refl)
  joined_fit pack (c ∷ cs) s h r w u p = record {
    even = (sym r, rw (← r) at (other_none (λ (y : Node). y.rows) (node_at ns) (node_at ns c).rows cs u));
    adds = sym (sum_map (λ (y : Node). y.width) (node_at ns) (c ∷ cs)) ∙ sym w;
    stand = p;
  }
