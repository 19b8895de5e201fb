-- The whole test is the rule, as far as it was made.
use Rattle.std.specs.Prelude.{◌≡◌, Bool, ◌&&◌, List, [], ℕ, length}
use Rattle.std.proofs.Math.Path.{sym}
use Rattle.std.proofs.Common.{◌∙◌}
use Rattle.std.proofs.Math.Bool.{true, false}
use Rattle.std.proofs.Math.Option.{Option}
use Rattle.rules.specs.Job.{Job}
use Rattle.rules.specs.Check.{job_ok}
use Rattle.stored.specs.Walk.{walk, ends}
use Rattle.stored.specs.Fits.{fits, counts_fit, nodes_fit, splits_fit}
use Rattle.stored.proofs.Fits.{fits_is}
use Rattle.check_job.specs.Walk.{RowsFit}

-- one of the first two fails
no_first : (a b c : Bool) → a ≡ false → a && b && c ≡ false
no_first a b c h = rw h

no_second : (a b c : Bool) → a ≡ true → b ≡ false → a && b && c ≡ false
no_second a b c h k = rw (h, k)

-- the last of three decides
third : (a b c : Bool) → a ≡ true → b ≡ true → a && b && c ≡ c
third a b c h k = rw (h, k)

module _ (j : Job) (v : RowsFit j.nodes) where
  -- counts that do not fit
  pub counts_fail : counts_fit j ≡ false → false ≡ job_ok j
  unfolding fits
  counts_fail h = sym (no_first (counts_fit j) (nodes_fit j) (splits_fit j) h) ∙ fits_is j v

  module _ (h : counts_fit j ≡ true) (w : Option (List ℕ)) (e : w ≡ walk j.nodes 0 (length j.nodes) []) (ok : Bool) (o : ok ≡ ends j.nodes w) where
    -- what is left on the stack is the nodes' test
    nodes_by : (b : Bool) → ok ≡ b → nodes_fit j ≡ b
    nodes_by b k = let q : ok ≡ ends j.nodes (walk j.nodes 0 (length j.nodes) []) = rw e at o in sym q ∙ k

    -- nodes that do not fit
    pub nodes_fail : ok ≡ false → false ≡ job_ok j
    unfolding fits
    nodes_fail k = sym (no_second (counts_fit j) (nodes_fit j) (splits_fit j) h (nodes_by false k)) ∙ fits_is j v

    -- then the splits decide
    pub splits_decide : (b : Bool) → ok ≡ true → b ≡ splits_fit j → b ≡ job_ok j
    unfolding fits
    splits_decide b k s = s ∙ sym (third (counts_fit j) (nodes_fit j) (splits_fit j) h (nodes_by true k)) ∙ fits_is j v
