-- The inner actions of a step, one by one.
use Rattle.std.specs.Prelude.{◌≡◌, ◌⊎◌, List, [], ◌∷◌, ℕ, ◌<◌, length, ltb}
use Rattle.std.proofs.Math.Logic.{inl, inr}
use Rattle.std.proofs.Math.Option.{some}
use borrow.Author.Tests.{ltb-true}
use Rattle.rules.specs.Table.{find}
use Rattle.rules.specs.Machine.{Machine, with_dirty}
use Rattle.rules.specs.Scan.{more, is_free, slots_of, advance, activate, run_next, from_ready, from_splits, from_dirty, from_reads, inner}
use Rattle.laws.specs.Table.{by_bool, by_list, by_option, clash}

-- what a step does before it starts over: a dirty slot's turn, an activation, or a run; nothing is held or new then
pub record Free (m : Machine) : Type 0 where
  pub outputs : m.outputs ≡ []
  pub news : m.news ≡ []

abbrev pub Serving : Machine → Machine → Type 0
Serving m m' = (k : ℕ) × (ks : List ℕ) × (m.dirty ≡ k ∷ ks) × (m' ≡ advance k (with_dirty ks m))

abbrev pub Activating : Machine → Machine → Type 0
Activating m m' = (k : ℕ) × (m.dirty ≡ []) × (m.next < length m.job.splits) × (find (is_free m) (slots_of m) ≡ some k) × (m' ≡ activate k m)

abbrev pub Running : Machine → Machine → Type 0
Running m m' = (p : ℕ) × (ps : List ℕ) × (m.dirty ≡ []) × (m.ready ≡ p ∷ ps) × (m' ≡ run_next p ps m)

abbrev pub Action : Machine → Machine → Type 0
Action m m' = Serving m m' ⊎ (Activating m m' ⊎ Running m m')

module _ (m m' : Machine) where
  ready_action : m.dirty ≡ [] → from_ready m ≡ more m' → Action m m'
  unfolding from_ready
  ready_action d e = by_list m.ready
      (λ r. clash (cc (rw (r, from_ready) at e)))
      (λ p ps r. inr (inr (p, ps, d, r, cc (rw (r, from_ready) at e))))

  splits_action : m.dirty ≡ [] → from_splits m ≡ more m' → Action m m'
  unfolding from_splits
  splits_action d e = by_bool (ltb m.next (length m.job.splits))
      (λ h. by_option (find (is_free m) (slots_of m))
      (λ n. ready_action d (rw (h, from_splits, n) at e))
      (λ k f. inr (inl (k, d, ltb-true m.next (length m.job.splits) h, f, cc (rw (h, from_splits, f) at e)))))
      (λ h. ready_action d (rw (h, from_splits) at e))

  dirty_action : from_dirty m ≡ more m' → Action m m'
  unfolding from_dirty
  dirty_action e = by_list m.dirty
      (λ d. splits_action d (rw (d, from_dirty) at e))
      (λ k ks d. inl (k, ks, d, cc (rw (d, from_dirty) at e)))

  pub action : inner m ≡ more m' → Free m × Action m m'
  unfolding inner from_reads
  action e = by_list m.outputs
      (λ o. by_list m.news
      (λ n. (record { outputs = o; news = n }, dirty_action (rw (o, inner, n, from_reads) at e)))
      (λ r rs n. clash (cc (rw (o, inner, n, from_reads) at e))))
      (λ o os q. clash (cc (rw (q, inner) at e)))
