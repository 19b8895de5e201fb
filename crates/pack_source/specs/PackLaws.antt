-- Why the answers on what a pack notes are right.
use Rattle.std.specs.Prelude.{◌≡◌, ℕ, ◌≤◌, ◌<◌, min, length, set, replicate, Ok}
use Rattle.std.proofs.Common.{sym, ap, ◌∙◌, arith, lt-ltb}
use Rattle.rules.specs.Port as rows
use Rattle.rules.specs.Pipelines.{all_inlets}
use Rattle.queue.specs.declared.seen.Seen.{Seen}
use Rattle.queue.specs.declared.seen.Seen.TheVariants.{Waiting}
use Rattle.queue.specs.Seen.{seen_of}
use Rattle.numbers.specs.Arrays.{count_is}
use Rattle.inlet_set.specs.declared.set.InletSet.{InletSet}
use Rattle.inlet_set.specs.InletSet.{set_of}
use Rattle.pack_source.specs.declared.pack.PackSource.{PackSource}
use Rattle.numbers.specs.Arrays.{put_in, same_in}
use Rattle.pack_source.specs.Pack.{seen_in, view_of, fresh, Notes, Observes}

pub few : (p : PackSource) (n : ℕ) → n ≡ length (seen_in p) → length p.shown ≡ 4 → n ≤ 4
few p n c long = omega (arith, count_is seen_of p.len p.shown 4 long)

pub fresh_is : (n k : ℕ) (w : InletSet) → k ≡ min n 4 → set_of w ≡ all_inlets (min k 23)
    → view_of (record { shown = replicate 4 Waiting; len = k; waiting = w }) ≡ fresh (min n 4)
fresh_is n k w e a =
    let m : min k 23 ≡ k = omega arith in
    rw (same_in seen_of k 4 Waiting (omega arith), a, m, e)

module _ (p : PackSource) (i : ℕ) (s : Seen) (n : ℕ) (c : n ≡ length (seen_in p)) where
  pub observe_is : (r : PackSource) → length p.shown ≡ 4 → i < n → Notes (seen_of s) i p (Ok r)
      → Observes p i (seen_of s) (Ok (record { shown = set r.shown i s; len = r.len; waiting = r.waiting }))
  observe_is r long h m =
      let t = lt-ltb i (length (seen_in p)) (rw c at h) in
      let u = sym m.ok in
      let a : r.shown ≡ p.shown = ap (λ (x : PackSource). x.shown) m.rest in
      let b : r.len ≡ p.len = ap (λ (x : PackSource). x.len) m.rest in
      let k = c ∙ count_is seen_of p.len p.shown 4 long in
      record {
        ok = rw (t, u);
        pack = rw (a, b, t, u, put_in seen_of rows.waiting p.len p.shown i s (omega arith) (omega arith), m.set, u);
      }
