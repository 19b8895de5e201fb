-- The stored job: how many nodes and splits there are, and what their records say.
use Rattle.std.specs.Prelude.{◌≡◌, List, ℕ, ◌+◌, ◌*◌, ◌≤◌, ◌<◌, min, leb, length, get_or, take, drop}
use Rattle.std.proofs.Math.Path.{refl, sym}
use Rattle.std.proofs.Common.{◌∙◌, arith, get_or-take, length-take-le}
use Rattle.std.proofs.Math.ListN.{length-take}
use borrow.Author.Tests.{le-leb, lt-leb, leb-true, leb-false}
use Rattle.rules.specs.Table.{get}
use Rattle.rules.specs.Job.{no_node}
use Rattle.rules.specs.Plan.{node_of, split_of, no_split}
use Rattle.laws.specs.Table.{get_get_or, get_past, by_bool}
use Rattle.layout.specs.Cut.{cut}
use Rattle.layout.specs.Numbers.{byte}
use Rattle.layout.specs.Records.{table, length_table}
use Rattle.layout.specs.Stored.{loaded, byte_at}
use Rattle.tables.specs.Decode.{node, split}
use Rattle.tables.specs.View.{view, job_from, Sized}
use Rattle.numbers.specs.Tests.{and_no}

-- an entry of a front part
pub get_take : {A : Type 0} (d : A) (l : List A) (c i : ℕ) → i < c → get d (take c l) i ≡ get d l i
get_take d l c i h = get_get_or d (take c l) i ∙ get_or-take c l i d h ∙ sym (get_get_or d l i)

module _ (s : List ℕ) (z : Sized s) where
  pub slots_at : get_or s 0 0 ≡ (view s).job.slots
  unfolding view job_from cut
  slots_at = sym (byte_at s 0 3 0 refl)

  -- Nodes

  pub too_many_nodes : 24 < get_or s 1 0 → 0 ≡ length (view s).job.nodes
  unfolding view job_from cut
  too_many_nodes h = rw (byte_at s 0 3 1 refl, lt-leb (get_or s 1 0) 24 h) refl

  pub too_many_splits : 16 < get_or s 2 0 → 0 ≡ length (view s).job.nodes
  unfolding view job_from cut
  too_many_splits h = rw (byte_at s 0 3 2 refl, lt-leb (get_or s 2 0) 16 h, and_no (leb (byte (cut 0 3 s) 1) 24)) refl

  pub node_number : get_or s 1 0 ≤ 24 → get_or s 2 0 ≤ 16 → get_or s 1 0 ≡ length (view s).job.nodes
  unfolding view job_from cut
  node_number h k = rw (byte_at s 0 3 1 refl, byte_at s 0 3 2 refl, le-leb (get_or s 1 0) 24 h, le-leb (get_or s 2 0) 16 k)
      (sym (length-take-le (get_or s 1 0) (table node 19 24 (cut 679 1135 s)) (rw (length_table node 19 24 (cut 679 1135 s)) h)))

  -- where there is a node, both counts are within their tables
  pub counts_in : (n : ℕ) → n < length (view s).job.nodes → (get_or s 1 0 ≤ 24) × (get_or s 2 0 ≤ 16)
  counts_in n h = (
    by_bool (leb (get_or s 1 0) 24) (leb-true (get_or s 1 0) 24) (λ e. let q = too_many_nodes (leb-false (get_or s 1 0) 24 e) in absurd (omega arith)),
    by_bool (leb (get_or s 2 0) 16) (leb-true (get_or s 2 0) 16) (λ e. let q = too_many_splits (leb-false (get_or s 2 0) 16 e) in absurd (omega arith)),
  )

  pub node_loaded : (n : ℕ) → n < length (view s).job.nodes → node_of (view s).job n ≡ node (take 19 (drop (679 + n * 19) s))
  unfolding view job_from cut
  node_loaded n h =
      let w = counts_in n h in
      let c = node_number w.0 w.1 in
      rw (byte_at s 0 3 1 refl, byte_at s 0 3 2 refl, le-leb (get_or s 1 0) 24 w.0, le-leb (get_or s 2 0) 16 w.1)
      (get_take no_node (table node 19 24 (cut 679 1135 s)) (get_or s 1 0) n (omega arith) ∙ loaded node 679 19 24 s n no_node (omega arith) (omega arith))

  -- past the last
  pub node_past : (n : ℕ) → length (view s).job.nodes ≤ n → no_node ≡ node_of (view s).job n
  node_past n h = sym (get_past no_node (view s).job.nodes n h)

  -- Splits

  pub split_number : length (view s).job.splits ≡ min (get_or s 2 0) 16
  unfolding view job_from cut
  split_number = rw (byte_at s 0 3 2 refl, length-take (get_or s 2 0) (table split 137 16 (cut 1135 3327 s)), length_table split 137 16 (cut 1135 3327 s)) refl

  pub split_loaded : (i : ℕ) → i < length (view s).job.splits → split_of (view s).job i ≡ split (take 137 (drop (1135 + i * 137) s))
  unfolding view job_from cut
  split_loaded i h =
      let c = split_number in
      rw (byte_at s 0 3 2 refl)
      (get_take no_split (table split 137 16 (cut 1135 3327 s)) (get_or s 2 0) i (omega (arith, c))
      ∙ loaded split 1135 137 16 s i no_split (omega (arith, c)) (omega arith))

  pub split_past : (i : ℕ) → length (view s).job.splits ≤ i → no_split ≡ split_of (view s).job i
  split_past i h = sym (get_past no_split (view s).job.splits i h)
