-- The fields of a stored node, each in its place.
use Rattle.std.specs.Prelude.{ℕ, ◌+◌, ◌*◌, ◌≤◌, ◌<◌, ◌≡◌, Bool, Option, None, Some, is_some, unwrap_or, ◌&&◌, List, eqb, leb, ltb, length, get_or, take, drop, if◌then◌else◌}
use Rattle.std.proofs.Common.{arith, sym, ap, ap₂, ◌∙◌}
use Rattle.std.proofs.Math.Path.{refl}
use Rattle.std.proofs.lemmas.Bool.{false≢true}
use Rattle.std.proofs.Math.Bool.{true, false}
use borrow.Author.Tests.{lt-ltb, le-ltb, leb-true, leb-false, ltb-true, ltb-false, ne_eqb, le-leb, lt-leb}
use Rattle.rules.specs.Job.{Node, no_node, concat, pack, is_segment}
use Rattle.rules.specs.Plan.{node_of, is_leaf}
use Rattle.laws.specs.Table.{by_bool}
use Rattle.layout.specs.Cut.{cut}
use Rattle.layout.specs.Numbers.{byte, word}
use Rattle.layout.specs.Records.{table}
use Rattle.layout.specs.Stored.{first_at, byte_at}
use Rattle.tables.specs.Decode.{node, node_from, kind_from}
use Rattle.tables.specs.View.{view, Sized}
use Rattle.tables.specs.Job.{node_loaded, node_past, node_number, counts_in}
use Rattle.table_job.specs.Within.{word_within}

-- where the record of a node of one of the three kinds begins, if there is one
abbrev pub record_at : List ℕ → ℕ → Option ℕ
record_at s n = if ltb n (length (view s).job.nodes) && leb (get_or s (679 + n * 19) 0) 2 then Some (679 + n * 19) else None

-- that there is one, or none
there_is : {o : Option ℕ} {a : ℕ} → o ≡ Some a → o ≡ None → ⊥
there_is e f = false≢true (ap (λ (x : Option ℕ). is_some x) (sym f ∙ e))

-- its bytes
abbrev record_of : List ℕ → ℕ → List ℕ
record_of s n = take 19 (drop (679 + n * 19) s)

-- its numbers
abbrev words_of : List ℕ → ℕ → List ℕ
words_of s n = table word 4 4 (cut 3 19 (record_of s n))

module _ (s : List ℕ) (z : Sized s) (n : ℕ) where
  kind_at : byte (record_of s n) 0 ≡ get_or s (679 + n * 19) 0
  kind_at = first_at s (679 + n * 19) 19 refl

  -- Where it is

  pub at_past : length (view s).job.nodes ≤ n → record_at s n ≡ None
  at_past h = rw (le-ltb n (length (view s).job.nodes) h)

  pub at_other : n < length (view s).job.nodes → 2 < get_or s (679 + n * 19) 0 → record_at s n ≡ None
  at_other h k = rw (lt-ltb n (length (view s).job.nodes) h, lt-leb (get_or s (679 + n * 19) 0) 2 k)

  pub at_known : n < length (view s).job.nodes → get_or s (679 + n * 19) 0 ≤ 2 → record_at s n ≡ Some (679 + n * 19)
  at_known h k = rw (lt-ltb n (length (view s).job.nodes) h, le-leb (get_or s (679 + n * 19) 0) 2 k)

  -- no more nodes than the table has places
  few_nodes : n < length (view s).job.nodes → n < 24
  few_nodes h = let w = counts_in s z n h in omega (arith, node_number s z w.0 w.1)

  -- What it says

  unknown_kind : n < length (view s).job.nodes → 2 < get_or s (679 + n * 19) 0 → node_of (view s).job n ≡ no_node
  unfolding node
  unknown_kind h k = node_loaded s z n h ∙ rw (kind_at, lt-leb (get_or s (679 + n * 19) 0) 2 k)

  known_kind : n < length (view s).job.nodes → get_or s (679 + n * 19) 0 ≤ 2
      → node_of (view s).job n ≡ node_from (get_or s (679 + n * 19) 0) (byte (record_of s n) 1) (byte (record_of s n) 2) (words_of s n)
  unfolding node
  known_kind h k = node_loaded s z n h ∙ rw (kind_at, le-leb (get_or s (679 + n * 19) 0) 2 k)

  -- there is none
  pub no_record : record_at s n ≡ None → no_node ≡ node_of (view s).job n
  no_record e =
      by_bool (ltb n (length (view s).job.nodes))
      (λ t. let h : n < length (view s).job.nodes = ltb-true n (length (view s).job.nodes) t in
      by_bool (leb (get_or s (679 + n * 19) 0) 2)
      (λ u. absurd (there_is (at_known h (leb-true (get_or s (679 + n * 19) 0) 2 u)) e))
      (λ u. sym (unknown_kind h (leb-false (get_or s (679 + n * 19) 0) 2 u))))
      (λ t. node_past s z n (ltb-false n (length (view s).job.nodes) t))

  -- there is one
  there : (a : ℕ) → record_at s n ≡ Some a → (n < length (view s).job.nodes) × (get_or s (679 + n * 19) 0 ≤ 2) × (a ≡ 679 + n * 19)
  there a e =
      by_bool (ltb n (length (view s).job.nodes))
      (λ t. let h : n < length (view s).job.nodes = ltb-true n (length (view s).job.nodes) t in
      by_bool (leb (get_or s (679 + n * 19) 0) 2)
      (λ u. let k : get_or s (679 + n * 19) 0 ≤ 2 = leb-true (get_or s (679 + n * 19) 0) 2 u in
      (h, k, ap (λ (x : Option ℕ). unwrap_or x 0) (sym e ∙ at_known h k)))
      (λ u. absurd (there_is e (at_other h (leb-false (get_or s (679 + n * 19) 0) 2 u)))))
      (λ t. absurd (there_is e (at_past (ltb-false n (length (view s).job.nodes) t))))

  word_at : (b k : ℕ) → n < length (view s).job.nodes → k < 4 → b ≡ 679 + n * 19 + 3 + k * 4 → word (take 4 (drop b s)) ≡ get_or (words_of s n) k 0
  word_at b k h i e = let f = few_nodes h in rw e (sym (word_within s (679 + n * 19) 19 3 4 k i (omega arith) (omega arith)))

  module _ (a : ℕ) (e : record_at s n ≡ Some a) where
    pub width_in : get_or s (a + 1) 0 ≡ (node_of (view s).job n).width
    width_in =
        let w = there a e in
        let i : a + 1 ≡ 679 + n * 19 + 1 = omega (arith, w.2) in
        ap (λ (k : ℕ). get_or s k 0) i ∙ sym (byte_at s (679 + n * 19) 19 1 refl) ∙ sym (ap (λ (x : Node). x.width) (known_kind w.0 w.1))

    pub segment_in : word (take 4 (drop (a + 3) s)) ≡ (node_of (view s).job n).segment
    segment_in = let w = there a e in word_at (a + 3) 0 w.0 (omega arith) (omega (arith, w.2))
        ∙ sym (ap (λ (x : Node). x.segment) (known_kind w.0 w.1))

    pub rows_in : word (take 4 (drop (a + 7) s)) ≡ (node_of (view s).job n).rows
    rows_in = let w = there a e in word_at (a + 7) 1 w.0 (omega arith) (omega (arith, w.2)) ∙ sym (ap (λ (x : Node). x.rows) (known_kind w.0 w.1))

    pub first_in : word (take 4 (drop (a + 11) s)) + 4294967296 * word (take 4 (drop (a + 15) s)) ≡ (node_of (view s).job n).at
    first_in =
        let w = there a e in
        ap₂ (λ (x y : ℕ). x + 4294967296 * y) (word_at (a + 11) 2 w.0 (omega arith) (omega (arith, w.2)))
        (word_at (a + 15) 3 w.0 (omega arith) (omega (arith, w.2)))
        ∙ sym (ap (λ (x : Node). x.at) (known_kind w.0 w.1))

  -- A leaf

  pub leaf_past : length (view s).job.nodes ≤ n → false ≡ is_leaf (view s).job n
  leaf_past h = rw (le-ltb n (length (view s).job.nodes) h)

  pub leaf_zero : n < length (view s).job.nodes → get_or s (679 + n * 19) 0 ≡ 0 → eqb (get_or s (679 + n * 19) 0) 0 ≡ is_leaf (view s).job n
  unfolding kind_from
  leaf_zero h k = rw (lt-ltb n (length (view s).job.nodes) h, known_kind h (omega (arith, k)), k)

  pub leaf_other : n < length (view s).job.nodes → (get_or s (679 + n * 19) 0 ≡ 0 → ⊥) → ltb 2 (get_or s (679 + n * 19) 0) ≡ is_leaf (view s).job n
  unfolding kind_from
  leaf_other h k =
      by_bool (ltb 2 (get_or s (679 + n * 19) 0))
      (λ t. rw (t, lt-ltb n (length (view s).job.nodes) h, unknown_kind h (ltb-true 2 (get_or s (679 + n * 19) 0) t)))
      (λ t. rw (t, lt-ltb n (length (view s).job.nodes) h, known_kind h (ltb-false 2 (get_or s (679 + n * 19) 0) t), ne_eqb (get_or s (679 + n * 19) 0) 0 k)
      (no_segment (eqb (get_or s (679 + n * 19) 0) 1)))
    where
      no_segment : (b : Bool) → false ≡ is_segment (if b then concat else pack)
      no_segment true = refl
      no_segment false = refl
