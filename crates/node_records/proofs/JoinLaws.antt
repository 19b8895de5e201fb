-- The records CC and PK, one law for each answer.
use mathlib.Core.Path.{◌≡◌, sym, ◌∙◌}
use mathlib.Core.Bool.{Bool, true, false}
use mathlib.Core.List.{List, ◌∷◌, ◌++◌, map}
use Prim.Native.Nat.{ℕ, ◌+◌, ◌-◌, ◌≤◌, ◌<◌}
use native.Mathlib.Omega.{arith}
use lib.ListN.{length, take, drop}
use lib.Seq.{slice, take_at, length-take-le}
use Rattle.std.proofs.lemmas.List.{drop-take}
use borrow.Author.Tests.{eq-eqb, ne_eqb, lt-ltb, le-ltb, le-leb, lt-leb}
use Rattle.rules.specs.Table.{any, sum_of, is_empty}
use Rattle.rules.specs.Job as rule
use Rattle.jobs.specs.Job.{front, node_of}
use Rattle.node_records.specs.Draft.{newest_of, draft_of, reading_of, Fine}
use Rattle.node_records.specs.Kids.{Summed, kid_nodes, joined_of, measure_of, differs}
use Rattle.jobs.specs.declared.Node.{Node}
use Rattle.node_records.specs.declared.Draft.{Draft}
use Rattle.jobs.proofs.Front.{front_length}
use Rattle.node_records.proofs.Stack.{newest_length, newest_back, newest_rest}

-- the totals of a node's children
module _ (k : rule.Kind) (x : rule.Node) (xs ys : List rule.Node) (e : xs ≡ x ∷ ys) (w r : ℕ) (u : Bool) where
  pub summed_pack : rule.is_pack k ≡ true → w ≡ sum_of (measure_of false) xs → r ≡ measure_of true x → u ≡ any (differs true r) ys → Summed k xs w r u
  unfolding rule.width_of rule.rows_of rule.unequal
  summed_pack p a b c = record { width_is = rw (a, e, p); rows_is = rw (b, e, p); unequal_is = rw (c, b, e, p) }

  pub summed_concat : rule.is_pack k ≡ false → w ≡ measure_of false x → r ≡ sum_of (measure_of true) xs → u ≡ any (differs false w) ys → Summed k xs w r u
  unfolding rule.width_of rule.rows_of rule.unequal
  summed_concat p a b c = record { width_is = rw (a, e, p); rows_is = rw (b, e, p); unequal_is = rw (c, a, e, p) }

pub not_late : (d : Draft) → (d.slots ≡ 0 → ⊥) → rule.node_late (draft_of d) ≡ false
unfolding is_empty
not_late d h = rw (ne_eqb d.slots 0 h)

-- the children, as a part of the stack
kids_slice : (xs : List ℕ) (a b : ℕ) → a ≤ b → take (b - a) (drop a xs) ≡ slice a b xs
kids_slice xs a b h = let e : a + (b - a) ≡ b = omega arith in rw e at (sym (drop-take a (b - a) xs))

pub summed_slice : (k : rule.Kind) (nodes : List Node) (xs : List ℕ) (a b w r : ℕ) (u : Bool) → a ≤ b
    → Summed k (kid_nodes nodes (take (b - a) (drop a xs))) w r u → Summed k (kid_nodes nodes (slice a b xs)) w r u
summed_slice k nodes xs a b w r u h s = rw (kids_slice xs a b h) at s

-- the nodes below a new one, each child with its parent
pub parents_front : (nodes new : List Node) (count p : ℕ) (free : List ℕ) (a b : ℕ) → a ≤ b → count ≤ length nodes → length new ≡ length (take count nodes)
    → map node_of new ≡ rule.set_parents p (take (b - a) (drop a free)) (map node_of (take count nodes))
    → front node_of (new ++ drop count nodes) count ≡ rule.set_parents p (slice a b free) (front node_of nodes count)
unfolding front
parents_front nodes new count p free a b h m l e =
    rw (take_at new (drop count nodes) count (l ∙ length-take-le count nodes m)) (rw (kids_slice free a b h) at e)

module _ (d : Draft) (k : rule.Kind) (n : ℕ) (p : Fine d) where
  node_number : length (front node_of d.nodes d.node_count) ≡ d.node_count
  node_number = front_length node_of d.nodes d.node_count (omega (arith, p.node_table, p.node_fit, p.record_fit))

  free_number : length (newest_of d.free d.free_count) ≡ d.free_count
  free_number = newest_length d.free d.free_count (omega (arith, p.free_table, p.free_fit, p.node_fit, p.record_fit))

  newest_are : n ≤ d.free_count → rule.newest n (draft_of d) ≡ slice (d.free_count - n) d.free_count d.free
  newest_are h = newest_back d.free d.free_count n (omega (arith, p.free_table, p.free_fit, p.node_fit, p.record_fit)) h

  others_are : n ≤ d.free_count → drop n (newest_of d.free d.free_count) ≡ newest_of d.free (d.free_count - n)
  others_are h = newest_rest d.free d.free_count n (omega (arith, p.free_table, p.free_fit, p.node_fit, p.record_fit)) h

  pub join_late : rule.node_late (draft_of d) ≡ true → rule.accept (rule.join k n) (reading_of d) ≡ rule.refused 2
  unfolding rule.accept rule.unless
  join_late a = rw a

  module _ (a : rule.node_late (draft_of d) ≡ false) where
    pub join_full : 24 ≤ d.records → rule.accept (rule.join k n) (reading_of d) ≡ rule.refused 3
    unfolding rule.accept rule.unless
    join_full b = rw (a, le-leb 24 d.records b)

    module _ (b : d.records < 24) where
      pub join_none : n ≡ 0 → rule.accept (rule.join k n) (reading_of d) ≡ rule.refused 4
      unfolding rule.accept rule.unless
      join_none e = rw (a, lt-leb 24 d.records b, eq-eqb n 0 e)

      module _ (e : n ≡ 0 → ⊥) where
        pub join_few : d.free_count < n → rule.accept (rule.join k n) (reading_of d) ≡ rule.refused 4
        unfolding rule.accept rule.unless
        join_few f = rw (a, lt-leb 24 d.records b, ne_eqb n 0 e, free_number, lt-ltb d.free_count n f)

        module _ (f : n ≤ d.free_count) (w r : ℕ) (u : Bool)
            (s : Summed k (kid_nodes (take d.node_count d.nodes) (slice (d.free_count - n) d.free_count d.free)) w r u) where
          pub join_wide : 4 < w → rule.accept (rule.join k n) (reading_of d) ≡ rule.refused 3
          unfolding rule.accept rule.unless kid_nodes front
          join_wide x =
              rw (
                a,
                lt-leb 24 d.records b,
                ne_eqb n 0 e,
                free_number,
                le-ltb d.free_count n f,
                newest_are f,
                ← s.width_is,
                lt-ltb 4 w x,
              )

          module _ (x : w ≤ 4) where
            pub join_uneven : u ≡ true → rule.accept (rule.join k n) (reading_of d) ≡ rule.refused 5
            unfolding rule.accept rule.unless kid_nodes front
            join_uneven y =
                rw (
                  a,
                  lt-leb 24 d.records b,
                  ne_eqb n 0 e,
                  free_number,
                  le-ltb d.free_count n f,
                  newest_are f,
                  ← s.width_is,
                  le-ltb 4 w x,
                  ← s.unequal_is,
                  y,
                )

            module _ (y : u ≡ false) where
              pub join_many : 4294967295 < r → rule.accept (rule.join k n) (reading_of d) ≡ rule.refused 7
              unfolding rule.accept rule.unless kid_nodes front
              join_many z =
                  rw (
                    a,
                    lt-leb 24 d.records b,
                    ne_eqb n 0 e,
                    free_number,
                    le-ltb d.free_count n f,
                    newest_are f,
                    ← s.width_is,
                    le-ltb 4 w x,
                    ← s.unequal_is,
                    y,
                    ← s.rows_is,
                    lt-ltb 4294967295 r z,
                  )

              module _ (z : r ≤ 4294967295) where
                pub join_lone : n ≡ 1 → rule.accept (rule.join k n) (reading_of d) ≡ rule.accepted (rule.stands_for (reading_of d) (draft_of d))
                unfolding rule.accept rule.unless kid_nodes front
                join_lone o =
                    rw (
                      a,
                      lt-leb 24 d.records b,
                      ne_eqb n 0 e,
                      eq-eqb n 1 o,
                      free_number,
                      le-ltb d.free_count n f,
                      newest_are f,
                      ← s.width_is,
                      le-ltb 4 w x,
                      ← s.unequal_is,
                      y,
                      ← s.rows_is,
                      le-ltb 4294967295 r z,
                    )

                pub join_good : (n ≡ 1 → ⊥) → rule.accept (rule.join k n) (reading_of d)
                    ≡ rule.accepted (rule.grows (reading_of d) (rule.new_node (joined_of k r w)
                    (rule.set_parents d.node_count (slice (d.free_count - n) d.free_count d.free)
                    (front node_of d.nodes d.node_count)) (newest_of d.free (d.free_count - n)) (draft_of d)))
                unfolding rule.accept rule.unless kid_nodes front
                join_good o =
                    rw (
                      a,
                      node_number,
                      lt-leb 24 d.records b,
                      ne_eqb n 0 e,
                      ne_eqb n 1 o,
                      free_number,
                      le-ltb d.free_count n f,
                      newest_are f,
                      others_are f,
                      ← s.width_is,
                      le-ltb 4 w x,
                      ← s.unequal_is,
                      y,
                      ← s.rows_is,
                      le-ltb 4294967295 r z,
                      ← s.rows_is,
                    )
