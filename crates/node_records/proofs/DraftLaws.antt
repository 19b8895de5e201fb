-- Drafts that stay within their tables.
use mathlib.Core.Path.{◌≡◌, ◌∙◌}
use mathlib.Core.List.{List}
use Prim.Native.Nat.{ℕ, ◌+◌, ◌≤◌, ◌<◌}
use native.Mathlib.Omega.{arith}
use native.Mathlib.Numerals.{add-one}
use lib.ListN.{length, get_or, set, length-set}
use lib.Seq.{get_or-set_same, get_or-set_other}
use Rattle.rules.specs.Job as rule
use Rattle.jobs.specs.Job.{front, node_of}
use Rattle.node_records.specs.Draft.{Fine, draft_of, reading_of, newest_of}
use Rattle.jobs.specs.declared.Node.{Node}
use Rattle.node_records.specs.declared.Draft.{Draft}
use Rattle.jobs.proofs.Front.{front_more, front_length}
use Rattle.node_records.proofs.Stack.{newest_more}
use Rattle.records.proofs.Cases.{by_less}

-- the draft with one node more
abbrev pub added : Draft → Node → ℕ → Draft
added d x k =
    record {
      slots = d.slots;
      nodes = set d.nodes d.node_count x;
      node_count = d.node_count + 1;
      free = set d.free k d.node_count;
      free_count = k + 1;
      labels = set d.labels d.node_count d.records;
      records = d.records + 1;
    }

stack_below : (xs : List ℕ) (k n : ℕ) → k < length xs → ((j : ℕ) → j < k → get_or xs j 0 < n) → (j : ℕ) → j < k + 1 → get_or (set xs k n) j 0 < n + 1
stack_below xs k n h b j l =
    by_less j k (λ (i : j < k). rw (get_or-set_other xs k j n 0 (omega arith)) (omega (arith, b j i)))
    (λ (i : k ≤ j). let e : j ≡ k = omega arith in rw (e, get_or-set_same xs k n 0 h) (omega arith))

module _ (d : Draft) (x : Node) (k : ℕ) (p : Fine d) (r : d.records < 24) (s : k ≤ d.free_count) where
  pub fine_added : Fine (added d x k)
  fine_added =
      record {
        node_table = length-set d.nodes d.node_count x ∙ p.node_table;
        free_table = length-set d.free k d.node_count ∙ p.free_table;
        label_table = length-set d.labels d.node_count d.records ∙ p.label_table;
        record_fit = omega arith;
        node_fit = omega (arith, p.node_fit);
        free_fit = omega (arith, p.free_fit);
        below =
            stack_below d.free k d.node_count (omega (arith, p.free_fit, p.node_fit, p.free_table)) (λ j l. p.below j (omega arith));
      }

  pub reading_added : reading_of (added d x k)
      ≡ rule.grows (reading_of d) (rule.new_node (node_of x) (front node_of d.nodes d.node_count) (newest_of d.free k) (draft_of d))
  reading_added =
      rw (
        front_more node_of d.nodes d.node_count x (omega (arith, p.node_fit, p.node_table)),
        newest_more d.free k d.node_count (omega (arith, p.free_fit, p.node_fit, p.free_table)),
        newest_more d.labels d.node_count d.records (omega (arith, p.node_fit, p.label_table)),
        front_length node_of d.nodes d.node_count (omega (arith, p.node_fit, p.node_table)),
        add-one d.records,
      )
