-- From the records to the job.
use Rattle.std.specs.Prelude.{if◌then◌else◌, Ok, Err}
use mathlib.Core.Path.{◌≡◌, refl, sym}
use mathlib.Core.Bool.{Bool, true, false, not}
use mathlib.Core.List.{List, [], ◌∷◌, reverse-reverse}
use Prim.Native.Nat.{ℕ, ◌≤◌}
use native.Mathlib.Omega.{arith}
use lib.Dec.{eqb}
use lib.ListN.{take}
use Rattle.rules.specs.Job as rule
use Rattle.laws.specs.Tree.{TreeOk}
use Rattle.laws.specs.Draft.{DraftOk, restore_ok}
use Rattle.laws.specs.Places.{placed}
use Rattle.laws.specs.Accepted.{records_keep, start_ok}
use Rattle.jobs.specs.Job.{front, node_of}
use Rattle.jobs.proofs.Front.{front_empty}
use Rattle.node_records.specs.Draft.{newest_of, draft_with, reading_with, Fine}
use Rattle.node_records.specs.declared.Draft.{Draft}
use Rattle.node_records.proofs.Stack.{newest_length}
use Rattle.split_records.specs.Split.{AllLie}
use Rattle.split_records.specs.declared.Records.{Records}
use Rattle.jobs.specs.declared.Node.{Node}
use Rattle.jobs.specs.Refusal.{Verdict, judged}
use Rattle.jobs.specs.declared.refusal.Refusal.TheVariants.{Malformed, PastLimit, NotATree}
use Rattle.plan.specs.Parse.{Fits, end_fault}

module _ (xs : List ℕ) where
  pub parse_refused : (r : rule.Refusal) → rule.records xs ≡ rule.refused_by r → rule.parse xs ≡ rule.refused_by r
  unfolding rule.parse
  parse_refused r e = rw (rule.parse, e)

  pub parse_finish : (x : rule.Reading) → rule.records xs ≡ rule.accepted x → rule.parse xs ≡ rule.finish x.draft
  unfolding rule.parse
  parse_finish x e = rw (rule.parse, e)

  -- the labels, as the reader holds them
  pub labels_read : (d : Draft) (ys : List rule.Split) → rule.records xs ≡ rule.accepted (reading_with d ys)
      → take d.node_count d.labels ≡ rule.labels xs
  unfolding rule.labels newest_of
  labels_read d ys e = rw (rule.labels, e) (sym (reverse-reverse (take d.node_count d.labels)))

-- what the reader promises of its tables
pub fits : (xs : List ℕ) (r : Records) (nodes : List Node) → Fine r.draft → AllLie xs r.splits r.split_count → r.split_count ≤ 16
    → Fits xs (record {
      slots = r.draft.slots;
      nodes = nodes;
      node_count = r.draft.node_count;
      labels = r.draft.labels;
      splits = r.splits;
      split_count = r.split_count;
    })
fits xs r nodes p l n =
    record { label_table = p.label_table; nodes_fit = omega (arith, p.node_fit, p.record_fit); splits_fit = n; lie = l }

-- the nodes of accepted records are a tree
pub read_tree : (xs : List ℕ) (d : Draft) (ys : List rule.Split) → rule.Bytes xs → rule.records xs ≡ rule.accepted (reading_with d ys)
    → TreeOk (front node_of d.nodes d.node_count)
read_tree xs d ys b e = (records_keep DraftOk restore_ok xs (reading_with d ys) b start_ok e).1.tree

-- The end

ends : {A : Type 0} (a b c : Bool) (x : A) →
    rule.unless ((2, a) ∷ (3, b) ∷ (4, not c) ∷ []) x
    ≡ judged (if a then Err Malformed else if b then Err PastLimit else if c then Ok tt else Err NotATree) x
unfolding rule.unless
ends true b c x = refl
ends false true c x = refl
ends false false true x = refl
ends false false false x = refl

pub finish_is : (d : Draft) (xs : List rule.Split) → Fine d → (v : Verdict) → v ≡ end_fault d.slots d.node_count d.free_count
    → judged v (record { slots = d.slots; nodes = placed (front node_of d.nodes d.node_count); splits = xs }) ≡ rule.finish (draft_with d xs)
finish_is d xs p v e =
    rw (
      front_empty node_of d.nodes d.node_count (omega (arith, p.node_table, p.node_fit, p.record_fit)),
      newest_length d.free d.free_count (omega (arith, p.free_table, p.free_fit, p.node_fit, p.record_fit)),
      e,
    )
    (sym (ends (eqb d.slots 0) (eqb d.node_count 0) (eqb d.free_count 1)
    (record { slots = d.slots; nodes = placed (front node_of d.nodes d.node_count); splits = xs })))
