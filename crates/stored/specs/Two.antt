-- An inner node of a stored job that passes has two children at least.
use Rattle.std.specs.Prelude.{◌≡◌, ◌≢◌, true, false, List, [], ◌∷◌, ◌++◌, map, ℕ, zero, suc, ◌+◌, ◌<◌, ◌≤◌, length}
use Rattle.std.proofs.Common.{arith}
use Rattle.std.proofs.lemmas.Bool.{eqb-false}
use Rattle.rules.specs.Table.{up_from}
use Rattle.rules.specs.Job.{Node, Job, Draft, no_draft, accepted, Record, slots, leaf, join, split, node_at, is_segment, kids, max_rows, restore}
use Rattle.rules.specs.Plan.{node_of}
use Rattle.rules.specs.Check.{restore_all, node_record, split_record, job_records, job_ok}
use Rattle.laws.specs.Table.{by_eq, clash}
use Rattle.laws.specs.RowIn.{by_kind}
use Rattle.laws.specs.Rows.{All}
use Rattle.laws.specs.Draft.{unless_passed}
use Rattle.laws.specs.Stored.{all_step, stored_draft}

-- a join's record that names more or fewer children than one
abbrev NotLone : Record → Type 0
NotLone (slots n) = Unit {0}
NotLone (leaf g n) = Unit {0}
NotLone (join k n) = n ≢ 1
NotLone (split a b rs) = Unit {0}

not_lone : (r : Record) (d e : Draft) → restore r d ≡ accepted e → NotLone r
unfolding restore
not_lone (slots n) d e h = tt
not_lone (leaf g n) d e h = tt
not_lone (join k n) d e h = eqb-false n 1 (unless_passed _ _ e h).0.1.1.1.1.1.1.0
not_lone (split a b rs) d e h = tt

none_lone : (rs : List Record) (d e : Draft) → restore_all rs d ≡ accepted e → All NotLone rs
unfolding restore_all
none_lone [] d e h = tt
none_lone (r ∷ rs) d e h = let s = all_step r rs d e h in (not_lone r d s.0 s.1, none_lone rs s.0 e s.2)

-- the record of node i among those from node a on
record_at : (ns : List Node) (rs : List Record) (a n i : ℕ) → All NotLone (map (node_record ns) (up_from a n) ++ rs) → a ≤ i → i < a + n
    → NotLone (node_record ns i)
unfolding up_from
record_at ns rs a zero i v l h = absurd (omega arith)
record_at ns rs a (suc n) i v l h = by_eq i a (λ e. rw e v.0) (λ e. record_at ns rs (suc a) n i v.1 (omega arith) (omega arith))

record_two : (ns : List Node) (i : ℕ) → is_segment (node_at ns i).kind ≡ false → NotLone (node_record ns i) → length (kids ns i) ≢ 1
record_two ns i s v = by_kind (node_at ns i).kind (λ k. clash (cc)) (λ k. rw (k, node_record, NotLone) at v) (λ k. rw (k, node_record, NotLone) at v)

pub stored_two : (j : Job) → ((n : ℕ) → (node_of j n).rows ≤ max_rows) → job_ok j ≡ true → (i : ℕ) → i < length j.nodes
    → is_segment (node_of j i).kind ≡ false → length (kids j.nodes i) ≢ 1
stored_two j b h i l s =
    let d = stored_draft j b h in
    let v = none_lone (job_records j) no_draft d.0 d.1 in
    record_two j.nodes i s (record_at j.nodes (map split_record j.splits) 0 (length j.nodes) i v.1 (omega arith) (omega (arith, l)))
