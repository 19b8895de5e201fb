-- An inner node of an accepted job names no segment.
use Rattle.std.specs.Prelude.{◌≡◌, refl, true, false, List, [], ◌∷◌, ◌++◌, map, ℕ, ◌≤◌, length, ltb}
use Rattle.std.proofs.Common.{sym, subst, arith, length-append, ltb-true, ltb-false}
use Rattle.rules.specs.Table.{has}
use Rattle.rules.specs.Job.{Node, Job, Draft, Record, accepted, slots, leaf, join, split, no_node, node_at, is_segment, max_rows, set_parents, newest, joined}
use Rattle.rules.specs.Job.{no_draft, restore}
use Rattle.rules.specs.Plan.{node_of}
use Rattle.rules.specs.Check.{restore_all, job_records, job_ok}
use Rattle.laws.specs.Table.{by_bool, by_eq, clash, get_front, get_last, get_past}
use Rattle.laws.specs.Parents.{parents_kept, parents_taken}
use Rattle.laws.specs.Draft.{unless_passed}
use Rattle.laws.specs.Places.{place_bare}
use Rattle.laws.specs.Accepted.{Finished}
use Rattle.laws.specs.Stored.{all_step, stored_draft}

-- if it is an inner node it names no segment
abbrev pub Unnamed : Node → Type 0
Unnamed x = is_segment x.kind ≡ false → x.segment ≡ 0

-- setting parents changes no name
unnamed_parents : (p : ℕ) (cs : List ℕ) (ns : List Node) → ((n : ℕ) → Unnamed (node_at ns n)) → (n : ℕ) → Unnamed (node_at (set_parents p cs ns) n)
unnamed_parents p cs ns h n = by_bool (has n cs) (λ e. rw (parents_taken p cs ns n e) (h n)) (λ e. rw (parents_kept p cs ns n e) (h n))

-- one node more
unnamed_more : (ns : List Node) (x : Node) → ((n : ℕ) → Unnamed (node_at ns n)) → Unnamed x → (n : ℕ) → Unnamed (node_at (ns ++ x ∷ []) n)
unnamed_more ns x h w n =
    by_bool (ltb n (length ns)) (λ e. rw (get_front no_node ns (x ∷ []) n (ltb-true n (length ns) e)) (h n))
    (λ e. by_eq n (length ns) (λ z. rw (z, get_last no_node ns x) w)
    (λ z. rw (get_past no_node (ns ++ x ∷ []) n (omega (arith, length-append ns (x ∷ []), ltb-false n (length ns) e))) (λ k. refl)))

-- no inner node of the draft names a segment
abbrev AllUnnamed : Draft → Type 0
AllUnnamed d = (n : ℕ) → Unnamed (node_at d.nodes n)

-- an accepted record keeps that
unnamed_keep : (r : Record) (d e : Draft) → AllUnnamed d → restore r d ≡ accepted e → AllUnnamed e
unfolding restore
unnamed_keep (slots n) d e v h = subst AllUnnamed (unless_passed _ _ e h).1 v
unnamed_keep (leaf g n) d e v h = subst AllUnnamed (unless_passed _ _ e h).1 (unnamed_more d.nodes _ v (λ k. clash (cc)))
unnamed_keep (join k n) d e v h = subst AllUnnamed (unless_passed _ _ e h).1 (unnamed_more (set_parents (length d.nodes) (newest n d) d.nodes) (joined k (map (node_at d.nodes) (newest n d))) (unnamed_parents (length d.nodes) (newest n d) d.nodes v) (λ s. refl))
unnamed_keep (split a b rs) d e v h = subst AllUnnamed (unless_passed _ _ e h).1 v

-- and so do all records
unnamed_all : (rs : List Record) (d e : Draft) → AllUnnamed d → restore_all rs d ≡ accepted e → AllUnnamed e
unfolding restore_all
unnamed_all [] d e v h = let q : d ≡ e = cc in subst AllUnnamed q v
unnamed_all (r ∷ rs) d e v h = let s = all_step r rs d e h in unnamed_all rs s.0 e (unnamed_keep r d s.0 v s.1) s.2

-- so no inner node of a stored job that passes names one
pub stored_unnamed : (j : Job) → ((n : ℕ) → (node_of j n).rows ≤ max_rows) → job_ok j ≡ true → (n : ℕ) → Unnamed (node_of j n)
stored_unnamed j b h n =
    let s = stored_draft j b h in
    let f : Finished s.0 j = s.2 in
    let u : Unnamed (node_at s.0.nodes n) = unnamed_all (job_records j) no_draft s.0 (λ k e. refl) s.1 n in
    subst (λ (k : Job). Unnamed (node_of k n)) f.is (subst (λ (x : Node). Unnamed x) (sym (place_bare 0 s.0.nodes s.0.nodes n)) u)
