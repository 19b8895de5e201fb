-- A new node that takes the newest parentless nodes for its children.
use Rattle.std.specs.Prelude.{◌≡◌, refl, true, false, List, [], ◌∷◌, ◌++◌, reverse, ℕ, ◌<◌, length, take, drop}
use Rattle.std.proofs.Common.{sym, ◌∙◌, arith, length-append}
use Rattle.rules.specs.Table.{has, put}
use Rattle.rules.specs.Job.{Node, no_node, node_at, with_parent, set_parents}
use Rattle.laws.specs.Table.{by_bool, by_eq, clash, same, other, get_front, get_last, put_length}
use Rattle.laws.specs.Rising.{Falling, falling_reverse, falling_take, falling_drop, has_head, has_tail, has_nil, has_reverse, drop_has, drop_rest, take_has, take_before}
use Rattle.laws.specs.Tree.{Takes, Grown}

-- setting parents leaves the other nodes
pub parents_kept : (p : ℕ) (cs : List ℕ) (ns : List Node) (i : ℕ) → has i cs ≡ false → node_at (set_parents p cs ns) i ≡ node_at ns i
unfolding set_parents
parents_kept p [] ns i h = refl
parents_kept p (c ∷ cs) ns i h =
    by_eq i c (λ e. clash (cc (has_head c cs)))
    (λ m. parents_kept p cs (put no_node ns c (with_parent p (node_at ns c))) i (sym (has_tail i c cs m) ∙ h) ∙ other no_node ns c i (with_parent p (node_at ns c)) m)

-- the step of `parents_taken`
taken_step : (p c : ℕ) (cs : List ℕ) (ns : List Node) (i : ℕ) → has i (c ∷ cs) ≡ true
    → (has i cs ≡ true → node_at (set_parents p cs (put no_node ns c (with_parent p (node_at ns c)))) i ≡ with_parent p (node_at (put no_node ns c (with_parent p (node_at ns c))) i))
    → node_at (set_parents p cs (put no_node ns c (with_parent p (node_at ns c)))) i ≡ with_parent p (node_at ns i)
taken_step p c cs ns i h ih =
    let w : Node = with_parent p (node_at ns c) in
    by_bool (has i cs)
    (λ e. ih e ∙ by_eq i c (λ q. rw (q, same no_node ns c w)) (λ m. rw (other no_node ns c i w m)))
    (λ e. parents_kept p cs (put no_node ns c w) i e ∙ by_eq i c (λ q. rw (q, same no_node ns c w)) (λ m. clash (cc (has_tail i c cs m))))

-- and gives the named ones that parent
pub parents_taken : (p : ℕ) (cs : List ℕ) (ns : List Node) (i : ℕ) → has i cs ≡ true → node_at (set_parents p cs ns) i ≡ with_parent p (node_at ns i)
unfolding set_parents
parents_taken p [] ns i h = clash (cc (has_nil i))
parents_taken p (c ∷ cs) ns i h = taken_step p c cs ns i h (parents_taken p cs (put no_node ns c (with_parent p (node_at ns c))) i)

-- and adds none
pub parents_size : (p : ℕ) (cs : List ℕ) (ns : List Node) → ((i : ℕ) → has i cs ≡ true → i < length ns) → length (set_parents p cs ns) ≡ length ns
unfolding set_parents
parents_size p [] ns h = refl
parents_size p (c ∷ cs) ns h =
    let w : Node = with_parent p (node_at ns c) in
    let e : length (put no_node ns c w) ≡ length ns = put_length no_node ns c w (h c (has_head c cs)) in
    parents_size p cs (put no_node ns c w) (λ i k. rw e (h i (by_eq i c (λ q. rw q (has_head c cs)) (λ m. has_tail i c cs m ∙ k)))) ∙ e

-- the n newest, oldest first, and the rest
pub take_newest : (b n : ℕ) (free : List ℕ) → Falling b free → Takes b free (reverse (take n free)) (drop n free)
take_newest b n free f = record {
  rise = falling_reverse b (take n free) (falling_take b n free f);
  from = λ i h. take_has n free i (sym (has_reverse i (take n free)) ∙ h);
  newer = λ c i h k m. has_reverse i (take n free) ∙ take_before b n free c i f (sym (has_reverse c (take n free)) ∙ h) k m;
  falls = falling_drop b n free f;
  apart = λ i h. rw (has_reverse i (take n free)) (drop_has b n free i f h);
  rest_all = λ i h k. drop_rest n free i h (sym (has_reverse i (take n free)) ∙ k);
}

-- the nodes with their parents set and the new node behind them
pub add_grown : (ns : List Node) (cs : List ℕ) (x : Node) → ((i : ℕ) → has i cs ≡ true → i < length ns) → Grown ns (set_parents (length ns) cs ns ++ x ∷ []) cs x
add_grown ns cs x h =
    let ps : List Node = set_parents (length ns) cs ns in
    let e : length ps ≡ length ns = parents_size (length ns) cs ns h in
    record {
      size = omega (arith, length-append ps (x ∷ []), e);
      last = rw e at (get_last no_node ps x);
      taken = λ i b k. get_front no_node ps (x ∷ []) i (omega arith) ∙ parents_taken (length ns) cs ns i k;
      kept = λ i b k. get_front no_node ps (x ∷ []) i (omega arith) ∙ parents_kept (length ns) cs ns i k;
    }
