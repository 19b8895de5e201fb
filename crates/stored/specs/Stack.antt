-- The stack of a walk over a tree in postfix order: the nodes so far that wait for their parent, the newest first.
use Rattle.std.specs.Prelude.{◌≡◌, refl, false, ℕ, suc, ◌<◌, ◌≤◌, take, drop}
use Rattle.std.proofs.Common.{sym, ◌∙◌}
use Rattle.std.proofs.Math.Bool.{true}
use mathlib.Core.List.{List, [], ◌∷◌, reverse}
use Rattle.std.proofs.Math.Option.{some}
use native.Mathlib.Omega.{arith}
use Rattle.rules.specs.Table.{has, is_some}
use Rattle.rules.specs.Job.{Node, node_at, kids}
use Rattle.laws.specs.Table.{by_bool, by_eq, clash}
use Rattle.laws.specs.Rising.{Falling, falling_high, falling_take, falling_drop, falling_reverse, has_head, has_tail, has_nil, has_reverse, drop_has, drop_rest}
use Rattle.laws.specs.Kids.{is_some_lem, some_is, kids_are}
use Rattle.laws.specs.Tree.{TreeOk, bool_iff}
use Rattle.stored.specs.Count.{count, count_parent}

-- the stack before node i
pub record Waits (ns : List Node) (i : ℕ) (free : List ℕ) : Type 0 where
  pub falls : Falling i free
  pub waits : (k q : ℕ) → has k free ≡ true → (node_at ns k).parent ≡ some q → i ≤ q
  pub all : (k : ℕ) → k < i → ((q : ℕ) → (node_at ns k).parent ≡ some q → i ≤ q) → has k free ≡ true

-- the empty stack before the first node
pub waits_start : (ns : List Node) → Waits ns 0 []
waits_start ns = record { falls = tt; waits = λ k q h e. omega arith; all = λ k l h. absurd (omega arith) }

module _ (ns : List Node) (t : TreeOk ns) (i : ℕ) where
  -- a child of node i on the stack is among the newest that name it: what stands between is under node i too
  front_step : (c k : ℕ) (free : List ℕ) → Falling i (c ∷ free) → ((p : ℕ) → (node_at ns c).parent ≡ some p → i ≤ p) → (node_at ns k).parent ≡ some i → has k (c ∷ free) ≡ true → is_some i (node_at ns c).parent ≡ true
  front_step c k free f w e h =
      by_eq k c (λ z. some_is i (node_at ns c).parent (rw z at e))
      (λ z.
      let l : k < c = falling_high c free k f.1 (sym (has_tail k c free z) ∙ h) in
      let p : (p : ℕ) × ((node_at ns c).parent ≡ some p) × (p ≤ i) = t.within k i c e l f.0 in
      let q : p.0 ≡ i = omega (arith, w p.0 p.1, p.2) in
      some_is i (node_at ns c).parent (rw q at p.1))

  -- so all children on the stack are
  front_all : (b k : ℕ) (free : List ℕ) → b ≤ i → Falling b free → ((c p : ℕ) → has c free ≡ true → (node_at ns c).parent ≡ some p → i ≤ p) → (node_at ns k).parent ≡ some i → has k free ≡ true
      → has k (take (count ns i free) free) ≡ true
  unfolding count
  front_all b k [] l f w e h = h
  front_all b k (c ∷ free) l f w e h =
      let s : is_some i (node_at ns c).parent ≡ true = front_step c k free (omega arith, f.1) (λ p. w c p (has_head c free)) e h in
      rw (s, count)
      (by_eq k c (λ z. rw z (has_head c (take (count ns i free) free)))
      (λ z.
      rw (has_tail k c (take (count ns i free) free) z)
      (front_all c k free (omega arith) f.1 (λ d p m. w d p (by_eq d c (λ y. rw y (has_head c free)) (λ y. has_tail d c free y ∙ m))) e (sym (has_tail k c free z) ∙ h))))

  module _ (free : List ℕ) (v : Waits ns i free) where
    -- a child of node i is among the newest that name it
    front_child : (k : ℕ) → (node_at ns k).parent ≡ some i → has k (take (count ns i free) free) ≡ true
    front_child k e =
        front_all i k free (omega arith) v.falls v.waits e
        (v.all k (t.up k i e).0 (λ q o. let z : q ≡ i = cc in omega arith))

    -- which are its children
    pub front_kids : kids ns i ≡ reverse (take (count ns i free) free)
    front_kids = kids_are ns i (reverse (take (count ns i free) free)) (falling_reverse i (take (count ns i free) free) (falling_take i (count ns i free) free v.falls))
        (λ k. bool_iff (is_some i (node_at ns k).parent) (has k (reverse (take (count ns i free) free)))
        (λ e. has_reverse k (take (count ns i free) free) ∙ front_child k (is_some_lem i (node_at ns k).parent e))
        (λ e. some_is i (node_at ns k).parent (count_parent ns i free k (sym (has_reverse k (take (count ns i free) free)) ∙ e))))

    -- a node that waits on waits for a later one
    later : (k q : ℕ) → has k (drop (count ns i free) free) ≡ true → (node_at ns k).parent ≡ some q → i < q
    later k q h e =
        let d = drop_has i (count ns i free) free k v.falls h in
        by_eq q i (λ z. clash (cc (d.1, front_child k (rw z at e)))) (λ z. let l : i ≤ q = v.waits k q d.0 e in omega arith)

    -- the stack after node i, with its children taken off
    pub waits_next : Waits ns (suc i) (i ∷ drop (count ns i free) free)
    waits_next = record {
      falls = (omega arith, falling_drop i (count ns i free) free v.falls);
      waits = λ k q h e.
          by_eq k i (λ z. (t.up i q (rw z at e)).0)
          (λ z. later k q (sym (has_tail k i (drop (count ns i free) free) z) ∙ h) e);
      all = λ k l w.
          by_eq k i (λ z. rw z (has_head i (drop (count ns i free) free)))
          (λ z.
          has_tail k i (drop (count ns i free) free) z
          ∙ drop_rest (count ns i free) free k (v.all k (omega arith) (λ q e. omega (arith, w q e)))
          (by_bool (has k (take (count ns i free) free)) (λ h. absurd (omega (arith, w i (count_parent ns i free k h)))) (λ h. h)));
    }

-- a node without children takes nothing
pub no_kids : (ns : List Node) (i : ℕ) (free : List ℕ) → ((k : ℕ) → is_some i (node_at ns k).parent ≡ false) → count ns i free ≡ 0
unfolding count
no_kids ns i [] h = refl
no_kids ns i (c ∷ free) h = rw (h c, count)

-- a falling list with one member is that one
pub only_one : (b r : ℕ) (free : List ℕ) → Falling b free → has r free ≡ true → ((k : ℕ) → has k free ≡ true → k ≡ r) → free ≡ r ∷ []
only_one b r [] f h w = clash (cc (has_nil r))
only_one b r (x ∷ []) f h w = rw (w x (has_head x []))
only_one b r (x ∷ y ∷ free) f h w =
    absurd (omega (arith, f.1.0, w x (has_head x (y ∷ free)), w y (has_tail y x (y ∷ free) (omega (arith, f.1.0)) ∙ has_head y free)))
