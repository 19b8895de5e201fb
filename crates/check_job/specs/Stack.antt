-- A stack of nodes, or none where a node did not fit.
use Rattle.std.specs.Prelude.{◌≡◌, ◌≢◌, Bool, ◌&&◌, List, ◌∷◌, ℕ, suc, ◌+◌, ◌-◌, ◌<◌, ◌≤◌, length, get_or, set, eqb, leb}
use Rattle.std.specs.Prelude as code
use Rattle.std.specs.Prelude.{Some, None}
use Rattle.std.proofs.Math.Path.{refl}
use Rattle.std.proofs.Math.Bool.{true, false}
use Rattle.std.proofs.Math.Option.{Option, none, some}
use Rattle.std.proofs.Common.{arith, eqb-true}
use Rattle.std.proofs.lemmas.Bool.{eqb-false}
use Rattle.rules.specs.Table.{is_some}
use Rattle.rules.specs.Job.{Node, node_at}
use Rattle.laws.specs.Table.{by_bool}
use Rattle.numbers.specs.Newest.{newest}
use Rattle.numbers.specs.Newest.{newest_none, newest_some, newest_more}
use Rattle.stored.specs.Walk.{pops, closed, child_fits, less, has_two}
use Rattle.check_job.specs.declared.stack.Stack.{Stack}

-- the first `top` numbers of a stack that is lent, the newest first
abbrev pub top_of : List ℕ → code.Option ℕ → Option (List ℕ)
top_of free None = none
top_of free (Some n) = some (newest free n)

-- the same of a stack by value
abbrev pub stack_of : Stack → Option (List ℕ)
stack_of w = top_of w.free w.top

-- one more on top
pub push_more : (l : List ℕ) (n v : ℕ) → n < length l → newest (set l n v) (n + 1) ≡ v ∷ newest l n
push_more l n v h = let e : n + 1 ≡ suc n = omega arith in rw e (newest_more l n v h)

-- The children of node i, which is x, taken off the first n of a stack, of which y is the newest.

module _ (ns : List Node) (i : ℕ) (x : Node) (e : x ≡ node_at ns i) (left : ℕ) (l : List ℕ) (n : ℕ) where
  -- none is left
  pub pops_end : n ≤ 0 → pops ns i left (newest l n) ≡ closed x left (newest l n)
  unfolding pops
  pops_end h = rw (newest_none l n (omega arith), e) refl

  module _ (h : 0 < n) (y : Node) (f : y ≡ node_at ns (get_or l (n - 1) 0)) where
    -- the newest is no child
    pub pops_stop : is_some i y.parent ≡ false → pops ns i left (newest l n) ≡ closed x left (newest l n)
    unfolding pops
    pops_stop k =
        let k₀ : is_some i (node_at ns (get_or l (n - 1) 0)).parent ≡ false = rw f at k in
        rw (e, newest_some l n h, pops, k₀) refl

    -- it is a child and does not fit
    pub pops_none : is_some i y.parent ≡ true → child_fits x.kind x left y ≡ false → pops ns i left (newest l n) ≡ none
    unfolding pops
    pops_none k b =
        let k₀ : is_some i (node_at ns (get_or l (n - 1) 0)).parent ≡ true = rw f at k in
        let b₀ : child_fits (node_at ns i).kind (node_at ns i) left (node_at ns (get_or l (n - 1) 0)) ≡ false = rw (e, f) at b in
        rw (newest_some l n h, pops, k₀, b₀)

    -- it is a child and fits
    pub pops_next : is_some i y.parent ≡ true → child_fits x.kind x left y ≡ true →
        pops ns i left (newest l n) ≡ pops ns i (less x.kind left y) (newest l (n - 1))
    unfolding pops
    pops_next k b =
        let k₀ : is_some i (node_at ns (get_or l (n - 1) 0)).parent ≡ true = rw f at k in
        let b₀ : child_fits (node_at ns i).kind (node_at ns i) left (node_at ns (get_or l (n - 1) 0)) ≡ true = rw (e, f) at b in
        rw (e, f, newest_some l n h, pops, k₀, b₀)

-- no two on a stack of fewer
pub two_none : (ns : List Node) (i : ℕ) (l : List ℕ) (n : ℕ) → n < 2 → false ≡ has_two ns i (newest l n)
two_none ns i l n h = by_bool (eqb n 0) (λ e. rw (newest_none l n (eqb-true n 0 e)) refl)
    (λ e.
    let p : n ≢ 0 = eqb-false n 0 e in
    rw (newest_some l n (omega (arith, p)), newest_none l (n - 1) (omega arith)) refl)

-- the newest is a child, and so is the one before it, or not
module _ (ns : List Node) (i : ℕ) (l : List ℕ) (n : ℕ) (y z : Node) (h : 2 ≤ n) (f : y ≡ node_at ns (get_or l (n - 1) 0)) where
  two_some : z ≡ node_at ns (get_or l (n - 2) 0) → is_some i y.parent && is_some i z.parent ≡ has_two ns i (newest l n)
  two_some g =
      let e : n - 1 - 1 ≡ n - 2 = omega arith in
      rw (newest_some l n (omega arith), newest_some l (n - 1) (omega arith), f, g, e) refl

  pub both_kids : z ≡ node_at ns (get_or l (n - 2) 0) → is_some i y.parent ≡ true → is_some i z.parent ≡ has_two ns i (newest l n)
  both_kids g k = rw k at (two_some g)

-- the newest is none
pub first_not : (ns : List Node) (i : ℕ) (l : List ℕ) (n : ℕ) (y : Node) → 2 ≤ n → y ≡ node_at ns (get_or l (n - 1) 0) → is_some i y.parent ≡ false
    → false ≡ has_two ns i (newest l n)
first_not ns i l n y h f k = rw k at (two_some ns i l n y (node_at ns (get_or l (n - 2) 0)) h f refl)
