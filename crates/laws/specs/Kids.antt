-- What the children of a node, and what is counted over them, are read from: kinds, rows, widths and parents alone.
use Rattle.std.specs.Prelude.{◌≡◌, ◌≢◌, Bool, true, false, ℕ, zero, suc, ◌+◌, eqb, ltb}
use Rattle.std.proofs.Math.Path.{refl}
use Rattle.std.proofs.Common.{sym, ap, ◌∙◌, arith, eqb-true, eq-eqb}
use Rattle.std.proofs.Math.Bool.{not}
use mathlib.Core.List.{List, [], ◌∷◌, map, map-map}
use Rattle.std.proofs.Math.Option.{Option, none, some}
use Rattle.rules.specs.Table.{has, any, sum_of, filter, is_some}
use Rattle.rules.specs.Job.{Kind, segment, concat, pack, Node, node_at, kids, kids_from, rows_of, width_of, unequal, offset}
use Rattle.laws.specs.Table.{by_bool, clash}
use Rattle.laws.specs.JobOk.{Joined}
use Rattle.laws.specs.Rising.{Rising, rising_weak, rising_low, rising_ext, has_head, has_tail, has_nil, map_has}

-- a test of an optional number
pub is_some_lem : (n : ℕ) (o : Option ℕ) → is_some n o ≡ true → o ≡ some n
unfolding is_some
is_some_lem n none e = clash (cc)
is_some_lem n (some x) e = ap {B = Option ℕ} some (sym (eqb-true n x e))

-- the other way
pub some_is : (n : ℕ) (o : Option ℕ) → o ≡ some n → is_some n o ≡ true
unfolding is_some
some_is n o e = rw e (eq-eqb n n refl)

-- none is no number
pub none_not : (n : ℕ) (o : Option ℕ) → o ≡ none → is_some n o ≡ false
unfolding is_some
none_not n o e = rw e

-- a node that names its parent is a child
pub kids_yes : (i q : ℕ) (x : Node) (xs : List Node) → is_some q x.parent ≡ true → kids_from i q (x ∷ xs) ≡ i ∷ kids_from (suc i) q xs
unfolding kids_from
kids_yes i q x xs e = rw (e, kids_from)

-- one that names another parent is passed over
pub kids_no : (i q : ℕ) (x : Node) (xs : List Node) → is_some q x.parent ≡ false → kids_from i q (x ∷ xs) ≡ kids_from (suc i) q xs
unfolding kids_from
kids_no i q x xs e = rw (e, kids_from)

-- the children, from node i on, rise
kids_step : (i q : ℕ) (x : Node) (xs : List Node) → Rising (suc i) (kids_from (suc i) q xs) → Rising i (kids_from i q (x ∷ xs))
kids_step i q x xs r =
    by_bool (is_some q x.parent) (λ e. rw (kids_yes i q x xs e) (omega arith, r))
    (λ e. rw (kids_no i q x xs e) (rising_weak (suc i) i (kids_from (suc i) q xs) (omega arith) r))

-- so they rise
pub kids_rise : (i q : ℕ) (ns : List Node) → Rising i (kids_from i q ns)
unfolding kids_from
kids_rise i q [] = tt
kids_rise i q (x ∷ xs) = kids_step i q x xs (kids_rise (suc i) q xs)

-- and no other is
kids_zero : (i q : ℕ) (x : Node) (xs : List Node) → has i (kids_from i q (x ∷ xs)) ≡ is_some q x.parent
kids_zero i q x xs =
    by_bool (is_some q x.parent) (λ e. rw (kids_yes i q x xs e, e) (has_head i (kids_from (suc i) q xs)))
    (λ e. rw (kids_no i q x xs e, e) (rising_low (suc i) (kids_from (suc i) q xs) i (kids_rise (suc i) q xs) (omega arith)))

-- the nodes behind
kids_suc : (i j q : ℕ) (x : Node) (xs : List Node) → i ≢ j → has j (kids_from i q (x ∷ xs)) ≡ has j (kids_from (suc i) q xs)
kids_suc i j q x xs h =
    by_bool (is_some q x.parent) (λ e. rw (kids_yes i q x xs e) (has_tail j i (kids_from (suc i) q xs) (omega arith))) (λ e. rw (kids_no i q x xs e))

-- the k-th node from i on
kids_at : (i k j q : ℕ) (ns : List Node) → j ≡ i + k → has j (kids_from i q ns) ≡ is_some q (node_at ns k).parent
unfolding kids_from
kids_at i k j q [] e = has_nil j ∙ sym (none_not q none refl)
kids_at i zero j q (x ∷ xs) e = let p : j ≡ i = omega arith in rw p (kids_zero i q x xs)
kids_at i (suc k) j q (x ∷ xs) e = kids_suc i j q x xs (omega arith) ∙ kids_at (suc i) k j q xs (omega arith)

-- the same for all nodes
pub kids_has : (ns : List Node) (q i : ℕ) → has i (kids ns q) ≡ is_some q (node_at ns i).parent
kids_has ns q i = kids_at 0 i i q ns (omega arith)

-- a rising list of just those nodes is the children
pub kids_are : (ns : List Node) (q : ℕ) (l : List ℕ) → Rising 0 l → ((i : ℕ) → is_some q (node_at ns i).parent ≡ has i l) → kids ns q ≡ l
kids_are ns q l r h = rising_ext 0 (kids ns q) l (kids_rise 0 q ns) r (λ i. kids_has ns q i ∙ h i)

-- two tables with the same parents have the same children
pub kids_same : (ns ms : List Node) (q : ℕ) → ((i : ℕ) → is_some q (node_at ms i).parent ≡ is_some q (node_at ns i).parent) → kids ms q ≡ kids ns q
kids_same ns ms q h = kids_are ms q (kids ns q) (kids_rise 0 q ns) (λ i. h i ∙ sym (kids_has ns q i))

-- a node without its place in the tree
abbrev pub bare : Node → Node
bare x = record { kind = x.kind; segment = x.segment; rows = x.rows; width = x.width; parent = none; at = 0 }

-- what two nodes that are the same but for their places share: the kind,
pub same_kind : (x y : Node) → bare x ≡ bare y → x.kind ≡ y.kind
same_kind x y e = ap (λ (z : Node). z.kind) e

-- the rows,
pub same_rows : (x y : Node) → bare x ≡ bare y → x.rows ≡ y.rows
same_rows x y e = ap (λ (z : Node). z.rows) e

-- and the width
pub same_width : (x y : Node) → bare x ≡ bare y → x.width ≡ y.width
same_width x y e = ap (λ (z : Node). z.width) e

-- the rows, the width and the fault of a list of children ask for the rows and the width of each alone
module _ (h : Node → Node) (same : (x : Node) → ((h x).rows ≡ x.rows) × ((h x).width ≡ x.width)) where
  sum_sized : (f : Node → ℕ) (xs : List Node) → ((x : Node) → f (h x) ≡ f x) → sum_of f (map h xs) ≡ sum_of f xs
  unfolding sum_of
  sum_sized f [] e = refl
  sum_sized f (x ∷ xs) e = rw (e x, sum_sized f xs e)

  any_sized : (f : Node → Bool) (xs : List Node) → ((x : Node) → f (h x) ≡ f x) → any f (map h xs) ≡ any f xs
  unfolding any
  any_sized f [] e = refl
  any_sized f (x ∷ xs) e = rw (e x, any_sized f xs e)

  pub rows_sized : (k : Kind) (xs : List Node) → rows_of k (map h xs) ≡ rows_of k xs
  unfolding rows_of
  rows_sized k [] = refl
  rows_sized segment (x ∷ xs) = sum_sized (λ (y : Node). y.rows) (x ∷ xs) (λ y. (same y).0)
  rows_sized concat (x ∷ xs) = sum_sized (λ (y : Node). y.rows) (x ∷ xs) (λ y. (same y).0)
  rows_sized pack (x ∷ xs) = (same x).0

  pub width_sized : (k : Kind) (xs : List Node) → width_of k (map h xs) ≡ width_of k xs
  unfolding width_of
  width_sized k [] = refl
  width_sized segment (x ∷ xs) = (same x).1
  width_sized concat (x ∷ xs) = (same x).1
  width_sized pack (x ∷ xs) = sum_sized (λ (y : Node). y.width) (x ∷ xs) (λ y. (same y).1)

  pub unequal_sized : (k : Kind) (xs : List Node) → unequal k (map h xs) ≡ unequal k xs
  unfolding unequal
  unequal_sized k [] = refl
  unequal_sized segment (x ∷ xs) = rw (same x).1 (any_sized (λ (y : Node). not (eqb y.width x.width)) xs (λ y. rw (same y).1))
  unequal_sized concat (x ∷ xs) = rw (same x).1 (any_sized (λ (y : Node). not (eqb y.width x.width)) xs (λ y. rw (same y).1))
  unequal_sized pack (x ∷ xs) = rw (same x).0 (any_sized (λ (y : Node). not (eqb y.rows x.rows)) xs (λ y. rw (same y).0))

bare_sized : (x : Node) → ((bare x).rows ≡ x.rows) × ((bare x).width ≡ x.width)
bare_sized x = (refl, refl)

-- the nodes of a list are the same, but for their places, in both tables
abbrev pub Alike : List Node → List Node → List ℕ → Type 0
Alike ns ms l = (i : ℕ) → has i l ≡ true → bare (node_at ms i) ≡ bare (node_at ns i)

-- then they give the same rows, width and fault
map_alike : (ns ms : List Node) (l : List ℕ) → Alike ns ms l → map bare (map (node_at ms) l) ≡ map bare (map (node_at ns) l)
map_alike ns ms l h =
    map-map bare (node_at ms) l ∙ map_has (λ i. bare (node_at ms i)) (λ i. bare (node_at ns i)) l h ∙ sym (map-map bare (node_at ns) l)

pub rows_alike : (k : Kind) (ns ms : List Node) (l : List ℕ) → Alike ns ms l → rows_of k (map (node_at ms) l) ≡ rows_of k (map (node_at ns) l)
rows_alike k ns ms l h =
    sym (rows_sized bare bare_sized k (map (node_at ms) l)) ∙ ap (rows_of k) (map_alike ns ms l h) ∙ rows_sized bare bare_sized k (map (node_at ns) l)

pub width_alike : (k : Kind) (ns ms : List Node) (l : List ℕ) → Alike ns ms l → width_of k (map (node_at ms) l) ≡ width_of k (map (node_at ns) l)
width_alike k ns ms l h =
    sym (width_sized bare bare_sized k (map (node_at ms) l)) ∙ ap (width_of k) (map_alike ns ms l h) ∙ width_sized bare bare_sized k (map (node_at ns) l)

pub unequal_alike : (k : Kind) (ns ms : List Node) (l : List ℕ) → Alike ns ms l → unequal k (map (node_at ms) l) ≡ unequal k (map (node_at ns) l)
unequal_alike k ns ms l h =
    sym (unequal_sized bare bare_sized k (map (node_at ms) l)) ∙ ap (unequal k) (map_alike ns ms l h) ∙ unequal_sized bare bare_sized k (map (node_at ns) l)

-- so an inner node stays joined
pub joined_alike : (ns ms : List Node) (n : ℕ) → bare (node_at ms n) ≡ bare (node_at ns n) → kids ms n ≡ kids ns n → Alike ns ms (kids ns n) → Joined ns n → Joined ms n
joined_alike ns ms n e k h v = record {
  some_kids = rw k v.some_kids;
  rows = rw (k, same_rows (node_at ms n) (node_at ns n) e, same_kind (node_at ms n) (node_at ns n) e, rows_alike (node_at ns n).kind ns ms (kids ns n) h) v.rows;
  width = rw (k, same_width (node_at ms n) (node_at ns n) e, same_kind (node_at ms n) (node_at ns n) e, width_alike (node_at ns n).kind ns ms (kids ns n) h) v.width;
  equal = rw (k, same_kind (node_at ms n) (node_at ns n) e, unequal_alike (node_at ns n).kind ns ms (kids ns n) h) v.equal;
}

-- where all nodes and parents are the same, so is where a child stands
sum_at : (f g : ℕ → ℕ) (l : List ℕ) → ((i : ℕ) → f i ≡ g i) → sum_of f l ≡ sum_of g l
unfolding sum_of
sum_at f g [] h = refl
sum_at f g (x ∷ l) h = rw (h x, sum_at f g l h)

-- the offset of a child in both tables
pub offset_same : (ns ms : List Node) (q n : ℕ) → ((i : ℕ) → bare (node_at ms i) ≡ bare (node_at ns i)) → kids ms q ≡ kids ns q → offset ms q n ≡ offset ns q n
offset_same ns ms q n h k =
    rw (k, same_kind (node_at ms q) (node_at ns q) (h q), sum_at (λ c. (node_at ms c).rows) (λ c. (node_at ns c).rows) (filter (λ c. ltb c n) (kids ns q)) (λ i. same_rows (node_at ms i) (node_at ns i) (h i)))
