-- A row of a node is made of its children's rows.
use Rattle.std.specs.Prelude.{◌≡◌, refl, ◌≢◌, true, false, ltb}
use Rattle.std.proofs.Common.{ap, ◌∙◌, lt-ltb, le-ltb}
use mathlib.Core.List.{List, [], ◌∷◌, ◌++◌, map, flat_map, append-nil, map-append}
use Rattle.std.proofs.Math.Option.{Option, some}
use Prim.Native.Nat.{ℕ, zero, suc, ◌+◌, ◌-◌, ◌<◌}
use native.Mathlib.Omega.{arith}
use Rattle.rules.specs.Table.{sum_of}
use Rattle.rules.specs.Job.{Kind, segment, concat, pack, Node, Run, node_at, is_segment, kids, runs_fault}
use Rattle.rules.specs.Plan.{Row, row_in, one_of, all_of}
use Rattle.laws.specs.Table.{by_bool, clash}
use Rattle.laws.specs.Rows.{All, beside, sides}
use Rattle.laws.specs.KidPlaces.{kids_each, Placed}
use Rattle.laws.specs.Spots.{spots, spots_same, spots_split, spots_none}

abbrev pub by_kind {ℓ} : {P : Type ℓ} (k : Kind) → (k ≡ segment → P) → (k ≡ concat → P) → (k ≡ pack → P) → P
by_kind segment s c p = s refl
by_kind concat s c p = c refl
by_kind pack s c p = p refl

-- children whose rows are the same
one_same : (f g : ℕ → ℕ → Row) (ns : List Node) (cs : List ℕ) (r : ℕ) → All (λ c. (q : ℕ) → f c q ≡ g c q) cs → one_of f ns cs r ≡ one_of g ns cs r
unfolding one_of
one_same f g ns [] r h = refl
one_same f g ns (c ∷ cs) r h = by_bool (ltb r (node_at ns c).rows) (λ e. rw (e, one_of) (h.0 r)) (λ e. rw (e, one_of) (one_same f g ns cs (r - (node_at ns c).rows) h.1))

all_same : (f g : ℕ → ℕ → Row) (cs : List ℕ) (r : ℕ) → All (λ c. (q : ℕ) → f c q ≡ g c q) cs → all_of f cs r ≡ all_of g cs r
unfolding all_of
all_same f g [] r h = refl
all_same f g (c ∷ cs) r h = rw (h.0 r, all_same f g cs r h.1)

-- children stand before parents: a node's number is depth enough
module _ (ns : List Node) (up : (c q : ℕ) → (node_at ns c).parent ≡ some q → c < q) where
  deep_next : (f g n r : ℕ) → All (λ c. (q : ℕ) → row_in f ns c q ≡ row_in g ns c q) (kids ns n) → row_in (suc f) ns n r ≡ row_in (suc g) ns n r
  unfolding row_in
  deep_next f g n r h = by_kind (node_at ns n).kind
      (λ e. rw (e, row_in))
      (λ e. rw (e, row_in) (one_same (row_in f ns) (row_in g ns) ns (kids ns n) r h))
      (λ e. rw (e, row_in) (all_same (row_in f ns) (row_in g ns) (kids ns n) r h))

  pub deep : (f g n r : ℕ) → n < f → n < g → row_in f ns n r ≡ row_in g ns n r
  deep zero g n r p q = absurd (omega arith)
  deep (suc f) zero n r p q = absurd (omega arith)
  deep (suc f) (suc g) n r p q = deep_next f g n r (kids_each (λ c. (k : ℕ) → row_in f ns c k ≡ row_in g ns c k) ns n
      (λ c e k. deep f g c k (omega (arith, up c n e)) (omega (arith, up c n e))))

pub row_leaf : (ns : List Node) (n r : ℕ) → is_segment (node_at ns n).kind ≡ true
    → row_in (suc n) ns n r ≡ record { segment = (node_at ns n).segment; row = r } ∷ []
unfolding row_in
row_leaf ns n r h = by_kind (node_at ns n).kind (λ e. rw (e, row_in)) (λ e. clash (cc)) (λ e. clash (cc))

module _ (ns : List Node) (up : (c q : ℕ) → (node_at ns c).parent ≡ some q → c < q) (n : ℕ) where
  -- the depth left for a child is enough
  kids_deep : All (λ c. (q : ℕ) → row_in n ns c q ≡ row_in (suc c) ns c q) (kids ns n)
  kids_deep = kids_each (λ c. (q : ℕ) → row_in n ns c q ≡ row_in (suc c) ns c q) ns n (λ c e q. deep ns up n (suc c) c q (up c n e) (omega arith))

  pub row_concat : (r : ℕ) → (node_at ns n).kind ≡ concat → row_in (suc n) ns n r ≡ one_of (λ c. row_in (suc c) ns c) ns (kids ns n) r
  unfolding row_in
  row_concat r e = rw (e, row_in) (one_same (row_in n ns) (λ c. row_in (suc c) ns c) ns (kids ns n) r kids_deep)

  pub row_pack : (r : ℕ) → (node_at ns n).kind ≡ pack → row_in (suc n) ns n r ≡ all_of (λ c. row_in (suc c) ns c) (kids ns n) r
  unfolding row_in
  row_pack r e = rw (e, row_in) (all_same (row_in n ns) (λ c. row_in (suc c) ns c) (kids ns n) r kids_deep)

-- many rows of a pack
pub map_same : {A : Type 0} (f g : ℕ → A) (ps : List ℕ) → ((p : ℕ) → f p ≡ g p) → map f ps ≡ map g ps
map_same f g [] h = refl
map_same f g (p ∷ ps) h = rw (h p, map_same f g ps h)

map_beside : (f g : ℕ → Row) (ps : List ℕ) → map (λ p. f p ++ g p) ps ≡ beside (map f ps) (map g ps)
unfolding beside
map_beside f g [] = refl
map_beside f g (p ∷ ps) = rw (map_beside f g ps)

pub all_sides : (row : ℕ → ℕ → Row) (cs ps : List ℕ) → cs ≢ [] → map (all_of row cs) ps ≡ sides (map (λ d. map (row d) ps) cs)
unfolding all_of sides
all_sides row [] ps h = absurd (h refl)
all_sides row (c ∷ []) ps h = map_same (all_of row (c ∷ [])) (row c) ps (λ p. append-nil (row c p))
all_sides row (c ∷ d ∷ ds) ps h = map_beside (row c) (all_of row (d ∷ ds)) ps ∙ ap (beside (map (row c) ps)) (all_sides row (d ∷ ds) ps (λ e. clash (cc)))

-- many rows of a concat: each child's, of the root's rows that it covers
module _ (row : ℕ → ℕ → Row) (ns : List Node) (b size : ℕ) (before : Option ℕ) (rs : List Run) (rise : runs_fault size before rs ≡ false) where
  -- the first child's rows, then the others'
  one_next : (a c : ℕ) (cs : List ℕ) (more : ℕ)
      → map (λ p. one_of row ns (c ∷ cs) (p - a)) (spots b a (a + ((node_at ns c).rows + more)) rs)
      ≡ map (λ p. row c (p - a)) (spots b a (a + (node_at ns c).rows) rs)
      ++ map (λ p. one_of row ns cs (p - (a + (node_at ns c).rows))) (spots b (a + (node_at ns c).rows) (a + (node_at ns c).rows + more) rs)
  unfolding one_of
  one_next a c cs more =
      let mid = a + (node_at ns c).rows in
      let f : ℕ → Row = λ p. one_of row ns (c ∷ cs) (p - a) in
      let e : a + ((node_at ns c).rows + more) ≡ mid + more = omega arith in
      rw (
        e,
        ← spots_split b a mid (mid + more) size before rs rise (omega arith) (omega arith),
        map-append f (spots b a mid rs) (spots b mid (mid + more) rs),
        spots_same f (λ p. row c (p - a)) b a mid rs (λ p l u. rw (lt-ltb (p - a) (node_at ns c).rows (omega arith), one_of)),
        spots_same f (λ p. one_of row ns cs (p - mid)) b mid (mid + more) rs
            (λ p l u. let d : p - a - (node_at ns c).rows ≡ p - mid = omega arith in rw (le-ltb (p - a) (node_at ns c).rows (omega arith), one_of, d)),
      )

  pub one_spots : (a : ℕ) (cs : List ℕ) → Placed (λ c. (node_at ns c).at) (λ c. (node_at ns c).rows) a cs
      → map (λ p. one_of row ns cs (p - a)) (spots b a (a + sum_of (λ c. (node_at ns c).rows) cs) rs)
      ≡ flat_map (λ c. map (λ p. row c (p - (node_at ns c).at)) (spots b (node_at ns c).at ((node_at ns c).at + (node_at ns c).rows) rs)) cs
  unfolding flat_map sum_of
  one_spots a [] k = rw (spots_none b a (a + 0) rs (omega arith))
  one_spots a (c ∷ cs) k = rw (one_next a c cs (sum_of (λ d. (node_at ns d).rows) cs), one_spots (a + (node_at ns c).rows) cs k.1, k.0)
