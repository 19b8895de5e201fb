-- The kept rows of a node in terms of its children's.
use Rattle.std.specs.Prelude.{◌≡◌, refl, ◌≢◌, Bool, true, false, not, ℕ, ◌+◌, ◌-◌, ◌≤◌, ◌<◌, length, ltb, eqb}
use Rattle.std.proofs.Common.{sym, ◌∙◌, arith, eqb-true}
use Rattle.std.proofs.Math.Path.{ap}
use mathlib.Core.List.{List, [], ◌∷◌, map, flat_map}
use Rattle.std.proofs.Math.Option.{none, some}
use Rattle.std.proofs.lemmas.Bool.{not-false}
use Rattle.std.proofs.lemmas.List.{length-map}
use Rattle.rules.specs.Table.{filter, any, sum_of}
use Rattle.rules.specs.Job.{concat, pack, Node, Job, node_at, is_segment, kids, rows_of, unequal}
use Rattle.rules.specs.Plan.{row_of, node_of, split_of, kept, keeps, kept_kids, one_of, all_of}
use Rattle.laws.specs.Table.{by_bool, clash, or_left, or_right}
use Rattle.laws.specs.JobOk.{JobOk, Joined}
use Rattle.laws.specs.Rows.{node_rows, sides, All}
use Rattle.laws.specs.KeptRuns.{cuts_wider}
use Rattle.laws.specs.Spots.{numbers, spots}
use Rattle.laws.specs.Kids.{kids_rise}
use Rattle.laws.specs.KidPlaces.{All-map, kids_each, kids_of, Placed, placed, placed_within}
use Rattle.laws.specs.RowIn.{by_kind, row_concat, row_pack, map_same, all_sides, one_spots}
use Rattle.laws.specs.NodeRows.{node_numbers, node_spots, keeps_none, keeps_rows}

-- Tables

any_none : {A : Type 0} (f : A → Bool) (g : ℕ → A) (cs : List ℕ) → any f (map g cs) ≡ false → All (λ c. f (g c) ≡ false) cs
unfolding any
any_none f g [] e = tt
any_none f g (c ∷ cs) e = (or_left (f (g c)) _ e, any_none f g cs (or_right (f (g c)) _ e))

pub sum_map : {A : Type 0} (f : A → ℕ) (g : ℕ → A) (cs : List ℕ) → sum_of f (map g cs) ≡ sum_of (λ c. f (g c)) cs
unfolding sum_of
sum_map f g [] = refl
sum_map f g (c ∷ cs) = rw (sum_map f g cs)

filter_all : (f : ℕ → Bool) (cs : List ℕ) → All (λ c. f c ≡ true) cs → filter f cs ≡ cs
unfolding filter
filter_all f [] h = refl
filter_all f (c ∷ cs) h = rw (h.0, filter, filter_all f cs h.1)

filter_none : (f : ℕ → Bool) (cs : List ℕ) → All (λ c. f c ≡ false) cs → filter f cs ≡ []
unfolding filter
filter_none f [] h = refl
filter_none f (c ∷ cs) h = rw (h.0, filter) (filter_none f cs h.1)

-- lists that are empty where a test fails
flat_filter : {A : Type 0} (f : ℕ → Bool) (g : ℕ → List A) → ((c : ℕ) → f c ≡ false → g c ≡ []) → (cs : List ℕ) → flat_map g cs ≡ flat_map g (filter f cs)
unfolding filter flat_map
flat_filter f g h [] = refl
flat_filter f g h (c ∷ cs) = by_bool (f c) (λ e. rw (e, filter, flat_filter f g h cs)) (λ e. rw (e, filter, h c e) (flat_filter f g h cs))

flat_same : {A : Type 0} (f g : ℕ → List A) → ((c : ℕ) → f c ≡ g c) → (cs : List ℕ) → flat_map f cs ≡ flat_map g cs
unfolding flat_map
flat_same f g h [] = refl
flat_same f g h (c ∷ cs) = rw (h c, flat_same f g h cs)

pub map_all : {A : Type 0} (f g : ℕ → A) (cs : List ℕ) → All (λ c. f c ≡ g c) cs → map f cs ≡ map g cs
map_all f g [] h = refl
map_all f g (c ∷ cs) h = rw (h.0, map_all f g cs h.1)

-- the rows of a pack's fields
pub pack_equal : (ns : List Node) (cs : List ℕ) → unequal pack (map (node_at ns) cs) ≡ false
    → All (λ c. (node_at ns c).rows ≡ rows_of pack (map (node_at ns) cs)) cs
unfolding unequal rows_of
pack_equal ns [] e = tt
pack_equal ns (c ∷ cs) e = (
  refl,
  All-map
      (λ d. not (eqb (node_at ns d).rows (node_at ns c).rows) ≡ false)
      (λ d. (node_at ns d).rows ≡ (node_at ns c).rows)
      (λ d h. eqb-true (node_at ns d).rows (node_at ns c).rows (not-false _ h))
      cs
      (any_none (λ (y : Node). not (eqb y.rows (node_at ns c).rows)) (node_at ns) cs e),
)

pub concat_sum : (ns : List Node) (cs : List ℕ) → rows_of concat (map (node_at ns) cs) ≡ sum_of (λ c. (node_at ns c).rows) cs
unfolding rows_of sum_of
concat_sum ns [] = refl
concat_sum ns (c ∷ cs) = rw (sum_map (λ (x : Node). x.rows) (node_at ns) cs)

module _ (j : Job) (ok : JobOk j) (n : ℕ) where
  inner_of : (c : ℕ) → (node_of j c).parent ≡ some n → Joined j.nodes n
  inner_of c e = ok.joined n (ok.up c n e).1 (ok.inner c n e)

  -- a pack's fields have its range
  pub pack_at : (c : ℕ) → (node_of j n).kind ≡ pack → (node_of j c).parent ≡ some n → (node_of j c).at ≡ (node_of j n).at
  pack_at c k e = omega (arith, rw k at (ok.at_kid c n e))

  pack_rows_lem : (c : ℕ) → (node_of j n).kind ≡ pack → (node_of j c).parent ≡ some n → (node_of j c).rows ≡ (node_of j n).rows
  pack_rows_lem c k e =
      let g = inner_of c e in
      kids_of (λ d. (node_of j d).rows ≡ rows_of pack (map (node_at j.nodes) (kids j.nodes n))) j.nodes n c (pack_equal j.nodes (kids j.nodes n) (rw k at g.equal)) e
      ∙ sym (rw k at g.rows)

  -- a concat's children tile its range
  pub concat_placed : (node_of j n).kind ≡ concat → Placed (λ c. (node_of j c).at) (λ c. (node_of j c).rows) (node_of j n).at (kids j.nodes n)
  concat_placed k = placed (λ c. (node_of j c).at) (λ c. (node_of j c).rows) 0 (node_of j n).at (kids j.nodes n) (kids_rise 0 n j.nodes)
      (kids_each
      (λ c. (node_of j c).at ≡ sum_of (λ d. (node_of j d).rows) (filter (λ d. ltb d c) (kids j.nodes n)) + (node_of j n).at)
      j.nodes
      n
      (λ c e. rw k at (ok.at_kid c n e)))

  concat_rows_sum : Joined j.nodes n → (node_of j n).kind ≡ concat → (node_of j n).rows ≡ sum_of (λ c. (node_of j c).rows) (kids j.nodes n)
  concat_rows_sum g k = (rw k at g.rows) ∙ concat_sum j.nodes (kids j.nodes n)

  -- a concat's child lies within it
  concat_within : (c : ℕ) → (node_of j n).kind ≡ concat → (node_of j c).parent ≡ some n
      → ((node_of j n).at ≤ (node_of j c).at) × ((node_of j c).at + (node_of j c).rows ≤ (node_of j n).at + (node_of j n).rows)
  concat_within c k e = rw (concat_rows_sum (inner_of c e) k) (kids_of
      (λ d. ((node_of j n).at ≤ (node_of j d).at) × ((node_of j d).at + (node_of j d).rows ≤ (node_of j n).at + sum_of (λ i. (node_of j i).rows) (kids j.nodes n)))
      j.nodes
      n
      c
      (placed_within (λ d. (node_of j d).at) (λ d. (node_of j d).rows) (node_of j n).at (kids j.nodes n) (concat_placed k))
      e)

  module _ (s : ℕ) where
    -- Packs

    -- a field keeps what its pack keeps
    pub pack_kept : (c : ℕ) → (node_of j n).kind ≡ pack → (node_of j c).parent ≡ some n → kept j c s ≡ kept j n s
    unfolding kept
    pack_kept c k e = rw (pack_at c k e, pack_rows_lem c k e)

    pub pack_kids : (node_of j n).kind ≡ pack → keeps j n s ≡ true → kept_kids j n s ≡ kids j.nodes n
    pack_kids k t = filter_all (λ c. keeps j c s) (kids j.nodes n) (kids_each (λ c. keeps j c s ≡ true) j.nodes n (λ c e. rw (pack_kept c k e) t))

    pub pack_lengths : (c : ℕ) → (node_of j n).kind ≡ pack → (node_of j c).parent ≡ some n → length (node_rows j c s) ≡ length (node_rows j n s)
    pack_lengths c k e = rw (
      node_numbers j c s,
      node_numbers j n s,
      length-map (numbers (kept j c s)) (row_of j c),
      length-map (numbers (kept j n s)) (row_of j n),
      pack_kept c k e,
    )

    -- all fields, whether rows are kept or not
    pack_all : n < length j.nodes → (node_of j n).kind ≡ pack → node_rows j n s ≡ sides (map (λ c. node_rows j c s) (kids j.nodes n))
    pack_all h k =
        let ps = numbers (kept j n s) in
        node_numbers j n s
        ∙ map_same (row_of j n) (all_of (row_of j) (kids j.nodes n)) ps (λ r. row_pack j.nodes (λ c q e. (ok.up c q e).0) n r k)
        ∙ all_sides (row_of j) (kids j.nodes n) ps (ok.joined n h (ap is_segment k)).some_kids
        ∙ ap sides (map_all (λ c. map (row_of j c) ps) (λ c. node_rows j c s) (kids j.nodes n) (kids_each
        (λ c. map (row_of j c) ps ≡ node_rows j c s)
        j.nodes
        n
        (λ c e. rw (← pack_kept c k e) (sym (node_numbers j c s)))))

    pub pack_sides : n < length j.nodes → (node_of j n).kind ≡ pack → node_rows j n s ≡ sides (map (λ c. node_rows j c s) (kept_kids j n s))
    unfolding sides
    pack_sides h k = by_bool (keeps j n s)
        (λ t. rw (pack_kids k t) (pack_all h k))
        (λ t. rw (keeps_none j n s t, filter_none (λ c. keeps j c s) (kids j.nodes n) (kids_each (λ c. keeps j c s ≡ false) j.nodes n (λ c e. rw (pack_kept c k e) t))))

    -- Keeping

    -- what keeps rows has a parent that does
    pub keeps_up : (c : ℕ) → (node_of j c).parent ≡ some n → keeps j c s ≡ true → keeps j n s ≡ true
    unfolding kept
    keeps_up c e t = by_kind (node_of j n).kind
        (λ k. clash (cc (ok.inner c n e)))
        (λ k. let w = concat_within c k e in
        cuts_wider (split_of j s).start (node_of j c).at ((node_of j c).at + (node_of j c).rows) (node_of j n).at ((node_of j n).at + (node_of j n).rows) w.0 w.1 (split_of j s).runs t)
        (λ k. rw (← pack_at c k e, ← pack_rows_lem c k e) t)

    -- Concats

    pub concat_rows : s < length j.splits → n < length j.nodes → (node_of j n).kind ≡ concat → node_rows j n s ≡ flat_map (λ c. node_rows j c s) (kept_kids j n s)
    concat_rows is h k =
        let at = (node_of j n).at in
        let b = (split_of j s).start in
        let rs = (split_of j s).runs in
        let cs = kids j.nodes n in
        node_spots j n s
        ∙ map_same (λ p. row_of j n (p - at)) (λ p. one_of (row_of j) j.nodes cs (p - at)) (spots b at (at + (node_of j n).rows) rs)
        (λ p. row_concat j.nodes (λ c q e. (ok.up c q e).0) n (p - at) k)
        ∙ (rw (← concat_rows_sum (ok.joined n h (ap is_segment k)) k) at
        (one_spots (row_of j) j.nodes b ((split_of j s).end - b) none rs (ok.splits s is).runs at cs (concat_placed k)))
        ∙ flat_same (λ c. map (λ p. row_of j c (p - (node_of j c).at)) (spots b (node_of j c).at ((node_of j c).at + (node_of j c).rows) rs)) (λ c. node_rows j c s)
        (λ c. sym (node_spots j c s)) cs
        ∙ flat_filter (λ c. keeps j c s) (λ c. node_rows j c s) (λ c. keeps_none j c s) cs

    -- a concat that keeps rows has a child that does
    pub keeps_some : s < length j.splits → n < length j.nodes → (node_of j n).kind ≡ concat → keeps j n s ≡ true → kept_kids j n s ≢ []
    unfolding flat_map
    keeps_some is h k t e = keeps_rows j n s t (concat_rows is h k ∙ ap (flat_map (λ c. node_rows j c s)) e)
