-- Children that are taken off one after another, the newest first, are those that fit, oldest first.
use Rattle.std.specs.Prelude.{◌≡◌, refl, true, false, ℕ, ◌+◌, ◌-◌, ◌≤◌}
use mathlib.Core.List.{List, [], ◌∷◌, reverse, reverse_aux}
use native.Mathlib.Omega.{arith}
use Rattle.std.proofs.Common.{eqb-true, eq-eqb, leb-true, le-leb}
use Rattle.rules.specs.Table.{sum_of}
use Rattle.rules.specs.Job.{Kind, segment, concat, pack, Node, node_at, is_segment}
use Rattle.laws.specs.Table.{clash}
use Rattle.laws.specs.Rows.{All}
use Rattle.laws.specs.KidPlaces.{Placed}
use Rattle.laws.specs.Stored.{both}
use Rattle.stored.specs.Walk.{whole, nothing, child_fits}
use Rattle.stored.specs.Count.{Chain}
use Rattle.stored.specs.Lists.{all_reverse, reverse_all, sum_reverse}
use Rattle.stored.specs.Stand.{Fit}

module _ (ns : List Node) (x : Node) where
  -- a concat's child that fits
  concat_child : (left c : ℕ) → child_fits concat x left (node_at ns c) ≡ true → ((node_at ns c).width ≡ x.width) × ((node_at ns c).at + (node_at ns c).rows ≡ left)
  concat_child left c h = let b = both _ _ h in (eqb-true _ _ b.0, eqb-true _ _ b.1)

  -- the other way
  child_concat : (left c : ℕ) → (node_at ns c).width ≡ x.width → (node_at ns c).at + (node_at ns c).rows ≡ left → child_fits concat x left (node_at ns c) ≡ true
  child_concat left c w e = rw (eq-eqb _ _ w, eq-eqb _ _ e)

  -- a pack's child that fits
  pack_child : (left c : ℕ) → child_fits pack x left (node_at ns c) ≡ true → ((node_at ns c).rows ≡ x.rows) × ((node_at ns c).at ≡ x.at) × ((node_at ns c).width ≤ left)
  pack_child left c h = let b = both _ _ h in let a = both _ _ b.0 in (eqb-true _ _ a.0, eqb-true _ _ a.1, leb-true _ _ b.1)

  -- the other way
  child_pack : (left c : ℕ) → (node_at ns c).rows ≡ x.rows → (node_at ns c).at ≡ x.at → (node_at ns c).width ≤ left → child_fits pack x left (node_at ns c) ≡ true
  child_pack left c r a w = rw (eq-eqb _ _ r, eq-eqb _ _ a, le-leb _ _ w)

  -- a concat's children are as wide as it is
  concat_even : (left l : ℕ) (cs : List ℕ) → Chain ns concat x left cs l → All (λ c. (node_at ns c).width ≡ x.width) cs
  concat_even left l [] h = tt
  concat_even left l (c ∷ cs) h = ((concat_child left c h.0).0, concat_even (node_at ns c).at l cs h.1)

  -- their rows add up to what is taken off
  concat_adds : (left l : ℕ) (cs : List ℕ) → Chain ns concat x left cs l → left ≡ l + sum_of (λ c. (node_at ns c).rows) cs
  unfolding sum_of
  concat_adds left l [] h = omega arith
  concat_adds left l (c ∷ cs) h = omega (arith, (concat_child left c h.0).1, concat_adds (node_at ns c).at l cs h.1)

  -- and they stand one after another
  concat_stand : (left l : ℕ) (cs ds : List ℕ) → Chain ns concat x left cs l → Placed (λ c. (node_at ns c).at) (λ c. (node_at ns c).rows) left ds
      → Placed (λ c. (node_at ns c).at) (λ c. (node_at ns c).rows) l (reverse_aux cs ds)
  concat_stand left l [] ds h p = rw (← h) p
  concat_stand left l (c ∷ cs) ds h p = concat_stand (node_at ns c).at l cs (c ∷ ds) h.1 (refl, rw (concat_child left c h.0).1 p)

  -- children as wide that stand one after another are taken off one after another
  concat_back : (l : ℕ) (cs ds : List ℕ) → All (λ c. (node_at ns c).width ≡ x.width) cs → Placed (λ c. (node_at ns c).at) (λ c. (node_at ns c).rows) l (reverse_aux cs ds)
      → (left : ℕ) × Chain ns concat x left cs l × Placed (λ c. (node_at ns c).at) (λ c. (node_at ns c).rows) left ds
  concat_back l [] ds w p = (l, refl, p)
  concat_back l (c ∷ cs) ds w p =
      let r = concat_back l cs (c ∷ ds) w.1 p in
      ((node_at ns c).at + (node_at ns c).rows, (child_concat _ c w.0 refl, rw r.2.0 r.1), rw r.2.0 r.2.1)

  -- a pack's children have its rows,
  pack_even : (left l : ℕ) (cs : List ℕ) → Chain ns pack x left cs l → All (λ c. (node_at ns c).rows ≡ x.rows) cs
  pack_even left l [] h = tt
  pack_even left l (c ∷ cs) h = ((pack_child left c h.0).0, pack_even (left - (node_at ns c).width) l cs h.1)

  -- stand where it stands,
  pack_stand : (left l : ℕ) (cs : List ℕ) → Chain ns pack x left cs l → All (λ c. (node_at ns c).at ≡ x.at) cs
  pack_stand left l [] h = tt
  pack_stand left l (c ∷ cs) h = ((pack_child left c h.0).1, pack_stand (left - (node_at ns c).width) l cs h.1)

  -- and their widths add up to what is taken off
  pack_adds : (left l : ℕ) (cs : List ℕ) → Chain ns pack x left cs l → left ≡ l + sum_of (λ c. (node_at ns c).width) cs
  unfolding sum_of
  pack_adds left l [] h = omega arith
  pack_adds left l (c ∷ cs) h = omega (arith, (pack_child left c h.0).2, pack_adds (left - (node_at ns c).width) l cs h.1)

  -- the other way
  pack_back : (left l : ℕ) (cs : List ℕ) → All (λ c. (node_at ns c).rows ≡ x.rows) cs → All (λ c. (node_at ns c).at ≡ x.at) cs → left ≡ l + sum_of (λ c. (node_at ns c).width) cs
      → Chain ns pack x left cs l
  unfolding sum_of
  pack_back left l [] r a e = omega arith
  pack_back left l (c ∷ cs) r a e = (child_pack left c r.0 a.0 (omega arith), pack_back (left - (node_at ns c).width) l cs r.1 a.1 (omega arith))

  -- children that are taken off until nothing is left fit
  pub chain_fit : (k : Kind) (cs : List ℕ) → is_segment k ≡ false → Chain ns k x (whole k x) cs (nothing k x) → Fit ns k x (reverse cs)
  chain_fit segment cs s h = clash (cc)
  chain_fit concat cs s h = record {
    even = all_reverse (λ c. (node_at ns c).width ≡ x.width) cs (concat_even _ _ cs h);
    adds = omega (arith, sum_reverse (λ c. (node_at ns c).rows) cs, concat_adds _ _ cs h);
    stand = concat_stand _ _ cs [] h tt;
  }
  chain_fit pack cs s h = record {
    even = all_reverse (λ c. (node_at ns c).rows ≡ x.rows) cs (pack_even _ _ cs h);
    adds = omega (arith, sum_reverse (λ c. (node_at ns c).width) cs, pack_adds _ _ cs h);
    stand = all_reverse (λ c. (node_at ns c).at ≡ x.at) cs (pack_stand _ _ cs h);
  }

  -- the other way
  pub fit_chain : (k : Kind) (cs : List ℕ) → is_segment k ≡ false → Fit ns k x (reverse cs) → Chain ns k x (whole k x) cs (nothing k x)
  fit_chain segment cs s f = clash (cc)
  fit_chain concat cs s f =
      let r = concat_back x.at cs [] (reverse_all (λ c. (node_at ns c).width ≡ x.width) cs f.even) f.stand in
      let e : r.0 ≡ x.at + x.rows = omega (arith, sum_reverse (λ c. (node_at ns c).rows) cs, f.adds, concat_adds r.0 x.at cs r.1) in
      rw e at r.1
  fit_chain pack cs s f =
      pack_back x.width 0 cs (reverse_all (λ c. (node_at ns c).rows ≡ x.rows) cs f.even) (reverse_all (λ c. (node_at ns c).at ≡ x.at) cs f.stand)
      (omega (arith, sum_reverse (λ c. (node_at ns c).width) cs, f.adds))
