-- The ring of new reads: its head, how many, then 24 places, in 26 bytes.
use Rattle.std.specs.Prelude.{ℕ, ◌+◌, ◌<◌, ◌≡◌, refl, true, false, List, [], ◌∷◌, ◌++◌, length, get_or, take, drop, set}
use Rattle.std.proofs.Common.{mod-lt, arith, sym, ap, ◌∙◌, length-set, get_or-set_same, get_or-set_other}
use Rattle.rules.specs.Table.{get}
use Rattle.queue.specs.declared.capacity.Queue.{Queue}
use Rattle.queue.specs.Queue.{sound, place_of, pushed, popped, settled, held}
use Rattle.queue.specs.Held.{held_bad, held_length, held_none, held_entry, held_popped, held_pushed, held_settled, held_same, settled_not, settled_length}
use Rattle.layout.specs.Cut.{cut}
use Rattle.layout.specs.Numbers.{byte}
use Rattle.tables.specs.View.{view, news_from, ring_of}

pub news_loaded : (s : List ℕ) → (view s).news ≡ news_from (take 26 (drop 56 s))
unfolding view cut
news_loaded s = refl

-- what stands at a place
abbrev places : List ℕ → ℕ → ℕ
places r k = byte r (2 + k)

-- by a ring that is known
news_of : (r : List ℕ) (q : Queue) → ring_of 24 r ≡ q → news_from r ≡ held 255 (places r) q
unfolding news_from
news_of r q f = ap (held 255 (places r)) f

module _ (r : List ℕ) (q : Queue) (f : q ≡ ring_of 24 r) where
  news_is : news_from r ≡ held 255 (places r) q
  news_is = news_of r q (sym f)

  -- a head or a count out of its range
  pub news_bad : sound q ≡ false → news_from r ≡ 255 ∷ []
  news_bad e = news_is ∙ held_bad 255 (places r) q e

  -- how many
  pub news_count : (settled q).count ≡ length (news_from r)
  news_count = settled_length 255 (places r) q ∙ ap length (sym news_is)

  module _ (e : sound q ≡ true) where
    pub news_length : length (news_from r) ≡ q.count
    news_length = ap length news_is ∙ held_length 255 (places r) q e

    -- none
    pub news_none : q.count ≡ 0 → news_from r ≡ []
    news_none z = news_is ∙ held_none 255 (places r) q e z

    -- entry k, from the oldest on
    pub news_entry : (k : ℕ) → k < length (news_from r) → get_or r (2 + place_of q k) 0 ≡ get 0 (news_from r) k
    news_entry k l = sym (ap (λ (x : List ℕ). get 0 x k) news_is ∙ held_entry 255 (places r) q e 0 k (rw news_length at l))

    module _ (l : length r ≡ 26) where
      -- without the first
      pub news_popped : 0 < q.count → news_from (set (set r 0 (popped q).head) 1 (popped q).count) ≡ drop 1 (news_from r)
      news_popped m =
          let a = (popped q).head in
          let b = (popped q).count in
          let u = set r 0 a in
          let t = set u 1 b in
          let k : length u ≡ length r = length-set r 0 a in
          let h : get_or t 0 0 ≡ a = get_or-set_other u 1 0 b 0 (λ e. omega arith) ∙ get_or-set_same r 0 a 0 (omega arith) in
          let c : get_or t 1 0 ≡ b = get_or-set_same u 1 b 0 (omega arith) in
          let o : (i : ℕ) → places t i ≡ places r i =
          λ i. get_or-set_other u 1 (2 + i) b 0 (λ e. omega arith) ∙ get_or-set_other r 0 (2 + i) a 0 (λ e. omega arith) in
          news_of t (popped q) (λ i. record { head = h i; count = c i; capacity = (sym f i).capacity })
          ∙ held_same 255 (places r) (popped q) (places t) (λ i. o (place_of (popped q) i))
          ∙ held_popped 255 (places r) q e m
          ∙ ap (drop 1) (sym news_is)

      -- one more, behind the last
      pub news_pushed : (v : ℕ) → q.count < 24 → news_from (set (set r (2 + place_of q q.count) v) 1 (pushed q).count) ≡ news_from r ++ v ∷ []
      news_pushed v m =
          let b = q.count + 1 in
          let p = place_of q q.count in
          let n : q.capacity ≡ 24 = λ i. (f i).capacity in
          let w : p < q.capacity = mod-lt (q.head + q.count) (omega arith) in
          let u = set r (2 + p) v in
          let t = set u 1 b in
          let k : length u ≡ length r = length-set r (2 + p) v in
          let h : get_or t 0 0 ≡ get_or r 0 0 = get_or-set_other u 1 0 b 0 (λ e. omega arith) ∙ get_or-set_other r (2 + p) 0 v 0 (λ e. omega arith) in
          let c : get_or t 1 0 ≡ b = get_or-set_same u 1 b 0 (omega arith) in
          let g : get_or t 0 0 ≡ q.head = h ∙ (λ i. (sym f i).head) in
          news_of t (pushed q) (λ i. record { head = g i; count = c i; capacity = (sym f i).capacity })
          ∙ held_pushed 255 (places r) q e (places t) v (omega arith)
          (λ j d. get_or-set_other u 1 (2 + j) b 0 (λ e. omega arith) ∙ get_or-set_other r (2 + p) (2 + j) v 0 (λ e. d (omega arith)))
          (get_or-set_other u 1 (2 + p) b 0 (λ e. omega arith) ∙ get_or-set_same r (2 + p) v 0 (omega arith))
          ∙ ap (λ (x : List ℕ). x ++ v ∷ []) (sym news_is)

  -- a ring that is not sound, written as what it is read as
  pub news_settled : length r ≡ 26 → sound q ≡ false → (o : Queue) → o ≡ settled q
      → (news_from (set (set (set r 0 o.head) 1 o.count) 2 255) ≡ news_from r)
      × (o ≡ ring_of 24 (set (set (set r 0 o.head) 1 o.count) 2 255))
  news_settled l e o s =
      let u = set r 0 o.head in
      let v = set u 1 o.count in
      let t = set v 2 255 in
      let k : length u ≡ length r = length-set r 0 o.head in
      let n : length v ≡ length u = length-set u 1 o.count in
      let h : get_or t 0 0 ≡ o.head = get_or-set_other v 2 0 255 0 (λ e. omega arith) ∙ get_or-set_other u 1 0 o.count 0 (λ e. omega arith)
      ∙ get_or-set_same r 0 o.head 0 (omega arith) in
      let c : get_or t 1 0 ≡ o.count = get_or-set_other v 2 1 255 0 (λ e. omega arith) ∙ get_or-set_same u 1 o.count 0 (omega arith) in
      let z : q.capacity ≡ 24 = λ i. (f i).capacity in
      let y : 24 ≡ o.capacity = sym z ∙ sym (λ i. ((s ∙ settled_not q e) i).capacity) in
      let w : ring_of 24 t ≡ o = λ i. record { head = h i; count = c i; capacity = y i } in (
        news_of t (settled q) (w ∙ s) ∙ held_settled 255 (places r) q (places t) e (omega arith) (get_or-set_same v 2 255 0 (omega arith)) ∙ sym news_is,
        sym w,
      )
