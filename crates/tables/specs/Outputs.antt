-- The ring of held outputs: its head, how many, then as many records as a port has places, in 306 bytes.
use Rattle.std.specs.Prelude.{ℕ, ◌+◌, ◌*◌, ◌<◌, ◌≡◌, refl, true, false, List, [], ◌∷◌, ◌++◌, get_or, take, drop, set}
use Rattle.std.proofs.Common.{mod-lt, arith, ap₂, ◌∙◌, length-set, get_or-set_same, get_or-set_other}
use Rattle.std.proofs.Math.Path.{sym, ap}
use Rattle.std.proofs.Math.ListN.{length}
use Rattle.rules.specs.Table.{get, put}
use Rattle.rules.specs.Port.{no_batch, capacity}
use Rattle.rules.specs.Machine.{Output, with_outputs}
use Rattle.laws.specs.Table.{same, other}
use Rattle.queue.specs.declared.capacity.Queue.{Queue}
use Rattle.queue.specs.Ring.{ring}
use Rattle.queue.specs.Queue.{sound, place_of, pushed, popped, settled, held}
use Rattle.queue.specs.Held.{held_bad, held_length, held_none, held_entry, held_popped, held_pushed, settled_not, settled_length}
use Rattle.layout.specs.Cut.{cut, splice, length_splice, cut_own}
use Rattle.layout.specs.Records.{table}
use Rattle.layout.specs.Stored.{wrote, wrote_byte, stored_lent, lent, loaded, first_at, byte_at}
use Rattle.tables.specs.Decode.{batch, output}
use Rattle.tables.specs.View.{view, Sized, machine_len, ring_of, outputs_from}
use Rattle.tables.specs.Written.{Leaves}
use Rattle.tables.specs.Inner.{cut_cut, first_kept, length_lent}

-- what the 306 bytes say
abbrev pub outputs_in : List ℕ → List Output
outputs_in r = outputs_from (cut 0 2 r) (cut 2 306 r)

-- the output that a ring out of its range reads as
abbrev pub bad_output : Output
bad_output = record { split = 255; batch = no_batch }

-- no output
abbrev pub no_output : Output
no_output = record { split = 0; batch = no_batch }

-- In a state

module _ (s : List ℕ) (z : Sized s) where
  pub outputs_loaded : (view s).outputs ≡ outputs_in (take 306 (drop 373 s))
  unfolding view cut
  outputs_loaded = sym (ap₂ outputs_from (cut_cut 373 679 0 2 s (omega arith) (omega arith) (omega arith))
      (cut_cut 373 679 2 306 s (omega arith) (omega arith) (omega arith)))

  pub outputs_written : (ys : List ℕ) (v : List Output) → length ys ≡ 306 → outputs_in ys ≡ v → Leaves s (splice s 373 306 ys) (with_outputs v (view s))
  unfolding view
  outputs_written ys v l e =
      let w = wrote 373 679 s ys (omega arith) (omega arith) l in
      let t = splice s 373 306 ys in
      let k : length t ≡ length s = length_splice s 373 306 ys (omega arith) l in
      let c : cut 373 375 t ≡ cut 0 2 ys = sym (cut_cut 373 679 0 2 t (omega arith) (omega arith) (omega arith)) ∙ ap (cut 0 2) w.own in
      let d : cut 375 679 t ≡ cut 2 306 ys = sym (cut_cut 373 679 2 306 t (omega arith) (omega arith) (omega arith)) ∙ ap (cut 2 306) w.own in
      (simp (w.others, c, d, e), w.past machine_len refl)

-- In a record

-- an output's record: its batch behind its split
pub output_back : (r ys : List ℕ) (n : ℕ) → length r ≡ 38 → length ys ≡ 37 → output (set (splice r 1 37 ys) 0 n) ≡ record { split = n; batch = batch ys }
unfolding output
output_back r ys n l e =
    let t = splice r 1 37 ys in
    let k : length t ≡ length r = length_splice r 1 37 ys (omega arith) e in
    let b : get_or (set t 0 n) 0 0 ≡ n = get_or-set_same t 0 n 0 (omega arith) in
    let c : cut 1 38 (set t 0 n) ≡ ys = (wrote_byte 0 t n (omega arith)).others 1 38 refl ∙ cut_own 1 38 r ys (omega arith) (omega arith) e in
    rw (b, c)

-- by its bytes
pub output_is : (r : List ℕ) → output r ≡ record { split = get_or r 0 0; batch = batch (take 37 (drop 1 r)) }
unfolding output cut
output_is r = refl

-- In the 306 bytes

-- the records, whether they count or not
abbrev records : List ℕ → List Output
records r = table output 38 capacity (cut 2 306 r)

-- what stands at a place
abbrev places : List ℕ → ℕ → Output
places r k = get (output []) (records r) k

-- the ring
abbrev pub outputs_ring : List ℕ → Queue
outputs_ring r = ring_of capacity r

-- by a ring that is known
outputs_of : (r : List ℕ) (q : Queue) → outputs_ring r ≡ q → outputs_in r ≡ held bad_output (places r) q
unfolding outputs_from cut
outputs_of r q f = rw (first_at r 0 2 refl, byte_at r 0 2 1 refl) (ap (held bad_output (places r)) f)

module _ (r : List ℕ) (q : Queue) (f : q ≡ outputs_ring r) where
  outputs_is : outputs_in r ≡ held bad_output (places r) q
  outputs_is = outputs_of r q (sym f)

  -- a head or a count out of its range
  pub outputs_bad : sound q ≡ false → outputs_in r ≡ bad_output ∷ []
  outputs_bad e = outputs_is ∙ held_bad bad_output (places r) q e

  -- how many
  pub outputs_count : (settled q).count ≡ length (outputs_in r)
  outputs_count = settled_length bad_output (places r) q ∙ ap length (sym outputs_is)

  module _ (e : sound q ≡ true) where
    pub outputs_length : length (outputs_in r) ≡ q.count
    outputs_length = ap length outputs_is ∙ held_length bad_output (places r) q e

    -- none
    pub outputs_none : q.count ≡ 0 → outputs_in r ≡ []
    outputs_none z = outputs_is ∙ held_none bad_output (places r) q e z

    module _ (l : length r ≡ 306) where
      -- entry k, from the oldest on
      pub outputs_entry : (d : Output) (k : ℕ) → k < length (outputs_in r) → get d (outputs_in r) k ≡ output (take 38 (drop (2 + place_of q k * 38) r))
      outputs_entry d k m =
          let n : q.capacity ≡ capacity = λ i. (f i).capacity in
          let w : place_of q k < q.capacity = mod-lt (q.head + k) (omega arith) in
          ap (λ (x : List Output). get d x k) outputs_is
          ∙ held_entry bad_output (places r) q e d k (rw outputs_length at m)
          ∙ loaded output 2 38 capacity r (place_of q k) (output []) (omega arith) (omega arith)

      -- without the first
      pub outputs_popped : 0 < q.count → outputs_in (set (set r 0 (popped q).head) 1 (popped q).count) ≡ drop 1 (outputs_in r)
      outputs_popped m =
          let a = (popped q).head in
          let b = (popped q).count in
          let u = set r 0 a in
          let t = set u 1 b in
          let k : length u ≡ length r = length-set r 0 a in
          let h : get_or t 0 0 ≡ a = get_or-set_other u 1 0 b 0 (λ e. omega arith) ∙ get_or-set_same r 0 a 0 (omega arith) in
          let c : get_or t 1 0 ≡ b = get_or-set_same u 1 b 0 (omega arith) in
          let o : cut 2 306 t ≡ cut 2 306 r = (wrote_byte 1 u b (omega arith)).others 2 306 refl ∙ (wrote_byte 0 r a (omega arith)).others 2 306 refl in
          outputs_of t (popped q) (λ i. record { head = h i; count = c i; capacity = (sym f i).capacity })
          ∙ ap (λ (x : List ℕ). held bad_output (get (output []) (table output 38 capacity x)) (popped q)) o
          ∙ held_popped bad_output (places r) q e m
          ∙ ap (drop 1) (sym outputs_is)

      -- one more, behind the last
      pub outputs_pushed : (ys : List ℕ) (v : Output) → q.count < capacity → length ys ≡ 38 → output ys ≡ v
          → outputs_in (set (lent 2 38 (place_of q q.count) r ys) 1 (pushed q).count) ≡ outputs_in r ++ v ∷ []
      outputs_pushed ys v m j g =
          let b = q.count + 1 in
          let p = place_of q q.count in
          let n : q.capacity ≡ capacity = λ i. (f i).capacity in
          let y : p < q.capacity = mod-lt (q.head + q.count) (omega arith) in
          let u = lent 2 38 p r ys in
          let t = set u 1 b in
          let w = stored_lent 2 38 capacity r p ys (omega arith) (omega arith) j in
          let k : length u ≡ length r = length_lent 2 38 capacity r p ys (omega arith) (omega arith) j in
          let h : get_or t 0 0 ≡ q.head = get_or-set_other u 1 0 b 0 (λ g. omega arith) ∙ first_kept r u (w.others 0 1 refl) ∙ (λ i. (sym f i).head) in
          let c : get_or t 1 0 ≡ b = get_or-set_same u 1 b 0 (omega arith) in
          let o : records t ≡ put (output []) (records r) p v = ap (table output 38 capacity) ((wrote_byte 1 u b (omega arith)).others 2 306 refl)
          ∙ w.own output (output []) ∙ ap (put (output []) (records r) p) g in
          outputs_of t (pushed q) (λ i. record { head = h i; count = c i; capacity = (sym f i).capacity })
          ∙ held_pushed bad_output (places r) q e (places t) v (omega arith)
          (λ j d. ap (λ (x : List Output). get (output []) x j) o ∙ other (output []) (records r) p j v d)
          (ap (λ (x : List Output). get (output []) x p) o ∙ same (output []) (records r) p v)
          ∙ ap (λ (x : List Output). x ++ v ∷ []) (sym outputs_is)

  -- a ring that is not sound, written as what it is read as: a record with too many columns has an empty batch
  pub outputs_settled : sound q ≡ false → (o : Queue) → o ≡ settled q
      → (outputs_in (splice r 0 4 (o.head ∷ o.count ∷ 255 ∷ 255 ∷ [])) ≡ outputs_in r) × (o ≡ outputs_ring (splice r 0 4 (o.head ∷ o.count ∷ 255 ∷ 255 ∷ [])))
  unfolding outputs_from cut held ring table output batch
  outputs_settled e o s =
      let z : record { head = 0; count = 1; capacity = capacity } ≡ o =
      (λ i. record { head = 0; count = 1; capacity = (sym f i).capacity }) ∙ sym (settled_not q e) ∙ sym s in
      rw (← z) (sym (outputs_bad e), refl)
