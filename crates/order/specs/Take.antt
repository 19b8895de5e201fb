-- Taking from an inlet: what is still to come out of the ports.
use Rattle.std.specs.Prelude.{◌≡◌, refl, ◌≢◌, List, [], ◌∷◌, ◌++◌, map, ◌≤◌, ℕ, zero, suc, ◌<◌, eqb, length, drop}
use Rattle.std.proofs.Common.{◌∙◌, arith}
use Rattle.std.proofs.Math.Option.{Option}
use Rattle.rules.specs.Job.{Job}
use Rattle.rules.specs.Plan.{Piece, Row}
use Rattle.rules.specs.Port.{taken, Batch, batch_rows}
use Rattle.rules.specs.Operators.{Source, segment, concat, pack}
use Rattle.rules.specs.Machine.{Machine, source_at, inlets_at, Pipeline, Stage, Port, pipe, slot_at_place, share_port, slot_places}
use Rattle.rules.specs.Table.{put}
use Rattle.laws.specs.Table.{by_bool, same, other, upd, upd_same, upd_other, by_eq}
use Rattle.order.specs.Inv.{Live, At, flat, still, join, will, share_rows, whole, pieces_in, split_in, source_of, stage_of, inlets_of, reader_of, shut, Ports, Flow}

-- the runs of a place's split, and what its pipeline will still write, at stage st
abbrev pub pieces_for : Machine → ℕ → List Piece
pieces_for m p = pieces_in m.job p (split_in m.active (slot_at_place p))

abbrev pub will_of : (ℕ → List Row) → Machine → ℕ → Stage → List Row
will_of F m p st = will F (pieces_for m p) (source_at m p) st (inlets_at m p)

-- x is no entry of the list
abbrev pub Apart : ℕ → List ℕ → Type 0
Apart x xs = (k y : ℕ) → At xs k y → y ≢ x

-- nor of the entries from i on
apart_drop : (x i : ℕ) (xs : List ℕ) → Apart x xs → Apart x (drop i xs)
apart_drop x zero xs h = h
apart_drop x (suc i) [] h = h
apart_drop x (suc i) (z ∷ zs) h = apart_drop x i zs (λ k y a. h (suc k) y a)

-- the entries from i on begin with the one at i
pub drop_at : (xs : List ℕ) (i x : ℕ) → At xs i x → drop i xs ≡ x ∷ drop (suc i) xs
drop_at [] i x a = absurd a
drop_at (z ∷ zs) zero x a = rw a
drop_at (z ∷ zs) (suc i) x a = drop_at zs i x a

-- an entry that stands in one place stands in none after it
pub apart_after : (x : ℕ) (xs : List ℕ) (i : ℕ) → At xs i x → ((k : ℕ) → At xs k x → k ≡ i) → Apart x (drop (suc i) xs)
apart_after x [] i a u = absurd a
apart_after x (z ∷ zs) zero a u = λ k y b e. let n : suc k ≡ 0 = u (suc k) (rw e at b) in absurd (omega arith)
apart_after x (z ∷ zs) (suc i) a u = apart_after x zs i a (λ k b. let n : suc k ≡ suc i = u (suc k) b in omega arith)

-- a change of F at a port that is no inlet is not seen
module _ (F : ℕ → List Row) (x : ℕ) (v : List Row) where
  pub join_frame : (xs : List ℕ) → Apart x xs → join (upd F x v) xs ≡ join F xs
  join_frame [] h = refl
  join_frame (y ∷ ys) h = let n : y ≢ x = h 0 y refl in rw (upd_other F x y v n, join_frame ys (λ k. h (suc k)))

  map_frame : (xs : List ℕ) → Apart x xs → map (upd F x v) xs ≡ map F xs
  map_frame [] h = refl
  map_frame (y ∷ ys) h = let n : y ≢ x = h 0 y refl in rw (upd_other F x y v n, map_frame ys (λ k. h (suc k)))

  pub will_frame : (ps : List Piece) (s : Source) (st : Stage) (xs : List ℕ) → Apart x xs → will (upd F x v) ps s st xs ≡ will F ps s st xs
  will_frame ps (segment a b e) st xs h = refl
  will_frame ps (concat i) st xs h = rw (join_frame (drop i xs) (apart_drop x i xs h))
  will_frame ps pack st xs h = rw (map_frame xs h)

module _ {j : Job} {A : List (Option ℕ)} {who : ℕ → Type 0} {P : List Pipeline} {I : List (List ℕ)} {O : List Port} {Q : List (List Batch)}
    (ports : Ports j A who P I O Q) (me i x : ℕ) (here : Live P me) (at : At (inlets_of I me) i x) where
  -- a port that me reads is no inlet of another pipeline
  pub apart_others : (p : ℕ) → Live P p → p ≢ me → Apart x (inlets_of I p)
  apart_others p l n = λ k y a e.
      let r : reader_of O y ≡ pipe p k = (ports.inlets p k y l a).1 in
      let q : reader_of O x ≡ pipe me i = (ports.inlets me i x here at).1 in
      let z : p ≡ me = cc in
      n z

  -- nor another inlet of me
  pub apart_mine : Apart x (drop (suc i) (inlets_of I me))
  apart_mine = apart_after x (inlets_of I me) i at (λ k a.
      let r : reader_of O x ≡ pipe me k = (ports.inlets me k x here a).1 in
      let q : reader_of O x ≡ pipe me i = (ports.inlets me i x here at).1 in
      cc)

  -- what is still to come, with v left to come out of port x, of which me has taken the hand
  pub take_flow : {S : List Source} {G : List Stage} {F W : ℕ → List Row} (v hand : List Row) (bs : List Batch)
      → Flow j A P S G I O Q me [] F W
      → (x < slot_places → v ≡ flat bs ++ still (shut O x) (W x))
      → ((l t : ℕ) → t < 16 → share_port l t ≡ x → v ≡ share_rows (batch_rows (whole j l)) (shut O x) bs)
      → (will F (pieces_in j me (split_in A (slot_at_place me))) (source_of S me) (stage_of G me) (inlets_of I me)
      ≡ hand ++ will (upd F x v) (pieces_in j me (split_in A (slot_at_place me))) (source_of S me) (stage_of G me) (inlets_of I me))
      → source_of S me ≢ pack
      → Flow j A P S G I O (put [] Q x bs) me hand (upd F x v) W
  take_flow {S} {G} {F} {W} v hand bs f bounded shared mine np = record {
    port = λ y h. by_eq y x (λ e. rw e (simp (same, upd_same) (bounded (rw e at h)))) (λ n. simp (other, upd_other) (f.port y h));
    share = λ l t h. by_eq (share_port l t) x
        (λ e. rw e (simp (same, upd_same) (shared l t h e)))
        (λ n. simp (other, upd_other) (f.share l t h));
    pipes = λ p h l n. rw (will_frame F x v (pieces_in j p (split_in A (slot_at_place p))) (source_of S p) (stage_of G p) (inlets_of I p)
        (apart_others p l n)) (f.pipes p h l n);
    mine = λ h l. f.mine h l ∙ mine;
    ends = f.ends;
    even = λ p k h y z l e a b.
        let n : p ≢ me = λ q. np (rw q at e) in
        rw (upd_other F x y v (apart_others p l n k y a), upd_other F x z v (apart_others p l n h z b)) (f.even p k h y z l e a b);
  }

-- taking lengthens no queue
pub taken_less : (n : ℕ) (q : List Batch) → length (taken n q) ≤ length q
unfolding taken
taken_less n [] = omega arith
taken_less n (b ∷ bs) = by_bool (eqb b.rows n) (λ e. rw (e, taken) (omega arith)) (λ e. rw (e, taken) (omega arith))
