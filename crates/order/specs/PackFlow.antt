-- A pack takes n rows of every inlet: what is still to come of each, and that the columns joined are what it takes.
use Rattle.std.specs.Prelude.{◌≡◌, refl, ◌≢◌, true, false, List, [], ◌∷◌, ◌++◌, map, ℕ, zero, suc, ◌+◌, ◌<◌, ◌≤◌, length, drop, eqb}
use Rattle.std.proofs.Common.{sym, ap, ◌∙◌, append_assoc, arith, length-append, eqb-true}
use Rattle.std.proofs.Math.Option.{Option}
use Rattle.rules.specs.Table.{get, put, has}
use Rattle.rules.specs.Job.{Job}
use Rattle.rules.specs.Plan.{Piece, Row}
use Rattle.rules.specs.Port.{Batch, no_batch, batch_rows, front, behind, taken}
use Rattle.rules.specs.Operators.{Source, segment, concat, pack, side_by_side}
use Rattle.rules.specs.Machine.{Pipeline, Stage, Port, slot_places, share_port}
use Rattle.laws.specs.Table.{by_bool, by_eq, clash, same, other}
use Rattle.laws.specs.Rows.{sides, sides_append, side_by_side_lem, front_behind, batch_length}
use Rattle.laws.specs.Rising.{has_head, has_tail}
use Rattle.order.specs.Inv.{Live, shut, source_of, stage_of, inlets_of, queue_of, At, Differ, flat, still, join, will, Flow}
use Rattle.order.specs.Base.{share_above}
use Rattle.order.specs.PackPlace.{not_at}
use Rattle.order.specs.Lists.{at_has, map_same}
use Rattle.order.specs.Among.{all_of}

-- Lists

module _ {A B : Type 0} where
  -- two maps are one
  pub map_twice : {C : Type 0} (f : B → C) (g : A → B) (xs : List A) → map f (map g xs) ≡ map (λ x. f (g x)) xs
  map_twice f g [] = refl
  map_twice f g (x ∷ xs) = rw (map_twice f g xs)

-- joined lists that agree at every entry
join_at : (F K : ℕ → List Row) (xs : List ℕ) → ((i x : ℕ) → At xs i x → F x ≡ K x) → join F xs ≡ join K xs
join_at F K [] h = refl
join_at F K (x ∷ xs) h = rw (h 0 x refl, join_at F K xs (λ i y a. h (suc i) y a))

-- the same without the first n
join_drop : (F K : ℕ → List Row) (n : ℕ) (xs : List ℕ) → ((i x : ℕ) → At xs i x → F x ≡ K x) → join F (drop n xs) ≡ join K (drop n xs)
join_drop F K zero xs h = join_at F K xs h
join_drop F K (suc n) [] h = refl
join_drop F K (suc n) (x ∷ xs) h = join_drop F K n xs (λ i y a. h (suc i) y a)

-- a pipeline whose inlets have the same rows to come will write the same
pub will_at : (F K : ℕ → List Row) (ps : List Piece) (src : Source) (st : Stage) (xs : List ℕ) → ((i x : ℕ) → At xs i x → F x ≡ K x)
    → will F ps src st xs ≡ will K ps src st xs
will_at F K ps (segment a b e) st xs h = refl
will_at F K ps (concat i) st xs h = rw (join_drop F K i xs h)
will_at F K ps pack st xs h = rw (map_same F K xs h)

-- different places: different numbers
pub unique_at : (xs : List ℕ) → ((i h x : ℕ) → At xs i x → At xs h x → i ≡ h) → Differ xs
unique_at [] n = tt
unique_at (x ∷ xs) n = (not_at xs x (λ h a. let e : 0 ≡ suc h = n 0 (suc h) x refl a in omega arith), unique_at xs (λ i h y a b. let e : suc i ≡ suc h = n (suc i) (suc h) y a b in omega arith))

-- Queues with n rows taken

-- the queues of the inlets without their first n rows
abbrev pub take_q : ℕ → List ℕ → List (List Batch) → List (List Batch)
take_q n [] Q = Q
take_q n (x ∷ xs) Q = take_q n xs (put [] Q x (taken n (queue_of Q x)))

-- the other queues stay
pub take_q_other : (n : ℕ) (xs : List ℕ) (Q : List (List Batch)) (y : ℕ) → has y xs ≡ false → queue_of (take_q n xs Q) y ≡ queue_of Q y
take_q_other n [] Q y h = refl
take_q_other n (x ∷ xs) Q y h =
    by_eq y x (λ e. clash (cc (has_head x xs)))
    (λ d. take_q_other n xs (put [] Q x (taken n (queue_of Q x))) y (sym (has_tail y x xs d) ∙ h) ∙ rw other)

-- each inlet is taken of once
pub take_q_has : (n : ℕ) (xs : List ℕ) (Q : List (List Batch)) (y : ℕ) → Differ xs → has y xs ≡ true → queue_of (take_q n xs Q) y ≡ taken n (queue_of Q y)
unfolding has
take_q_has n [] Q y u h = clash (cc)
take_q_has n (x ∷ xs) Q y u h =
    by_eq y x
    (λ e. rw e (take_q_other n xs (put [] Q x (taken n (queue_of Q x))) x u.0 ∙ rw same))
    (λ d. take_q_has n xs (put [] Q x (taken n (queue_of Q x))) y u.1 (sym (has_tail y x xs d) ∙ h) ∙ rw other)

-- the rows taken, then those that are left
flat_taken : (n : ℕ) (b : Batch) (bs : List Batch) → n ≤ b.rows → batch_rows (front n b) ++ flat (taken n (b ∷ bs)) ≡ batch_rows b ++ flat bs
unfolding taken
flat_taken n b bs h =
    by_bool (eqb b.rows n)
    (λ e. rw (e, taken) (rw (eqb-true b.rows n e)))
    (λ e. rw (e, taken) (sym (append_assoc (batch_rows (front n b)) (batch_rows (behind n b)) (flat bs)) ∙ ap (λ (r : List Row). r ++ flat bs) (front_behind n b h)))

-- What is to come

-- the first batch of a queue
abbrev pub first_of : List (List Batch) → ℕ → Batch
first_of Q x = get no_batch (queue_of Q x) 0

-- every inlet has a first batch of at least n rows
abbrev pub Fronts : List (List Batch) → ℕ → List ℕ → Type 0
Fronts Q n xs = (i x : ℕ) → At xs i x → (queue_of Q x ≢ []) × (n ≤ (first_of Q x).rows)

module _ (xs : List ℕ) (O : List Port) (Q : List (List Batch)) (F W : ℕ → List Row) where
  -- the rows to come of the ports that were read, by their queues now
  pub after : ℕ → List Row
  after y = elim (has y xs) [ true ↦ flat (queue_of Q y) ++ still (shut O y) (W y) | false ↦ F y ]

  -- a port that was read
  pub after_in : (y : ℕ) → has y xs ≡ true → after y ≡ flat (queue_of Q y) ++ still (shut O y) (W y)
  unfolding after
  after_in y e = rw (e, after)

  -- a port that was not read
  pub after_out : (y : ℕ) → has y xs ≡ false → after y ≡ F y
  unfolding after
  after_out y e = rw (e, after)

-- the rows of one inlet: those taken, then those still to come
taken_rows : (n : ℕ) (q : List Batch) (w : List Row) → q ≢ [] → n ≤ (get no_batch q 0).rows
    → flat q ++ w ≡ batch_rows (front n (get no_batch q 0)) ++ (flat (taken n q) ++ w)
taken_rows n [] w d h = absurd (d refl)
taken_rows n (b ∷ bs) w d h = ap (λ (r : List Row). r ++ w) (sym (flat_taken n b bs h)) ∙ append_assoc (batch_rows (front n b)) (flat (taken n (b ∷ bs))) w

-- a list that is not empty stays so
map_some : (f : ℕ → Batch) (xs : List ℕ) → xs ≢ [] → map f xs ≢ []
map_some f [] n = λ e. n refl
map_some f (x ∷ xs) n = λ e. clash (cc)

-- the columns joined, then what is left side by side
sides_taken : (Q : List (List Batch)) (n : ℕ) (xs : List ℕ) (F K : ℕ → List Row) → xs ≢ []
    → ((i x : ℕ) → At xs i x → F x ≡ batch_rows (front n (first_of Q x)) ++ K x)
    → sides (map F xs) ≡ batch_rows (side_by_side n (map (first_of Q) xs)) ++ sides (map K xs)
sides_taken Q n xs F K d h =
    let g : ℕ → List Row = λ x. batch_rows (front n (first_of Q x)) in
    let e : batch_rows (side_by_side n (map (first_of Q) xs)) ≡ sides (map g xs) = side_by_side_lem n (map (first_of Q) xs) (map_some (first_of Q) xs d) ∙ ap sides (map_twice (λ b. batch_rows (front n b)) (first_of Q) xs) in
    ap sides (map_same F (λ x. g x ++ K x) xs h) ∙ sides_append g n K xs (all_of (λ x. length (g x) ≡ n) (λ x. batch_length (front n (first_of Q x))) xs) ∙ rw e

module _ (j : Job) (A : List (Option ℕ)) (P : List Pipeline) (S : List Source) (G : List Stage) (I : List (List ℕ)) (O : List Port) (Q : List (List Batch)) (me n : ℕ) (F W : ℕ → List Row) where
  -- the queues and the rows to come afterwards
  abbrev Q' : List (List Batch)
  Q' = take_q n (inlets_of I me) Q

  -- the rows to come afterwards
  abbrev F' : ℕ → List Row
  F' = after (inlets_of I me) O (take_q n (inlets_of I me) Q) F W

  -- the rows of each inlet: those taken, then those still to come
  inlet_rows : Flow j A P S G I O Q me [] F W → Differ (inlets_of I me) → ((i x : ℕ) → At (inlets_of I me) i x → x < slot_places) → Fronts Q n (inlets_of I me)
      → (i x : ℕ) → At (inlets_of I me) i x → F x ≡ batch_rows (front n (first_of Q x)) ++ F' x
  inlet_rows f u low fr i x a =
      f.port x (low i x a) ∙ taken_rows n (queue_of Q x) (still (shut O x) (W x)) (fr i x a).0 (fr i x a).1
      ∙ ap (λ (r : List Row). batch_rows (front n (first_of Q x)) ++ r)
      (sym (after_in (inlets_of I me) O (take_q n (inlets_of I me) Q) F W x (at_has (inlets_of I me) i x a) ∙ rw (take_q_has n (inlets_of I me) Q x u (at_has (inlets_of I me) i x a))))

  -- n rows of every inlet are in hand
  pub take_flow : Flow j A P S G I O Q me [] F W → source_of S me ≡ pack → inlets_of I me ≢ [] → Differ (inlets_of I me)
      → ((i x : ℕ) → At (inlets_of I me) i x → x < slot_places) → Fronts Q n (inlets_of I me)
      → ((p i x : ℕ) → Live P p → p ≢ me → At (inlets_of I p) i x → has x (inlets_of I me) ≡ false)
      → Flow j A P S G I O Q' me (batch_rows (side_by_side n (map (first_of Q) (inlets_of I me)))) F' W
  take_flow f e ne u low fr apart =
      let xs : List ℕ = inlets_of I me in
      let rows : (i x : ℕ) → At xs i x → F x ≡ batch_rows (front n (first_of Q x)) ++ F' x = inlet_rows f u low fr in
      let out : (y : ℕ) → has y xs ≡ false → F' y ≡ F y = after_out xs O (take_q n xs Q) F W in
      record {
        port = λ y b. by_bool (has y xs) (λ h. after_in xs O (take_q n xs Q) F W y h) (λ h. rw (out y h, take_q_other n xs Q y h) (f.port y b));
        share = λ l t b. let h : has (share_port l t) xs ≡ false = not_at xs (share_port l t) (λ i a. omega (arith, low i (share_port l t) a, share_above l t)) in
            rw (out (share_port l t) h, take_q_other n xs Q (share_port l t) h) (f.share l t b);
        pipes = λ p b l d. f.pipes p b l d ∙ sym (will_at F' F _ (source_of S p) (stage_of G p) (inlets_of I p) (λ i x a. out x (apart p i x l d a)));
        mine = λ b l. f.mine b l ∙ rw e (sides_taken Q n xs F F' ne rows);
        ends = f.ends;
        even = λ p i h x y l c ax ay. by_eq p me
            (λ d. let len : (k z : ℕ) → At xs k z → length (F z) ≡ n + length (F' z) = λ k z a. ap length (rows k z a) ∙ length-append (batch_rows (front n (first_of Q z))) (F' z) ∙ ap (λ (r : ℕ). r + length (F' z)) (batch_length (front n (first_of Q z))) in
            omega (arith, f.even p i h x y l c ax ay, len i x (rw d at ax), len h y (rw d at ay)))
            (λ d. rw (out x (apart p i x l d ax), out y (apart p h y l d ay)) (f.even p i h x y l c ax ay));
      }
