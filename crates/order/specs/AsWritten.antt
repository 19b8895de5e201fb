-- What demand 3 says of a job, it says of every job with the same rows: so of the job as it is written.
use Rattle.std.specs.Prelude.{◌≡◌, true, false, ◌&&◌, ltb, if◌then◌else◌}
use Rattle.std.proofs.Math.Path.{refl, ap}
use Rattle.std.proofs.Common.{sym, ◌∙◌, add-zero, eq-eqb, ne_eqb, lt-ltb}
use Rattle.std.proofs.Math.Bool.{not, and_assoc}
use mathlib.Core.List.{List, [], ◌∷◌, ◌++◌, map, map-append, append_assoc}
use Rattle.std.proofs.Math.Option.{none, some}
use Prim.Native.Nat.{ℕ, suc, ◌+◌, ◌*◌, ◌<◌}
use native.Mathlib.Omega.{arith}
use Rattle.std.proofs.Math.ListN.{length}
use Rattle.std.proofs.Math.Dec.{eqb}
use Rattle.rules.specs.Table.{get, filter, any, sum_of, up_from}
use Rattle.rules.specs.Job.{Job, Node, Run, Split, node_at, is_segment}
use Rattle.rules.specs.Plan.{node_of, is_leaf, leaves, segment_count, row_count}
use Rattle.rules.specs.Machine.{Machine}
use Rattle.rules.specs.Scan.{read, output, waits, done}
use Rattle.rules.specs.Session.{Call}
use Rattle.rules.specs.Demand.{Event, turn, refusal, delivery, Request, no_request, Moment, trace, events, made_in, came_in}
use Rattle.rules.specs.Demand.{has_rows, has_segment, RightlyTaken, all_new, MadeOnce, RightTurn, FrontPart, AllOut, most, Demand3}
use Rattle.laws.specs.Table.{by_bool}
use Rattle.laws.specs.Rows.{All}
use Rattle.laws.specs.Rising.{Rising}
use Rattle.laws.specs.KidPlaces.{All-map}
use Rattle.laws.specs.FreeShapes.{leaves_in, leaves_tell}
use Rattle.laws.specs.Lone.{SameRows}
use Rattle.order.specs.Among.{rising_up, rising_filter}
use Rattle.order.specs.Each.{All-append}
use Rattle.order.specs.Trace.{along_map}

-- The number of segments

-- how many of a list differ from all before them
unfoldable differing : List ℕ → List ℕ → ℕ
differing before [] = 0
differing before (g ∷ gs) = elim (any (λ h. eqb h g) before) [ true ↦ differing (before ++ g ∷ []) gs | false ↦ suc (differing (before ++ g ∷ []) gs) ]

module _ (seg : ℕ → ℕ) where
  any_image : (g : ℕ) (ls : List ℕ) → any (λ h. eqb h g) (map seg ls) ≡ any (λ k. eqb (seg k) g) ls
  unfolding any
  any_image g [] = refl
  any_image g (l ∷ ls) = rw (any_image g ls)

  -- a number is the first of those with its segment where none before it has that segment
  first_new : (l : ℕ) (ps qs : List ℕ) → All (λ p. p < l) ps
      → eqb (get l (filter (λ k. eqb (seg k) (seg l)) (ps ++ l ∷ qs)) 0) l ≡ not (any (λ k. eqb (seg k) (seg l)) ps)
  unfolding filter any
  first_new l [] qs a = rw (eq-eqb (seg l) (seg l) refl, filter) (eq-eqb l l refl)
  first_new l (p ∷ ps) qs a = by_bool (eqb (seg p) (seg l))
      (λ e. rw (e, filter) (ne_eqb p l (λ q. absurd (omega (arith, a.0)))))
      (λ e. rw (e, filter) (first_new l ps qs a.1))

  -- so the numbers that are the first with their segment are as many as there are different segments
  firsts : (i : ℕ) (ps qs : List ℕ) → All (λ p. p < i) ps → Rising i qs
      → length (filter (λ l. eqb (get l (filter (λ k. eqb (seg k) (seg l)) (ps ++ qs)) 0) l) qs) ≡ differing (map seg ps) (map seg qs)
  unfolding filter differing
  firsts i ps [] a r = refl
  firsts i ps (l ∷ qs) a r =
      let low : All (λ p. p < l) ps = All-map (λ p. p < i) (λ p. p < l) (λ p h. omega (arith, r.0)) ps a in
      let more : All (λ p. p < suc l) (ps ++ l ∷ []) =
      All-append (λ p. p < suc l) ps (l ∷ []) (All-map (λ p. p < l) (λ p. p < suc l) (λ p h. omega arith) ps low) (omega arith, tt) in
      let t = first_new l ps qs low ∙ ap not (sym (any_image (seg l) ps)) in
      let rest = ap (λ (ls : List ℕ). length (filter (λ k. eqb (get k (filter (λ n. eqb (seg n) (seg k)) ls) 0) k) qs)) (sym (append_assoc ps (l ∷ []) qs))
      ∙ firsts (suc l) (ps ++ l ∷ []) qs more r.1 ∙ ap (λ (gs : List ℕ). differing gs (map seg qs)) (map-append seg ps (l ∷ [])) in
      by_bool (any (λ h. eqb h (seg l)) (map seg ps))
      (λ e. rw (t ∙ ap not e, e, filter, differing) rest)
      (λ e. rw (t ∙ ap not e, e, filter, differing) (ap suc rest))

module _ (j : Job) where
  -- the segments of the leaves, in sequence
  leaf_segments : (i : ℕ) (xs : List Node) → i + length xs ≡ length j.nodes → ((k : ℕ) → node_of j (i + k) ≡ node_at xs k)
      → map (λ l. (node_of j l).segment) (filter (is_leaf j) (up_from i (length xs))) ≡ map (λ (l : ℕ × ℕ). l.0) (leaves_in xs)
  unfolding filter up_from
  leaf_segments i [] e h = refl
  leaf_segments i (x ∷ xs) e h =
      let n : node_of j i ≡ x = rw (add-zero i) at (h 0) in
      let t : is_leaf j i ≡ is_segment x.kind = rw (lt-ltb i (length j.nodes) (omega (arith, e))) (ap (λ (y : Node). is_segment y.kind) n) in
      let rest = leaf_segments (suc i) xs (omega (arith, e)) (λ k. let z : suc i + k ≡ i + suc k = omega arith in rw z (h (suc k))) in
      by_bool (is_segment x.kind)
      (λ q. rw (t ∙ q, q, filter, rest) (ap (λ (y : Node). y.segment ∷ map (λ (l : ℕ × ℕ). l.0) (leaves_in xs)) n))
      (λ q. rw (t ∙ q, q, filter) rest)

  -- they are counted along the leaves
  segments_are : segment_count j ≡ differing [] (map (λ (l : ℕ × ℕ). l.0) (leaves_in j.nodes))
  segments_are =
      let z : (k : ℕ) → 0 + k ≡ k = λ k. omega arith in
      firsts (λ l. (node_of j l).segment) 0 [] (leaves j) tt (rising_filter (is_leaf j) 0 (up_from 0 (length j.nodes)) (rising_up 0 (length j.nodes)))
      ∙ ap (differing []) (leaf_segments 0 j.nodes (z (length j.nodes)) (λ k. ap (node_of j) (z k)))

-- The sentences

module _ (j w : Job) (s : SameRows j w) where
  rows_same : (g n : ℕ) → has_rows j g n ≡ has_rows w g n
  rows_same g n = leaves_tell (λ (x : Node). is_segment x.kind && eqb x.segment g && eqb x.rows n) (λ l. eqb l.0 g && eqb l.1 n)
      (λ x. and_assoc (is_segment x.kind) (eqb x.segment g) (eqb x.rows n)) j.nodes w.nodes s.leaves

  segment_same : (g : ℕ) → has_segment j g ≡ has_segment w g
  segment_same g =
      leaves_tell (λ (x : Node). is_segment x.kind && eqb x.segment g) (λ l. eqb l.0 g) (λ x. refl) j.nodes w.nodes s.leaves

  most_same : most j ≡ most w
  most_same =
      let segments = segments_are j ∙ ap (λ (l : List (ℕ × ℕ)). differing [] (map (λ (p : ℕ × ℕ). p.0) l)) s.leaves ∙ sym (segments_are w) in
      let rows : row_count j ≡ row_count w = ap (λ (l : List Split). sum_of (λ (t : Split). sum_of (λ (r : Run). r.size) t.runs) l) s.splits in
      λ i. 2 * segments i + rows i + 1

  taken_same : (past : List Moment) (e : Event) (new : List Request) → RightlyTaken j past e new → RightlyTaken w past e new
  taken_same past (turn t) new h = tt
  taken_same past (refusal n) new h = tt
  taken_same past (delivery r n a) new h =
      h ∙ ap (λ b. if not (ltb r (length (made_in past)) && not (came_in (events past) r)) then some 10 else if b then none else some 11)
      (rows_same (get no_request (made_in past) r).segment n)

  new_same : (before new : List Request) → all_new j before new ≡ all_new w before new
  unfolding all_new
  new_same before [] = refl
  new_same before (q ∷ qs) = rw (new_same (before ++ q ∷ []) qs)

  turn_same : (past : List Moment) (e : Event) (new : List Request) → RightTurn j past e new → RightTurn w past e new
  turn_same past (turn (read r g)) new h = (sym (segment_same g) ∙ h.0, h.1)
  turn_same past (turn (output t b)) new h = (ap (λ (l : List Split). ltb t (length l)) (sym s.splits) ∙ h.0, h.1, h.2)
  turn_same past (turn waits) new h = h
  turn_same past (turn done) new h = tt
  turn_same past (refusal n) new h = tt
  turn_same past (delivery r n a) new h = tt

  out_same : (past : List Moment) (e : Event) (new : List Request) → AllOut j past e new → AllOut w past e new
  out_same past (turn (read r g)) new h = tt
  out_same past (turn (output t b)) new h = tt
  out_same past (turn waits) new h = tt
  out_same past (turn done) new h = λ t. h t ∙ s.kept t
  out_same past (refusal n) new h = tt
  out_same past (delivery r n a) new h = tt

  pub demand_same : (m : Machine) (calls : List Call) → Demand3 j m calls → Demand3 w m calls
  demand_same m calls d = record {
    steps = d.steps;
    deliveries = along_map (RightlyTaken j) (RightlyTaken w) taken_same [] (trace calls m) d.deliveries;
    requests = along_map (MadeOnce j) (MadeOnce w) (λ past e new h. sym (new_same (made_in past) new) ∙ h) [] (trace calls m) d.requests;
    tells = d.tells;
    told = d.told;
    turns = along_map (RightTurn j) (RightTurn w) turn_same [] (trace calls m) d.turns;
    fronts = along_map (FrontPart j) (FrontPart w) (λ past e new h t. record { rest = (h t).rest; is = (h t).is ∙ s.kept t }) [] (trace calls m) d.fronts;
    ends = along_map (AllOut j) (AllOut w) out_same [] (trace calls m) d.ends;
    bound = rw (← most_same) d.bound;
  }
