-- What the flag of a shared port says and what a store to it leaves, in the terms of the rules.
use Rattle.std.specs.Prelude.{ℕ, ◌+◌, ◌-◌, ◌/◌, ◌≤◌, ◌<◌, ◌≡◌, refl, Bool, true, false, not, List, [], ◌∷◌, eqb, get_or}
use native.Mathlib.Omega.{arith}
use Rattle.std.proofs.Common.{sym, ◌∙◌}
use Rattle.std.proofs.Math.Path.{ap}
use Rattle.std.proofs.Math.ListN.{set}
use Rattle.rules.specs.Table.{is_empty}
use Rattle.rules.specs.Job.{Job}
use Rattle.rules.specs.Plan.{node_of}
use Rattle.rules.specs.Port.{Batch}
use Rattle.rules.specs.Operators.{run_batch}
use Rattle.rules.specs.Machine.{queue_at, set_queue}
use Rattle.queue.specs.declared.capacity.Queue.{Queue}
use Rattle.queue.specs.Queue.{fresh, no_limit, pushed}
use Rattle.layout.specs.Numbers.{flag, mark, flag_mark}
use Rattle.tables.specs.View.{share_from, view, Sized}
use Rattle.tables.specs.Written.{Leaves}
use Rattle.tables.specs.Queues.{share_loaded, share_written}
use Rattle.table_ports.specs.Moves.{leaves_of}

-- all rows of the segment of a leaf
abbrev pub whole_batch : Job → ℕ → Batch
whole_batch j n = run_batch (node_of j n).segment (record { start = 0; size = (node_of j n).rows })

-- it holds something where its flag is set
share_empty : (j : Job) (i : ℕ) (f : Bool) → not (is_empty (share_from j i f)) ≡ f
unfolding share_from is_empty
share_empty j i true = refl
share_empty j i false = refl

-- its queue, which has no limit and holds one batch at most
abbrev pub share_ring : Bool → Queue
share_ring b = record { head = 0; count = mark b; capacity = no_limit }

share_more : (b : Bool) → mark (not (eqb (mark b + 1) 0)) ≡ 1
share_more true = refl
share_more false = refl

module _ (s : List ℕ) (z : Sized s) (x : ℕ) (l : 72 ≤ x) (h : x < 456) where
  -- the flag of port x
  flag_is : flag (get_or s (17631 + (x - 72)) 0) ≡ not (is_empty (queue_at (view s) x))
  flag_is =
      let e : 72 + (x - 72) ≡ x = omega arith in
      sym (rw e at (ap (λ (q : List Batch). not (is_empty q)) (share_loaded s z (x - 72) (omega arith))
      ∙ share_empty (view s).job (x - 72) (flag (get_or s (17631 + (x - 72)) 0))))

  module _ (q : Queue) (r : q ≡ share_ring (flag (get_or s (17631 + (x - 72)) 0))) where
    -- its queue says whether something waits
    pub share_is : not (eqb q.count 0) ≡ not (is_empty (queue_at (view s) x))
    share_is = ap (λ (p : Queue). not (eqb p.count 0)) r ∙ flag_mark (flag (get_or s (17631 + (x - 72)) 0)) ∙ flag_is

    -- one batch more
    pub fill_leaves : (o : Queue) → o ≡ pushed q → (t : List ℕ) → t ≡ set s (17631 + (x - 72)) (mark (not (eqb o.count 0)))
        → Leaves s t (set_queue x (whole_batch (view s).job ((x - 72) / 16) ∷ []) (view s))
    unfolding share_from
    fill_leaves o g t d =
        let e : 72 + (x - 72) ≡ x = omega arith in
        let m = (λ i. mark (not (eqb (g i).count 0))) ∙ (λ i. mark (not (eqb ((r i).count + 1) 0))) ∙ share_more (flag (get_or s (17631 + (x - 72)) 0)) in
        leaves_of s t (set s (17631 + (x - 72)) 1) _ (d ∙ ap (set s (17631 + (x - 72))) m) (rw e at (share_written s z (x - 72) 1 (omega arith)))

  -- a fresh queue
  pub drain_leaves : (o : Queue) → o ≡ fresh no_limit → (t : List ℕ) → t ≡ set s (17631 + (x - 72)) (mark (not (eqb o.count 0)))
      → Leaves s t (set_queue x [] (view s))
  unfolding share_from
  drain_leaves o g t d =
      let e : 72 + (x - 72) ≡ x = omega arith in
      leaves_of s t (set s (17631 + (x - 72)) 0) _ (d ∙ (λ i. set s (17631 + (x - 72)) (mark (not (eqb (g i).count 0)))))
      (rw e at (share_written s z (x - 72) 0 (omega arith)))
