-- The concat's test: it passes over ended inlets.
use Rattle.std.specs.Prelude.{◌≡◌, refl, ◌≢◌, true, List, [], ◌∷◌, ℕ, zero, suc, ◌+◌, ◌<◌, ◌≤◌, length, drop, ltb, leb}
use Rattle.std.proofs.Common.{arith, ltb-true, ltb-false, leb-true, leb-false}
use Rattle.rules.specs.Plan.{Row}
use Rattle.rules.specs.Port.{batch_rows, Seen, waiting, ready, ended}
use Rattle.rules.specs.Operators.{concat, concat_at}
use Rattle.rules.specs.Machine.{Machine, share_port, slot_places, source_at, inlets_at, queue_at, shows, set_source, set_changed}
use Rattle.rules.specs.Drive.{touch}
use Rattle.laws.specs.Table.{by_bool, clash}
use Rattle.order.specs.Base.{at_get, sees_ended}
use Rattle.order.specs.Inv.{There, At, join, shut, whole, share_rows, Ended}
use Rattle.order.specs.State.{Busy}
use Rattle.order.specs.Resource.{passed_ok}

-- cases of what is seen, with the equation
abbrev pub by_seen {ℓ} : {P : Type ℓ} (s : Seen) → (s ≡ waiting → P) → (s ≡ ready → P) → (s ≡ ended → P) → P
by_seen waiting w r e = w refl
by_seen ready w r e = r refl
by_seen ended w r e = e refl

-- where the test stops, of n inlets from i on
pub record Stops (f : ℕ → Seen) (n i d : ℕ) : Type 0 where
  pub low : i ≤ d
  pub high : d ≤ n
  pub past : (k : ℕ) → i ≤ k → k < d → f k ≡ ended
  pub here : d < n → f d ≢ ended

-- an ended inlet is passed over
stops_next : (f : ℕ → Seen) (n i d : ℕ) → f i ≡ ended → Stops f n (suc i) d → Stops f n i d
stops_next f n i d e s = record {
  low = omega (arith, s.low);
  high = s.high;
  past = λ k h g. by_bool (leb k i) (λ t. let z : k ≡ i = omega (arith, leb-true k i t) in rw z e) (λ t. s.past k (leb-false k i t) g);
  here = s.here;
}

-- another is not
stops_here : (f : ℕ → Seen) (n i : ℕ) → i ≤ n → (i < n → f i ≢ ended) → Stops f n i i
stops_here f n i h e = record { low = omega arith; high = h; past = λ k a b. absurd (omega arith); here = e }

pub concat_stops : (f : ℕ → Seen) (n k i : ℕ) → i + k ≡ n → Stops f n i (concat_at f k i)
unfolding concat_at
concat_stops f n zero i e = stops_here f n i (omega arith) (λ h. absurd (omega arith))
concat_stops f n (suc k) i e =
    let r = concat_stops f n k (suc i) (omega arith) in
    by_seen (f i)
    (λ s. rw (s, concat_at) (stops_here f n i (omega arith) (λ h z. clash (cc))))
    (λ s. rw (s, concat_at) (stops_here f n i (omega arith) (λ h z. clash (cc))))
    (λ s. rw (s, concat_at) (stops_next f n i (concat_at f k (suc i)) s r))

-- inlets from which nothing comes any more are passed over
pub join_skip : (F : ℕ → List Row) (xs : List ℕ) (i d : ℕ) → i ≤ d → ((k y : ℕ) → i ≤ k → k < d → At xs k y → F y ≡ []) → join F (drop i xs) ≡ join F (drop d xs)
join_skip F xs zero zero h e = refl
join_skip F [] zero (suc d) h e = refl
join_skip F (x ∷ xs) zero (suc d) h e = rw (e 0 x (omega arith) (omega arith) refl) (join_skip F xs 0 d (omega arith) (λ k y a b. e (suc k) y (omega arith) (omega arith)))
join_skip F xs (suc i) zero h e = absurd (omega arith)
join_skip F [] (suc i) (suc d) h e = refl
join_skip F (x ∷ xs) (suc i) (suc d) h e = join_skip F xs i d (omega arith) (λ k y a b. e (suc k) y (omega arith) (omega arith))

-- an inlet that shows its end has ended
pub shows_ended : (m : Machine) (me k x : ℕ) → At (inlets_at m me) k x → shows m me k ≡ ended → Ended m.ports m.queues x
shows_ended m me k x a e = let s = sees_ended (queue_at m x) (shut m.ports x) (rw (at_get 0 (inlets_at m me) k x a) at e) in (s.1, s.0)

-- and nothing comes out of it any more
pub ended_rows : (out : ℕ → List Row) (told me : ℕ) (m : Machine) (u : Busy me [] out told m) (x : ℕ) → There m.ports x → Ended m.ports m.queues x → u.inv.F x ≡ []
ended_rows out told me m u x t e = by_bool (ltb x slot_places)
    (λ h. rw (u.inv.flow.port x (ltb-true x slot_places h), e.0, e.1))
    (λ h.
    let s = u.inv.shares.ports x (ltb-false x slot_places h) t in
    let few : s.split < 16 = omega (arith, s.below, u.inv.job.splits_high) in
    shared_none u.inv.F m x s.leaf s.split s.is e (u.inv.flow.share s.leaf s.split few))
  where
    shared_none : (F : ℕ → List Row) (m : Machine) (x l t : ℕ) → x ≡ share_port l t → Ended m.ports m.queues x
        → F (share_port l t) ≡ share_rows (batch_rows (whole m.job l)) (shut m.ports (share_port l t)) (queue_at m (share_port l t)) → F x ≡ []
    shared_none F m x l t i e f =
        let c : shut m.ports (share_port l t) ≡ true = rw i at e.0 in
        let q : queue_at m (share_port l t) ≡ [] = rw i at e.1 in
        rw (i, f, q, c)

-- the concat after its test
pub test_ok : (out : ℕ → List Row) (told me : ℕ) (m : Machine) (c d : ℕ) (is : List ℕ) → Busy me [] out told m → source_at m me ≡ concat c
    → Stops (shows m me) (length (inlets_at m me)) c d → Busy me [] out told (set_changed me [] (touch me is (set_source me (concat d) m)))
test_ok out told me m c d is u es s =
    let l = u.running.live in
    let gone : (k x : ℕ) → At (inlets_at m me) k x → k < d → Ended m.ports m.queues x = λ k x a h. by_bool (ltb k c)
    (λ t. u.inv.past.before me c k x l es a (ltb-true k c t))
    (λ t. shows_ended m me k x a (s.past k (ltb-false k c t) h)) in
    passed_ok out told me m c d is u es s.high gone
    (join_skip u.inv.F (inlets_at m me) c d s.low (λ k x h g a. ended_rows out told me m u x (u.inv.ports.inlets me k x l a).0 (gone k x a g)))

-- a concat passes no more than its inlets
pub concat_at_lem : (f : ℕ → Seen) (n i : ℕ) → concat_at f n i ≤ i + n
unfolding concat_at
concat_at_lem f zero i = omega arith
concat_at_lem f (suc n) i = by (f i) refl (concat_at_lem f n (suc i))
  where
    by : (s : Seen) → f i ≡ s → concat_at f n (suc i) ≤ suc i + n → concat_at f (suc n) i ≤ i + suc n
    by waiting e t = rw (e, concat_at) (omega arith)
    by ready e t = rw (e, concat_at) (omega arith)
    by ended e t = rw (e, concat_at) (omega arith)
