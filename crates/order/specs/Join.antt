-- The kept children of a node are connected, one after another.
use Rattle.std.specs.Prelude.{◌≡◌, ◌≢◌, false}
use Rattle.std.proofs.Math.Path.{refl}
use Rattle.std.proofs.Common.{ap, ◌∙◌, add-zero}
use mathlib.Core.List.{List, [], ◌∷◌}
use Prim.Native.Nat.{ℕ, zero, suc, ◌+◌, ◌<◌}
use native.Mathlib.Omega.{arith}
use Rattle.rules.specs.Plan.{Row}
use Rattle.rules.specs.Operators.{runnable}
use Rattle.rules.specs.Machine.{Machine, Reader, pipe, place, Pipeline}
use Rattle.rules.specs.Shares.{empty_port}
use Rattle.rules.specs.Lower.{connect, join_from}
use Rattle.laws.specs.Table.{clash}
use Rattle.laws.specs.Rising.{Rising, rising_from}
use Rattle.order.specs.Inv.{Live, At, port_of, pipe_of, state_of}
use Rattle.order.specs.Base.{place_apart}
use Rattle.order.specs.Laying.{Laying}
use Rattle.order.specs.Connects.{Wired, MayRead, connect_ok, connect_wired}
use Rattle.order.specs.Lists.{at_has}

-- a port may name an inlet of node n's pipeline, which is to be laid with the inlets xs
abbrev pub toward : ℕ → ℕ → List ℕ → ℕ → ℕ → ℕ → Type 0
toward k n xs x q h = (q ≡ place k n) × At xs h x

-- a child that is laid only
pub record LaidOnly (k c : ℕ) (m : Machine) : Type 0 where
  pub few : c < 24
  pub alive : Live m.pipes (place k c)
  pub gone : (port_of m.ports (place k c)).there ≡ false
  pub calm : state_of m.pipes (place k c) ≡ runnable

-- what the connections change
pub record KidsWired (k n i : ℕ) (cs : List ℕ) (m m' : Machine) : Type 0 where
  pub job : m'.job ≡ m.job
  pub live : (q : ℕ) → (pipe_of m'.pipes q).live ≡ (pipe_of m.pipes q).live
  pub pipe_far : (x : ℕ) → ((h c : ℕ) → At cs h c → x ≢ place k c) → pipe_of m'.pipes x ≡ pipe_of m.pipes x
  pub port_far : (x : ℕ) → ((h c : ℕ) → At cs h c → x ≢ place k c) → port_of m'.ports x ≡ port_of m.ports x
  pub near : (h c : ℕ) → At cs h c → port_of m'.ports (place k c) ≡ empty_port (pipe (place k n) (i + h))

-- what the first connection and those after it come to
joined_both : (k n i c : ℕ) (cs : List ℕ) (m m₁ m₂ : Machine) → Rising (suc c) cs → Wired (place k c) (pipe (place k n) i) m m₁ → KidsWired k n (suc i) cs m₁ m₂
    → KidsWired k n i (c ∷ cs) m m₂
joined_both k n i c cs m m₁ m₂ r w v = record {
  job = v.job ∙ w.job;
  live = λ q. v.live q ∙ w.live q;
  pipe_far = λ x h. v.pipe_far x (λ a d b. h (suc a) d b) ∙ w.pipe_far x (h 0 c refl);
  port_far = λ x h. v.port_far x (λ a d b. h (suc a) d b) ∙ w.port_far x (h 0 c refl);
  near = near_both;
}
  where
    near_both : (h d : ℕ) → At (c ∷ cs) h d → port_of m₂.ports (place k d) ≡ empty_port (pipe (place k n) (i + h))
    near_both zero d a = rw (← a, add-zero i)
        (v.port_far (place k c) (λ g b e. place_apart k c b (let z = rising_from (suc c) cs b r (at_has cs g b e) in λ y. omega arith)) ∙ w.port_near)
    near_both (suc h) d a = let e : i + suc h ≡ suc i + h = omega arith in rw e (v.near h d a)

-- a child that waits for another's connection
still_waits : (k c d : ℕ) (r : Reader) (m m' : Machine) → c ≢ d → Wired (place k d) r m m' → LaidOnly k c m → LaidOnly k c m'
still_waits k c d r m m' n w v = let a = place_apart k c d n in record {
  few = v.few;
  alive = w.live (place k c) ∙ v.alive;
  gone = rw (w.port_far (place k c) a) v.gone;
  calm = ap (λ (z : Pipeline). z.state) (w.pipe_far (place k c) a) ∙ v.calm;
}

module _ (k s l n : ℕ) (xs : List ℕ) (out : ℕ → List Row) (told : ℕ) where
  -- a child's inlet is named
  reads : (i c : ℕ) (m : Machine) → At xs i (place k c) → MayRead m.job c (place k c) (pipe (place k n) i) (toward k n xs) (toward k n xs)
  reads i c m a = record {
    some = λ e. clash (cc);
    root = λ e. clash (cc);
    wide = λ x q h t. t;
    names = λ q h e. (cc, rw (let z : h ≡ i = cc in z) a);
  }

  abbrev Joins : ℕ → List ℕ → Machine → Type 0
  Joins i cs m = Laying k s l (toward k n xs) out told (join_from k n i cs m) × KidsWired k n i cs m (join_from k n i cs m)

  -- the first child, then the others
  join_step : (i c : ℕ) (cs : List ℕ) (m : Machine) → Rising (suc c) cs → ((h d : ℕ) → At (c ∷ cs) h d → LaidOnly k d m) → At xs i (place k c) → Laying k s l (toward k n xs) out told m
      → (((h d : ℕ) → At cs h d → LaidOnly k d (connect (place k c) (pipe (place k n) i) m)) → Laying k s l (toward k n xs) out told (connect (place k c) (pipe (place k n) i) m)
      → Joins (suc i) cs (connect (place k c) (pipe (place k n) i) m))
      → Joins i (c ∷ cs) m
  unfolding join_from
  join_step i c cs m r ready a v rest =
      let y = ready 0 c refl in
      let to = toward k n xs in
      let w = connect_wired k s l c to to out told m (pipe (place k n) i) v y.few y.alive y.gone y.calm (reads i c m a) in
      let z = rest
      (λ h d b. still_waits k d c (pipe (place k n) i) m (connect (place k c) (pipe (place k n) i) m) (let g = rising_from (suc c) cs d r (at_has cs h d b) in λ e. omega arith) w (ready (suc h) d b))
      (connect_ok k s l c to to out told m (pipe (place k n) i) v y.few y.alive y.gone y.calm (reads i c m a))
      in
      (z.0, joined_both k n i c cs m (connect (place k c) (pipe (place k n) i) m) (join_from k n (suc i) cs (connect (place k c) (pipe (place k n) i) m)) r w z.1)

  -- all children are connected
  pub joins_ok : (i a : ℕ) (cs : List ℕ) (m : Machine) → Rising a cs → ((h c : ℕ) → At cs h c → LaidOnly k c m) → ((h c : ℕ) → At cs h c → At xs (i + h) (place k c))
      → Laying k s l (toward k n xs) out told m → Joins i cs m
  unfolding join_from
  joins_ok i a [] m r ready names v = (v, record { job = refl; live = λ q. refl; pipe_far = λ x h. refl; port_far = λ x h. refl; near = λ h c b. absurd b })
  joins_ok i a (c ∷ cs) m r ready names v = join_step i c cs m r.1 ready (rw (add-zero i) at (names 0 c refl)) v
      (λ ready' v'. joins_ok (suc i) (suc c) cs (connect (place k c) (pipe (place k n) i) m) r.1 ready'
      (λ h d b. let e : i + suc h ≡ suc i + h = omega arith in rw e at (names (suc h) d b)) v')
