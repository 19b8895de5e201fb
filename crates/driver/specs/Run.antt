-- A run, round by round: what is still to be run comes to the same.
use Rattle.std.specs.Prelude.{◌≡◌, refl, List, Bool, true, false, not, ℕ, suc, ◌-◌, ◌≤◌, ◌<◌, length, drop}
use Rattle.std.proofs.Common.{sym, ◌∙◌, arith}
use Rattle.rules.specs.Operators.{Blocked, SourceReady, go, stays}
use Rattle.rules.specs.Machine.{Machine, Stage, stage_at, outlets}
use Rattle.rules.specs.Ports.{close_each}
use Rattle.rules.specs.Wake.{any_full}
use Rattle.rules.specs.Drive.{Why, is_blocked, at_outlet, done, Round, again, stop, is_over, compute, round, drive, patience}
use Rattle.operator.specs.Answer.{blocked_of}
use Rattle.laws.specs.Table.{clash}
use Rattle.order.specs.Inv.{Live}
use Rattle.order.specs.Ranged.{Ranged}
use Rattle.order.specs.Measure.{load}
use Rattle.order.specs.Bounds.{load_bound}
use Rattle.order.specs.RangeRun.{round_ranged}
use Rattle.order.specs.RoundFalls.{round_falls}
use Rattle.order.specs.DriveStops.{drive_same}
use Rattle.driver.specs.declared.rounds.Progress.{Progress}
use Rattle.driver.specs.declared.rounds.Progress.TheVariants as progress
use Rattle.tables.specs.View.{view, machine_len}
use Rattle.driver.specs.Turns.{has_turn, stage_turn, source_ready, on_ready, over_round, full_round, stage_round, source_round}
use Rattle.numbers.specs.Tests.{one_less}

-- a state in range in which the pipeline runs, with room to tell of a read
pub record Runs (p : ℕ) (m : Machine) : Type 0 where
  pub ranged : Ranged m
  pub live : Live m.pipes p
  pub news : length m.news < 24

-- the rules' answer of a run, with the state that it leaves
abbrev pub round_of : Progress → Machine → Round
round_of (progress.Blocked b) m = stop (is_blocked (blocked_of b)) m
round_of progress.Outlet m = stop at_outlet m
round_of progress.Done m = stop done m
round_of progress.Failed m = again m

on_true : (b : Bool) (x y : Round) → b ≡ true → elim b [ true ↦ x | false ↦ y ] ≡ x
on_true b x y e = rw e

on_false : (b : Bool) (x y : Round) → b ≡ false → elim b [ true ↦ x | false ↦ y ] ≡ y
on_false b x y e = rw e

-- a round that stops the run
stops_by : (f p : ℕ) (w : Why) (m n : Machine) → round p m ≡ stop w n → drive (suc f) p m ≡ stop w n
unfolding drive
stops_by f p w m n e = rw (e, drive)

pub run_stops : (p : ℕ) (w : Why) (m n : Machine) → round p m ≡ stop w n → drive patience p m ≡ stop w n
run_stops p w m n e = rw (one_less patience (omega arith)) (stops_by (patience - 1) p w m n e)

-- one with a cause of 14
fails_by : (f p : ℕ) (m n : Machine) → round p m ≡ again n → n.fault ≡ true → drive (suc f) p m ≡ again n
unfolding drive
fails_by f p m n e d = rw (e, drive) (on_true n.fault (again n) (drive f p n) d)

pub run_fails : (p : ℕ) (m n : Machine) → round p m ≡ again n → n.fault ≡ true → drive patience p m ≡ again n
run_fails p m n e d = rw (one_less patience (omega arith)) (fails_by (patience - 1) p m n e d)

-- one after which it goes on
goes_by : (f p : ℕ) (m n : Machine) → round p m ≡ again n → n.fault ≡ false → drive (suc f) p m ≡ drive f p n
unfolding drive
goes_by f p m n e d = rw (e, drive) (on_false n.fault (again n) (drive f p n) d)

pub record Goes (p : ℕ) (m n : Machine) : Type 0 where
  pub same : drive patience p m ≡ drive patience p n
  pub runs : Runs p n
  pub less : load n < load m

pub run_goes : (p : ℕ) (m n : Machine) → Runs p m → round p m ≡ again n → n.fault ≡ false → Goes p m n
run_goes p m n r e d =
    let k = round_ranged m n p r.ranged r.live e in
    let l = (round_falls m r.ranged p r.live n e).0 in
    let b = load_bound m r.ranged in
    record {
      same = rw (one_less patience (omega arith)) (goes_by (patience - 1) p m n e d)
          ∙ drive_same (patience - 1) patience n p k.0 k.1 (omega (arith, l, b)) (omega (arith, l, b));
      runs = record { ranged = k.0; live = k.1; news = rw k.2 r.news };
      less = l;
    }

-- The lent bytes within a run

-- from the bytes s on, the run comes to what it comes to from the first, and less is left to do
pub record On (p : ℕ) (s₀ s : List ℕ) : Type 0 where
  pub size : length s ≡ length s₀
  pub same : drive patience p (view s₀) ≡ drive patience p (view s)
  pub runs : Runs p (view s)
  pub most : load (view s) ≤ load (view s₀)
  pub past : drop machine_len s ≡ drop machine_len s₀

pub on_start : (p : ℕ) (s : List ℕ) → Runs p (view s) → On p s s
on_start p s r = record { size = refl; same = refl; runs = r; most = omega arith; past = refl }

pub on_then : (p : ℕ) (a b c : List ℕ) → On p a b → On p b c → On p a c
on_then p a b c x y =
    record { size = y.size ∙ x.size; same = x.same ∙ y.same; runs = y.runs; most = omega (arith, x.most, y.most); past = y.past ∙ x.past }

pub on_next : (p : ℕ) (a b c : List ℕ) → On p a b → Goes p (view b) (view c) → length c ≡ length b → drop machine_len c ≡ drop machine_len b → On p a c
on_next p a b c x g l d =
    record { size = l ∙ x.size; same = x.same ∙ g.same; runs = g.runs; most = omega (arith, x.most, g.less); past = d ∙ x.past }

-- Each way out of a round, from what is asked of the stage x on the way

-- no end, no full outlet
pub record Open (p : ℕ) (x : Stage) (m : Machine) : Type 0 where
  pub stage : x ≡ stage_at m p
  pub over : is_over x ≡ false
  pub full : any_full m p ≡ false

pub over_stops : (p : ℕ) (x : Stage) (m n : Machine) → x ≡ stage_at m p → is_over x ≡ true → n ≡ close_each (outlets m p) m → drive patience p m ≡ stop done n
over_stops p x m n e o c = rw c (run_stops p done m (close_each (outlets m p) m) (over_round p m (rw e at o)))

pub full_stops : (p : ℕ) (x : Stage) (m : Machine) → x ≡ stage_at m p → is_over x ≡ false → any_full m p ≡ true → drive patience p m ≡ stop at_outlet m
full_stops p x m e o f = run_stops p at_outlet m m (full_round p m (rw e at o) f)

stage_again : (p : ℕ) (x : Stage) (m n : Machine) → Open p x m → has_turn x ≡ true → n ≡ stage_turn p x m → round p m ≡ again n
stage_again p x m n q t e =
    let d = q.stage in
    rw (e, d) (stage_round p m (rw d at q.over) q.full (rw d at t))

pub stage_goes : (p : ℕ) (x : Stage) (m n : Machine) → Runs p m → Open p x m → has_turn x ≡ true → n ≡ stage_turn p x m → n.fault ≡ false → Goes p m n
stage_goes p x m n r q t e f = run_goes p m n r (stage_again p x m n q t e) f

pub stage_fails : (p : ℕ) (x : Stage) (m n : Machine) → Open p x m → has_turn x ≡ true → n ≡ stage_turn p x m → n.fault ≡ true → drive patience p m ≡ again n
stage_fails p x m n q t e f = run_fails p m n (stage_again p x m n q t e) f

-- the source's turn
source_turn : (p : ℕ) (x : Stage) (m n : Machine) (r : SourceReady) → Open p x m → has_turn x ≡ false → r ≡ (source_ready p x.more m).0 →
    n ≡ (source_ready p x.more m).1
    → round p m ≡ on_ready p (r, n)
source_turn p x m n r q t a b =
    let d = q.stage in
    rw (a, b, d) (source_round p m (rw d at q.over) q.full (rw d at t))

pub source_stops : (p : ℕ) (x : Stage) (m n : Machine) (r : SourceReady) (b : Blocked) → Open p x m → has_turn x ≡ false → r ≡ (source_ready p x.more m).0 →
    n ≡ (source_ready p x.more m).1
    → r ≡ stays b → drive patience p m ≡ stop (is_blocked b) n
source_stops p x m n r b q t a c e = run_stops p (is_blocked b) m n (rw e at (source_turn p x m n r q t a c))

source_again : (p : ℕ) (x : Stage) (m n k : Machine) (r : SourceReady) → Open p x m → has_turn x ≡ false → r ≡ (source_ready p x.more m).0 →
    n ≡ (source_ready p x.more m).1
    → r ≡ go → k ≡ compute p n → round p m ≡ again k
source_again p x m n k r q t a c e d = rw d (rw e at (source_turn p x m n r q t a c))

pub source_goes : (p : ℕ) (x : Stage) (m n k : Machine) (r : SourceReady) → Runs p m → Open p x m → has_turn x ≡ false → r ≡ (source_ready p x.more m).0 →
    n ≡ (source_ready p x.more m).1
    → r ≡ go → k ≡ compute p n → k.fault ≡ false → Goes p m k
source_goes p x m n k r u q t a c e d f = run_goes p m k u (source_again p x m n k r q t a c e d) f

pub source_fails : (p : ℕ) (x : Stage) (m n k : Machine) (r : SourceReady) → Open p x m → has_turn x ≡ false → r ≡ (source_ready p x.more m).0 →
    n ≡ (source_ready p x.more m).1
    → r ≡ go → k ≡ compute p n → k.fault ≡ true → drive patience p m ≡ again k
source_fails p x m n k r q t a c e d f = run_fails p m k (source_again p x m n k r q t a c e d) f

-- the tests' answers on the way
pub opens : (p : ℕ) (x : Stage) (m : Machine) (o f : Bool) → x ≡ stage_at m p → o ≡ is_over x → o ≡ false → f ≡ any_full m p → f ≡ false → Open p x m
opens p x m o f e a b c d = record { stage = e; over = sym a ∙ b; full = sym c ∙ d }

pub turned : (x : Stage) (t : Bool) → t ≡ has_turn x → not t ≡ false → has_turn x ≡ true
turned x true e n = sym e
turned x false e n = clash (cc)

pub unturned : (x : Stage) (t : Bool) → t ≡ has_turn x → not t ≡ true → has_turn x ≡ false
unturned x true e n = clash (cc)
unturned x false e n = sym e
