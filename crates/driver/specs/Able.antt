-- A pipeline in a round: the state is in range, it lives, and its own port has room. What its source and stage do leaves it so.
use Rattle.std.specs.Prelude.{◌≡◌, refl, Bool, true, false, [], ℕ, ◌≤◌, length, unwrap_or}
use Rattle.std.proofs.Common.{inl, arith}
use Rattle.std.proofs.Math.Option.{some}
use Rattle.rules.specs.Table.{given}
use Rattle.rules.specs.Operators.{SourceReady, go, Step}
use Rattle.rules.specs.Machine.{Machine, Stage, source_at, stage_at, inlets_at, set_changed}
use Rattle.rules.specs.Wake.{any_full}
use Rattle.rules.specs.Drive.{test_source, source_step, stage_step, said_more}
use Rattle.laws.specs.Table.{by_bool}
use Rattle.order.specs.Inv.{Live}
use Rattle.order.specs.Tally.{bit_most}
use Rattle.order.specs.RangeParts.{Fits}
use Rattle.order.specs.RangeFits.{fits}
use Rattle.order.specs.RangeMoves.{set_changed_lem}
use Rattle.order.specs.RangeWake.{none_set}
use Rattle.order.specs.RangePorts.{OutFits}
use Rattle.order.specs.RangeStep.{Gives, Stepped, step_fits}
use Rattle.order.specs.RangeTest.{Tested, test_fits}
use Rattle.order.specs.RangeRound.{Room, stage_step_lem, more_fits, room_less, room_of}
use Rattle.numbers.specs.Opt.{option_of}
use Rattle.table_pipes.specs.declared.stages.Stage as code
use Rattle.table_pipes.specs.Stage.{stage_of}
use Rattle.driver.specs.Turns.{Cuts, source_ready, given_number}
use Rattle.driver.specs.Run.{Runs}

pub record Able (p : ℕ) (m : Machine) : Type 0 where
  pub fits : Fits m
  pub live : Live m.pipes p
  pub room : Room m p

-- at a round's start, where no outlet is full
pub able : (p : ℕ) (m : Machine) → Runs p m → any_full m p ≡ false → Able p m
able p m r e = record { fits = fits m r.ranged; live = r.live; room = room_of m p e }

-- after a step of the source or the stage
pub record Gave (p : ℕ) (s : Step) (m : Machine) : Type 0 where
  pub able : Able p m
  pub gives : Gives (OutFits m.job p) s

gave : (p : ℕ) (s : Step) (m n : Machine) → Able p m → Stepped p m (s, n) → Gave p s n
gave p s m n a t =
    let j = t.calm.0 in
    let k = t.calm.1 in
    record { able = record { fits = t.fits; live = rw k a.live; room = room_less m n p t.less a.room }; gives = rw j t.gives }

pub stage_gave : (p at : ℕ) (s : Step) (m n : Machine) → Able p m → Cuts m p at → s ≡ (stage_step p at m).0 → n ≡ (stage_step p at m).1 → Gave p s n
stage_gave p at s m n a c e d = rw (e, d) (gave p (stage_step p at m).0 m (stage_step p at m).1 a (stage_step_lem m p at a.fits a.live c.0 c.1))

pub source_gave : (p : ℕ) (s : Step) (m n : Machine) → Able p m → s ≡ (source_step p (source_at m p) m).0 → n ≡ (source_step p (source_at m p) m).1 → Gave p s n
source_gave p s m n a e d = rw (e, d) (gave p (source_step p (source_at m p) m).0 m (source_step p (source_at m p) m).1 a
    (step_fits m p (source_at m p) a.fits a.live refl))

pub said_gave : (p : ℕ) (s : Step) (b : Bool) (m n : Machine) → Gave p s m → n ≡ said_more p b m → Gave p s n
said_gave p s b m n g e =
    let a = g.able in
    rw e (record { able = record { fits = more_fits m p b a.fits a.live; live = a.live; room = a.room }; gives = g.gives })

-- the stage of a claimed leaf cuts
pub cuts_from : (p at : ℕ) (x : Stage) (m : Machine) → Able p m → x ≡ stage_at m p → x.cut ≡ some at → Cuts m p at
cuts_from p at x m a e d = let c = (a.fits.pipes p a.live).stage.cut at (rw e at d) in (c.1, c.0)

pub cuts_anew : (p at : ℕ) (x : Stage) (m : Machine) → Able p m → x ≡ stage_at m p → x.cut ≡ some at → Cuts m p 0
cuts_anew p at x m a e d = ((cuts_from p at x m a e d).0, omega arith)

-- no more than one stage is finished
pub few_stages : (p n : ℕ) (x : Stage) (m : Machine) → Able p m → x ≡ stage_at m p → x.finishing ≡ some n → n ≤ 1
few_stages p n x m a e d =
    let h = (a.fits.pipes p a.live).stage.finishing n (rw e at d) in
    omega (arith, h, bit_most (given (stage_at m p).cut))

-- a source that can go on
ready_by : (p : ℕ) (m : Machine) (r : SourceReady × Machine) → Tested p m r → Able p m → r.0 ≡ go → Able p (set_changed p [] r.1)
ready_by p m r t a e =
    let k = t.pipes in
    let q = t.queues in
    let l : Live r.1.pipes p = rw k a.live in
    record { fits = set_changed_lem r.1 p [] (t.fits (inl e)) l (none_set (length (inlets_at r.1 p))); live = l; room = λ h. rw q (a.room h) }

pub ready_able : (p : ℕ) (b : Bool) (m n : Machine) → Able p m → (source_ready p b m).0 ≡ go → n ≡ (source_ready p b m).1 → Able p n
ready_able p b m n a e d = by_bool b
    (λ q. rw (d, q) a)
    (λ q. rw (d, q) (ready_by p m (test_source p (source_at m p) m) (test_fits m p (source_at m p) a.fits a.live refl) a (rw q at e)))

-- a stage that continues has a cut
pub cuts_on : (p k : ℕ) (x : code.Stage) (m : Machine) → Able p m → stage_of x ≡ stage_at m p → x.continuing ≡ true → k ≡ unwrap_or x.cut 0 → Cuts m p k
cuts_on p k x m a e c d =
    let h : given (option_of x.cut) ≡ true = rw (← e) at ((a.fits.pipes p a.live).stage.continuing (rw (← e) c)) in
    rw d (cuts_from p (unwrap_or x.cut 0) (stage_of x) m a e (given_number x.cut h))
