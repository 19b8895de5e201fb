-- A round by whose turn it is: the stages', or the source's.
use Rattle.std.specs.Prelude.{◌≡◌, refl, Bool, true, false, ◌||◌, List, [], ℕ, suc, ◌≤◌, length, eqb, if◌then◌else◌, Option as StdOption, None, Some, is_some, unwrap_or}
use Rattle.std.proofs.Common.{◌∙◌}
use Rattle.std.proofs.Math.Option.{Option, none, some, get_or}
use Rattle.rules.specs.Table.{given, is_some as is_the}
use Rattle.rules.specs.Plan.{Piece}
use Rattle.rules.specs.Operators.{SourceReady, go, stays, Step, end, more, final, emit}
use Rattle.rules.specs.Machine.{Machine, Stage, source_at, stage_at, inlets_at, pieces_at, set_stage, set_changed}
use Rattle.rules.specs.Wake.{any_full}
use Rattle.rules.specs.Ports.{close_each}
use Rattle.rules.specs.Machine as machine
use Rattle.rules.specs.Drive.{is_end, is_more, test_source, stage_step, give_out, source_out, finished_stages, compute, is_blocked, at_outlet, done, Round, again, stop, after_test, is_over, advance_stage, round}
use Rattle.laws.specs.Table.{by_bool, by_option, clash}
use Rattle.numbers.specs.Opt.{option_of}
use Rattle.table_pipes.specs.declared.stages.Stage as code
use Rattle.table_pipes.specs.Stage.{stage_of}
use mir.Val.{bool_byte}
use Rattle.order.specs.RangeParts.{FedShared}
use Rattle.reach.specs.Places.{number_is}
use Rattle.numbers.specs.Tests.{and_on}

-- a stage continues or is to be finished
abbrev pub has_turn : Stage → Bool
has_turn x = x.continuing || given x.finishing

-- one stage more is finished, where one is to be
abbrev pub finish_next : ℕ → Option ℕ → Machine → Machine
finish_next p none m = m
finish_next p (some n) m = finished_stages p (suc n) m

-- "Else the newest continuing stage; else the next finishing stage"
abbrev pub stage_turn : ℕ → Stage → Machine → Machine
stage_turn p x m = elim x.continuing [ true ↦ give_out p (stage_step p (get_or x.cut 0) m) | false ↦ finish_next p x.finishing m ]

-- the stage of a claimed leaf can cut from a run on
abbrev pub Cuts : Machine → ℕ → ℕ → Type 0
Cuts m p at = FedShared m.job p (inlets_at m p) × (at ≤ length (pieces_at m p))

-- "else the source, tested first unless it last said More": its test, after which no inlet has changed
abbrev pub source_ready : ℕ → Bool → Machine → SourceReady × Machine
source_ready p said m =
    if said then (go, m) else let r = test_source p (source_at m p) m in (r.0, set_changed p [] r.1)

-- what the source gave goes on
abbrev pub source_gives : ℕ → Step → Machine → Machine
source_gives p end m = finished_stages p 0 m
source_gives p (more b) m = source_out p b m
source_gives p (final b) m = source_out p b m

-- what the source's test comes to
abbrev pub on_ready : ℕ → SourceReady × Machine → Round
on_ready p (go, m) = again (compute p m)
on_ready p (stays b, m) = stop (is_blocked b) m

-- Rounds

pub over_round : (p : ℕ) (m : Machine) → is_over (stage_at m p) ≡ true → round p m ≡ stop done (close_each (machine.outlets m p) m)
unfolding round
over_round p m e = rw (e, round)

pub full_round : (p : ℕ) (m : Machine) → is_over (stage_at m p) ≡ false → any_full m p ≡ true → round p m ≡ stop at_outlet m
unfolding round
full_round p m e d = rw (e, round, d)

stage_by : (p : ℕ) (x : Stage) (m : Machine) → has_turn x ≡ true → advance_stage p x m ≡ again (stage_turn p x m)
unfolding given
stage_by p x m h = by_bool x.continuing
    (λ e. rw e)
    (λ e. by_option x.finishing (λ d. clash (cc)) (λ n d. rw (e, d)))

pub stage_round : (p : ℕ) (m : Machine) → is_over (stage_at m p) ≡ false → any_full m p ≡ false → has_turn (stage_at m p) ≡ true →
    round p m ≡ again (stage_turn p (stage_at m p) m)
unfolding round
stage_round p m e d h = rw (e, round, d) (stage_by p (stage_at m p) m h)

after_by : (p : ℕ) (r : SourceReady × Machine) → after_test p r ≡ on_ready p (r.0, set_changed p [] r.1)
unfolding after_test
after_by p (go, m) = refl
after_by p (stays b, m) = refl

source_by : (p : ℕ) (x : Stage) (m : Machine) → has_turn x ≡ false → advance_stage p x m ≡ on_ready p (source_ready p x.more m)
unfolding given
source_by p x m h = by_bool x.continuing
    (λ e. clash (cc))
    (λ e. by_option x.finishing
    (λ d. by_bool x.more (λ q. rw (e, d, q)) (λ q. rw (e, d, q) (after_by p (test_source p (source_at m p) m))))
    (λ n d. clash (cc)))

pub source_round : (p : ℕ) (m : Machine) → is_over (stage_at m p) ≡ false → any_full m p ≡ false → has_turn (stage_at m p) ≡ false →
    round p m ≡ on_ready p (source_ready p (stage_at m p).more m)
unfolding round
source_round p m e d h = rw (e, round, d) (source_by p (stage_at m p) m h)

-- Stages by value

pub given_number : (x : StdOption ℕ) → given (option_of x) ≡ true → option_of x ≡ some (unwrap_or x 0)
unfolding given
given_number None e = clash (cc)
given_number (Some n) e = refl

-- the stage's turn
pub turn_continues : (p k : ℕ) (x : code.Stage) (m : Machine) → x.continuing ≡ true → k ≡ unwrap_or x.cut 0 →
    give_out p (stage_step p k m) ≡ stage_turn p (stage_of x) m
turn_continues p k x m e d = rw (e, d, number_is x.cut)

pub turn_finishes : (p : ℕ) (x : code.Stage) (m : Machine) → x.continuing ≡ false → finish_next p (option_of x.finishing) m ≡ stage_turn p (stage_of x) m
turn_finishes p x m e = rw e

pub over_unended : (x : code.Stage) → x.finishing ≡ None → false ≡ is_over (stage_of x)
unfolding is_the
over_unended x e = rw e

byte_given : (c : StdOption ℕ) → bool_byte (is_some c) ≡ (if given (option_of c) then 1 else 0)
unfolding given
byte_given None = refl
byte_given (Some n) = refl

-- as many stages are finished as there are
pub over_ended : (x : code.Stage) (n k : ℕ) (b : Bool) → x.continuing ≡ false → x.finishing ≡ Some n → k ≡ bool_byte b → b ≡ is_some x.cut →
    eqb k n ≡ is_over (stage_of x)
unfolding is_the
over_ended x n k b e d q w = rw (e, d, q, w, byte_given x.cut) (and_on (eqb (if given (option_of x.cut) then 1 else 0) n))

-- the stage's step from its parts
pub step_gives : (p at : ℕ) (ps : List Piece) (s : Step) (m : Machine) → s ≡ emit ps at → ps ≡ pieces_at m p → s ≡ (stage_step p at m).0
step_gives p at ps s m e a = e ∙ rw a

pub step_leaves : (p at c : ℕ) (ps : List Piece) (s : Step) (x : Stage) (v : Stage) (m : Machine) → s ≡ emit ps at → ps ≡ pieces_at m p
    → c ≡ (if is_end (emit ps at) then at else suc at) → x ≡ stage_at m p
    → v ≡ record { cut = some c; continuing = is_more s; finishing = x.finishing; more = x.more }
    → set_stage p v m ≡ (stage_step p at m).1
step_leaves p at c ps s x v m e a q d w = rw (w, d, q, e, a)
