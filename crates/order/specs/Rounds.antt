-- One round of any pipeline keeps the invariant.
use Rattle.std.specs.Prelude.{◌≡◌, refl, false, List, [], ℕ}
use Rattle.rules.specs.Plan.{Row}
use Rattle.rules.specs.Operators.{Source, segment, concat, pack}
use Rattle.rules.specs.Machine.{Machine, source_at, stage_at}
use Rattle.rules.specs.Wake.{any_full}
use Rattle.rules.specs.Drive.{is_over, advance_stage, round}
use Rattle.order.specs.State.{Busy, RoundOk}
use Rattle.order.specs.Close.{round_by}
use Rattle.order.specs.SegmentRound.{segment_round_ok}
use Rattle.order.specs.ConcatRound.{concat_round_ok}
use Rattle.order.specs.PackRound.{pack_round_ok}

-- by the kind of its source
by_source : (out : ℕ → List Row) (told p : ℕ) (m : Machine) → Busy p [] out told m → is_over (stage_at m p) ≡ false → any_full m p ≡ false
    → (s : Source) → source_at m p ≡ s → RoundOk p out told (advance_stage p (stage_at m p) m)
by_source out told p m v o n (segment a b e) q = segment_round_ok out told p m v o n (rw q)
by_source out told p m v o n (concat i) q = concat_round_ok out told p m v o n i q
by_source out told p m v o n pack q = pack_round_ok out told p m v o n q

pub round_ok : (out : ℕ → List Row) (told p : ℕ) (m : Machine) → Busy p [] out told m → RoundOk p out told (round p m)
round_ok out told p m v = round_by out told p m v (λ o n. by_source out told p m v o n (source_at m p) refl)
