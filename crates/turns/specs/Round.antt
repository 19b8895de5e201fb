-- One round of the loop: a turn of the rules on the bytes that are there and not yet used.
use Rattle.std.specs.Prelude.{◌≡◌, refl, ◌≢◌, Bool, true, false, List, [], ℕ, ◌+◌, ◌-◌, ◌≤◌, ◌<◌, length, take, drop, eqb, if◌then◌else◌}
use Rattle.std.proofs.Common.{sym, ap, subst, ◌∙◌, arith, eqb-true}
use Rattle.std.proofs.Math.Seq.{take-length, drop-length}
use Rattle.std.proofs.lemmas.Bool.{eqb-false}
use Rattle.laws.specs.Table.{clash}
use Rattle.tables.specs.View.{view}
use Rattle.tables.specs.Lent.{lent_fault}
use Rattle.feeding.specs.Turned.{Turned, turned}
use Rattle.feeding.specs.Within.{turned_used, ended_waits, full_waits}
use Rattle.feeding.specs.declared.Coming.{Coming}
use Rattle.feeding.specs.declared.Coming.TheVariants.{More, Full, Ended}
use Rattle.feeding.specs.declared.Phase.{Phase}
use Rattle.feeding.specs.declared.Phase.TheVariants as phase
use Rattle.session.specs.Feeding.{Left}
use Rattle.turns.specs.Place.{Within, pending, coming_of, Refilled, pending_size, used_pending}
use Rattle.turns.specs.declared.input.Place.{Place}
use Rattle.turns.specs.declared.talk.Said.{Said}
use Rattle.turns.specs.declared.talk.Talk.{Talk}

-- a session is over
abbrev pub is_over : Phase → Bool
is_over phase.Job = false
is_over (phase.Skip n a b) = false
is_over phase.Calls = false
is_over phase.Over = true

pub over_is : (p : Phase) → is_over p ≡ true → p ≡ phase.Over
over_is phase.Job e = clash (cc)
over_is (phase.Skip n a b) e = clash (cc)
over_is phase.Calls e = clash (cc)
over_is phase.Over e = refl

-- a turn on bytes xs, whose text was written
pub record Says (c : Coming) (p : Phase) (xs s t : List ℕ) (r : Said) : Type 0 where
  pub phase : r.phase ≡ (turned (lent_fault s) c p (view s) xs).phase
  pub used : r.used ≡ (turned (lent_fault s) c p (view s) xs).used
  pub waits : r.waits ≡ (turned (lent_fault s) c p (view s) xs).waits
  pub left : Left (turned (lent_fault s) c p (view s) xs) s t

-- the turn that is taken in buffer b on state s
abbrev pub turn_of : Talk → List ℕ → List ℕ → Turned
turn_of t b s = turned (lent_fault s) (coming_of t.place (length b)) t.phase (view s) (pending t.place b)

-- what was read in a round that leaves buffer d: it stands behind what the turn did not use
abbrev pub read_in : Talk → List ℕ → List ℕ → List ℕ → Talk → List ℕ
read_in t b s d r = drop (length (drop (turn_of t b s).used (pending t.place b))) (pending r.place d)

-- buffer b and state s become d and u
pub record Round (t : Talk) (b s d u : List ℕ) (r : Talk) : Type 0 where
  pub within : Within r.place (length d)
  pub phase : r.phase ≡ (turn_of t b s).phase
  pub left : Left (turn_of t b s) s u
  -- what the turn did not use is there, in front of what was read
  pub front : take (length (drop (turn_of t b s).used (pending t.place b))) (pending r.place d) ≡ drop (turn_of t b s).used (pending t.place b)
  -- and where it does not wait nothing was read
  pub stays : (turn_of t b s).waits ≡ false → (pending r.place d ≡ drop (turn_of t b s).used (pending t.place b)) × (r.place.ended ≡ t.place.ended)

both_ways : true ≡ false → ◌≡◌ {A = ℕ} 0 1
both_ways e = cc

full_by : (e f : Bool) → (if e then Ended else if f then Full else More) ≡ Full → f ≡ true
full_by true f h = clash (cc)
full_by false true h = refl
full_by false false h = clash (cc)

more_by : (e f : Bool) → (if e then Ended else if f then Full else More) ≡ More → f ≡ false
more_by true f h = clash (cc)
more_by false true h = clash (cc)
more_by false false h = refl

ended_by : (e f : Bool) → (if e then Ended else if f then Full else More) ≡ Ended → e ≡ true
ended_by true f h = refl
ended_by false true h = clash (cc)
ended_by false false h = clash (cc)

pub ended_told : (p : Place) (n : ℕ) → coming_of p n ≡ Ended → p.ended ≡ true
ended_told p n h = ended_by p.ended (eqb (p.have - p.at) n) h

pub coming_ended : (p : Place) (n : ℕ) → p.ended ≡ true → coming_of p n ≡ Ended
coming_ended p n h = by p.ended h
  where
    by : (e : Bool) → e ≡ true → (if e then Ended else if eqb (p.have - p.at) n then Full else More) ≡ Ended
    by true k = refl
    by false k = clash (cc)

pub coming_full : (p : Place) (n : ℕ) → coming_of p n ≡ Full → p.have - p.at ≡ n
coming_full p n h = eqb-true _ _ (full_by p.ended (eqb (p.have - p.at) n) h)

coming_more : (p : Place) (n : ℕ) → coming_of p n ≡ More → p.have - p.at ≢ n
coming_more p n h = eqb-false _ _ (more_by p.ended (eqb (p.have - p.at) n) h)

module _ (t : Talk) (b s u : List ℕ) (w : Within t.place (length b)) (c : Coming) (k : c ≡ coming_of t.place (length b)) (g : Said)
    (z : Says c t.phase (pending t.place b) s u g) where
  h : Says (coming_of t.place (length b)) t.phase (pending t.place b) s u g
  h = subst (λ (x : Coming). Says x t.phase (pending t.place b) s u g) k z

  abbrev after : Place
  after = record { at = t.place.at + g.used; have = t.place.have; ended = t.place.ended }

  pub used_within : t.place.at + g.used ≤ t.place.have
  used_within =
      let c = coming_of t.place (length b) in
      omega (arith, w.0, h.used, pending_size t.place b w, turned_used (lent_fault s) c t.phase (view s) (pending t.place b))

  left_there : pending after b ≡ drop (turn_of t b s).used (pending t.place b)
  left_there = used_pending t.place.at t.place.have g.used t.place.ended b ∙ ap (λ (n : ℕ). drop n (pending t.place b)) h.used

  left_size : length (drop (turn_of t b s).used (pending t.place b)) ≡ after.have - after.at
  left_size = ap length (sym left_there) ∙ pending_size after b (used_within, w.1)

  pub round_stays : g.waits ≡ false → Round t b s b u (record { phase = g.phase; place = after; taken = g.taken })
  round_stays e = record {
    within = (used_within, w.1);
    phase = h.phase;
    left = h.left;
    front = rw left_there (take-length (drop (turn_of t b s).used (pending t.place b)));
    stays = λ f. (left_there, refl);
  }

  -- nothing where the turn does not wait, and else what the refill read
  pub read_none : read_in t b s b (record { phase = g.phase; place = after; taken = g.taken }) ≡ []
  read_none = rw left_there (drop-length (drop (turn_of t b s).used (pending t.place b)))

  pub read_some : (d : List ℕ) (p : Place)
      → drop (after.have - after.at) (pending p d) ≡ read_in t b s d (record { phase = g.phase; place = p; taken = g.taken })
  read_some d p = ap (λ (n : ℕ). drop n (pending p d)) (sym left_size)

  pub round_reads : g.waits ≡ true
      → (d : List ℕ) (p : Place) → Refilled after b d p → Round t b s d u (record { phase = g.phase; place = p; taken = g.taken })
  round_reads e d p r = record {
    within = r.within;
    phase = h.phase;
    left = h.left;
    front = rw left_size (r.front ∙ left_there);
    stays = λ f. clash (both_ways (sym e ∙ h.waits ∙ f));
  }

  -- a turn that waits leaves room
  told : (c : Coming) → coming_of t.place (length b) ≡ c → Says c t.phase (pending t.place b) s u g
  told c q = subst (λ (x : Coming). Says x t.phase (pending t.place b) s u g) q h

  room_by : (c : Coming) → coming_of t.place (length b) ≡ c → g.waits ≡ true → 4096 ≤ length b → after.have - after.at < length b
  room_by Ended q e l = clash (both_ways (sym e ∙ (told Ended q).waits ∙ ended_waits (lent_fault s) t.phase (view s) (pending t.place b)))
  room_by Full q e l =
      let j : t.place.have - t.place.at ≡ length b = coming_full t.place (length b) q in
      let n = pending_size t.place b w in
      omega (
        arith,
        j,
        n,
        (told Full q).used,
        full_waits (lent_fault s) t.phase (view s) (pending t.place b) (omega (arith, j, n)) (sym (told Full q).waits ∙ e),
      )
  room_by More q e l = omega (arith, coming_more t.place (length b) q, w.0, w.1, l)

  pub has_room : g.waits ≡ true → 4096 ≤ length b → after.have - after.at < length b
  has_room e l = room_by (coming_of t.place (length b)) refl e l
