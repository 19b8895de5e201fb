-- What an inner action does to the job and the reads: nothing that is seen, but that a run may ask for one read.
use Rattle.std.specs.Prelude.{◌≡◌, refl, ◌⊎◌, true, false, List, [], ◌∷◌, map, ℕ, zero, suc, ◌+◌, ◌<◌, ◌≤◌, length, leb}
use Rattle.std.proofs.Common.{ap, ◌∙◌, inl, inr, arith, length-append}
use Rattle.std.proofs.Math.Option.{get_or}
use Rattle.std.proofs.lemmas.List.{length-map}
use Rattle.rules.specs.Table.{get}
use Rattle.rules.specs.Operators.{io, inlet, SourceReady, go, stays, Source, segment, concat, pack}
use Rattle.rules.specs.Machine.{Machine, Read, stage_at, source_at, outlets, set_changed, set_source, set_pipe, with_ready, max_reads, live, pipe_at, inlets_at}
use Rattle.rules.specs.Ports.{drop_each}
use Rattle.rules.specs.Wake.{any_full, with_queued, pass_marks}
use Rattle.rules.specs.Pipelines.{disowned, retire}
use Rattle.rules.specs.Drive.{ask, test_source, after_test, is_over, advance_stage, Why, is_blocked, at_outlet, done, Round, again, stop, round, drive, patience, settle, set_stopped, has_bytes, touched_ports, retire_if, wake_neighbours, stage_step, run}
use Rattle.rules.specs.Scan.{run_next}
use Rattle.laws.specs.Table.{by_bool, by_option, get_front, get_last}
use Rattle.order.specs.Inv.{read_at}
use Rattle.order.specs.Still.{Still, still_same, still_then, closes_still, runnable_still, passes_still, writers_still, drops_still, observe_still, give_still, compute_still}

-- the reads keep their number, leaves and deliveries; owners may go
pub record Keeps (m m' : Machine) : Type 0 where
  pub job : m'.job ≡ m.job
  pub size : length m'.reads ≡ length m.reads
  pub leaf : (r : ℕ) → (read_at m'.reads r).leaf ≡ (read_at m.reads r).leaf
  pub delivered : (r : ℕ) → (read_at m'.reads r).delivered ≡ (read_at m.reads r).delivered
  pub news : m'.news ≡ m.news
  pub outputs : m'.outputs ≡ m.outputs

-- reads more, not delivered: one at most
pub record Asks (m m' : Machine) : Type 0 where
  pub job : m'.job ≡ m.job
  pub size : length m.reads ≤ length m'.reads
  pub few : length m'.reads ≤ suc (length m.reads)
  pub leaf : (r : ℕ) → r < length m.reads → (read_at m'.reads r).leaf ≡ (read_at m.reads r).leaf
  pub delivered : (r : ℕ) → r < length m.reads → (read_at m'.reads r).delivered ≡ (read_at m.reads r).delivered
  pub fresh : (r : ℕ) → length m.reads ≤ r → r < length m'.reads → (read_at m'.reads r).delivered ≡ false
  pub outputs : m'.outputs ≡ m.outputs

abbrev pub Reads-on : Machine → Machine → Type 0
Reads-on m m' = Keeps m m' ⊎ Asks m m'

pub keeps_still : {m m' : Machine} → Still m m' → Keeps m m'
keeps_still s = record { job = s.job; size = ap (λ (l : List Read). length l) s.reads; leaf = λ r. rw s.reads; delivered = λ r. rw s.reads; news = s.news; outputs = s.outputs }

pub keeps_then : {a b c : Machine} → Keeps a b → Keeps b c → Keeps a c
keeps_then p q = record { job = q.job ∙ p.job; size = q.size ∙ p.size; leaf = λ r. q.leaf r ∙ p.leaf r; delivered = λ r. q.delivered r ∙ p.delivered r; news = q.news ∙ p.news; outputs = q.outputs ∙ p.outputs }

asks_keeps : {a b c : Machine} → Asks a b → Keeps b c → Asks a c
asks_keeps p q = record {
  job = q.job ∙ p.job;
  size = rw q.size p.size;
  few = rw q.size p.few;
  leaf = λ r h. q.leaf r ∙ p.leaf r h;
  delivered = λ r h. q.delivered r ∙ p.delivered r h;
  fresh = λ r h k. q.delivered r ∙ p.fresh r h (rw q.size at k);
  outputs = q.outputs ∙ p.outputs;
}

keeps_asks : {a b c : Machine} → Keeps a b → Asks b c → Asks a c
keeps_asks p q = record {
  job = q.job ∙ p.job;
  size = rw (← p.size) q.size;
  few = rw (← p.size) q.few;
  leaf = λ r h. q.leaf r (rw p.size h) ∙ p.leaf r;
  delivered = λ r h. q.delivered r (rw p.size h) ∙ p.delivered r;
  fresh = λ r h k. q.fresh r (rw p.size h) k;
  outputs = q.outputs ∙ p.outputs;
}

pub on_keeps : {a b c : Machine} → Reads-on a b → Keeps b c → Reads-on a c
on_keeps (inl p) q = inl (keeps_then p q)
on_keeps (inr p) q = inr (asks_keeps p q)

pub keeps_on : {a b c : Machine} → Keeps a b → Reads-on b c → Reads-on a c
keeps_on p (inl q) = inl (keeps_then p q)
keeps_on p (inr q) = inr (keeps_asks p q)

-- Asking

last_is : {n r : ℕ} → n ≤ r → r < n + 1 → r ≡ n
last_is h k = omega arith

pub ask_on : (p : ℕ) (m : Machine) → Reads-on m (ask p m)
unfolding ask
ask_on p m = by_bool (leb max_reads (length m.reads))
    (λ e. rw (e, ask) (inl (keeps_still (record { job = refl; reads = refl; news = refl; outputs = refl }))))
    (λ e. rw (e, ask) (inr (record {
      job = refl;
      size = simp length-append (omega arith);
      few = simp length-append (omega arith);
      leaf = λ r h. rw (get_front _ m.reads _ r h);
      delivered = λ r h. rw (get_front _ m.reads _ r h);
      fresh = λ r h k. let n : r ≡ length m.reads = last_is h (rw length-append at k) in rw (n, get_last _ m.reads _);
      outputs = refl;
    })))

-- a source that is ready has asked for nothing
abbrev Tested : Machine → SourceReady × Machine → Type 0
Tested m (go, n) = Still m n
Tested m (stays b, n) = Reads-on m n

ready_still : (m : Machine) (r : SourceReady × Machine) → Still m r.1 → Tested m r
ready_still m (go, n) s = s
ready_still m (stays b, n) s = inl (keeps_still s)

test_still : (p : ℕ) (s : Source) (m : Machine) → Tested m (test_source p s m)
test_still p (segment true b e) m = ready_still m (test_source p (segment true b e) m) (still_same m)
test_still p (segment false b e) m =
    let m' = set_source p (segment true b e) m in
    keeps_on (keeps_still (record { job = refl; reads = refl; news = refl; outputs = refl })) (ask_on p m')
test_still p (concat i) m = ready_still m (test_source p (concat i) m) (record { job = refl; reads = refl; news = refl; outputs = refl })
test_still p pack m = let s = observe_still p (get [] m.changed p) m in ready_still m (test_source p pack m) (record { job = s.job; reads = s.reads; news = s.news; outputs = s.outputs })

-- One run

abbrev pub RoundOn : Machine → Round → Type 0
RoundOn m (again n) = Still m n
RoundOn m (stop w n) = Reads-on m n

after_on : (p : ℕ) (m : Machine) (r : SourceReady × Machine) → Tested m r → RoundOn m (after_test p r)
unfolding after_test
after_on p m (go, n) s = let t = compute_still p (set_changed p [] n) in record { job = t.job ∙ s.job; reads = t.reads ∙ s.reads; news = t.news ∙ s.news; outputs = t.outputs ∙ s.outputs }
after_on p m (stays b, n) s = on_keeps s (keeps_still (record { job = refl; reads = refl; news = refl; outputs = refl }))

advance_on : (p : ℕ) (m : Machine) → RoundOn m (advance_stage p (stage_at m p) m)
advance_on p m = by_bool (stage_at m p).continuing
    (λ e. rw (e, advance_stage) (let s = give_still p (stage_step p (get_or (stage_at m p).cut 0) m) in record { job = s.job; reads = s.reads; news = s.news; outputs = s.outputs }))
    (λ e. by_option (stage_at m p).finishing
    (λ f. by_bool (stage_at m p).more
    (λ g. rw (e, advance_stage, f, g) (compute_still p m))
    (λ g. rw (e, advance_stage, f, g) (after_on p m (test_source p (source_at m p) m) (test_still p (source_at m p) m))))
    (λ n f. rw (e, advance_stage, f) (record { job = refl; reads = refl; news = refl; outputs = refl })))

pub round_on : (p : ℕ) (m : Machine) → RoundOn m (round p m)
unfolding round
round_on p m = by_bool (is_over (stage_at m p))
    (λ e. rw (e, round) (inl (keeps_still (closes_still (outlets m p) m))))
    (λ e. by_bool (any_full m p)
    (λ f. rw (e, round, f) (inl (keeps_still (still_same m))))
    (λ f. rw (e, round, f) (advance_on p m)))

still_round : {a b : Machine} (r : Round) → Still a b → RoundOn b r → RoundOn a r
still_round (again n) s t = still_then s t
still_round (stop w n) s t = keeps_on (keeps_still s) t

drive_next : (f p : ℕ) (m : Machine) (r : Round) → round p m ≡ r → RoundOn m r → ((n : Machine) → RoundOn n (drive f p n)) → RoundOn m (drive (suc f) p m)
unfolding drive
drive_next f p m (stop w n) e t ih = rw (e, drive) t
drive_next f p m (again n) e t ih = by_bool n.fault (λ g. rw (e, drive, g) t) (λ g. rw (e, drive, g) (still_round (drive f p n) t (ih n)))

pub drive_on : (f p : ℕ) (m : Machine) → RoundOn m (drive f p m)
unfolding drive
drive_on zero p m = still_same m
drive_on (suc f) p m = drive_next f p m (round p m) refl (round_on p m) (drive_on f p)

-- After a run

stopped_still : (p : ℕ) (w : Why) (m : Machine) → Still m (set_stopped p w m)
unfolding set_stopped
stopped_still p (is_blocked io) m = by_bool (has_bytes (source_at m p)) (λ e. rw (e, set_stopped) (runnable_still p m)) (λ e. rw (e, set_stopped) (record { job = refl; reads = refl; news = refl; outputs = refl }))
stopped_still p (is_blocked (inlet i)) m = record { job = refl; reads = refl; news = refl; outputs = refl }
stopped_still p at_outlet m = record { job = refl; reads = refl; news = refl; outputs = refl }
stopped_still p done m = still_same m

woken_still : (p : ℕ) (m : Machine) → Still m (wake_neighbours p m)
woken_still p m =
    let s = still_then (passes_still (outlets m p) m) (writers_still (touched_ports p m) (pass_marks (outlets m p) m)) in
    record { job = s.job; reads = s.reads; news = s.news; outputs = s.outputs }

-- a read's leaf and delivery stay when its owner goes
disowned_leaf : (p : ℕ) (R : List Read) (r : ℕ) → (read_at (map (disowned p) R) r).leaf ≡ (read_at R r).leaf
disowned_leaf p [] r = refl
disowned_leaf p (x ∷ R) zero = refl
disowned_leaf p (x ∷ R) (suc r) = disowned_leaf p R r

disowned_came : (p : ℕ) (R : List Read) (r : ℕ) → (read_at (map (disowned p) R) r).delivered ≡ (read_at R r).delivered
disowned_came p [] r = refl
disowned_came p (x ∷ R) zero = refl
disowned_came p (x ∷ R) (suc r) = disowned_came p R r

pub retire_keeps : (p : ℕ) (m : Machine) → Keeps m (retire p m)
unfolding retire
retire_keeps p m =
    let m' = drop_each (inlets_at m p) m in
    keeps_then (keeps_still (drops_still (inlets_at m p) m)) (record {
      job = refl;
      size = length-map m'.reads (disowned p);
      leaf = disowned_leaf p m'.reads;
      delivered = disowned_came p m'.reads;
      news = refl;
      outputs = refl;
    })

settle_keeps : (p : ℕ) (w : Why) (m : Machine) → Keeps m (settle p w m)
settle_keeps p w m =
    let s : Keeps m (wake_neighbours p (set_stopped p w m)) = keeps_still (still_then (stopped_still p w m) (woken_still p (set_stopped p w m))) in
    by w s
  where
    by : (x : Why) → Keeps m (wake_neighbours p (set_stopped p w m)) → Keeps m (retire_if x p (wake_neighbours p (set_stopped p w m)))
    by (is_blocked b) s = s
    by at_outlet s = s
    by done s = keeps_then s (retire_keeps p (wake_neighbours p (set_stopped p w m)))

run_by : (p : ℕ) (m : Machine) (r : Round) → drive patience p m ≡ r → RoundOn m r → Reads-on m (run p m)
unfolding run
run_by p m (stop w n) e t = rw (e, run) (on_keeps t (settle_keeps p w n))
run_by p m (again n) e t = rw (e, run) (inl (keeps_still (record { job = t.job; reads = t.reads; news = t.news; outputs = t.outputs })))

pub run_on : (p : ℕ) (ps : List ℕ) (m : Machine) → Reads-on m (run_next p ps m)
unfolding run_next
run_on p ps m = by_bool (live m p)
    (λ e. rw (e, run_next) (let n = set_pipe p (with_queued false (pipe_at m p)) (with_ready ps m) in
    keeps_on (keeps_still (record { job = refl; reads = refl; news = refl; outputs = refl })) (run_by p n (drive patience p n) refl (drive_on patience p n))))
    (λ e. rw (e, run_next) (inl (keeps_still (record { job = refl; reads = refl; news = refl; outputs = refl }))))
