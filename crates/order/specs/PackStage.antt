-- The stage of a running pack: it has none, so it neither continues nor says More; at the end of its inlets it is over.
use Rattle.std.specs.Prelude.{◌≡◌, true, false, List, [], ◌∷◌, map, ℕ, ◌≤◌}
use Rattle.std.proofs.Math.Path.{refl}
use Rattle.std.proofs.Common.{◌∙◌, arith}
use Rattle.std.proofs.Math.Option.{none, some}
use Rattle.rules.specs.Table.{given}
use Rattle.rules.specs.Job.{Kind, segment as aSegment, concat as aConcat, pack as aPack, Job}
use Rattle.rules.specs.Plan.{Row, node_of}
use Rattle.rules.specs.Operators.{pack}
use Rattle.rules.specs.Machine.{Machine, Stage, node_at_place, stage_at, set_stage}
use Rattle.rules.specs.Drive.{said_more, finished_stages}
use Rattle.laws.specs.Table.{by_bool, by_eq, clash, same, other}
use Rattle.laws.specs.Rows.{sides, beside}
use Rattle.order.specs.Inv.{source_of, inlets_of, At, Form, SlotPipe, Ended}
use Rattle.order.specs.State.{Busy}
use Rattle.order.specs.PackPlace.{PackPlace, pack_place}

-- a stage that a running pack may have
pub record NoStage (x : Stage) : Type 0 where
  pub cut : x.cut ≡ none
  pub continuing : x.continuing ≡ false
  pub more : x.more ≡ false

-- a stage without a cut fits as well
form_restage : (j : Job) (p s : ℕ) (k : Kind) (st x : Stage) (xs : List ℕ) → x.cut ≡ none → Form j p s k pack st xs → Form j p s k pack x xs
form_restage j p s aSegment st x xs e f = f
form_restage j p s aConcat st x xs e f = f
form_restage j p s aPack st x xs e f = (f.0, e)

-- inlets with nothing to come give nothing
sides_none : (F : ℕ → List Row) (xs : List ℕ) → ((i x : ℕ) → At xs i x → F x ≡ []) → sides (map F xs) ≡ []
unfolding sides beside
sides_none F [] h = refl
sides_none F (x ∷ []) h = h 0 x refl
sides_none F (x ∷ y ∷ zs) h = rw (h 0 x refl)

module _ (out : ℕ → List Row) (told me : ℕ) (hand : List Row) (m : Machine) (b : Busy me hand out told m) (e : source_of m.sources me ≡ pack) where
  -- where the pack stands
  pub place_me : PackPlace me m.stages (inlets_of m.inlets me) m.ports
  place_me = pack_place me b.inv.job b.inv.pipes b.inv.ports b.running.live e

  -- its stage
  pub pack_stage : NoStage (stage_at m me)
  unfolding given
  pack_stage = record {
    cut = place_me.uncut;
    continuing = by_bool (stage_at m me).continuing (λ c. clash (cc (b.inv.pipes.stages me b.running.live c, place_me.uncut))) (λ c. c);
    more = by_bool (stage_at m me).more (λ c. clash (cc (b.inv.past.more me b.running.live c).0)) (λ c. c);
  }

  -- the stage with another count of finished stages, which is 0 and asks that nothing is left
  restage_ok : (x : Stage) → NoStage x → ((n : ℕ) → x.finishing ≡ some n → n ≤ 0)
      → (given x.finishing ≡ true → (b.inv.W me ≡ []) × ((i y : ℕ) → At (inlets_of m.inlets me) i y → Ended m.ports m.queues y))
      → Busy me hand out told (set_stage me x m)
  unfolding given
  restage_ok x s count over =
      let v : _ = b.inv in
      record {
        inv = record {
          F = v.F;
          W = v.W;
          job = v.job;
          slots = v.slots;
          pipes = record {
            bound = v.pipes.bound;
            slots = λ p l low. by_eq p me
                (λ c. rw (c, same) (let r : SlotPipe m.job m.active me (source_of m.sources me) (stage_at m me) (inlets_of m.inlets me) = v.pipes.slots me b.running.live (rw c at low) in record {
                  split = r.split;
                  is = r.is;
                  node = r.node;
                  keep = r.keep;
                  form = rw e (form_restage m.job me r.split (node_of m.job (node_at_place me)).kind (stage_at m me) x (inlets_of m.inlets me) s.cut (rw e at r.form));
                }))
                (λ d. rw other (v.pipes.slots p l low));
            shares = λ p l high. by_eq p me (λ c. absurd (omega (arith, c, high, place_me.low))) (λ d. rw other (v.pipes.shares p l high));
            stages = λ p l. by_eq p me (λ c. rw (c, same) (λ h. clash (cc s.continuing))) (λ d. rw other (v.pipes.stages p l));
          };
          ports = v.ports;
          shares = v.shares;
          flow = record {
            port = v.flow.port;
            share = v.flow.share;
            pipes = λ p low l d. rw other (v.flow.pipes p low l d);
            mine = λ low l. rw e (rw e at (v.flow.mine low l));
            ends = λ p low l. by_eq p me (λ c. rw (c, same) (λ h. (over h).0)) (λ d. rw other (v.flow.ends p low l));
            even = v.flow.even;
          };
          past = record {
            before = v.past.before;
            within = v.past.within;
            all = λ p i y l. by_eq p me (λ c. rw (c, same) (λ h a. (over h).1 i y a)) (λ d. rw other (v.past.all p i y l));
            emit = λ p l. by_eq p me (λ c. rw (c, same) (λ h. s.continuing)) (λ d. rw other (v.past.emit p l));
            stage_count = λ p n l. by_eq p me (λ c. rw (c, same, s.cut) (count n)) (λ d. rw other (v.past.stage_count p n l));
            spent = λ p l. by_eq p me (λ c. rw (c, same, e) (λ h g. clash (cc))) (λ d. rw other (v.past.spent p l));
            more = λ p l. by_eq p me (λ c. rw (c, same) (λ h. clash (cc s.more))) (λ d. rw other (v.past.more p l));
          };
          splits = v.splits;
          queued = v.queued;
          waits = v.waits;
          dirt = v.dirt;
          quiet = v.quiet;
          packs = v.packs;
          reads = v.reads;
          once = v.once;
          delivered = record {
            queues = v.delivered.queues;
            outputs = v.delivered.outputs;
            stages = λ p l. by_eq p me (λ c. rw (c, same) (λ h. clash (cc s.continuing))) (λ d. rw other (v.delivered.stages p l));
            solid = v.delivered.solid;
            solid_outs = v.delivered.solid_outs;
          };
          numbers = v.numbers;
          tells = v.tells;
          sound = v.sound;
        };
        running = record { live = b.running.live; state = b.running.state; unqueued = b.running.unqueued };
        calm = b.calm;
        is_open = b.is_open;
      }

  -- it did not say More
  pub said_ok : Busy me hand out told (said_more me false m)
  unfolding given
  said_ok =
      restage_ok _ (record { cut = pack_stage.cut; continuing = pack_stage.continuing; more = refl })
      (λ n h. rw pack_stage.cut at (b.inv.past.stage_count me n b.running.live h))
      (λ h. (b.inv.flow.ends me place_me.low b.running.live h, λ i y a. b.inv.past.all me i y b.running.live h a))

-- every inlet has ended: nothing is left to write
pub finish_ok : (out : ℕ → List Row) (told me : ℕ) (m : Machine) (b : Busy me [] out told m) → source_of m.sources me ≡ pack
    → ((i y : ℕ) → At (inlets_of m.inlets me) i y → Ended m.ports m.queues y) → Busy me [] out told (finished_stages me 0 m)
finish_ok out told me m b e ends =
    let at : PackPlace me m.stages (inlets_of m.inlets me) m.ports = place_me out told me [] m b e in
    let s : NoStage (stage_at m me) = pack_stage out told me [] m b e in
    let w : b.inv.W me ≡ sides (map b.inv.F (inlets_of m.inlets me)) = rw e at (b.inv.flow.mine at.low b.running.live) in
    let f : (i y : ℕ) → At (inlets_of m.inlets me) i y → b.inv.F y ≡ [] = λ i y a. b.inv.flow.port y (at.below i y a) ∙ rw ((ends i y a).0, (ends i y a).1) in
    restage_ok out told me [] m b e _ (record { cut = s.cut; continuing = s.continuing; more = s.more })
    (λ n h. let z : 0 ≡ n = cc in omega arith)
    (λ h. (w ∙ sides_none b.inv.F (inlets_of m.inlets me) f, ends))
