-- An output held or a new read is told: the invariant goes on.
use Rattle.std.specs.Prelude.{◌≡◌, refl, List, [], ◌∷◌, ◌++◌, map, ℕ, zero, suc, ◌-◌, ◌<◌, ◌≤◌, length, eqb, ltb, if◌then◌else◌}
use Rattle.std.proofs.Common.{sym, ap, ◌∙◌, subst, append_assoc, arith, eq-eqb, ltb-true, ltb-false}
use Rattle.std.proofs.Math.Path.{fun_ext}
use Rattle.rules.specs.Table.{up_from}
use Rattle.rules.specs.Plan.{Row, root_of}
use Rattle.rules.specs.Port.{batch_rows}
use Rattle.rules.specs.Machine.{Machine, Output, place, with_outputs, with_news}
use Rattle.laws.specs.Rows.{batch_empty}
use Rattle.laws.specs.Table.{by_bool, clash}
use Rattle.order.specs.Inv.{AllCame, Solid, Brought, held_rows}
use Rattle.order.specs.State.{Rests}
use Rattle.order.specs.Lists.{nil_right}

-- the rows of an output, by split
abbrev pub rows_for : Output → ℕ → List Row
rows_for o s = if eqb o.split s then batch_rows o.batch else []

abbrev pub out_with : (ℕ → List Row) → Output → ℕ → List Row
out_with out o s = out s ++ rows_for o s

held_is : (s : ℕ) (o : Output) (os : List Output) → held_rows s (o ∷ os) ≡ rows_for o s ++ held_rows s os
held_is s o os = by_bool (eqb o.split s) (λ e. rw e) (λ e. rw e)

moved : (a : List Row) (s : ℕ) (o : Output) (os : List Output) → a ++ held_rows s (o ∷ os) ≡ (a ++ rows_for o s) ++ held_rows s os
moved a s o os = ap (λ x. a ++ x) (held_is s o os) ∙ sym (append_assoc a (rows_for o s) (held_rows s os))

-- the same rows put out
pub rests_out : (out out' : ℕ → List Row) (told : ℕ) (m : Machine) → ((s : ℕ) → out s ≡ out' s) → Rests out told m → Rests out' told m
rests_out out out' told m e v = subst (λ f. Rests f told m) (fun_ext e) v

-- what is known of an output that is held
pub record OutputOk (m : Machine) (o : Output) : Type 0 where
  pub split : o.split < length m.job.splits
  pub rows : 0 < o.batch.rows
  pub came : AllCame m.job m.reads o.batch.cells

pub left_nil : (a b : List Row) → a ++ b ≡ [] → a ≡ []
left_nil [] b e = refl
left_nil (x ∷ a) b e = clash (cc)

-- the first of the numbers from t on
first_number : (t n r : ℕ) (rs : List ℕ) → r ∷ rs ≡ up_from t n → (r ≡ t) × (1 ≤ n) × (rs ≡ up_from (suc t) (n - 1))
unfolding up_from
first_number t zero r rs e = clash (cc)
first_number t (suc n) r rs e = let d : suc n - 1 ≡ n = omega arith in (cc, omega arith, rw d (cc))

module _ (out : ℕ → List Row) (told : ℕ) (m : Machine) (v : Rests out told m) where
  -- a split that comes later holds no rows
  below : (o : Output) (os : List Output) → m.outputs ≡ o ∷ os → 0 < o.batch.rows → o.split < m.next
  below o os e h = by_bool (ltb o.split m.next) (λ d. ltb-true o.split m.next d)
      (λ d. let g : out o.split ++ held_rows o.split (o ∷ os) ≡ [] = rw e at (v.splits.later o.split (ltb-false o.split m.next d)) in
      let z : rows_for o o.split ≡ [] = left_nil (rows_for o o.split) (held_rows o.split os) (sym (held_is o.split o os) ∙ nil_right (out o.split) (held_rows o.split (o ∷ os)) g) in
      let y : batch_rows o.batch ≡ [] = rw (eq-eqb o.split o.split refl) at z in
      let x : o.batch.rows ≡ 0 = (batch_empty o.batch).0 y in
      absurd (omega arith))

  -- it is of a split of the job, has rows, and its segments have come
  pub output_known : (o : Output) (os : List Output) → m.outputs ≡ o ∷ os → OutputOk m o
  output_known o os e =
      let d : Brought m.job m.reads (map (λ (x : Output). x.batch) (o ∷ os)) = rw e at v.delivered.outputs in
      let z : Solid (map (λ (x : Output). x.batch) (o ∷ os)) = rw e at v.delivered.solid_outs in
      let h : o.split < m.next = below o os e z.0 in
      record { split = omega (arith, v.slots.bound); rows = z.0; came = d.0 }

  pub output_ok : (o : Output) (os : List Output) → m.outputs ≡ o ∷ os → Rests (out_with out o) told (with_outputs os m)
  output_ok o os e = record {
    F = v.F;
    W = v.W;
    job = v.job;
    slots = v.slots;
    pipes = v.pipes;
    ports = v.ports;
    shares = v.shares;
    flow = v.flow;
    past = v.past;
    splits = record {
      active = λ k s h. ap (λ x. x ++ v.F (place k (root_of m.job))) (sym (moved (out s) s o os)) ∙ rw e at (v.splits.active k s h);
      over = λ s h n. sym (moved (out s) s o os) ∙ rw e at (v.splits.over s h n);
      later = λ s h. sym (moved (out s) s o os) ∙ rw e at (v.splits.later s h);
    };
    queued = v.queued;
    waits = v.waits;
    dirt = v.dirt;
    quiet = v.quiet;
    packs = v.packs;
    reads = v.reads;
    once = v.once;
    delivered = record {
      queues = v.delivered.queues;
      outputs = (rw e at v.delivered.outputs).1;
      stages = v.delivered.stages;
      solid = v.delivered.solid;
      solid_outs = (rw e at v.delivered.solid_outs).1;
    };
    numbers = v.numbers;
    tells = v.tells;
    sound = v.sound;
  }

  -- a new read is the next one
  pub read_known : (r : ℕ) (rs : List ℕ) → m.news ≡ r ∷ rs → (r ≡ told) × (r < length m.reads) × (rs ≡ up_from (suc told) (length m.reads - suc told))
  read_known r rs e =
      let f : (r ≡ told) × (1 ≤ length m.reads - told) × (rs ≡ up_from (suc told) (length m.reads - told - 1)) = first_number told (length m.reads - told) r rs (sym e ∙ v.tells.1) in
      let d : length m.reads - told - 1 ≡ length m.reads - suc told = omega arith in
      (f.0, let g : r ≡ told = f.0 in omega (arith, f.1), rw d at f.2)

  pub read_ok : (r : ℕ) (rs : List ℕ) → m.news ≡ r ∷ rs → Rests out (suc told) (with_news rs m)
  read_ok r rs e = record {
    F = v.F;
    W = v.W;
    job = v.job;
    slots = v.slots;
    pipes = v.pipes;
    ports = v.ports;
    shares = v.shares;
    flow = v.flow;
    past = v.past;
    splits = v.splits;
    queued = v.queued;
    waits = v.waits;
    dirt = v.dirt;
    quiet = v.quiet;
    packs = v.packs;
    reads = v.reads;
    once = v.once;
    delivered = v.delivered;
    numbers = v.numbers;
    tells = (let k : (r ≡ told) × (r < length m.reads) × (rs ≡ up_from (suc told) (length m.reads - suc told)) = read_known r rs e in omega arith, (read_known r rs e).2);
    sound = v.sound;
  }
