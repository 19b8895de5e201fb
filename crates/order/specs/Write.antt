-- Ports and queues changed at some places; a batch is written to some ports: what the groups of the invariant keep.
use Rattle.std.specs.Prelude.{◌≡◌, refl, ◌≢◌, Bool, false, List, [], ◌∷◌, ◌++◌, ◌<◌, ℕ, suc, ◌≤◌}
use Rattle.std.proofs.Common.{sym, ap, ◌∙◌, inl, inr, arith}
use Rattle.std.proofs.Math.Option.{Option}
use Rattle.rules.specs.Table.{get, put}
use Rattle.rules.specs.Job.{Job}
use Rattle.rules.specs.InletSet.{InletSet}
use Rattle.rules.specs.Port.{Batch, Seen}
use Rattle.rules.specs.Operators.{Source}
use Rattle.rules.specs.Machine.{Pipeline, Stage, Port, Read, Output, share_port, slot_places}
use Rattle.rules.specs.Ports.{marked}
use Rattle.laws.specs.Table.{clash, same, other}
use Rattle.laws.specs.Full.{full_more}
use Rattle.laws.specs.Rising.{Rising}
use Rattle.order.specs.Inv.{Solid, There, shut, reader_of, port_of, queue_of, Ports, SharePort, Shares, Ended, Past, Idle, Full, Waits, Dirt, Quiet, Packs, AllCame, Brought, Delivered}
use Rattle.order.specs.Base.{share_above}
use Rattle.order.specs.Among.{Among, by_among, rising_low}
use Rattle.order.specs.Views.{shut_of}

-- Entries changed at the places of a list

module _ {A : Type 0} (d : A) (f : A → A) where
  abbrev pub map_at : List ℕ → List A → List A
  map_at [] T = T
  map_at (x ∷ xs) T = map_at xs (put d T x (f (get d T x)))

  pub map_out : (xs : List ℕ) (T : List A) (x : ℕ) → (Among x xs → ⊥) → get d (map_at xs T) x ≡ get d T x
  map_out [] T x n = refl
  map_out (y ∷ ys) T x n = map_out ys (put d T y (f (get d T y))) x (λ a. n (inr a)) ∙ other d T y x (f (get d T y)) (λ e. n (inl e))

  pub map_in : (n : ℕ) (xs : List ℕ) (T : List A) (x : ℕ) → Rising n xs → Among x xs → get d (map_at xs T) x ≡ f (get d T x)
  map_in n [] T x r a = absurd a
  map_in n (y ∷ ys) T x r (inl e) =
      rw e (map_out ys (put d T y (f (get d T y))) y (λ b. omega (arith, rising_low (suc y) y ys r.1 b)) ∙ same d T y (f (get d T y)))
  map_in n (y ∷ ys) T x r (inr a) =
      let k : x ≢ y = λ e. omega (arith, rising_low (suc y) x ys r.1 a) in
      map_in (suc y) ys (put d T y (f (get d T y))) x r.1 a ∙ ap f (other d T y x (f (get d T y)) k)

pub reader_of_lem : (O' O : List Port) (x : ℕ) → port_of O' x ≡ port_of O x → reader_of O' x ≡ reader_of O x
reader_of_lem O' O x e = ap (λ (z : Port). z.reader) e

pub there_of : (O' O : List Port) (x : ℕ) → port_of O' x ≡ port_of O x → (port_of O' x).there ≡ (port_of O x).there
there_of O' O x e = ap (λ (z : Port). z.there) e

-- Shared ports that stay

pub share_keep : {j : Job} {busy : ℕ → Type 0} {unb : List Bool} {P : List Pipeline} {S : List Source} (O O' : List Port) (Q Q' : List (List Batch)) (x : ℕ)
    → port_of O' x ≡ port_of O x → queue_of Q' x ≡ queue_of Q x → SharePort j busy unb P S O Q x → SharePort j busy unb P S O' Q' x
share_keep O O' Q Q' x p q v = record {
  leaf = v.leaf;
  split = v.split;
  is = v.is;
  below = v.below;
  is_leaf = v.is_leaf;
  pair = v.pair;
  shared = v.shared;
  built = v.built;
  holds = rw q v.holds;
  opens = λ c. rw q (v.opens (sym (shut_of O' O x p) ∙ c));
  shuts = λ c. v.shuts (sym (shut_of O' O x p) ∙ c);
  full = λ c r. rw q (v.full (sym (shut_of O' O x p) ∙ c) (sym (reader_of_lem O' O x p) ∙ r));
  unslotted = λ z. v.unslotted (sym (reader_of_lem O' O x p) ∙ z);
}

pub shares_keep : {j : Job} {busy : ℕ → Type 0} {next : ℕ} {unb : List Bool} {P : List Pipeline} {S : List Source} (O O' : List Port) (Q Q' : List (List Batch))
    → ((x : ℕ) → slot_places ≤ x → (port_of O' x ≡ port_of O x) × (queue_of Q' x ≡ queue_of Q x)) → Shares j busy next unb P S O Q → Shares j busy next unb P S O' Q'
shares_keep O O' Q Q' h v = record {
  ports = λ x s t. share_keep O O' Q Q' x (h x s).0 (h x s).1 (v.ports x s (sym (there_of O' O x (h x s).0) ∙ t));
  waits = λ l t a b c n k o.
      let e : port_of O' (share_port l t) ≡ port_of O (share_port l t) = (h (share_port l t) (share_above l t)).0 in
      rw (there_of O' O (share_port l t) e, reader_of_lem O' O (share_port l t) e) (v.waits l t a b c n k o);
  unbuilt = v.unbuilt;
}

-- Writing

-- batch b was written to the open ports xs
pub record Wrote (xs : List ℕ) (b : Batch) (O : List Port) (Q : List (List Batch)) (O' : List Port) (Q' : List (List Batch)) : Type 0 where
  pub off : (x : ℕ) → (Among x xs → ⊥) → (port_of O' x ≡ port_of O x) × (queue_of Q' x ≡ queue_of Q x)
  pub on : (x : ℕ) → Among x xs → (port_of O' x ≡ marked (port_of O x)) × (queue_of Q' x ≡ queue_of Q x ++ b ∷ []) × There O x × (shut O x ≡ false)

pub brought_append : (j : Job) (R : List Read) (a b : List Batch) → Brought j R a → Brought j R b → Brought j R (a ++ b)
brought_append j R [] b v w = w
brought_append j R (x ∷ a) b v w = (v.0, brought_append j R a b v.1 w)

pub solid_append : (a b : List Batch) → Solid a → Solid b → Solid (a ++ b)
solid_append [] b v w = w
solid_append (x ∷ a) b v w = (v.0, solid_append a b v.1 w)

module _ (xs : List ℕ) (b : Batch) (O : List Port) (Q : List (List Batch)) (O' : List Port) (Q' : List (List Batch)) (w : Wrote xs b O Q O' Q') where
  -- ports stay there, open or closed, with their readers
  pub wrote_there : (x : ℕ) → (port_of O' x).there ≡ (port_of O x).there
  wrote_there x = by_among x xs (λ a. rw (w.on x a).0) (λ n. rw (w.off x n).0)

  pub wrote_shut : (x : ℕ) → shut O' x ≡ shut O x
  wrote_shut x = by_among x xs (λ a. ap (λ (z : Port). z.closed) (w.on x a).0) (λ n. shut_of O' O x (w.off x n).0)

  pub wrote_reader : (x : ℕ) → reader_of O' x ≡ reader_of O x
  wrote_reader x = by_among x xs (λ a. ap (λ (z : Port). z.reader) (w.on x a).0) (λ n. reader_of_lem O' O x (w.off x n).0)

  wrote_ended : (x : ℕ) → Ended O Q x → Ended O' Q' x
  wrote_ended x e = by_among x xs (λ a. clash (cc ((w.on x a).3, e.0))) (λ n. rw (wrote_shut x, (w.off x n).1) e)

  wrote_idle : (x : ℕ) → Idle O Q x → Idle O' Q' x
  wrote_idle x i = by_among x xs (λ a. inr (rw (w.on x a).0)) (λ n. rw (wrote_shut x, (w.off x n).0, (w.off x n).1) i)

  wrote_full : (freed : ℕ → Type 0) (x : ℕ) → Full freed Q x → Full freed Q' x
  wrote_full freed x (inl e) = by_among x xs (λ a. inl (rw (w.on x a).1 (full_more (queue_of Q x) b e))) (λ n. inl (rw (w.off x n).1 e))
  wrote_full freed x (inr f) = inr f

  pub wrote_ports : {j : Job} {A : List (Option ℕ)} {who : ℕ → Type 0} {P : List Pipeline} {I : List (List ℕ)} → Ports j A who P I O Q → Ports j A who P I O' Q'
  wrote_ports v = record {
    alive = λ p l s h. rw (wrote_there p, wrote_shut p) (v.alive p l s h);
    opens = λ x s t c. v.opens x s (rw (wrote_there x) at t) (rw (wrote_shut x) at c);
    inlets = λ p i x l a. rw (wrote_there x, wrote_reader x) (v.inlets p i x l a);
    readers = λ x p i t r. v.readers x p i (rw (wrote_there x) at t) (rw (wrote_reader x) at r);
    slots = λ x s t. let u = v.slots x s (rw (wrote_there x) at t) in
        record { split = u.split; is = u.is; node = u.node; keep = u.keep; read = rw (wrote_reader x) u.read; root = rw (wrote_reader x) u.root };
    roots = λ k s e. rw (wrote_there _, wrote_reader _) (v.roots k s e);
    absent = λ x t. by_among x xs (λ a. clash (cc ((w.on x a).2, wrote_there x, t))) (λ n. rw (w.off x n).1 (v.absent x (sym (wrote_there x) ∙ t)));
    blank = λ x t. rw (wrote_shut x) (v.blank x (sym (wrote_there x) ∙ t));
  }

  pub wrote_past : {P : List Pipeline} {S : List Source} {G : List Stage} {I : List (List ℕ)} → Past P S G I O Q → Past P S G I O' Q'
  wrote_past v = record {
    before = λ p c i x l e a h. wrote_ended x (v.before p c i x l e a h);
    within = v.within;
    all = λ p i x l e a. wrote_ended x (v.all p i x l e a);
    emit = v.emit;
    more = v.more;
    stage_count = v.stage_count;
    spent = v.spent;
  }

  pub wrote_waits : {who freed : ℕ → Type 0} {P : List Pipeline} {S : List Source} {I : List (List ℕ)} → Waits who freed P S I O Q → Waits who freed P S I O' Q'
  wrote_waits {freed} v = record {
    on_io = v.on_io;
    on_inlet = λ p i l e. let u = v.on_inlet p i l e in (u.0, u.1, wrote_idle u.0 u.2);
    on_outlet = λ p l e. let u = v.on_outlet p l e in (u.0, wrote_full freed p u.1);
  }

  pub wrote_dirt : {j : Job} {A : List (Option ℕ)} {dirty : List ℕ} → Dirt j A O Q dirty → Dirt j A O' Q' dirty
  wrote_dirt v = record { clean = λ k s e h. wrote_idle _ (v.clean k s e h); active = v.active; differ = v.differ }

  pub wrote_quiet : {who loud : ℕ → Type 0} {P : List Pipeline} {T : List InletSet} → ((x : ℕ) → Among x xs → loud x) → Quiet who loud P O T → Quiet who loud P O' T
  wrote_quiet h v = record {
    marks = λ x e. by_among x xs (h x) (λ n. v.marks x (rw (w.off x n).0 at e));
    touches = v.touches;
    present = λ x e. rw (wrote_there x) (by_among x xs (λ a. (w.on x a).2) (λ n. v.present x (rw (w.off x n).0 at e)));
  }

  pub wrote_packs : {P : List Pipeline} {S : List Source} {I : List (List ℕ)} {C B : List InletSet} {E : List (List Seen)} → Packs P S I O Q C B E → Packs P S I O' Q' C B E
  wrote_packs v = record {
    size = v.size;
    unique = v.unique;
    within = v.within;
    known = v.known;
    waits = v.waits;
    seen = λ p i x l e a. by_among x xs (λ h. inr (inr (rw (w.on x h).0))) (λ n. rw (wrote_shut x, (w.off x n).0, (w.off x n).1) (v.seen p i x l e a));
  }

  pub wrote_delivered : {j : Job} {P : List Pipeline} {G : List Stage} {R : List Read} {outs : List Output} → AllCame j R b.cells → ((x : ℕ) → Among x xs → 0 < b.rows) → Delivered j P G Q R outs → Delivered j P G Q' R outs
  wrote_delivered {j} {R} h k v = record {
    queues = λ x. by_among x xs (λ a. rw (w.on x a).1 (brought_append j R (queue_of Q x) (b ∷ []) (v.queues x) (h, tt))) (λ n. rw (w.off x n).1 (v.queues x));
    outputs = v.outputs;
    stages = v.stages;
    solid = λ x. by_among x xs (λ a. rw (w.on x a).1 (solid_append (queue_of Q x) (b ∷ []) (v.solid x) (k x a, tt))) (λ n. rw (w.off x n).1 (v.solid x));
    solid_outs = v.solid_outs;
  }
