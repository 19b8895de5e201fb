-- A pipeline that retires keeps `Fits`: its inlets name it no more.
use Rattle.std.specs.Prelude.{◌≡◌, refl, ◌≢◌, ◌||◌, List, [], ◌∷◌, map, ℕ, zero, suc, ◌<◌, length, leb, if◌then◌else◌}
use Rattle.std.proofs.Common.{sym, ◌∙◌, inl, inr, arith, leb-false}
use Rattle.std.proofs.Math.Option.{Option, some}
use Rattle.std.proofs.lemmas.List.{length-map}
use Rattle.rules.specs.Table.{get, is_some}
use Rattle.rules.specs.Job.{Job}
use Rattle.rules.specs.Plan.{node_of}
use Rattle.rules.specs.InletSet.{InletSet}
use Rattle.rules.specs.Port.{Seen}
use Rattle.rules.specs.Operators.{Source, segment, concat, pack}
use Rattle.rules.specs.Machine.{Machine, Reader, nobody, pipe, Read, no_port, node_at_place, slot_places, places, port_places, is_share_port, port_at, pipe_at, inlets_at, set_port, set_pipe, with_reads}
use Rattle.rules.specs.Ports.{readerless, drop_inlet, drop_each}
use Rattle.rules.specs.Pipelines.{disowned, gone, retire}
use Rattle.laws.specs.Table.{by_bool, by_eq, clash, other}
use Rattle.laws.specs.Rows.{All}
use Rattle.order.specs.Inv.{Live, There, reader_of, source_of, inlets_of, At}
use Rattle.order.specs.Among.{Among}
use Rattle.order.specs.Ranged.{IsFirst}
use Rattle.order.specs.RangeParts.{Fed, SourceFits, ReaderFits, Short, Fits}
use Rattle.order.specs.RangeMoves.{set_dead, set_port_lem, set_queue_lem, with_freed_lem, with_reads_lem}
use Rattle.order.specs.RangeBatch.{none_fits}
use Rattle.order.specs.RangePorts.{free_fits}
use Rattle.order.specs.Views.{reader_same, reader_other}

-- Inlets

pub fed_bound : (j : Job) (p : ℕ) (xs : List ℕ) → p < slot_places → Fed j p xs → All (λ x. x < slot_places) xs
fed_bound j p [] h f = tt
fed_bound j p (x ∷ xs) h f = (omega (arith, f.0), fed_bound j p xs h f.3)

all_bound : (xs : List ℕ) → All (λ x. x < slot_places) xs → All (λ x. x < port_places) xs
all_bound [] a = tt
all_bound (x ∷ xs) a = (omega (arith, a.0), all_bound xs a.1)

source_bound : (j : Job) (A : List (Option ℕ)) (p : ℕ) (s : Source) (xs : List ℕ) (w : InletSet) (es : List Seen) → SourceFits j A p (node_of j (node_at_place p)).kind s xs w es → All (λ x. x < port_places) xs
source_bound j A p (segment a b e) xs w es f = let q = f.1 in rw q tt
source_bound j A p (concat i) xs w es (h, l, inl f) = all_bound xs (fed_bound j p xs l f.1)
source_bound j A p (concat i) xs w es (h, l, inr f) = let q = f.1.1 in rw q (f.1.3, tt)
source_bound j A p pack xs w es f = all_bound xs (fed_bound j p xs f.1 f.2)

-- every inlet of a pipeline has its place
pub inlets_bound : (m : Machine) (p : ℕ) → Fits m → Live m.pipes p → All (λ x. x < port_places) (inlets_at m p)
inlets_bound m p f l = source_bound m.job m.active p (source_of m.sources p) (inlets_at m p) (get [] m.waits p) (get [] m.seen p) (f.pipes p l).source

pub at_among : (xs : List ℕ) (i x : ℕ) → At xs i x → Among x xs
at_among [] i x a = absurd a
at_among (y ∷ ys) zero x a = inl (sym a)
at_among (y ∷ ys) (suc i) x a = inr (at_among ys i x a)

-- The reader of a port goes

drop_fits : (m : Machine) (x : ℕ) → Fits m → x < port_places → Fits (drop_inlet x m)
drop_fits m x f h = by_bool ((port_at m x).closed || is_share_port x)
    (λ e. rw (e, drop_inlet) (free_fits m x f h))
    (λ e. rw (e, drop_inlet)
    (set_queue_lem (set_port x (readerless (port_at m x)) m) x []
    (set_port_lem m x (readerless (port_at m x)) f h (λ t. let r = f.ports.ports x t in record { bound = r.bound; place = r.place; share = r.share; reader = tt }) (inr refl)) h (none_fits m.job x)))

drops_fits : (xs : List ℕ) (m : Machine) → Fits m → All (λ x. x < port_places) xs → Fits (drop_each xs m)
unfolding drop_each
drops_fits [] m f a = f
drops_fits (x ∷ xs) m f a = drops_fits xs (drop_inlet x m) (drop_fits m x f a.0) a.1

-- what is left as it is
abbrev Dropped : Machine → Machine → Type 0
Dropped m m' = (m'.pipes ≡ m.pipes) × (m'.inlets ≡ m.inlets) × (m'.freed ≡ m.freed)

drop_leaves : (m : Machine) (x : ℕ) → Dropped m (drop_inlet x m)
drop_leaves m x = by_bool ((port_at m x).closed || is_share_port x) (λ e. rw (e, drop_inlet) (refl, refl, refl)) (λ e. rw (e, drop_inlet) (refl, refl, refl))

drops_leave : (xs : List ℕ) (m : Machine) → Dropped m (drop_each xs m)
unfolding drop_each
drops_leave [] m = (refl, refl, refl)
drops_leave (x ∷ xs) m =
    let a = drop_leaves m x in
    let b = drops_leave xs (drop_inlet x m) in
    (b.0 ∙ a.0, b.1 ∙ a.1, b.2 ∙ a.2)

-- a port that is not in use or has no reader
abbrev Hushed : Machine → ℕ → Type 0
Hushed m x = There m.ports x → reader_of m.ports x ≡ nobody

drop_hush : (m : Machine) (x : ℕ) → Hushed (drop_inlet x m) x
drop_hush m x = by_bool ((port_at m x).closed || is_share_port x)
    (λ e. rw (e, drop_inlet) (λ t. reader_same m.ports x no_port))
    (λ e. rw (e, drop_inlet) (λ t. reader_same m.ports x (readerless (port_at m x))))

drop_hushed : (m : Machine) (x y : ℕ) → Hushed m y → Hushed (drop_inlet x m) y
drop_hushed m x y h = by_eq y x (λ e. rw e (drop_hush m x)) (λ n. by_bool ((port_at m x).closed || is_share_port x)
    (λ e. rw (e, drop_inlet) (λ t. reader_other m.ports x y no_port n ∙ h (rw other at t)))
    (λ e. rw (e, drop_inlet) (λ t. reader_other m.ports x y (readerless (port_at m x)) n ∙ h (rw other at t))))

drops_hushed : (xs : List ℕ) (m : Machine) (y : ℕ) → Hushed m y → Hushed (drop_each xs m) y
unfolding drop_each
drops_hushed [] m y h = h
drops_hushed (x ∷ xs) m y h = drops_hushed xs (drop_inlet x m) y (drop_hushed m x y h)

drops_hush : (xs : List ℕ) (m : Machine) (y : ℕ) → Among y xs → Hushed (drop_each xs m) y
unfolding drop_each
drops_hush [] m y a = absurd a
drops_hush (x ∷ xs) m y (inl e) = drops_hushed xs (drop_inlet x m) y (rw e (drop_hush m x))
drops_hush (x ∷ xs) m y (inr a) = drops_hush xs (drop_inlet x m) y a

-- so no port names the pipeline
named_at : (m : Machine) (x p i : ℕ) (r : Reader) → r ≡ pipe p i → ReaderFits m.job m.pipes m.inlets x r → At (inlets_of m.inlets p) i x
named_at m x p i r e f = (rw e at f).2

unnamed : (m : Machine) (p x i : ℕ) → Fits (drop_each (inlets_at m p) m) → There (drop_each (inlets_at m p) m).ports x → reader_of (drop_each (inlets_at m p) m).ports x ≢ pipe p i
unnamed m p x i f t e =
    let m' = drop_each (inlets_at m p) m in
    let a : At (inlets_of m'.inlets p) i x = named_at m' x p i (reader_of m'.ports x) e (f.ports.ports x t).reader in
    let b : At (inlets_at m p) i x = rw (drops_leave (inlets_at m p) m).1 at a in
    let n = drops_hush (inlets_at m p) m x (at_among (inlets_at m p) i x b) t in
    clash (cc)

-- Reads that waited for it

disown_first : (j : Job) (p : ℕ) (R : List Read) → All (λ (r : Read). IsFirst j r.leaf) R → All (λ (r : Read). IsFirst j r.leaf) (map (disowned p) R)
disown_first j p [] a = tt
disown_first j p (r ∷ R) a = (a.0, disown_first j p R a.1)

abbrev Placed : Read → Type 0
Placed r = (q : ℕ) → r.owner ≡ some q → q < places

disown_one : (p : ℕ) (r : Read) → Placed r → Placed (disowned p r)
disown_one p r h q = by_bool (is_some p r.owner) (λ e. rw e (λ d. clash (cc))) (λ e. rw e (h q))

disown_placed : (p : ℕ) (R : List Read) → All Placed R → All Placed (map (disowned p) R)
disown_placed p [] a = tt
disown_placed p (r ∷ R) a = (disown_one p r a.0, disown_placed p R a.1)

-- Retiring

pub retire_fits : (m : Machine) (p : ℕ) → Fits m → Live m.pipes p → Fits (retire p m)
unfolding retire
retire_fits m p f l =
    let m' = drop_each (inlets_at m p) m in
    let d = drops_leave (inlets_at m p) m in
    let g = drops_fits (inlets_at m p) m f (inlets_bound m p f l) in
    let k : Live m'.pipes p = rw d.0 l in
    let n = set_pipe p (gone (pipe_at m' p)) m' in
    let v = map (disowned p) m'.reads in
    let z : length v ≡ length m'.reads = length-map m'.reads (disowned p) in
    let h = set_dead m' p (gone (pipe_at m' p)) g k refl (λ x i t. unnamed m p x i g t) in
    let r = with_reads_lem n v m'.news h (omega (arith, z, g.reads.0), disown_first m'.job p m'.reads g.reads.1, disown_placed p m'.reads g.reads.2) (rw z g.news) in
    let w : (pipe_at m p).number < m'.made = rw d.0 at (g.pipes p k).number in
    let s : Short places m'.made m.freed = rw d.2 at g.freed in
    with_freed_lem (with_reads v n) (if leb places (length m.freed) then m.freed else (pipe_at m p).number ∷ m.freed) r
    (by_bool (leb places (length m.freed)) (λ e. rw e s) (λ e. rw e (leb-false places (length m.freed) e, (w, s.1))))
