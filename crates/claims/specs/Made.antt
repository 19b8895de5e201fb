-- A port for each claimant, leaf after leaf and pair after pair.
use Rattle.std.specs.Prelude.{◌≡◌, refl, Bool, true, false, List, [], ◌∷◌, ◌++◌, map, ℕ, suc, ◌+◌, ◌-◌, ◌*◌, ◌/◌, ◌%◌, ◌≤◌, ◌<◌, length}
use Rattle.std.proofs.Common.{sym, ap, ◌∙◌, arith}
use Rattle.std.proofs.lemmas.List.{map-append}
use Rattle.rules.specs.Table.{filter, up_from}
use Rattle.rules.specs.Job.{Job}
use Rattle.rules.specs.Plan.{reach_start, reach_end, names}
use Rattle.rules.specs.Machine.{Machine, Port, nobody, port_at, set_port, set_queue, fault_if}
use Rattle.rules.specs.Shares.{claimants, port_of, empty_port, make_ports}
use Rattle.laws.specs.Table.{by_bool}
use Rattle.claims.specs.Lists.{filter_yes, filter_no, filter_append, up_append}
use Rattle.claims.specs.Pairs.{is_claimant, among, no_leaf, no_splits, ports_are}
use Rattle.claims.specs.Leaves.{open_in, claimant_of}

-- a port that waits for its claim
abbrev pub made_port : ℕ → Machine → Machine
made_port x m = fault_if (port_at m x).there (set_queue x [] (set_port x (empty_port nobody) m))

pub made_is : (x : ℕ) (m : Machine) (v : Port) → v ≡ port_at m x → fault_if v.there (set_queue x [] (set_port x (empty_port nobody) m)) ≡ made_port x m
made_is x m v e = rw e

-- if the test holds
abbrev pub made_if : Bool → ℕ → Machine → Machine
made_if b x m = elim b [ true ↦ made_port x m | false ↦ m ]

pub made_yes : (a b : Bool) (x : ℕ) (m : Machine) → b ≡ a → b ≡ true → made_port x m ≡ made_if a x m
made_yes a b x m e t = let u : a ≡ true = sym e ∙ t in rw (u, made_if)

pub made_no : (a b : Bool) (x : ℕ) (m : Machine) → b ≡ a → b ≡ false → m ≡ made_if a x m
made_no a b x m e t = let u : a ≡ false = sym e ∙ t in rw (u, made_if)

-- the ports of the claimants among n pairs from y on
abbrev pub ports_from : Job → List Bool → ℕ → ℕ → ℕ → List ℕ
ports_from j f l y n = map (λ z. 72 + z) (among j f l y n)

-- what is left to make from pair y on is what was to make, and no test has changed
abbrev pub Making : List ℕ → ℕ → ℕ → ℕ → Machine → Machine → Type 0
Making xs l n y m₀ m = (m.job ≡ m₀.job) × (m.finished ≡ m₀.finished) × (make_ports (ports_from m₀.job m₀.finished l y (n - y)) m ≡ make_ports xs m₀)

made_job : (b : Bool) (x : ℕ) (m : Machine) → (made_if b x m).job ≡ m.job
made_job true x m = refl
made_job false x m = refl

made_finished : (b : Bool) (x : ℕ) (m : Machine) → (made_if b x m).finished ≡ m.finished
made_finished true x m = refl
made_finished false x m = refl

-- One leaf

-- the ports of leaf i
abbrev pub leaf_ports : Machine → ℕ → ℕ → List ℕ
leaf_ports m l i = ports_from m.job m.finished l (16 * i) 16

pub leaf_start : (l i : ℕ) (m : Machine) → Making (leaf_ports m l i) l (16 * i + 16) (16 * i) m m
leaf_start l i m = let e : 16 * i + 16 - 16 * i ≡ 16 = omega arith in (refl, refl, rw e)

-- one pair, then the others
each_next : (j : Job) (f : List Bool) (l n y : ℕ) (m : Machine) → y < n
    → make_ports (ports_from j f l y (n - y)) m ≡ make_ports (ports_from j f l (suc y) (n - suc y)) (made_if (is_claimant j f l y) (72 + y) m)
unfolding make_ports up_from
each_next j f l n y m h =
    let s : n - y ≡ suc (n - suc y) = omega arith in
    let rest : List ℕ = up_from (suc y) (n - suc y) in
    by_bool (is_claimant j f l y)
    (λ e. rw (s, filter_yes (is_claimant j f l) y rest e, e, made_if))
    (λ e. rw (s, filter_no (is_claimant j f l) y rest e, e, made_if))

-- a pair of leaf i
pub making_next : (xs : List ℕ) (l i n y a e : ℕ) (m₀ m m' : Machine) → y < n → y / 16 ≡ i → names m₀.job l i ≡ true → y % 16 < length m₀.job.splits
    → a ≡ reach_start m₀.job i → e ≡ reach_end m₀.job i → m' ≡ made_if (open_in m.job m.finished a e (y % 16)) (72 + y) m
    → Making xs l n y m₀ m → Making xs l n (y + 1) m₀ m'
making_next xs l i n y a e m₀ m m' h d w g p q r k =
    let b : Bool = is_claimant m₀.job m₀.finished l y in
    let o : open_in m.job m.finished a e (y % 16) ≡ open_in m₀.job m₀.finished a e (y % 16)
    = ap (λ (j : Job). open_in j m.finished a e (y % 16)) k.0 ∙ ap (λ (f : List Bool). open_in m₀.job f a e (y % 16)) k.1 in
    let u : open_in m.job m.finished a e (y % 16) ≡ b =
    o ∙ claimant_of m₀.job m₀.finished l i y a e (open_in m₀.job m₀.finished a e (y % 16)) d w g p q refl in
    let v : m' ≡ made_if b (72 + y) m = r ∙ ap (λ (c : Bool). made_if c (72 + y) m) u in
    let s : y + 1 ≡ suc y = omega arith in
    rw (s, v) (made_job b (72 + y) m ∙ k.0, made_finished b (72 + y) m ∙ k.1, sym (each_next m₀.job m₀.finished l n y m h) ∙ k.2)

-- the pairs past the last split
pub leaf_end : (l i y : ℕ) (m₀ m : Machine) → 16 * i + length m₀.job.splits ≤ y → y ≤ 16 * i + 16 → Making (leaf_ports m₀ l i) l (16 * i + 16) y m₀ m →
    m ≡ make_ports (leaf_ports m₀ l i) m₀
unfolding make_ports
leaf_end l i y m₀ m h g k =
    let d : 16 * i + (y - 16 * i) ≡ y = omega arith in
    let e : among m₀.job m₀.finished l y (16 * i + 16 - y) ≡ [] =
    rw d at (no_splits m₀.job m₀.finished l i (y - 16 * i) (16 * i + 16 - y) (omega arith) (omega arith)) in
    rw e at k.2

-- a leaf of another segment, or no leaf
pub leaf_none : (l i : ℕ) (m : Machine) → names m.job l i ≡ false → m ≡ make_ports (leaf_ports m l i) m
unfolding make_ports
leaf_none l i m e = rw (no_leaf m.job m.finished l i e)

-- All leaves

make_append : (xs ys : List ℕ) (m : Machine) → make_ports (xs ++ ys) m ≡ make_ports ys (make_ports xs m)
unfolding make_ports
make_append [] ys m = refl
make_append (x ∷ xs) ys m = make_append xs ys (made_port x m)

make_job : (xs : List ℕ) (m : Machine) → (make_ports xs m).job ≡ m.job
unfolding make_ports
make_job [] m = refl
make_job (x ∷ xs) m = make_job xs (made_port x m)

make_finished : (xs : List ℕ) (m : Machine) → (make_ports xs m).finished ≡ m.finished
unfolding make_ports
make_finished [] m = refl
make_finished (x ∷ xs) m = make_finished xs (made_port x m)

-- the ports of all claimants
abbrev pub all_ports : Machine → ℕ → List ℕ
all_ports m l = map port_of (claimants m l)

pub making_start : (l n : ℕ) (m : Machine) → length m.job.splits ≤ 16 → n ≡ length m.job.nodes → Making (all_ports m l) l (16 * n) (16 * 0) m m
making_start l n m h e =
    let z : 16 * n - 0 ≡ 16 * length m.job.nodes = omega (arith, e) in
    (refl, refl, ap (λ (xs : List ℕ). make_ports xs m) (ap (λ (k : ℕ). ports_from m.job m.finished l 0 k) z ∙ sym (ports_are m l h)))

-- the ports of leaf i, then the others
leaf_parts : (j : Job) (f : List Bool) (l n i : ℕ) → i < n → ports_from j f l (16 * i) (16 * n - 16 * i) ≡ ports_from j f l (16 * i) 16 ++ ports_from j f l
    (16 * (i + 1)) (16 * n - 16 * (i + 1))
leaf_parts j f l n i h =
    let k : 16 * n - 16 * i ≡ 16 + (16 * n - 16 * (i + 1)) = omega arith in
    let b : 16 * i + 16 ≡ 16 * (i + 1) = omega arith in
    let w : up_from (16 * i) 16 ++ up_from (16 * (i + 1)) (16 * n - 16 * (i + 1)) ≡ up_from (16 * i) (16 * n - 16 * i) =
    rw (k, ← b) (up_append (16 * i) 16 (16 * n - (16 * i + 16))) in
    ap (λ (ys : List ℕ). map (λ z. 72 + z) (filter (is_claimant j f l) ys)) (sym w)
    ∙ ap (map (λ z. 72 + z)) (filter_append (is_claimant j f l) (up_from (16 * i) 16) (up_from (16 * (i + 1)) (16 * n - 16 * (i + 1))))
    ∙ map-append (λ z. 72 + z) (among j f l (16 * i) 16) (among j f l (16 * (i + 1)) (16 * n - 16 * (i + 1)))

pub leaf_made : (xs : List ℕ) (l n i : ℕ) (m₀ m m' : Machine) → i < n → m' ≡ make_ports (leaf_ports m l i) m → Making xs l (16 * n) (16 * i) m₀ m →
    Making xs l (16 * n) (16 * (i + 1)) m₀ m'
leaf_made xs l n i m₀ m m' h e k =
    let p : List ℕ = leaf_ports m₀ l i in
    let q : leaf_ports m l i ≡ p = ap (λ (j : Job). ports_from j m.finished l (16 * i) 16) k.0
    ∙ ap (λ (f : List Bool). ports_from m₀.job f l (16 * i) 16) k.1 in
    let d : m' ≡ make_ports p m = e ∙ ap (λ (ys : List ℕ). make_ports ys m) q in
    rw d (
      make_job p m ∙ k.0,
      make_finished p m ∙ k.1,
      sym (make_append p (ports_from m₀.job m₀.finished l (16 * (i + 1)) (16 * n - 16 * (i + 1))) m)
          ∙ ap (λ (ys : List ℕ). make_ports ys m) (sym (leaf_parts m₀.job m₀.finished l n i h)) ∙ k.2,
    )

pub making_end : (xs : List ℕ) (l n y : ℕ) (m₀ m : Machine) → n ≤ y → Making xs l n y m₀ m → m ≡ make_ports xs m₀
unfolding make_ports up_from filter
making_end xs l n y m₀ m h k = let e : n - y ≡ 0 = omega arith in rw e at k.2
