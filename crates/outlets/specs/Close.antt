-- What closing and pushing come to, at a slot's port and at a shared one.
use Rattle.std.specs.Prelude.{◌≡◌, refl, Bool, true, false, not, ◌&&◌, ◌||◌, List, [], ◌∷◌, ◌++◌, ℕ, ◌≤◌, ◌<◌, ltb, length, if◌then◌else◌}
use Rattle.std.proofs.Common.{sym, ap, ◌∙◌, le-leb, lt-ltb}
use Rattle.std.proofs.Math.Bool.{or-true, or-false}
use Rattle.std.proofs.lemmas.Bool.{lt-leb, not-true, not-false}
use Rattle.rules.specs.Table.{is_empty}
use Rattle.rules.specs.Port.{Batch, capacity}
use Rattle.rules.specs.Machine.{Machine, Port, is_share_port, port_at, queue_at, set_port, set_queue, with_queues, with_fault}
use Rattle.rules.specs.Ports.{marked, closed_now, has_place, push_to, is_nobody, free_port, close_to}
use Rattle.laws.specs.Table.{clash}
use Rattle.tables.specs.Rings.{appended}
use Rattle.tables.specs.Queues.{put_own}
use Rattle.waking.specs.Choice.{chosen, first_case, last_case}
use Rattle.numbers.specs.Tests.{and_no}

-- the entry that was loaded, written back with a change
pub port_set : (m : Machine) (x : ℕ) (f : Port → Port) (v w : Port) → v ≡ port_at m x → w ≡ f v → set_port x w m ≡ set_port x (f (port_at m x)) m
port_set m x f v w e h = ap (λ (y : Port). set_port x y m) (h ∙ ap f e)

-- Closing

-- a shared port stays in use
pub close_share : (m : Machine) (x : ℕ) → 72 ≤ x → set_port x (closed_now (port_at m x)) m ≡ close_to x m
close_share m x h =
    last_case (is_nobody (port_at m x).reader && not (is_share_port x)) (free_port x m) (set_port x (closed_now (port_at m x)) m)
    (ap (λ (b : Bool). is_nobody (port_at m x).reader && not b) (le-leb 72 x h) ∙ and_no (is_nobody (port_at m x).reader))

-- the test of a slot's port
own_test : (m : Machine) (x : ℕ) (b : Bool) → x < 72 → b ≡ is_nobody (port_at m x).reader →
    (is_nobody (port_at m x).reader && not (is_share_port x)) ≡ b
own_test m x b h f =
    ap (λ (c : Bool). is_nobody (port_at m x).reader && not c) (lt-leb 72 x h) ∙ and_yes (is_nobody (port_at m x).reader) ∙ sym f
  where
    and_yes : (b : Bool) → b && true ≡ b
    and_yes true = refl
    and_yes false = refl

pub close_free : (m : Machine) (x : ℕ) (b : Bool) → x < 72 → b ≡ is_nobody (port_at m x).reader → b ≡ true → free_port x m ≡ close_to x m
close_free m x b h f t =
    first_case (is_nobody (port_at m x).reader && not (is_share_port x)) (free_port x m) (set_port x (closed_now (port_at m x)) m) (own_test m x b h f ∙ t)

pub close_kept : (m : Machine) (x : ℕ) (b : Bool) → x < 72 → b ≡ is_nobody (port_at m x).reader → b ≡ false →
    set_port x (closed_now (port_at m x)) m ≡ close_to x m
close_kept m x b h f t =
    last_case (is_nobody (port_at m x).reader && not (is_share_port x)) (free_port x m) (set_port x (closed_now (port_at m x)) m) (own_test m x b h f ∙ t)

-- Pushing

-- what a push leaves, by whether there is a place
abbrev push_if : Bool → Batch → ℕ → Machine → Machine
push_if c b x m =
    let q = queue_at m x in
    with_fault (m.fault || not c) (set_queue x (if c then q ++ b ∷ [] else q) (set_port x (marked (port_at m x)) m))

push_place : (m : Machine) (x : ℕ) (b : Batch) (c : Bool) → has_place x (queue_at m x) ≡ c → push_if c b x m ≡ push_to b x m
push_place m x b c e = ap (λ (d : Bool). push_if d b x m) (sym e)

-- there is a place
push_put : (m : Machine) (x : ℕ) (b : Batch) → has_place x (queue_at m x) ≡ true → set_queue x (queue_at m x ++ b ∷ []) (set_port x (marked (port_at m x)) m)
    ≡ push_to b x m
push_put m x b e =
    ap (λ (d : Bool). with_fault d (set_queue x (queue_at m x ++ b ∷ []) (set_port x (marked (port_at m x)) m))) (sym (or-false m.fault))
    ∙ push_place m x b true e

-- a slot's port with room for it
pub push_own : (m : Machine) (x : ℕ) (b : Batch) → x < 72 → length (queue_at m x) < capacity →
    set_queue x (appended capacity b (queue_at m x)) (set_port x (marked (port_at m x)) m) ≡ push_to b x m
push_own m x b h k =
    ap (λ (q : List Batch). set_queue x q (set_port x (marked (port_at m x)) m))
    (sym (chosen (ltb (length (queue_at m x)) capacity) (queue_at m x ++ b ∷ []) (queue_at m x) (lt-ltb (length (queue_at m x)) capacity k)))
    ∙ push_put m x b (ap (λ (c : Bool). is_empty (queue_at m x) || not c) (lt-leb 72 x h) ∙ or-true (is_empty (queue_at m x)))

-- whether a shared port has a place
share_place : (x : ℕ) (q : List Batch) (c : Bool) → 72 ≤ x → is_empty q ≡ c → has_place x q ≡ c
share_place x q c h e = ap (λ (d : Bool). is_empty q || not d) (le-leb 72 x h) ∙ or-false (is_empty q) ∙ e

nothing : (q : List Batch) (b : Batch) → is_empty q ≡ true → q ++ b ∷ [] ≡ b ∷ []
unfolding is_empty
nothing [] b e = refl
nothing (c ∷ q) b e = clash (cc)

-- a shared port that was empty, and one that was not
pub push_empty : (m : Machine) (x : ℕ) (b : Batch) (f : Bool) → 72 ≤ x → f ≡ not (is_empty (queue_at m x)) → f ≡ false →
    set_queue x (b ∷ []) (set_port x (marked (port_at m x)) m) ≡ push_to b x m
push_empty m x b f h e t =
    let i : is_empty (queue_at m x) ≡ true = not-false (is_empty (queue_at m x)) (sym e ∙ t) in
    ap (λ (q : List Batch). set_queue x q (set_port x (marked (port_at m x)) m)) (sym (nothing (queue_at m x) b i))
    ∙ push_put m x b (share_place x (queue_at m x) true h i)

-- a queue that is put back
own_queue : (m : Machine) (x : ℕ) → x < length m.queues → m ≡ set_queue x (queue_at m x) m
own_queue m x h = ap (λ (q : List (List Batch)). with_queues q m) (sym (put_own [] m.queues x h))

pub push_full : (m : Machine) (x : ℕ) (b : Batch) (f : Bool) → 72 ≤ x → x < length m.queues → f ≡ not (is_empty (queue_at m x)) → f ≡ true
    → with_fault true (set_port x (marked (port_at m x)) m) ≡ push_to b x m
push_full m x b f h k e t =
    let i : is_empty (queue_at m x) ≡ false = not-true (is_empty (queue_at m x)) (sym e ∙ t) in
    let n = set_port x (marked (port_at m x)) m in
    ap (with_fault true) (own_queue n x k)
    ∙ ap (λ (d : Bool). with_fault d (set_queue x (queue_at m x) n)) (sym (or-true m.fault))
    ∙ push_place m x b false (share_place x (queue_at m x) false h i)
