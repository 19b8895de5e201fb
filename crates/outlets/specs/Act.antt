-- What is done to each shared port that a pipeline writes.
use Rattle.std.specs.Prelude.{◌≡◌, refl, Bool, true, false, not, List, [], ◌∷◌, ℕ, zero, suc, ◌+◌, ◌-◌, ◌/◌, ◌≤◌, ◌<◌, length}
use Rattle.std.proofs.Common.{sym, ap, ◌∙◌, arith}
use Rattle.std.proofs.lemmas.Bool.{not-true, not-false}
use Rattle.rules.specs.Table.{filter, up_from}
use Rattle.rules.specs.Port.{Batch}
use Rattle.rules.specs.Machine.{Machine, port_at}
use Rattle.rules.specs.Ports.{marked, closed_now, push_to, push_each, close_to, close_each}
use Rattle.rules.specs.Wake.{pass_mark, pass_marks}
use Rattle.laws.specs.Table.{by_bool}
use Rattle.laws.specs.Rows.{All}
use Rattle.order.specs.RangeParts.{Fits}
use Rattle.order.specs.RangeWake.{pass_woken, port_woken}
use Rattle.order.specs.Still.{passes_still}
use Rattle.order.specs.Tally.{filter_same}
use Rattle.table_ports.specs.Shares.{whole_batch}
use Rattle.waking.specs.Choice.{cases, first_case, last_case}
use Rattle.waking.specs.Tells.{Tells}
use Rattle.outlets.specs.declared.act.Act.{Act}
use Rattle.outlets.specs.declared.act.Act.TheVariants.{Push, Close, Pass}
use Rattle.outlets.specs.Outlet.{is_outlet, outlet_same}
use Rattle.outlets.specs.Close.{close_share}

-- to one port: a shared port takes the whole segment of its leaf
unfoldable pub act_on : Act → ℕ → Machine → Machine
act_on Push x m = push_to (whole_batch m.job ((x - 72) / 16)) x m
act_on Close x m = close_to x m
act_on Pass x m = pass_mark x m

-- to all of a list
unfoldable pub act_each : Act → List ℕ → Machine → Machine
act_each a [] m = m
act_each a (x ∷ xs) m = act_each a xs (act_on a x m)

-- what must hold of a port
abbrev pub CanAct : Act → Machine → ℕ → Type 0
CanAct Push m x = Unit {0}
CanAct Close m x = Unit {0}
CanAct Pass m x = Tells m x

-- and of the machine
abbrev pub Able : Act → Machine → Type 0
Able Push m = Unit {0}
Able Close m = Unit {0}
Able Pass m = Fits m × (length m.dirty < 3)

-- one port, if the pipeline at p writes it
unfoldable pub turn : Act → ℕ → ℕ → Machine → Machine
turn a p x m = cases (is_outlet m p x) (act_on a x m) m

-- of the test r
pub turn_not : (a : Act) (p x : ℕ) (m : Machine) (r : Bool) → r ≡ is_outlet m p x → not r ≡ true → m ≡ turn a p x m
unfolding turn
turn_not a p x m r e h = last_case (is_outlet m p x) (act_on a x m) m (sym e ∙ not-true r h)

pub turn_yes : (a : Act) (p x : ℕ) (m : Machine) (r : Bool) → r ≡ is_outlet m p x → not r ≡ false → act_on a x m ≡ turn a p x m
unfolding turn
turn_yes a p x m r e h = first_case (is_outlet m p x) (act_on a x m) m (sym e ∙ not-false r h)

-- what a is
pub did_push : (a : Act) (x : ℕ) (m : Machine) → a ≡ Push → push_to (whole_batch m.job ((x - 72) / 16)) x m ≡ act_on a x m
unfolding act_on
did_push a x m e = ap (λ (b : Act). act_on b x m) (sym e)

pub did_close : (a : Act) (x : ℕ) (m : Machine) → a ≡ Close → close_to x m ≡ act_on a x m
unfolding act_on
did_close a x m e = ap (λ (b : Act). act_on b x m) (sym e)

pub did_pass : (a : Act) (x : ℕ) (m : Machine) → a ≡ Pass → pass_mark x m ≡ act_on a x m
unfolding act_on
did_pass a x m e = ap (λ (b : Act). act_on b x m) (sym e)

pub can_pass : (a : Act) (x : ℕ) (m : Machine) → a ≡ Pass → CanAct a m x → Tells m x
can_pass a x m e h = rw e at h

-- n ports from x on
unfoldable pub sweep : Act → ℕ → ℕ → ℕ → Machine → Machine
sweep a p zero x m = m
sweep a p (suc n) x m = sweep a p n (suc x) (turn a p x m)

-- the next port
pub sweep_next : (a : Act) (p n k x y : ℕ) (m : Machine) → n ≡ suc k → y ≡ suc x → sweep a p n x m ≡ sweep a p k y (turn a p x m)
unfolding sweep
sweep_next a p n k x y m e f = rw (e, f) refl

-- no port left
pub sweep_end : (a : Act) (p n x : ℕ) (m : Machine) → n ≡ 0 → sweep a p n x m ≡ m
unfolding sweep
sweep_end a p n x m e = rw e refl

-- some ports, then others
pub sweep_join : (a : Act) (p i n k x y : ℕ) (m : Machine) → n ≡ i + k → y ≡ x + i → sweep a p n x m ≡ sweep a p k y (sweep a p i x m)
unfolding sweep
sweep_join a p zero n k x y m e f = let g : n ≡ k = omega arith in let h : y ≡ x = omega arith in rw (g, h) refl
sweep_join a p (suc i) n k x y m e f =
    let g : n ≡ suc (i + k) = omega arith in
    rw g (sweep_join a p i (i + k) k (suc x) y (turn a p x m) refl (omega arith))

-- ports that the pipeline does not write
pub sweep_none : (a : Act) (p n x : ℕ) (m : Machine) → ((y : ℕ) → x ≤ y → y < x + n → is_outlet m p y ≡ false) → m ≡ sweep a p n x m
unfolding sweep turn
sweep_none a p zero x m h = refl
sweep_none a p (suc n) x m h =
    sweep_none a p n (suc x) m (λ y i j. h y (omega arith) (omega arith))
    ∙ ap (sweep a p n (suc x)) (last_case (is_outlet m p x) (act_on a x m) m (h x (omega arith) (omega arith)))

-- Which ports a pipeline writes stays

act_same : (a : Act) (m : Machine) (p x y : ℕ) → 72 ≤ x → is_outlet (act_on a x m) p y ≡ is_outlet m p y
unfolding act_on pass_marks
act_same Push m p x y h = outlet_same m (push_to (whole_batch m.job ((x - 72) / 16)) x m) p y refl ((port_woken m x (marked (port_at m x)) refl).there y)
act_same Close m p x y h = rw (← (close_share m x h)) (outlet_same m _ p y refl ((port_woken m x (closed_now (port_at m x)) refl).there y))
act_same Pass m p x y h = outlet_same m (pass_mark x m) p y (passes_still (x ∷ []) m).job ((pass_woken m x).there y)

-- A sweep does what is to be done to each

sweep_more : (a : Act) (p n x : ℕ) (m : Machine) → 72 ≤ x → ((k : Machine) → sweep a p n (suc x) k ≡ act_each a (filter (is_outlet k p) (up_from (suc x) n)) k)
    → sweep a p (suc n) x m ≡ act_each a (filter (is_outlet m p) (up_from x (suc n))) m
unfolding sweep turn filter up_from act_each
sweep_more a p n x m h ih =
    let k = act_on a x m in
    let rest = up_from (suc x) n in
    by_bool (is_outlet m p x)
    (λ e.
    ap (sweep a p n (suc x)) (sym (first_case (is_outlet m p x) k m e))
    ∙ ih k
    ∙ ap (λ (l : List ℕ). act_each a l k) (filter_same (is_outlet k p) (is_outlet m p) rest (λ y. act_same a m p x y h))
    ∙ ap (λ (l : List ℕ). act_each a l m) (first_case (is_outlet m p x) (x ∷ filter (is_outlet m p) rest) (filter (is_outlet m p) rest) e))
    (λ e.
    ap (sweep a p n (suc x)) (sym (last_case (is_outlet m p x) k m e))
    ∙ ih m
    ∙ ap (λ (l : List ℕ). act_each a l m) (last_case (is_outlet m p x) (x ∷ filter (is_outlet m p) rest) (filter (is_outlet m p) rest) e))

pub sweep_is : (a : Act) (p n x : ℕ) (m : Machine) → 72 ≤ x → sweep a p n x m ≡ act_each a (filter (is_outlet m p) (up_from x n)) m
unfolding sweep filter up_from act_each
sweep_is a p zero x m h = refl
sweep_is a p (suc n) x m h = sweep_more a p n x m h (λ k. sweep_is a p n (suc x) k (omega arith))

-- The rules

-- the ports take a batch that is the whole segment of each
pub each_push : (b : Batch) (xs : List ℕ) (m : Machine) → All (λ x. whole_batch m.job ((x - 72) / 16) ≡ b) xs → act_each Push xs m ≡ push_each b xs m
unfolding act_each act_on push_each
each_push b [] m h = refl
each_push b (x ∷ xs) m h = ap (λ (c : Batch). act_each Push xs (push_to c x m)) h.0 ∙ each_push b xs (push_to b x m) h.1

pub each_close : (xs : List ℕ) (m : Machine) → act_each Close xs m ≡ close_each xs m
unfolding act_each act_on close_each
each_close [] m = refl
each_close (x ∷ xs) m = each_close xs (close_to x m)

pub each_pass : (xs : List ℕ) (m : Machine) → act_each Pass xs m ≡ pass_marks xs m
unfolding act_each act_on pass_marks
each_pass [] m = refl
each_pass (x ∷ xs) m = each_pass xs (pass_mark x m)
