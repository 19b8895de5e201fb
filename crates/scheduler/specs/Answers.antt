-- What each answer is, in the terms of document 01, and what each call promises of any bytes.
use Rattle.std.specs.Prelude as code
use Rattle.std.specs.Prelude.{◌≡◌, ◌⊎◌, Bool, true, false, Ok, Err, List, ℕ, ◌≤◌, ◌<◌, length, take, drop, replicate, leb}
use Rattle.std.proofs.Math.Option.{Option, none, some}
use Rattle.rules.specs.Job.{labels}
use Rattle.rules.specs.Machine.{Machine}
use Rattle.rules.specs.Scan as rule
use Rattle.batches.specs.Batch.{batch_of}
use Rattle.tables.specs.View.{view, machine_len, state_len, Published, labels_at}
use Rattle.tables.specs.Lent.{lent_fault}
use Rattle.table_blank.specs.Labels.{Labelled}
use Rattle.turn.specs.Told.{Answer as Turn}
use Rattle.turn.specs.declared.Turn.TheVariants as turn
use Rattle.jobs.specs.Refusal.{Verdict, number_of, index_of, judged}
use Rattle.jobs.specs.declared.refusal.Refusal.{Refusal}
use Rattle.jobs.specs.declared.refusal.Refusal.TheVariants.{StateTooShort}

-- "A step answers Read (read number, segment), Output (split, rows, and for each column a segment and first row), Waiting or Done", or is
-- refused by its number
abbrev pub turn_of : Turn → Machine → rule.Answer rule.Turn
turn_of (turn.Read r g) m = rule.says (rule.read r g) m
turn_of (turn.Output s b) m = rule.says (rule.output s (batch_of b)) m
turn_of turn.Waiting m = rule.says rule.waits m
turn_of turn.Done m = rule.says rule.done m
turn_of (turn.Refused r) m = rule.refuses (number_of r) m

-- what a step tries has its answer, or an inner action was done
abbrev pub inner_of : code.Option Turn → Machine → rule.Inner
inner_of code.None m = rule.more m
inner_of (code.Some t) m = rule.answers (turn_of t m)

-- a delivery is accepted, or refused by its number
abbrev pub delivered_of : Verdict → Machine → rule.Answer rule.Delivered
delivered_of (Ok u) m = rule.says rule.ok m
delivered_of (Err r) m = rule.refuses (number_of r) m

-- the machine is zero
abbrev pub NoMachine : List ℕ → Type 0
NoMachine t = take machine_len t ≡ replicate machine_len 0

-- "state all zero"
abbrev pub AllZero : List ℕ → Type 0
AllZero t = take state_len t ≡ replicate state_len 0

-- a refusal of a state in order is 13 or 14, and leaves no machine
abbrev pub Zeroes : Turn → List ℕ → Type 0
Zeroes (turn.Read r g) t = Unit {0}
Zeroes (turn.Output s b) t = Unit {0}
Zeroes turn.Waiting t = Unit {0}
Zeroes turn.Done t = Unit {0}
Zeroes (turn.Refused r) t = (13 ≤ number_of r) × NoMachine t

abbrev pub ZeroesInner : code.Option Turn → List ℕ → Type 0
ZeroesInner code.None t = Unit {0}
ZeroesInner (code.Some x) t = Zeroes x t

abbrev pub Fails : Verdict → List ℕ → Type 0
Fails (Ok u) t = Unit {0}
Fails (Err r) t = (13 ≤ number_of r) × NoMachine t

-- a refusal below 13 leaves the bytes as they were, 14 leaves no machine
abbrev pub Leaves : ℕ → List ℕ → List ℕ → Type 0
Leaves n s t = ((0 < n) × (n ≤ 12) × (t ≡ s)) ⊎ ((13 ≤ n) × NoMachine t)

-- a turn after which nothing is left
abbrev pub is_last : Turn → Bool
is_last (turn.Read r g) = false
is_last (turn.Output s b) = false
is_last turn.Waiting = false
is_last turn.Done = false
is_last (turn.Refused r) = leb 13 (number_of r)

-- the numbers behind the machine go with it
abbrev pub Clears : Bool → List ℕ → List ℕ → Type 0
Clears true s t = Labelled (replicate 24 0) s t
Clears false s t = t ≡ s

abbrev pub Delivering : List ℕ → Verdict → List ℕ → Type 0
Delivering s (Ok u) t = Unit {0}
Delivering s (Err r) t = Leaves (number_of r) s t

-- a turn that is refused by this number
abbrev pub RefusedBy : Turn → ℕ → Type 0
RefusedBy x n = (q : Refusal) × (x ≡ turn.Refused q) × (number_of q ≡ n)

-- A step or a delivery on any bytes s, with its answer and the bytes t that it leaves, where `rules` is what the rules answer: the table's rows
pub record Turns (rules : Machine → rule.Answer rule.Turn) (s : List ℕ) (r : Turn) (t : List ℕ) : Type 0 where
  -- "lent state shorter than the published length", and numbers behind the machine that are out of their range
  pub lent : (n : ℕ) → lent_fault s ≡ some n → RefusedBy r n × (t ≡ s)
  -- else the answer and the state after are the rule's
  pub is : lent_fault s ≡ none → turn_of r (view t) ≡ rules (view s)
  -- "State bytes past the published length are never changed."
  pub size : length t ≡ length s
  pub past : drop state_len t ≡ drop state_len s
  -- 1, 10, 11 and 12: "Left as it was" is "state"
  pub kept : (q : Refusal) → r ≡ turn.Refused q → number_of q ≤ 12 → t ≡ s
  -- 13 and 14: "nothing: state all zero"
  pub zero : (q : Refusal) → r ≡ turn.Refused q → 13 ≤ number_of q → AllZero t
  -- the numbers of the nodes stay
  pub labels : is_last r ≡ false → labels_at t ≡ labels_at s
  -- the table's numbers begin with 1
  pub number : (q : Refusal) → r ≡ turn.Refused q → 0 < number_of q

abbrev pub Steps : List ℕ → Turn → List ℕ → Type 0
Steps s r t = Turns rule.step s r t

-- "a delivery that is accepted goes on with a step and returns its turn"
abbrev pub Delivers : ℕ → ℕ → List ℕ → Turn → List ℕ → Type 0
Delivers read rows s r t = Turns (rule.deliver read rows) s r t

-- by which numbers an opening is refused: "Number 9 is no longer returned", and the index of one of a split's 16 runs stands beside 17 to 19
abbrev pub Numbered : Option ℕ → ℕ → Type 0
Numbered none n = (1 ≤ n) × (n ≤ 8)
Numbered (some i) n = (17 ≤ n) × (n ≤ 19) × (i < 16)

abbrev pub Numbers : Verdict → Type 0
Numbers (Ok u) = Unit {0}
Numbers (Err r) = Numbered (index_of r) (number_of r)

-- the same of an opening, whose refusals all leave the state
pub record Opens (job s : List ℕ) (r : Verdict) (t : List ℕ) : Type 0 where
  pub short : length s < state_len → (r ≡ Err StateTooShort) × (t ≡ s)
  pub is : Published s → rule.«open» job ≡ judged r (view t)
  pub size : length t ≡ length s
  pub past : drop state_len t ≡ drop state_len s
  pub kept : (q : Refusal) → r ≡ Err q → t ≡ s
  -- each node has its number in job order
  pub labels : r ≡ Ok tt → labels_at t ≡ labels job
  -- and its bytes are without a fault
  pub ready : r ≡ Ok tt → lent_fault t ≡ none
  pub numbers : Numbers r
