-- Document 01, "Sessions", with document 02 (m) and (h): from the bytes of standard input to the bytes that `turns` prints.
use Rattle.std.specs.Prelude.{Bool, true, false, ◌||◌, ℕ, zero, suc, ◌+◌, ◌-◌, ◌/◌, ◌%◌, length, take, drop, ltb, if◌then◌else◌}
use mathlib.Core.List.{List, [], ◌∷◌, ◌++◌, flat_map}
use Rattle.std.proofs.Math.Option.{none, some}
use Rattle.rules.specs.Text.{ascii}
use Rattle.rules.specs.Job.{Refusal, Outcome, refused_by, accepted, Parser, ◌>>=◌, give, is_mark, word, next_record}
use Rattle.rules.specs.Plan.{Cell}
use Rattle.rules.specs.Port.{Batch}
use Rattle.rules.specs.Machine.{Machine}
use Rattle.rules.specs.Scan.{Turn, read, output, waits, done, Answer, says, refuses, «open», step, deliver}

-- Lines

-- the digits of a number, at most as many as the first number says
unfoldable pub digits : ℕ → ℕ → List ℕ → List ℕ
digits zero n after = after
digits (suc f) n after = elim (ltb n 10) [ true ↦ (48 + n) ∷ after | false ↦ digits f (n / 10) ((48 + n % 10) ∷ after) ]

abbrev pub decimal : ℕ → List ℕ
decimal n = digits 10 n []

abbrev pub space : List ℕ
space = ascii " "

-- "`out` split rows segment:first per column"
abbrev pub column : Cell → List ℕ
column c = space ++ decimal c.segment ++ ascii ":" ++ decimal c.row

abbrev pub out_line : ℕ → Batch → List ℕ
out_line s b = ascii "out " ++ decimal s ++ space ++ decimal b.rows ++ flat_map column b.cells

-- "`read` number segment"
abbrev pub read_line : ℕ → ℕ → List ℕ
read_line r g = ascii "read " ++ decimal r ++ space ++ decimal g

-- "`no` and a refusal"
abbrev pub no_line : ℕ → List ℕ
no_line n = ascii "no " ++ decimal n

-- 02 (h): "`turns` prints it after the number", the run's index
abbrev pub refusal_line : Refusal → List ℕ
refusal_line r = elim r.index [ none ↦ no_line r.number | some i ↦ no_line r.number ++ space ++ decimal i ]

-- "`wait`; `done`"
unfoldable pub turn_line : Turn → List ℕ
turn_line (read r g) = read_line r g
turn_line (output s b) = out_line s b
turn_line waits = ascii "wait"
turn_line done = ascii "done"

abbrev pub open_line : List ℕ
open_line = ascii "open"

abbrev pub ended : List ℕ → List ℕ
ended l = l ++ ascii "\n"

-- Calls

-- "then calls: `ST` a step, `DL` read, rows"
pub data Call : Type 0 where
  ST : Call
  DL : ℕ → ℕ → Call

abbrev pub delivery_fields : Parser Call
delivery_fields = do
  r ← word
  n ← word
  give (DL r n)

-- the call at the front and what is left; none: "a call mark that is unknown or cut short"
unfoldable pub next_call : Parser Call
next_call [] = none
next_call (a ∷ []) = none
next_call (a ∷ b ∷ rest) =
    if is_mark a b (83, 84) then give ST rest
    else if is_mark a b (68, 76) then delivery_fields rest
    else none

-- what is printed for an answer, and the state that it leaves
abbrev pub printed : Answer Turn → List ℕ × Machine
printed (says t m) = (ended (turn_line t), m)
printed (refuses n m) = (ended (no_line n), m)

-- "`turns` prints that turn's line in place of `ok`": a delivery's as a step's
unfoldable pub answer : Call → Machine → List ℕ × Machine
answer ST m = printed (step m)
answer (DL r n) m = printed (deliver r n m)

-- "a call mark that is unknown or cut short (printed as `no 2`), ends the session"; each call takes some bytes
unfoldable pub calls : ℕ → List ℕ → Machine → List ℕ
calls zero bytes m = []
calls (suc f) [] m = []
calls (suc f) (b ∷ bs) m =
    elim (next_call (b ∷ bs)) [ none ↦ ended (no_line 2) | some c ↦ let a = answer c.0 m in a.0 ++ calls f c.1 a.1 ]

-- The job's end

abbrev pub is_call : ℕ → ℕ → Bool
is_call a b = is_mark a b (83, 84) || is_mark a b (68, 76)

unfoldable pub at_call : List ℕ → Bool
at_call [] = true
at_call (a ∷ []) = false
at_call (a ∷ b ∷ rest) = is_call a b

-- "The job ends at the first of these two marks where a record could begin, or with the input": how many bytes are behind it
unfoldable pub behind_job : ℕ → List ℕ → ℕ
behind_job zero bytes = length bytes
behind_job (suc f) bytes =
    elim (at_call bytes) [ true ↦ length bytes | false ↦ elim (next_record bytes) [ none ↦ 0 | some r ↦ behind_job f r.1 ] ]

-- "It prints `open`, or `no` and the number of a refused opening, then for each call …"
unfoldable pub opened : Outcome Machine → List ℕ → List ℕ
opened (refused_by r) bytes = ended (refusal_line r)
opened (accepted m) bytes = ended open_line ++ calls (length bytes) bytes m

unfoldable pub session : List ℕ → List ℕ
session input =
    let n = length input - behind_job (length input) input in
    opened («open» (take n input)) (drop n input)
