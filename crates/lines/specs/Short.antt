-- No line is long: a number has at most ten digits, a batch at most four columns.
use Rattle.std.specs.Prelude.{◌≡◌, refl, Bool, true, false, ℕ, zero, suc, ◌+◌, ◌*◌, ◌/◌, ◌%◌, ◌≤◌, length, take, ltb, Option, None, Some, Ok, Err}
use mathlib.Core.List.{List, [], ◌∷◌, ◌++◌, flat_map}
use Rattle.std.proofs.Common.{arith, length-append, length-take}
use Rattle.numbers.specs.Opt.{option_of}
use Rattle.rules.specs.Plan.{Cell}
use Rattle.rules.specs.Session.{digits, decimal, column, space, no_line, refusal_line, turn_line, ended}
use Rattle.batches.specs.declared.batch.Batch.{Batch}
use Rattle.batches.specs.Cells.{cells_of}
use Rattle.turn.specs.declared.Turn.TheVariants as turn
use Rattle.turn.specs.declared.Told.{Told}
use Rattle.turn.specs.Told.{ToldVerdict, says}
use Rattle.lines.specs.Lines.{turn_text, opened_text}

digits_step : (f n : ℕ) (l : List ℕ) (b : Bool) → ltb n 10 ≡ b → ((m : ℕ) (k : List ℕ) → length (digits f m k) ≤ f + length k)
    → length (digits (suc f) n l) ≤ suc f + length l
unfolding digits
digits_step f n l true e ih = rw (digits, e) (omega arith)
digits_step f n l false e ih = rw (digits, e) (let h = ih (n / 10) ((48 + n % 10) ∷ l) in omega arith)

digits_few : (f n : ℕ) (l : List ℕ) → length (digits f n l) ≤ f + length l
unfolding digits
digits_few zero n l = omega arith
digits_few (suc f) n l = digits_step f n l (ltb n 10) refl (digits_few f)

pub decimal_few : (n : ℕ) → length (decimal n) ≤ 10
decimal_few n = digits_few 10 n []

column_few : (c : Cell) → length (column c) ≤ 22
column_few c = simp length-append (let h = decimal_few c.segment in let k = decimal_few c.row in omega arith)

columns_few : (cs : List Cell) → length (flat_map column cs) ≤ 22 * length cs
unfolding flat_map
columns_few [] = omega arith
columns_few (c ∷ cs) = omega (arith, length-append (column c) (flat_map column cs), column_few c, columns_few cs)

cells_few : (ss fs : List ℕ) → length (cells_of ss fs) ≤ length ss
unfolding cells_of
cells_few [] fs = omega arith
cells_few (s ∷ ss) [] = omega arith
cells_few (s ∷ ss) (f ∷ fs) = let h = cells_few ss fs in omega arith

pub no_short : (n : ℕ) → length (ended (no_line n)) ≤ 128
no_short n = let h = decimal_few n in simp length-append (omega arith)

pub read_short : (r g : ℕ) → length (turn_text (turn.Read r g)) ≤ 128
unfolding turn_line
read_short r g = let h = decimal_few r in let k = decimal_few g in simp length-append (omega arith)

pub out_short : (s : ℕ) (b : Batch) → length b.segment ≡ 4 → length (turn_text (turn.Output s b)) ≤ 128
unfolding turn_line
out_short s b e =
    let h = decimal_few s in
    let k = decimal_few b.rows in
    let m = columns_few (cells_of (take b.width b.segment) (take b.width b.first)) in
    let n = cells_few (take b.width b.segment) (take b.width b.first) in
    let l = length-take b.width b.segment in
    simp length-append (omega arith)

-- an opening's
run_short : (n i : ℕ) → length (ended (no_line n ++ space ++ decimal i)) ≤ 128
run_short n i = let h = decimal_few n in let k = decimal_few i in simp length-append (omega arith)

refused_by : (n : ℕ) (o : Option ℕ) → length (ended (refusal_line (record { number = n; index = option_of o }))) ≤ 128
refused_by n None = no_short n
refused_by n (Some i) = run_short n i

refused_short : (t : Told) → length (ended (refusal_line (says t))) ≤ 128
refused_short t = refused_by t.number t.run

pub opened_short : (v : ToldVerdict) → length (opened_text v) ≤ 128
opened_short (Ok u) = omega arith
opened_short (Err t) = refused_short t
