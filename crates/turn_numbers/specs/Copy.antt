-- Numbers put over the first of others.
use Rattle.std.specs.Prelude.{List, ◌++◌, ℕ, length, drop}

abbrev pub over : List ℕ → List ℕ → List ℕ
over xs u = xs ++ drop (length xs) u
