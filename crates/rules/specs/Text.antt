-- A text as its ASCII bytes.
use Rattle.std.specs.Prelude.{List, [] as nil, ◌∷◌ as cons, ℕ}
use Prim.Native.Char.{code}
use Prim.Native.String.{String, [], ◌∷◌}

abbrev pub ascii : String → List ℕ
ascii [] = nil
ascii (c ∷ s) = cons (code c) (ascii s)
