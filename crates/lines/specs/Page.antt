-- Text put into lent bytes, as far as it fits.
use Rattle.std.specs.Prelude.{Bool, true, false, List, [], ◌∷◌, ℕ, ◌+◌, length, set, ltb}
use Rattle.lines.specs.declared.page.Written.{Written}

-- lent bytes, how many of them hold the text's front, and whether that is the whole text
pub record Page : Type 0 where
  pub out : List ℕ
  pub len : ℕ
  pub whole : Bool

-- lent bytes with what the code says of them
unfoldable pub page : List ℕ → Written → Page
page o w = record { out = o; len = w.len; whole = w.whole }

-- one byte more
unfoldable pub put : ℕ → Page → Page
put b p =
    elim (ltb p.len (length p.out)) [
      | true ↦ record { out = set p.out p.len b; len = p.len + 1; whole = p.whole }
      | false ↦ record { out = p.out; len = p.len; whole = false }
    ]

-- some bytes more
unfoldable pub puts : List ℕ → Page → Page
puts [] p = p
puts (b ∷ bs) p = puts bs (put b p)
