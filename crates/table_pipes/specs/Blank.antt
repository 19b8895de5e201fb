-- Bytes of pipelines that are all 0: none of them lives.
use Rattle.std.specs.Prelude.{ℕ, ◌+◌, ◌*◌, ◌-◌, ◌≤◌, ◌<◌, ◌≡◌, true, false, List, get_or, take, drop}
use Rattle.std.proofs.Common.{arith, sym, ap, ◌∙◌, lt-ltb}
use Rattle.rules.specs.Machine.{Machine, Pipeline, live}
use Rattle.layout.specs.Blank.{blank, blank_byte}
use Rattle.layout.specs.Numbers.{flag}
use Rattle.layout.specs.Stored.{byte_at}
use Rattle.tables.specs.View.{view, Sized}
use Rattle.tables.specs.Loaded.{pipe_loaded}

-- no pipeline lives at the n places from p on
abbrev pub NoPipes : Machine → ℕ → ℕ → Type 0
NoPipes m p n = (k : ℕ) → p ≤ k → k < p + n → live m k ≡ false

pub pipes_blank : (s : List ℕ) → Sized s → (p n : ℕ) → p + n ≤ 96 → blank (take (3327 + p * 5 + n * 5 - (3327 + p * 5)) (drop (3327 + p * 5) s)) ≡ true
    → NoPipes (view s) p n
pipes_blank s z p n b e k l h =
    let size : ℕ = 3327 + p * 5 + n * 5 - (3327 + p * 5) in
    let at : 3327 + p * 5 + (k - p) * 5 ≡ 3327 + k * 5 = omega arith in
    let there = byte_at s (3327 + p * 5) size ((k - p) * 5) (lt-ltb ((k - p) * 5) size (omega arith)) in
    let zero_there : get_or s (3327 + k * 5) 0 ≡ 0 = rw (← at) (sym there ∙ blank_byte (take size (drop (3327 + p * 5) s)) ((k - p) * 5) e) in
    ap (λ (x : Pipeline). x.live) (pipe_loaded s z k (omega arith)) ∙ ap flag zero_there
