-- A read is asked for.
use Rattle.std.specs.Prelude.{◌≡◌, true, false, ℕ, ◌≤◌, ◌<◌, length}
use Rattle.std.proofs.Math.Option.{some}
use Rattle.std.proofs.Common.{arith, lt-ltb, le-leb}
use Rattle.std.proofs.lemmas.Bool.{lt-leb}
use Rattle.rules.specs.Plan.{first_leaf}
use Rattle.rules.specs.Machine.{Machine, node_at_place, with_reads, with_news, fault_if}
use Rattle.rules.specs.Drive.{ask}
use Rattle.tables.specs.Rings.{appended}

-- as many reads as nodes
pub ask_full : (m n : Machine) (p k : ℕ) → k ≡ length m.reads → 24 ≤ k → n ≡ fault_if true m → n ≡ ask p m
unfolding ask
ask_full m n p k e h q = rw (le-leb 24 (length m.reads) (omega arith), ask) q

-- one more
pub ask_is : (m m₁ m₂ : Machine) (p k l : ℕ) → k ≡ length m.reads → k < 24 → length m.news < 24 → l ≡ first_leaf m.job (node_at_place p)
    → m₁ ≡ with_reads (appended 24 (record { leaf = l; owner = some p; delivered = false }) m.reads) m → m₂ ≡ with_news (appended 24 k m₁.news) m₁ →
    m₂ ≡ ask p m
unfolding ask
ask_is m m₁ m₂ p k l e h n f q t =
    rw (t, q, e, f, lt-ltb (length m.reads) 24 (omega arith), lt-ltb (length m.news) 24 n, lt-leb 24 (length m.reads) (omega arith), ask)
