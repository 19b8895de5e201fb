-- Bytes of ports that are all 0: no port of them is in use, and nothing waits in one.
use Rattle.std.specs.Prelude.{ℕ, ◌+◌, ◌*◌, ◌-◌, ◌≤◌, ◌<◌, ◌≡◌, true, List, [], get_or, take, drop}
use native.Mathlib.Omega.{arith}
use Rattle.std.proofs.Math.Path.{refl}
use Rattle.std.proofs.Common.{sym, ap, ◌∙◌, get_or-take, get_or-drop}
use Rattle.rules.specs.Port.{capacity}
use Rattle.rules.specs.Machine.{Machine, no_port, port_at, queue_at}
use Rattle.queue.specs.Ring.{ring}
use Rattle.queue.specs.Queue.{held}
use Rattle.layout.specs.Blank.{blank, blank_byte}
use Rattle.tables.specs.Decode.{reader_from}
use Rattle.tables.specs.View.{ring_of, share_from, view, Sized}
use Rattle.tables.specs.Loaded.{port_loaded}
use Rattle.tables.specs.Queues.{share_loaded}
use Rattle.table_ports.specs.Moves.{two_bytes, queue_is}

-- the n ports from x on are not in use
abbrev pub NoPorts : Machine → ℕ → ℕ → Type 0
NoPorts m x n = (k : ℕ) → x ≤ k → k < x + n → port_at m k ≡ no_port

-- nothing waits in them
abbrev pub Idle : Machine → ℕ → ℕ → Type 0
Idle m x n = (k : ℕ) → x ≤ k → k < x + n → queue_at m k ≡ []

-- a byte of a part that is lent by its ends
byte_zero : (s : List ℕ) (a n : ℕ) → blank (take (a + n - a) (drop a s)) ≡ true → (i : ℕ) → a ≤ i → i < a + n → get_or s i 0 ≡ 0
byte_zero s a n e i l h =
    let q : a + (i - a) ≡ i = omega arith in
    ap (λ (j : ℕ). get_or s j 0) (sym q)
    ∙ sym (get_or-take (a + n - a) (drop a s) (i - a) 0 (omega arith) ∙ get_or-drop a s (i - a) 0)
    ∙ blank_byte (take (a + n - a) (drop a s)) (i - a) e

module _ (s : List ℕ) (z : Sized s) (x n : ℕ) where
  pub ports_blank : x + n ≤ 456 → blank (take (14751 + x * 6 + n * 6 - (14751 + x * 6)) (drop (14751 + x * 6) s)) ≡ true → NoPorts (view s) x n
  unfolding reader_from
  ports_blank b e k l h =
      let zero-at = byte_zero s (14751 + x * 6) (n * 6) e in
      port_loaded s z k (omega arith)
      ∙ rw (
        zero-at (14751 + k * 6) (omega arith) (omega arith),
        zero-at (14751 + k * 6 + 1) (omega arith) (omega arith),
        zero-at (14751 + k * 6 + 2) (omega arith) (omega arith),
        zero-at (14751 + k * 6 + 3) (omega arith) (omega arith),
      )

  pub rings_blank : x + n ≤ 72 → blank (take (17487 + x * 2 + n * 2 - (17487 + x * 2)) (drop (17487 + x * 2) s)) ≡ true → Idle (view s) x n
  unfolding held ring
  rings_blank b e k l h =
      let zero-at = byte_zero s (17487 + x * 2) (n * 2) e in
      queue_is s z k (omega arith) (ring_of capacity (take 2 (drop (17487 + k * 2) s))) refl
      ∙ rw (
        two_bytes s (17487 + k * 2) (omega arith),
        zero-at (17487 + k * 2) (omega arith) (omega arith),
        zero-at (17487 + k * 2 + 1) (omega arith) (omega arith),
      )

  pub shares_blank : 72 ≤ x → x + n ≤ 456 → blank (take (17631 + (x - 72) + n - (17631 + (x - 72))) (drop (17631 + (x - 72)) s)) ≡ true → Idle (view s) x n
  unfolding share_from
  shares_blank a b e k l h =
      let q : 72 + (k - 72) ≡ k = omega arith in
      let zero-at = byte_zero s (17631 + (x - 72)) n e (17631 + (k - 72)) (omega arith) (omega arith) in
      rw (q, zero-at) at (share_loaded s z (k - 72) (omega arith))
