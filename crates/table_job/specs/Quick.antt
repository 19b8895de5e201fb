-- Fields of a record that are read one by one.
use Rattle.std.specs.Prelude.{◌≡◌, false, List, ◌≢◌, ℕ, ◌+◌, ◌*◌, ◌-◌, ◌≤◌, ◌<◌, length, get_or, take, drop, eqb}
use Rattle.std.proofs.Math.Path.{refl}
use Rattle.std.proofs.Common.{sym, ap, ◌∙◌, arith}
use Rattle.std.proofs.Math.Bool.{not}
use borrow.Author.Tests.{le-leb, lt-leb, eq-eqb, ne_eqb}
use Rattle.rules.specs.Table.{get}
use Rattle.rules.specs.Job as rule
use Rattle.layout.specs.Cut.{cut}
use Rattle.layout.specs.Numbers.{byte, word}
use Rattle.layout.specs.Records.{table}
use Rattle.layout.specs.Stored.{loaded, part_is}
use Rattle.laws.specs.Table.{get_get_or, by_eq}
use Rattle.tables.specs.Decode.{node, kind_from, run, split}
use Rattle.tables.specs.View.{view, Sized}
use Rattle.tables.specs.Job.{counts_in, node_number, split_number}
use Rattle.numbers.specs.Tests.{eqb_sym}

-- what stands for a run where there is none
abbrev pub no_run : rule.Run
no_run = record { start = 0; size = 0 }

-- a number among n of them from a place on
word_at : (r : List ℕ) (base n i : ℕ) → i < n → base + n * 4 ≤ length r →
    word (take 4 (drop (base + i * 4) r)) ≡ get_or (table word 4 n (cut base (base + n * 4) r)) i 0
word_at r base n i h l = sym (loaded word base 4 n r i 0 h l) ∙ get_get_or 0 (table word 4 n (cut base (base + n * 4) r)) i

module _ (r : List ℕ) (l : length r ≡ 137) where
  pub start_at : word (take 4 (drop 1 r)) ≡ (split r).start
  unfolding split
  start_at = word_at r 1 2 0 (omega arith) (omega arith)

  pub end_at : word (take 4 (drop 5 r)) ≡ (split r).end
  unfolding split
  end_at = word_at r 1 2 1 (omega arith) (omega arith)

  pub run_at : (k : ℕ) → k < 16 → run (take (9 + k * 8 + 8 - (9 + k * 8)) (drop (9 + k * 8) r)) ≡ get no_run (table run 8 16 (cut 9 137 r)) k
  run_at k h = ap run (part_is r (9 + k * 8) 8) ∙ sym (loaded run 9 8 16 r k no_run h (omega arith))

-- A node of a segment, with another number of rows

module _ (r : List ℕ) (l : length r ≡ 19) (g n : ℕ) where
  -- one of the segment
  pub rows_differ : byte r 0 ≡ 0 → word (take 4 (drop 3 r)) ≡ g → not (eqb (word (take 4 (drop 7 r))) n) ≡ rule.other_rows g n (node r)
  unfolding node kind_from
  rows_differ e f =
      let a = word_at r 3 4 0 (omega arith) (omega arith) in
      let b = word_at r 3 4 1 (omega arith) (omega arith) in
      rw (e, eq-eqb (get_or (table word 4 4 (cut 3 19 r)) 0 0) g (sym a ∙ f), b) refl

  -- one of another segment
  pub other_segment : byte r 0 ≡ 0 → word (take 4 (drop 3 r)) ≢ g → false ≡ rule.other_rows g n (node r)
  unfolding node kind_from
  other_segment e f =
      let a = word_at r 3 4 0 (omega arith) (omega arith) in
      rw (e, ne_eqb (get_or (table word 4 4 (cut 3 19 r)) 0 0) g (λ q. f (a ∙ q))) refl

  -- an inner node
  pub no_segment : byte r 0 ≢ 0 → byte r 0 ≤ 2 → false ≡ rule.other_rows g n (node r)
  unfolding node kind_from
  no_segment e h = rw (le-leb (byte r 0) 2 h, ne_eqb (byte r 0) 0 e) (by_eq (byte r 0) 1 (λ q. rw q refl) (λ q. rw (ne_eqb (byte r 0) 1 q) refl))

  -- a kind that is none of the three
  pub none_differ : 2 < byte r 0 → g ≡ 0 → not (eqb n 0) ≡ rule.other_rows g n (node r)
  unfolding node
  none_differ h e = rw (lt-leb (byte r 0) 2 h, e) (ap not (eqb_sym n 0))

  pub none_other : 2 < byte r 0 → g ≢ 0 → false ≡ rule.other_rows g n (node r)
  unfolding node
  none_other h e = rw (lt-leb (byte r 0) 2 h, ne_eqb 0 g (λ q. e (sym q))) refl

-- There are no more nodes and splits than places

pub few_nodes : (s : List ℕ) → Sized s → (k : ℕ) → k < length (view s).job.nodes → k < 24
few_nodes s z k h = let w = counts_in s z k h in omega (arith, node_number s z w.0 w.1, w.0)

pub few_splits : (s : List ℕ) → Sized s → (i : ℕ) → i < length (view s).job.splits → i < 16
few_splits s z i h = omega (arith, split_number s z)
