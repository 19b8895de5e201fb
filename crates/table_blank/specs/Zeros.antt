-- Zero bytes are a state with nothing in use: every part of them is zeros, and every record of zeros is one that is not in use.
use Rattle.std.specs.Prelude.{ℕ, zero, suc, ◌+◌, ◌*◌, ◌-◌, ◌≤◌, min, ◌≡◌, true, leb, length, take, drop}
use Rattle.std.proofs.Common.{arith, sym, ap, ap₂, ◌∙◌, length-take, take_at, drop_at, take-take, drop-drop, leb-true}
use Rattle.std.proofs.Math.Path.{refl}
use Rattle.std.proofs.Math.Bool.{false}
use mathlib.Core.List.{List, [], ◌∷◌, ◌++◌}
use Rattle.std.proofs.Math.ListN.{replicate}
use Rattle.std.proofs.lemmas.List.{length-replicate, replicate-append-replicate}
use Rattle.rules.specs.Job.{Job}
use Rattle.rules.specs.Port.{Batch}
use Rattle.rules.specs.Machine.{blank, zeroed}
use Rattle.numbers.specs.Newest.{newest}
use Rattle.queue.specs.Ring.{ring}
use Rattle.queue.specs.Queue.{held}
use Rattle.layout.specs.Cut.{cut, drop_take}
use Rattle.layout.specs.Records.{table, next_record}
use Rattle.layout.specs.Numbers.{byte, flag, stack}
use Rattle.tables.specs.Decode.{pipeline, source, stage, port, active_split, flag_record, inlets, seen_of, batch, state_from, source_from, reader_from}
use Rattle.tables.specs.View.{view, job_from, reads_from, news_from, outputs_from, queues_from, queue_from, share_from, indexed, self}

-- n bytes 0
abbrev pub zeros : ℕ → List ℕ
zeros n = replicate n 0

-- the front of some zeros, and the rest
zeros_front : (k m : ℕ) → take k (zeros (k + m)) ≡ zeros k
zeros_front k m = ap (take k) (sym (replicate-append-replicate {A = ℕ} k m 0)) ∙ take_at (zeros k) (zeros m) k (length-replicate {A = ℕ} k 0)

zeros_rest : (k m : ℕ) → drop k (zeros (k + m)) ≡ zeros m
zeros_rest k m = ap (drop k) (sym (replicate-append-replicate {A = ℕ} k m 0)) ∙ drop_at (zeros k) (zeros m) k (length-replicate {A = ℕ} k 0)

-- a part of bytes that start with zeros
pub cut_zeros : (n : ℕ) (s : List ℕ) → take n s ≡ zeros n → (lo hi : ℕ) → lo ≤ hi → hi ≤ n → cut lo hi s ≡ zeros (hi - lo)
unfolding cut
cut_zeros n s e lo hi h l =
    let m : ℕ = hi - lo in
    let k : ℕ = n - hi in
    let q : n ≡ lo + m + k = omega arith in
    let long : min n (length s) ≡ n = sym (length-take n s) ∙ ap length e ∙ length-replicate {A = ℕ} n 0 in
    let front : take (lo + m) s ≡ zeros (lo + m) = sym (take-take (lo + m) n s (omega arith)) ∙ ap (take (lo + m)) e ∙ rw q (zeros_front (lo + m) k) in
    sym (drop_take lo m s (omega arith)) ∙ ap (drop lo) front ∙ zeros_rest lo m

-- a table of zeros
pub table_zeros : {R : Type 0} (dec : List ℕ → R) (size n : ℕ) → table dec size n (zeros (n * size)) ≡ replicate n (dec (zeros size))
unfolding table
table_zeros dec size zero = refl
table_zeros {R = R} dec size (suc n) =
    rw (next_record n size)
    (ap₂ {C = List R} ◌∷◌ (ap dec (zeros_front size (n * size))) (ap (table dec size n) (zeros_rest size (n * size)) ∙ table_zeros dec size n))

-- every entry alike
pub indexed_alike : {A B : Type 0} (f : ℕ → A → B) (k n : ℕ) (x : A) (y : B) → ((i : ℕ) → f i x ≡ y) → indexed f k (replicate n x) ≡ replicate n y
unfolding indexed
indexed_alike f k zero x y h = refl
indexed_alike {B = B} f k (suc n) x y h = ap₂ {C = List B} ◌∷◌ (h k) (indexed_alike f (suc k) n x y h)

-- no shared port holds anything, whatever the job
pub no_shares : (j : Job) → indexed (share_from j) 0 (table flag_record 1 384 (zeros 384)) ≡ replicate 384 []
unfolding flag_record share_from
no_shares j = ap (indexed (share_from j) 0) (table_zeros flag_record 1 384) ∙ indexed_alike (share_from j) 0 384 false [] (λ i. refl)

-- no bounded port holds anything, whatever its places say
no_rings : (bs : List Batch) → indexed (queue_from bs) 0 (table self 2 72 (zeros 144)) ≡ replicate 72 []
unfolding queue_from held ring
no_rings bs = ap (indexed (queue_from bs) 0) (table_zeros self 2 72) ∙ indexed_alike (queue_from bs) 0 72 (zeros 2) [] (λ i. refl)

-- no port holds anything
no_queues : (j : Job) (bs : List ℕ) → queues_from j (zeros 144) (zeros 384) bs ≡ replicate 456 []
unfolding queues_from
no_queues j bs = ap₂ ◌++◌ (no_rings (table batch 37 576 bs)) (no_shares j) ∙ replicate-append-replicate 72 384 []

-- the tables before the batches
abbrev pub tables_len : ℕ
tables_len = 18015

module _ (s : List ℕ) (e : take tables_len s ≡ replicate tables_len 0) where
  -- a part of the state
  part : (lo hi : ℕ) → leb lo hi ≡ true → leb hi tables_len ≡ true → cut lo hi s ≡ zeros (hi - lo)
  part lo hi h l = cut_zeros tables_len s e lo hi (leb-true lo hi h) (leb-true hi tables_len l)

  -- a table of the state
  entries : {R : Type 0} (dec : List ℕ → R) (lo size n : ℕ) → leb (lo + n * size) tables_len ≡ true →
      table dec size n (cut lo (lo + n * size) s) ≡ replicate n (dec (zeros size))
  entries dec lo size n l =
      let h = leb-true (lo + n * size) tables_len l in
      let k : lo + n * size - lo ≡ n * size = omega arith in
      ap (table dec size n) (cut_zeros tables_len s e lo (lo + n * size) (omega arith) h ∙ rw k refl) ∙ table_zeros dec size n

  -- the whole state: the batches are not looked at
  pub view_zeros : view s ≡ zeroed
  unfolding view blank job_from reads_from news_from outputs_from stack newest held ring pipeline source stage port active_split flag_record inlets seen_of
      state_from source_from reader_from
  view_zeros =
      let job : job_from (cut 0 3 s) (cut 679 1135 s) (cut 1135 3327 s) ≡ record { slots = 0; nodes = []; splits = [] } = rw (part 0 3 refl refl) in
      let queues : queues_from (job_from (cut 0 3 s) (cut 679 1135 s) (cut 1135 3327 s)) (cut 17487 17631 s) (cut 17631 18015 s) (cut 18015 39327 s)
      ≡ replicate 456 [] =
      rw (part 17487 17631 refl refl, part 17631 18015 refl refl) (no_queues (job_from (cut 0 3 s) (cut 679 1135 s) (cut 1135 3327 s)) (cut 18015 39327 s)) in
      let made : byte (cut 3 4 s) 0 ≡ 0 = rw (part 3 4 refl refl) in
      let next : byte (cut 4 5 s) 0 ≡ 0 = rw (part 4 5 refl refl) in
      let fault : flag (byte (cut 5 6 s) 0) ≡ false = rw (part 5 6 refl refl) in
      let dirty : stack (cut 52 56 s) ≡ [] = rw (part 52 56 refl refl) in
      let news : news_from (cut 56 82 s) ≡ [] = rw (part 56 82 refl refl) in
      let ready : stack (cut 82 179 s) ≡ [] = rw (part 82 179 refl refl) in
      let freed : stack (cut 179 276 s) ≡ [] = rw (part 179 276 refl refl) in
      let reads : reads_from (cut 276 277 s) (cut 277 373 s) ≡ [] = rw (part 276 277 refl refl) in
      let outputs : outputs_from (cut 373 375 s) (cut 375 679 s) ≡ [] = rw (part 373 375 refl refl) in
      λ i. record {
        job = job i;
        made = made i;
        next = next i;
        fault = fault i;
        active = entries active_split 6 2 3 refl i;
        finished = entries flag_record 12 1 16 refl i;
        unbuilt = entries flag_record 28 1 24 refl i;
        dirty = dirty i;
        news = news i;
        ready = ready i;
        freed = freed i;
        reads = reads i;
        outputs = outputs i;
        pipes = entries pipeline 3327 5 96 refl i;
        sources = entries source 3807 4 96 refl i;
        stages = entries stage 4191 6 96 refl i;
        inlets = entries inlets 4767 47 96 refl i;
        touched = entries stack 9279 24 96 refl i;
        changed = entries stack 11583 24 96 refl i;
        waits = entries stack 13887 5 96 refl i;
        seen = entries seen_of 14367 4 96 refl i;
        ports = entries port 14751 6 456 refl i;
        queues = queues i;
      }

-- what stands after the first n bytes were made 0
module _ (n : ℕ) (s t : List ℕ) (e : t ≡ zeros n ++ drop n s) where
  pub wiped_front : take n t ≡ zeros n
  wiped_front = ap (take n) e ∙ take_at (zeros n) (drop n s) n (length-replicate {A = ℕ} n 0)

  pub wiped_rest : (k : ℕ) → drop (n + k) t ≡ drop (n + k) s
  wiped_rest k =
      let rest : drop n t ≡ drop n s = ap (drop n) e ∙ drop_at (zeros n) (drop n s) n (length-replicate {A = ℕ} n 0) in
      sym (drop-drop k n t) ∙ ap (drop k) rest ∙ drop-drop k n s

  pub wiped_view : (k : ℕ) → n ≡ tables_len + k → view t ≡ zeroed
  wiped_view k h = view_zeros t (sym (take-take tables_len n t (omega arith)) ∙ ap (take tables_len) wiped_front ∙ rw h (zeros_front tables_len k))
