-- The first leaves of shared segments are marked, one node after another.
use Rattle.std.specs.Prelude.{◌≡◌, refl, Bool, false, List, [], ◌∷◌, ◌++◌, map, ℕ, suc, ◌+◌, ◌<◌, ◌≤◌, length, drop}
use Rattle.std.proofs.Common.{sym, ap, ◌∙◌, append_assoc, append-nil, arith, add-one, drop_of_length-le, drop-cons}
use Rattle.std.proofs.lemmas.List.{map-append, length-map}
use Rattle.rules.specs.Table.{put, up_from}
use Rattle.rules.specs.Machine.{shared_first, with_unbuilt}
use Rattle.laws.specs.Again.{up_more}
use Rattle.order.specs.Lists.{up_length}
use Rattle.layout.specs.Cut.{cut}
use Rattle.layout.specs.Records.{length_table}
use Rattle.tables.specs.Decode.{flag_record}
use Rattle.tables.specs.Indexed.{put_behind}
use Rattle.tables.specs.View.{view, machine_len}

-- the first n flags are set by a test
unfoldable pub flagged : (ℕ → Bool) → ℕ → List Bool → List Bool
flagged f n l = map f (up_from 0 n) ++ drop n l

-- one flag more
one_more : (f : ℕ → Bool) (n : ℕ) → map f (up_from 0 (suc n)) ≡ map f (up_from 0 n) ++ f n ∷ []
one_more f n = let e : 0 + n ≡ n = omega arith in rw (up_more 0 n, e) (map-append f (up_from 0 n) (n ∷ []))

pub flagged_next : (f : ℕ → Bool) (n : ℕ) (l : List Bool) → n < length l → put false (flagged f n l) n (f n) ≡ flagged f (n + 1) l
unfolding flagged
flagged_next f n l h =
    let x = map f (up_from 0 n) in
    let z : length x + 0 ≡ n = omega (arith, length-map (up_from 0 n) f, up_length 0 n) in
    ap (λ (k : ℕ). put false (x ++ drop n l) k (f n)) (sym z) ∙ put_behind false x (drop n l) 0 (f n)
    ∙ rw (drop-cons l n false h, add-one n, one_more f n) (sym (append_assoc x (f n ∷ []) (drop (suc n) l)))

-- there is a flag for each node that may be
pub unbuilt_size : (s : List ℕ) → length (view s).unbuilt ≡ 24
unfolding view
unbuilt_size s = length_table flag_record 1 24 (cut 28 52 s)

-- The lent bytes while they are marked

pub record Marked (s₀ s : List ℕ) (n : ℕ) : Type 0 where
  pub size : length s ≡ length s₀
  pub few : n ≤ 24
  pub is : view s ≡ with_unbuilt (flagged (shared_first (view s₀).job) n (view s₀).unbuilt) (view s₀)
  pub past : drop machine_len s ≡ drop machine_len s₀

pub marked_start : (s : List ℕ) → Marked s s 0
unfolding flagged up_from
marked_start s = record { size = refl; few = omega arith; is = refl; past = refl }

pub marked_next : (s₀ s t : List ℕ) (n : ℕ) (b : Bool) → Marked s₀ s n → n < 24 → length t ≡ length s → b ≡ shared_first (view s).job n
    → view t ≡ with_unbuilt (put false (view s).unbuilt n b) (view s) → drop machine_len t ≡ drop machine_len s → Marked s₀ t (n + 1)
marked_next s₀ s t n b k h l e v d =
    let i = k.is in
    let z : length (view s₀).unbuilt ≡ 24 = unbuilt_size s₀ in
    record {
      size = l ∙ k.size;
      few = omega (arith, h);
      is = v ∙ rw (e, i) (ap (λ (u : List Bool). with_unbuilt u (view s₀))
          (flagged_next (shared_first (view s₀).job) n (view s₀).unbuilt (omega (arith, z, h))));
      past = d ∙ k.past;
    }

all_flagged : (f : ℕ → Bool) (l : List Bool) → length l ≡ 24 → flagged f 24 l ≡ map f (up_from 0 24)
unfolding flagged
all_flagged f l e = rw (drop_of_length-le l {i = 24} (omega (arith, e))) (append-nil (map f (up_from 0 24)))

pub marked_all : (s₀ s : List ℕ) (n : ℕ) → Marked s₀ s n → 24 ≤ n → view s ≡ with_unbuilt (map (shared_first (view s₀).job) (up_from 0 24)) (view s₀)
marked_all s₀ s n k h =
    let e : n ≡ 24 = omega (arith, h, k.few) in
    (rw e at k.is) ∙ ap (λ (u : List Bool). with_unbuilt u (view s₀)) (all_flagged (shared_first (view s₀).job) (view s₀).unbuilt (unbuilt_size s₀))
