-- Slots and reads, one after another.
use Rattle.std.specs.Prelude.{◌≡◌, Bool, true, false, not, List, ◌∷◌, ℕ, suc, ◌+◌, ◌-◌, ◌≤◌, ◌<◌, length, drop}
use Rattle.std.proofs.Math.Option.{none, some}
use Rattle.std.proofs.Common.{arith, add-one, drop_of_length-le, drop-cons}
use Rattle.rules.specs.Table.{get, find, any, all, up_from}
use Rattle.rules.specs.Machine.{Machine, Read, no_read, zeroed}
use Rattle.rules.specs.Check.{is_active}
use Rattle.rules.specs.Scan.{is_free, slots_of, in_flight, at_rest, says, refuses, done, waits}
use Rattle.laws.specs.Table.{get_get_or}

-- a slot with a split is not free
pub not_free : (m : Machine) (k : ℕ) (b c : Bool) → b ≡ is_active m k → not b ≡ c → is_free m k ≡ c
not_free m k b c e d = rw e at d

-- One slot of n - k, then the others

count_down : (k n : ℕ) → k < n → n - k ≡ suc (n - (k + 1))
count_down k n h = omega (arith, h)

none_left : (k n : ℕ) → n ≤ k → n - k ≡ 0
none_left k n h = omega (arith, h)

pub slots_start : (m : Machine) → slots_of m ≡ up_from 0 (m.job.slots - 0)
slots_start m = let z : m.job.slots - 0 ≡ m.job.slots = omega arith in rw z

pub free_here : (m : Machine) (k n : ℕ) → k < n → is_free m k ≡ true → find (is_free m) (up_from k (n - k)) ≡ some k
unfolding up_from find
free_here m k n h e = rw (count_down k n h, up_from, find, e)

pub free_next : (m : Machine) (k n : ℕ) → k < n → is_free m k ≡ false → find (is_free m) (up_from k (n - k)) ≡ find (is_free m) (up_from (k + 1) (n - (k + 1)))
unfolding up_from find
free_next m k n h e = rw (count_down k n h, up_from, find, e, add-one k)

pub free_none : (m : Machine) (k n : ℕ) → n ≤ k → find (is_free m) (up_from k (n - k)) ≡ none
unfolding up_from find
free_none m k n h = rw (none_left k n h)

pub all_here : (m : Machine) (k n : ℕ) → k < n → is_free m k ≡ false → all (is_free m) (up_from k (n - k)) ≡ false
unfolding up_from all
all_here m k n h e = rw (count_down k n h, up_from, e)

pub all_next : (m : Machine) (k n : ℕ) → k < n → is_free m k ≡ true → all (is_free m) (up_from k (n - k)) ≡ all (is_free m) (up_from (k + 1) (n - (k + 1)))
unfolding up_from all
all_next m k n h e = rw (count_down k n h, up_from, e, add-one k)

pub all_none : (m : Machine) (k n : ℕ) → n ≤ k → all (is_free m) (up_from k (n - k)) ≡ true
unfolding up_from all
all_none m k n h = rw (none_left k n h)

-- Reads

next_read : (l : List Read) (i : ℕ) → i < length l → drop i l ≡ get no_read l i ∷ drop (i + 1) l
next_read l i h = rw (get_get_or no_read l i, add-one i) (drop-cons l i no_read h)

pub flight_here : (l : List Read) (i : ℕ) (x : Read) → i < length l → x ≡ get no_read l i → not x.delivered ≡ true → true ≡ any in_flight (drop i l)
unfolding any
flight_here l i x h e d = rw (next_read l i h, ← e, d)

pub flight_next : (l : List Read) (i : ℕ) (x : Read) → i < length l → x ≡ get no_read l i → not x.delivered ≡ false →
    any in_flight (drop i l) ≡ any in_flight (drop (i + 1) l)
unfolding any
flight_next l i x h e d = rw (next_read l i h, ← e, d)

pub flight_none : (l : List Read) (i : ℕ) → length l ≤ i → false ≡ any in_flight (drop i l)
unfolding any
flight_none l i h = rw (drop_of_length-le l {i = i} h)

-- At rest

pub rest_done : (m : Machine) → all (is_free m) (slots_of m) ≡ true → says done m ≡ at_rest m
rest_done m e = rw e

pub rest_waits : (m : Machine) → all (is_free m) (slots_of m) ≡ false → any in_flight m.reads ≡ true → says waits m ≡ at_rest m
rest_waits m e d = rw (e, d)

pub rest_stuck : (m n : Machine) → all (is_free m) (slots_of m) ≡ false → any in_flight m.reads ≡ false → n ≡ zeroed → refuses 13 n ≡ at_rest m
rest_stuck m n e d z = rw (e, d, z)
