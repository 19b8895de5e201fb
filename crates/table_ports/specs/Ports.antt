-- A port by value, in the terms of the rules, and its bytes.
use Rattle.std.specs.Prelude.{◌≡◌, refl, ◌≢◌, [], ◌∷◌, ℕ, eqb}
use Rattle.std.proofs.Common.{ne_eqb}
use Rattle.rules.specs.Machine as rule
use Rattle.rules.specs.Ports.{is_nobody}
use Rattle.laws.specs.Table.{by_bool}
use Rattle.layout.specs.Numbers.{mark, flag_mark}
use Rattle.tables.specs.Decode.{reader_from, port}
use Rattle.table_ports.specs.declared.ports.Reader.{Reader}
use Rattle.table_ports.specs.declared.ports.Reader.TheVariants.{Nobody, Slot, Pipe}
use Rattle.table_ports.specs.declared.ports.Port.{Port}

abbrev pub reader_of : Reader → rule.Reader
reader_of Nobody = rule.nobody
reader_of Slot = rule.slot
reader_of (Pipe p i) = rule.pipe p i

abbrev pub port_of : Port → rule.Port
port_of x = record { there = x.there; closed = x.closed; changed = x.changed; reader = reader_of x.reader }

-- A reader as a tag and two numbers, and back

abbrev pub reader_tag : Reader → ℕ
reader_tag Nobody = 0
reader_tag Slot = 1
reader_tag (Pipe p i) = 2

abbrev pub reader_pipe : Reader → ℕ
reader_pipe Nobody = 0
reader_pipe Slot = 0
reader_pipe (Pipe p i) = p

abbrev pub reader_inlet : Reader → ℕ
reader_inlet Nobody = 0
reader_inlet Slot = 0
reader_inlet (Pipe p i) = i

pub reader_back : (x : Reader) → reader_from (reader_tag x) (reader_pipe x) (reader_inlet x) ≡ reader_of x
unfolding reader_from
reader_back Nobody = refl
reader_back Slot = refl
reader_back (Pipe p i) = refl

-- a tag past the last one
pub reader_else : (t p i : ℕ) → t ≢ 0 → t ≢ 1 → t ≢ 2 → reader_of (Pipe 255 255) ≡ reader_from t p i
unfolding reader_from
reader_else t p i a b c = rw (ne_eqb t 0 a, ne_eqb t 1 b, ne_eqb t 2 c)

-- the six bytes of a port
pub port_back : (x : Port) → port (mark x.there ∷ mark x.closed ∷ mark x.changed ∷ reader_tag x.reader ∷ reader_pipe x.reader ∷ reader_inlet
    x.reader ∷ []) ≡ port_of x
unfolding port
port_back x = simp (flag_mark, reader_back)

-- a reader is nobody where the tag is 0
pub unread : (t p i : ℕ) → is_nobody (reader_from t p i) ≡ eqb t 0
unfolding reader_from
unread t p i =
    by_bool (eqb t 0) (λ e. rw e)
    (λ e. by_bool (eqb t 1) (λ f. rw (e, f)) (λ f. by_bool (eqb t 2) (λ g. rw (e, f, g)) (λ g. rw (e, f, g))))
