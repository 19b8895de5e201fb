-- What a write at one place does to the fields that are read off the tables.
use Rattle.std.specs.Prelude.{◌≡◌, ◌≢◌, List, ℕ}
use Rattle.std.proofs.Common.{ap}
use Rattle.rules.specs.Table.{put}
use Rattle.rules.specs.Machine.{Pipeline, Port, no_pipe, no_port}
use Rattle.laws.specs.Table.{by_eq, same, other}
use Rattle.order.specs.Inv.{pipe_of, shut, reader_of, state_of, port_of}

-- closed: here
pub shut_same : (O : List Port) (x : ℕ) (v : Port) → shut (put no_port O x v) x ≡ v.closed
shut_same O x v = ap (λ (z : Port). z.closed) (same no_port O x v)

-- and elsewhere
pub shut_other : (O : List Port) (x y : ℕ) (v : Port) → y ≢ x → shut (put no_port O x v) y ≡ shut O y
shut_other O x y v n = ap (λ (z : Port). z.closed) (other no_port O x y v n)

-- the reader: here
pub reader_same : (O : List Port) (x : ℕ) (v : Port) → reader_of (put no_port O x v) x ≡ v.reader
reader_same O x v = ap (λ (z : Port). z.reader) (same no_port O x v)

-- and elsewhere
pub reader_other : (O : List Port) (x y : ℕ) (v : Port) → y ≢ x → reader_of (put no_port O x v) y ≡ reader_of O y
reader_other O x y v n = ap (λ (z : Port). z.reader) (other no_port O x y v n)

-- the state: here
pub state_same : (P : List Pipeline) (p : ℕ) (v : Pipeline) → state_of (put no_pipe P p v) p ≡ v.state
state_same P p v = ap (λ (z : Pipeline). z.state) (same no_pipe P p v)

-- and elsewhere
pub state_other : (P : List Pipeline) (p q : ℕ) (v : Pipeline) → q ≢ p → state_of (put no_pipe P p v) q ≡ state_of P q
state_other P p q v n = ap (λ (z : Pipeline). z.state) (other no_pipe P p q v n)

pub ruleset sames = (shut_same, reader_same, state_same, same)

pub ruleset others = (shut_other, reader_other, state_other, other)

-- an entry in use as before
pub live_put : (P : List Pipeline) (p q : ℕ) (v : Pipeline) → v.live ≡ (pipe_of P p).live → (pipe_of (put no_pipe P p v) q).live ≡ (pipe_of P q).live
live_put P p q v e = by_eq q p (λ d. rw (d, same) e) (λ d. rw other)

-- a port's parts
pub shut_of : (O' O : List Port) (x : ℕ) → port_of O' x ≡ port_of O x → shut O' x ≡ shut O x
shut_of O' O x e = ap (λ (z : Port). z.closed) e
