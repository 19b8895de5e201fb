-- A pipeline's test in parts.
use Rattle.std.specs.Prelude.{◌≡◌, refl, Bool, true, false, ◌&&◌, List, [], ◌∷◌, ℕ, length, ltb}
use Rattle.rules.specs.Table.{get, is_empty}
use Rattle.rules.specs.Machine.{Machine, Pipeline, inlets_at, source_at, stage_at, node_at_place}
use Rattle.rules.specs.Plan.{node_of}
use Rattle.rules.specs.Check.{set_ok, place_ok, source_ok, stage_ok, state_ok, inlets_live, outlet_live, pipe_ok}
use Rattle.laws.specs.Table.{clash}

-- the place, the number, the source, the stage and the state
abbrev pub body_ok : Machine → ℕ → Pipeline → Bool
body_ok m p x =
    place_ok m p && ltb x.number m.made && source_ok m p (node_of m.job (node_at_place p)).kind (source_at m p)
    && stage_ok m p (stage_at m p) && state_ok p (length (inlets_at m p)) x.state

-- these, the inlets that it notes, and its ports
abbrev pub live_ok : Machine → ℕ → Pipeline → Bool
live_ok m p x =
    body_ok m p x && set_ok (length (inlets_at m p)) (get [] m.changed p) && set_ok (length (inlets_at m p)) (get [] m.touched p)
    && inlets_live m p 0 (inlets_at m p) && outlet_live m p

-- no pipeline, and one
pub pipe_gone : (m : Machine) (p : ℕ) (x : Pipeline) → x.live ≡ false → true ≡ pipe_ok m p x
unfolding pipe_ok
pipe_gone m p x e = rw e

pub pipe_lives : (m : Machine) (p : ℕ) (x : Pipeline) → x.live ≡ true → live_ok m p x ≡ pipe_ok m p x
unfolding pipe_ok
pipe_lives m p x e = rw e

-- no inlets are noted
pub none_noted : (n : ℕ) (l : List ℕ) → is_empty l ≡ true → true ≡ set_ok n l
unfolding is_empty set_ok
none_noted n [] e = refl
none_noted n (x ∷ l) e = clash (cc)
