-- A plain source passes: of a segment, before its first run, without inlets.
use Rattle.std.specs.Prelude.{◌≡◌, refl, Bool, true, false, ◌&&◌, List, [], ◌∷◌, ℕ, length, eqb, leb, ltb}
use Rattle.std.proofs.Common.{sym, ap, ◌∙◌, arith, eqb-true, le-leb}
use Rattle.rules.specs.Table.{get, is_empty}
use Rattle.rules.specs.Job.{Kind, is_segment}
use Rattle.rules.specs.Operators.{Source, segment, concat, pack}
use Rattle.rules.specs.Plan.{node_of, is_leaf}
use Rattle.rules.specs.Machine.{Machine, Pipeline, inlets_at, source_at, stage_at, pieces_at, node_at_place}
use Rattle.rules.specs.Check.{place_ok, source_ok, stage_ok, state_ok, set_ok, inlets_live, outlet_live}
use Rattle.laws.specs.Table.{and_left, and_right, and_both, clash}
use Rattle.check_pipes.specs.Pipes.{live_ok, none_noted}

-- of a segment of which no run was emitted
abbrev pub is_new : Source → Bool
is_new (segment a b e) = eqb e 0
is_new (concat i) = false
is_new pack = false

-- no inlets, and none noted
pub record Alone (m : Machine) (p : ℕ) : Type 0 where
  pub inlets : inlets_at m p ≡ []
  pub changed : is_empty (get [] m.changed p) ≡ true
  pub touched : is_empty (get [] m.touched p) ≡ true

pub none_long : (l : List ℕ) → length l ≡ 0 → l ≡ []
none_long [] e = refl
none_long (x ∷ l) e = absurd (omega arith)

new_ok : (m : Machine) (p : ℕ) (k : Kind) (x : Source) → is_new x ≡ true → is_segment k ≡ true → inlets_at m p ≡ [] → source_ok m p k x ≡ true
unfolding is_empty
new_ok m p k (segment a b e) n g h =
    and_both (is_segment k && is_empty (inlets_at m p)) (leb e (length (pieces_at m p)))
    (and_both (is_segment k) (is_empty (inlets_at m p)) g (ap is_empty h))
    (le-leb e (length (pieces_at m p)) (omega (arith, eqb-true e 0 n)))
new_ok m p k (concat i) n g h = clash (cc)
new_ok m p k pack n g h = clash (cc)

-- a plain source: what is tested of it besides
abbrev pub is_plain : Machine → ℕ → Pipeline → Bool
is_plain m p x =
    is_new (source_at m p) && is_leaf m.job (node_at_place p) && place_ok m p && ltb x.number m.made && stage_ok m p (stage_at m p)
    && state_ok p 0 x.state && outlet_live m p

all_nine : (a b c d e f g h i : Bool) → a ≡ true → b ≡ true → c ≡ true → d ≡ true → e ≡ true → f ≡ true → g ≡ true → h ≡ true → i ≡ true
    → true ≡ (a && b && c && d && e && f && g && h && i)
all_nine a b c d e f g h i ta tb tc td te tf tg th ti = rw (ta, tb, tc, td, te, tf, tg, th, ti)

passes : (m : Machine) (p : ℕ) (x : Pipeline) → Alone m p → is_new (source_at m p) ≡ true → is_leaf m.job (node_at_place p) ≡ true
    → place_ok m p ≡ true → ltb x.number m.made ≡ true → stage_ok m p (stage_at m p) ≡ true → state_ok p 0 x.state ≡ true → outlet_live m p ≡ true
    → true ≡ live_ok m p x
unfolding inlets_live
passes m p x a new leaf placed number staged stated out =
    let k = (node_of m.job (node_at_place p)).kind in
    let n = length (inlets_at m p) in
    all_nine (place_ok m p) (ltb x.number m.made) (source_ok m p k (source_at m p)) (stage_ok m p (stage_at m p)) (state_ok p n x.state)
    (set_ok n (get [] m.changed p)) (set_ok n (get [] m.touched p)) (inlets_live m p 0 (inlets_at m p)) (outlet_live m p)
    placed
    number
    (new_ok m p k (source_at m p) new (and_right (ltb (node_at_place p) (length m.job.nodes)) (is_segment k) leaf) a.inlets)
    staged
    (ap (λ (l : List ℕ). state_ok p (length l) x.state) a.inlets ∙ stated)
    (sym (none_noted n (get [] m.changed p) a.changed))
    (sym (none_noted n (get [] m.touched p) a.touched))
    (ap (inlets_live m p 0) a.inlets)
    out

pub plain_passes : (m : Machine) (p : ℕ) (x : Pipeline) → Alone m p → is_plain m p x ≡ true → true ≡ live_ok m p x
plain_passes m p x a e =
    let new = is_new (source_at m p) in
    let leaf = is_leaf m.job (node_at_place p) in
    let placed = place_ok m p in
    let number = ltb x.number m.made in
    let staged = stage_ok m p (stage_at m p) in
    let stated = state_ok p 0 x.state in
    let out = outlet_live m p in
    let f = and_left (new && leaf && placed && number && staged && stated) out e in
    let g = and_left (new && leaf && placed && number && staged) stated f in
    let h = and_left (new && leaf && placed && number) staged g in
    let i = and_left (new && leaf && placed) number h in
    let j = and_left (new && leaf) placed i in
    passes m p x a (and_left new leaf j) (and_right new leaf j) (and_right _ placed i) (and_right _ number h) (and_right _ staged g) (and_right _ stated f)
    (and_right _ out e)
