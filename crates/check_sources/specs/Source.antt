-- What feeds a source.
use Rattle.std.specs.Prelude.{◌≡◌, refl, Bool, ◌&&◌, List, [], ◌∷◌, ℕ, length, eqb, if◌then◌else◌}
use Rattle.std.proofs.Common.{sym, ap, ◌∙◌, ne_eqb, arith}
use Rattle.rules.specs.Table.{is_empty}
use Rattle.rules.specs.Job.{Kind, Node, is_segment}
use Rattle.rules.specs.Operators as rule
use Rattle.rules.specs.Plan.{node_of}
use Rattle.rules.specs.Machine.{Machine, inlets_at, source_at, node_at_place}
use Rattle.rules.specs.Check.{is_concat, fed_below, fed_shared, source_ok}
use Rattle.table_pipes.specs.declared.source_table.Source.{Source}
use Rattle.table_pipes.specs.Source.{source_of}

-- a concat by its children, a claimed leaf by a shared port
abbrev pub fed_by : Machine → ℕ → Kind → Bool
fed_by m p k = if is_concat k then fed_below m p (inlets_at m p) else is_segment k && fed_shared m p (inlets_at m p)

pub empty_is : (l : List ℕ) → eqb (length l) 0 ≡ is_empty l
unfolding is_empty
empty_is [] = refl
empty_is (x ∷ l) = ne_eqb (length (x ∷ l)) 0 (omega arith)

-- the test of a node and a source that were loaded
pub source_is : (m : Machine) (p : ℕ) (n : Node) (x y : Source) (r : Bool) → n ≡ node_of m.job (node_at_place p) → source_of x ≡ source_at m p → x ≡ y
    → r ≡ source_ok m p n.kind (source_of y) → r ≡ source_ok m p (node_of m.job (node_at_place p)).kind (source_at m p)
source_is m p n x y r e f g h =
    h
    ∙ ap (λ (k : Node). source_ok m p k.kind (source_of y)) e
    ∙ ap (λ (q : rule.Source). source_ok m p (node_of m.job (node_at_place p)).kind q) (sym (ap source_of g) ∙ f)
