-- What passing on a port's mark comes to.
use Rattle.std.specs.Prelude.{◌≡◌, Bool, true, false, not, List, [], ◌∷◌, ℕ, ◌<◌, ltb, length}
use Rattle.std.proofs.Common.{sym, ap, ◌∙◌, lt-ltb}
use Rattle.std.proofs.lemmas.Bool.{not-true, not-false}
use Rattle.rules.specs.Table.{get, has}
use Rattle.rules.specs.Machine.{Machine, Port, Reader, nobody, slot, pipe, slot_at_place, live, port_at, set_port, with_dirty}
use Rattle.rules.specs.Wake.{mark_dirty, unmarked, wake_reader, tell, pass_mark}
use Rattle.inlet_set.specs.Insert.{accepts}
use Rattle.layout.specs.Stack.{pushed}
use Rattle.waking.specs.Choice.{chosen, declined, first_case, last_case}
use Rattle.waking.specs.Tells.{Told, Tells}

-- dirty already, or not yet
pub dirty_already : (m : Machine) (k : ℕ) (b : Bool) → b ≡ has k m.dirty → b ≡ true → m ≡ mark_dirty k m
dirty_already m k b e t = ap (λ (l : List ℕ). with_dirty l m) (chosen (has k m.dirty) m.dirty (k ∷ m.dirty) (sym e ∙ t))

pub dirty_now : (m : Machine) (k : ℕ) (b : Bool) → b ≡ has k m.dirty → b ≡ false → length m.dirty < 3 →
    with_dirty (pushed k 3 m.dirty) m ≡ mark_dirty k m
dirty_now m k b e t h =
    ap (λ (l : List ℕ). with_dirty l m)
    (sym (chosen (ltb (length m.dirty) 3) (k ∷ m.dirty) m.dirty (lt-ltb (length m.dirty) 3 h))
    ∙ declined (has k m.dirty) m.dirty (k ∷ m.dirty) (sym e ∙ t))

-- no mark
pub mark_none : (m : Machine) (x : ℕ) (v : Port) → v ≡ port_at m x → not v.changed ≡ true → m ≡ pass_mark x m
unfolding pass_mark
mark_none m x v e h = last_case (port_at m x).changed (tell (port_at m x).reader x (set_port x (unmarked (port_at m x)) m)) m
    (ap (λ (y : Port). y.changed) (sym e) ∙ not-true v.changed h)

-- a mark
pub mark_some : (m : Machine) (x : ℕ) (v w : Port) → v ≡ port_at m x → not v.changed ≡ false → w ≡ unmarked v →
    tell v.reader x (set_port x w m) ≡ pass_mark x m
unfolding pass_mark
mark_some m x v w e h f =
    ap (λ (y : Port). tell v.reader x (set_port x y m)) f
    ∙ ap (λ (y : Port). tell y.reader x (set_port x (unmarked y) m)) e
    ∙ first_case (port_at m x).changed (tell (port_at m x).reader x (set_port x (unmarked (port_at m x)) m)) m (ap (λ (y : Port). y.changed) (sym e)
    ∙ not-false v.changed h)

-- the reader of the port that was loaded, after the mark is gone
pub mark_told : (m : Machine) (x : ℕ) (v w : Port) → v ≡ port_at m x → Tells m x → Told (set_port x w m) v.reader
mark_told m x v w e t = (t.0, λ p i q. t.1 p i (ap (λ (y : Port). y.reader) (sym e) ∙ q))

-- Readers

pub tell_nobody : (m : Machine) (x : ℕ) (r : Reader) → r ≡ nobody → m ≡ tell r x m
unfolding tell
tell_nobody m x r e = ap (λ (q : Reader). tell q x m) (sym e)

pub tell_slot : (m : Machine) (x k : ℕ) (r : Reader) → r ≡ slot → k ≡ slot_at_place x → mark_dirty k m ≡ tell r x m
unfolding tell
tell_slot m x k r e f = ap (λ (n : ℕ). mark_dirty n m) f ∙ ap (λ (q : Reader). tell q x m) (sym e)

pub tell_pipe : (m : Machine) (x p i n : ℕ) (r : Reader) → r ≡ pipe p i → n ≡ p → wake_reader n i m ≡ tell r x m
unfolding tell
tell_pipe m x p i n r e f = ap (λ (k : ℕ). wake_reader k i m) f ∙ ap (λ (q : Reader). tell q x m) (sym e)

pub told_pipe : (m : Machine) (p i n : ℕ) (r : Reader) → Told m r → r ≡ pipe p i → n ≡ p → live m n ≡ true → accepts i (get [] m.changed n) ≡ true
told_pipe m p i n r t e f = rw f (t.1 p i e)
