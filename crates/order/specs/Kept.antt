-- What depends on ports only through the inlets of pipelines in use.
use Rattle.std.specs.Prelude.{◌≡◌, refl, List, [], ◌∷◌, ◌++◌, ℕ, suc, ◌<◌, drop}
use Rattle.std.proofs.Common.{ap, ◌∙◌}
use Rattle.rules.specs.Plan.{Piece, Row}
use Rattle.rules.specs.InletSet.{InletSet}
use Rattle.rules.specs.Port.{Batch, Seen}
use Rattle.rules.specs.Operators.{Source, segment, concat, pack}
use Rattle.rules.specs.Machine.{Pipeline, Stage, Port, slot_places}
use Rattle.order.specs.Inv.{Live, inlets_of, port_of, queue_of, At, Past, Packs, Waits, Ended, Full, will, join, staged, pending}
use Rattle.order.specs.Lists.{at_drop, map_same}
use Rattle.order.specs.Views.{shut_of}

module _ (F F' : ℕ → List Row) where
  join_same : (xs : List ℕ) → ((i y : ℕ) → At xs i y → F' y ≡ F y) → join F' xs ≡ join F xs
  join_same [] h = refl
  join_same (x ∷ xs) h = rw (h 0 x refl, join_same xs (λ i y a. h (suc i) y a))

  -- what a pipeline will write depends on its inlets only
  pub will_same : (ps : List Piece) (src : Source) (st : Stage) (xs : List ℕ) → ((i y : ℕ) → At xs i y → F' y ≡ F y)
      → will F' ps src st xs ≡ will F ps src st xs
  will_same ps (segment a b e) st xs h = refl
  will_same ps (concat c) st xs h =
      ap (λ rows. pending ps st.continuing st.cut ++ staged ps st.cut rows)
      (join_same (drop c xs) (λ i y a. let r = at_drop c xs i y a in h r.0 y r.1))
  will_same ps pack st xs h = rw (map_same F' F xs h)

-- ports that are not inlets may change
module _ (P : List Pipeline) (I : List (List ℕ)) (O O' : List Port) (Q Q' : List (List Batch))
    (alike : (p i y : ℕ) → Live P p → At (inlets_of I p) i y → (port_of O' y ≡ port_of O y) × (queue_of Q' y ≡ queue_of Q y)) where
  ended_kept : (p i y : ℕ) → Live P p → At (inlets_of I p) i y → Ended O Q y → Ended O' Q' y
  ended_kept p i y l a e = let b = alike p i y l a in (shut_of O' O y b.0 ∙ e.0, b.1 ∙ e.1)

  pub past_kept : (S : List Source) (G : List Stage) → Past P S G I O Q → Past P S G I O' Q'
  past_kept S G v = record {
    before = λ p c i y l s a h. ended_kept p i y l a (v.before p c i y l s a h);
    within = v.within;
    all = λ p i y l g a. ended_kept p i y l a (v.all p i y l g a);
    emit = v.emit;
    more = v.more;
    stage_count = v.stage_count;
    spent = v.spent;
  }

  pub packs_kept : (S : List Source) (C W : List InletSet) (E : List (List Seen)) → Packs P S I O Q C W E → Packs P S I O' Q' C W E
  packs_kept S C W E v = record {
    size = v.size;
    unique = v.unique;
    within = v.within;
    known = v.known;
    waits = v.waits;
    seen = λ p i y l s a. let b = alike p i y l a in rw (shut_of O' O y b.0, b.0, b.1) (v.seen p i y l s a);
  }

  pub waits_kept : (who freed freed' : ℕ → Type 0) (S : List Source) → ((p : ℕ) → Live P p → p < slot_places → Full freed Q p → Full freed' Q' p) → Waits who freed P S I O Q → Waits who freed' P S I O' Q'
  waits_kept who freed freed' S f v = record {
    on_io = v.on_io;
    on_inlet = λ p i l e. let w = v.on_inlet p i l e in let b = alike p i w.0 l w.1 in (w.0, w.1, rw (shut_of O' O w.0 b.0, b.0, b.1) w.2);
    on_outlet = λ p l e. let w = v.on_outlet p l e in (w.0, f p l w.0 w.1);
  }
