-- All outlets of a pipeline, as the rules have them.
use Rattle.std.specs.Prelude.{◌≡◌, List, ℕ, ◌-◌, ◌/◌, ◌≤◌, ◌<◌, eqb, ltb, length}
use Rattle.std.proofs.Common.{sym, ap, ◌∙◌, inl, inr, arith, ltb-true, ltb-false, eq-eqb, ne_eqb}
use Rattle.rules.specs.Port.{Batch}
use Rattle.rules.specs.Machine.{Machine, node_at_place, outlets}
use Rattle.rules.specs.Ports.{push_to, push_each, push_out, close_to, close_each}
use Rattle.rules.specs.Wake.{pass_mark, pass_marks}
use Rattle.laws.specs.Table.{by_bool}
use Rattle.order.specs.Inv.{Live, whole}
use Rattle.order.specs.State.{OutletOf}
use Rattle.order.specs.Among.{all_among}
use Rattle.order.specs.Outlets.{outlets_slot, outlets_among}
use Rattle.order.specs.RangeParts.{Fits}
use Rattle.order.specs.RangePorts.{OutFits, whole_same}
use Rattle.table_ports.specs.Shares.{whole_batch}
use Rattle.tables.specs.View.{view, Sized}
use Rattle.tables.specs.Job.{counts_in, node_number, split_number}
use Rattle.waking.specs.Choice.{first_case, last_case}
use Rattle.outlets.specs.declared.act.Act.{Act}
use Rattle.outlets.specs.declared.act.Act.TheVariants.{Push, Close, Pass}
use Rattle.outlets.specs.Outlet.{outlets_are}
use Rattle.outlets.specs.Act.{act_each, sweep, sweep_is, each_push, each_close, each_pass}

-- A batch

-- one without rows, and one with
pub push_nothing : (m : Machine) (p : ℕ) (b : Batch) → b.rows ≡ 0 → m ≡ push_out p b m
push_nothing m p b e = first_case (eqb b.rows 0) m (push_each b (outlets m p) m) (eq-eqb b.rows 0 e)

push_some : (m : Machine) (p : ℕ) (b : Batch) → (b.rows ≡ 0 → ⊥) → push_each b (outlets m p) m ≡ push_out p b m
push_some m p b e = last_case (eqb b.rows 0) m (push_each b (outlets m p) m) (ne_eqb b.rows 0 e)

-- A slot's pipeline

pub own_push : (m : Machine) (p : ℕ) (b : Batch) → p < 72 → (b.rows ≡ 0 → ⊥) → push_to b p m ≡ push_out p b m
unfolding push_each
own_push m p b h e = sym (ap (λ (l : List ℕ). push_each b l m) (outlets_slot m p h)) ∙ push_some m p b e

pub own_close : (m : Machine) (p : ℕ) → p < 72 → close_to p m ≡ close_each (outlets m p) m
unfolding close_each
own_close m p h = sym (ap (λ (l : List ℕ). close_each l m) (outlets_slot m p h))

pub own_pass : (m : Machine) (p : ℕ) → p < 72 → pass_mark p m ≡ pass_marks (outlets m p) m
unfolding pass_marks
own_pass m p h = sym (ap (λ (l : List ℕ). pass_marks l m) (outlets_slot m p h))

-- A shared source

-- every port that it writes is of a leaf of its segment
port_whole : (m : Machine) (p x : ℕ) (b : Batch) → Fits m → Live m.pipes p → 72 ≤ p → b ≡ whole m.job (node_at_place p) → OutletOf m.job p x →
    whole_batch m.job ((x - 72) / 16) ≡ b
port_whole m p x b f l h e (inl o) = absurd (omega (arith, o.0))
port_whole m p x b f l h e (inr (s, (n, t, k, q, i, g))) =
    let r = f.job.splits_high in
    let a : (x - 72) / 16 ≡ n = omega arith in
    rw a (sym (e ∙ whole_same m.job n (node_at_place p) f.job i ((f.pipes p l).place.2 h) g))

module _ (s : List ℕ) (z : Sized s) where
  few_nodes : length (view s).job.nodes ≤ 24
  few_nodes =
      by_bool (ltb 24 (length (view s).job.nodes))
      (λ e. let h = ltb-true 24 (length (view s).job.nodes) e in let c = counts_in s z 24 h in omega (arith, node_number s z c.0 c.1, c.0))
      (ltb-false 24 (length (view s).job.nodes))

  few_splits : length (view s).job.splits ≤ 16
  few_splits = let e = split_number s z in omega (arith, e)

  module _ (p : ℕ) (h : 72 ≤ p) where
    swept : (a : Act) → sweep a p 384 72 (view s) ≡ act_each a (outlets (view s) p) (view s)
    swept a = sweep_is a p 384 72 (view s) (omega arith) ∙ ap (λ (l : List ℕ). act_each a l (view s)) (sym (outlets_are (view s) p h few_splits few_nodes))

    pub close_swept : sweep Close p 384 72 (view s) ≡ close_each (outlets (view s) p) (view s)
    close_swept = swept Close ∙ each_close (outlets (view s) p) (view s)

    pub pass_swept : sweep Pass p 384 72 (view s) ≡ pass_marks (outlets (view s) p) (view s)
    pass_swept = swept Pass ∙ each_pass (outlets (view s) p) (view s)

    pub push_swept : (b : Batch) → Fits (view s) → Live (view s).pipes p → OutFits (view s).job p b → (b.rows ≡ 0 → ⊥) →
        sweep Push p 384 72 (view s) ≡ push_out p b (view s)
    push_swept b f l o e =
        swept Push
        ∙ each_push b (outlets (view s) p) (view s)
        (all_among (λ x. whole_batch (view s).job ((x - 72) / 16) ≡ b) (outlets (view s) p)
        (λ x a. port_whole (view s) p x b f l h (o.1 h) (outlets_among (view s) p x a)))
        ∙ push_some (view s) p b e
