-- No call changes the job: not an inner action, not a turn, not a delivery. Only "nothing: state all zero" does, after 13 and 14.
use Rattle.std.specs.Prelude.{◌≡◌, refl, true, ℕ, zero, suc, length, eqb, leb, ltb}
use Rattle.std.proofs.Common.{subst, inl, inr}
use Rattle.std.proofs.Math.Option.{none}
use Rattle.rules.specs.Table.{get, put, find, any, all}
use Rattle.rules.specs.Job.{Job}
use Rattle.rules.specs.Plan.{node_of}
use Rattle.rules.specs.Machine.{Machine, no_read, with_reads}
use Rattle.rules.specs.Drive.{patience}
use Rattle.rules.specs.Check.{check}
use Rattle.rules.specs.Scan as rule
use Rattle.laws.specs.Table.{by_bool, by_list, by_option}
use Rattle.order.specs.Reading.{Reads-on, run_on}
use Rattle.order.specs.Between.{activate_keeps, advance_keeps}
use Rattle.order.specs.Actions.{Action, action}
use Rattle.order.specs.Deliver.{bring_keeps}
use Rattle.order.specs.Fuel.{by_inner}

-- an inner action
job_on : {m m' : Machine} → Reads-on m m' → m'.job ≡ m.job
job_on (inl k) = k.job
job_on (inr k) = k.job

pub action_job : (m m' : Machine) → Action m m' → m'.job ≡ m.job
action_job m m' (inl (k, ks, d, e)) = rw e (advance_keeps k _).job
action_job m m' (inr (inl (k, d, n, i, e))) = rw e (activate_keeps k m).job
action_job m m' (inr (inr (p, ps, d, q, e))) = rw e (job_on (run_on p ps m))

-- an answer: a turn leaves this job
abbrev pub KeepsJob : {A : Type 0} → Job → rule.Answer A → Type 0
KeepsJob j (rule.says t m) = m.job ≡ j
KeepsJob j (rule.refuses n m) = Unit {0}

rest_job : (m : Machine) → KeepsJob m.job (rule.at_rest m)
rest_job m = by_bool (all (rule.is_free m) (rule.slots_of m)) (λ e. rw e refl)
    (λ e. by_bool (any rule.in_flight m.reads) (λ d. rw (e, d) refl) (λ d. rw (e, d) tt))

-- the answer of what a step tries
abbrev KeepsIn : Job → rule.Inner → Type 0
KeepsIn j (rule.more m) = Unit {0}
KeepsIn j (rule.answers a) = KeepsJob j a

ready_job : (m : Machine) → KeepsIn m.job (rule.from_ready m)
unfolding rule.from_ready
ready_job m = by_list m.ready (λ e. rw (e, rule.from_ready) (rest_job m)) (λ p ps e. rw (e, rule.from_ready) tt)

splits_job : (m : Machine) → KeepsIn m.job (rule.from_splits m)
unfolding rule.from_splits
splits_job m = by_bool (ltb m.next (length m.job.splits))
    (λ e. by_option (find (rule.is_free m) (rule.slots_of m)) (λ o. rw (e, rule.from_splits, o) (ready_job m)) (λ k o. rw (e, rule.from_splits, o) tt))
    (λ e. rw (e, rule.from_splits) (ready_job m))

dirty_job : (m : Machine) → KeepsIn m.job (rule.from_dirty m)
unfolding rule.from_dirty
dirty_job m = by_list m.dirty (λ e. rw (e, rule.from_dirty) (splits_job m)) (λ k ks e. rw (e, rule.from_dirty) tt)

reads_job : (m : Machine) → KeepsIn m.job (rule.from_reads m)
unfolding rule.from_reads
reads_job m = by_list m.news (λ e. rw (e, rule.from_reads) (dirty_job m)) (λ r rs e. rw (e, rule.from_reads) refl)

inner_job : (m : Machine) → KeepsIn m.job (rule.inner m)
unfolding rule.inner
inner_job m = by_list m.outputs (λ e. rw (e, rule.inner) (reads_job m)) (λ o os e. rw (e, rule.inner) refl)

-- Steps

stepping_job : (f : ℕ) (m : Machine) → KeepsJob m.job (rule.stepping f m)
unfolding rule.stepping
stepping_job zero m = tt
stepping_job (suc f) m =
    by_inner (rule.inner m) (λ a e. rw (e, rule.stepping) (rw e at (inner_job m)))
    (λ n e. by_bool n.fault (λ d. rw (e, rule.stepping, d) tt)
    (λ d. rw (e, rule.stepping, d) (subst (λ (j : Job). KeepsJob j (rule.stepping f n)) (action_job m n (action m n e).1) (stepping_job f n))))

-- Deliveries

faulted_job : (m : Machine) → KeepsJob m.job (rule.faulted m)
faulted_job m = by_bool m.fault (λ d. rw d tt) (λ d. rw d refl)

delivering_job : (r n : ℕ) (m : Machine) → KeepsJob m.job (rule.delivering r n m)
unfolding rule.delivering
delivering_job r n m =
    let x = get no_read m.reads r in
    let m' = with_reads (put no_read m.reads r (record { leaf = x.leaf; owner = none; delivered = true })) m in
    by_bool (leb (length m.reads) r)
    (λ a. rw a tt)
    (λ a. by_bool x.delivered (λ b. rw (a, b) tt)
    (λ b. by_bool (eqb (node_of m.job x.leaf).rows n)
    (λ c. rw (a, b, c) (subst (λ (j : Job). KeepsJob j (rule.faulted (rule.bring x.owner m'))) (bring_keeps x.owner m').0
    (faulted_job (rule.bring x.owner m'))))
    (λ c. rw (a, b, c) tt)))

-- The public calls

pub step_job : (m : Machine) → KeepsJob m.job (rule.step m)
unfolding rule.step
step_job m = by_bool (check m) (λ c. rw (c, rule.step) (stepping_job patience m)) (λ c. rw (c, rule.step) tt)

go_on_job : (j : Job) (a : rule.Answer rule.Delivered) → KeepsJob j a → KeepsJob j (rule.go_on a)
go_on_job j (rule.says rule.ok m) h = subst (λ (i : Job). KeepsJob i (rule.step m)) h (step_job m)
go_on_job j (rule.refuses n m) h = tt

pub deliver_job : (r n : ℕ) (m : Machine) → KeepsJob m.job (rule.deliver r n m)
unfolding rule.deliver
deliver_job r n m =
    by_bool (check m) (λ c. rw (c, rule.deliver) (go_on_job m.job (rule.delivering r n m) (delivering_job r n m))) (λ c. rw (c, rule.deliver) tt)
