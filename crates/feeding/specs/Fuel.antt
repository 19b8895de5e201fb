-- The rules on bytes, with any fuel that is enough for them: each record and each call takes some.
use Rattle.std.specs.Prelude.{◌≡◌, refl, List, [], ◌∷◌, ◌++◌, ℕ, zero, suc, ◌≤◌, ◌<◌, length}
use Rattle.std.proofs.Common.{ap, arith, length-append}
use Rattle.std.proofs.Math.Option.{some}
use Rattle.laws.specs.Table.{by_bool, by_option}
use Rattle.laws.specs.Accepted.{by_outcome}
use Rattle.rules.specs.Job.{Record, Reading, next_record, accept, read_all}
use Rattle.rules.specs.Machine.{Machine}
use Rattle.rules.specs.Session.{Call, next_call, answer, calls, at_call, behind_job}
use Rattle.call_records.specs.Taken.{record_takes, size_low, call_takes}

-- what is behind a record is shorter
pub record_less : (xs : List ℕ) (r : Record) (rest : List ℕ) → next_record xs ≡ some (r, rest) → length rest < length xs
record_less xs r rest o =
    let t = record_takes xs r rest o in
    omega (arith, ap length t.is, length-append t.front rest, t.size, size_low r)

pub call_less : (xs : List ℕ) (c : Call) (rest : List ℕ) → next_call xs ≡ some (c, rest) → length rest < length xs
call_less xs c rest o =
    let t = call_takes xs c rest o in
    omega (arith, ap length t.is, length-append t.front rest, t.size)

-- Records

records_next : (f g : ℕ) (x : Reading) (b : ℕ) (bs : List ℕ)
    → ((y : Reading) (rest : List ℕ) → length rest ≤ length bs → read_all accept f y rest ≡ read_all accept g y rest)
    → read_all accept (suc f) x (b ∷ bs) ≡ read_all accept (suc g) x (b ∷ bs)
unfolding read_all
records_next f g x b bs ih =
    by_option (next_record (b ∷ bs)) (λ o. rw (o, read_all))
    (λ r o. by_outcome (accept r.0 x) (λ n a. rw (o, a, read_all))
    (λ y a. rw (o, a, read_all) (ih y r.1 (let l = record_less (b ∷ bs) r.0 r.1 o in omega arith))))

pub records_enough : (f g : ℕ) (x : Reading) (xs : List ℕ) → length xs ≤ f → length xs ≤ g → read_all accept f x xs ≡ read_all accept g x xs
unfolding read_all
records_enough zero zero x xs h k = refl
records_enough zero (suc g) x [] h k = refl
records_enough zero (suc g) x (b ∷ bs) h k = absurd (omega arith)
records_enough (suc f) zero x [] h k = refl
records_enough (suc f) zero x (b ∷ bs) h k = absurd (omega arith)
records_enough (suc f) (suc g) x [] h k = refl
records_enough (suc f) (suc g) x (b ∷ bs) h k = records_next f g x b bs (λ y rest l. records_enough f g y rest (omega arith) (omega arith))

-- The job's end

behind_next : (f g : ℕ) (xs : List ℕ)
    → ((rest : List ℕ) → length rest < length xs → behind_job f rest ≡ behind_job g rest) → behind_job (suc f) xs ≡ behind_job (suc g) xs
unfolding behind_job
behind_next f g xs ih =
    by_bool (at_call xs) (λ e. rw (e, behind_job))
    (λ e. by_option (next_record xs) (λ o. rw (e, o, behind_job)) (λ r o. rw (e, o, behind_job) (ih r.1 (record_less xs r.0 r.1 o))))

pub behind_enough : (f g : ℕ) (xs : List ℕ) → length xs ≤ f → length xs ≤ g → behind_job f xs ≡ behind_job g xs
unfolding behind_job at_call
behind_enough zero zero xs h k = refl
behind_enough zero (suc g) [] h k = refl
behind_enough zero (suc g) (b ∷ bs) h k = absurd (omega arith)
behind_enough (suc f) zero [] h k = refl
behind_enough (suc f) zero (b ∷ bs) h k = absurd (omega arith)
behind_enough (suc f) (suc g) xs h k = behind_next f g xs (λ rest l. behind_enough f g rest (omega arith) (omega arith))

-- Calls

calls_next : (f g : ℕ) (m : Machine) (b : ℕ) (bs : List ℕ) → ((n : Machine) (rest : List ℕ) → length rest ≤ length bs → calls f rest n ≡ calls g rest n)
    → calls (suc f) (b ∷ bs) m ≡ calls (suc g) (b ∷ bs) m
unfolding calls
calls_next f g m b bs ih =
    by_option (next_call (b ∷ bs)) (λ o. rw (o, calls))
    (λ c o. rw (o, calls) (ap (λ (t : List ℕ). (answer c.0 m).0 ++ t)
    (ih (answer c.0 m).1 c.1 (let l = call_less (b ∷ bs) c.0 c.1 o in omega arith))))

pub calls_enough : (f g : ℕ) (m : Machine) (xs : List ℕ) → length xs ≤ f → length xs ≤ g → calls f xs m ≡ calls g xs m
unfolding calls
calls_enough zero zero m xs h k = refl
calls_enough zero (suc g) m [] h k = refl
calls_enough zero (suc g) m (b ∷ bs) h k = absurd (omega arith)
calls_enough (suc f) zero m [] h k = refl
calls_enough (suc f) zero m (b ∷ bs) h k = absurd (omega arith)
calls_enough (suc f) (suc g) m [] h k = refl
calls_enough (suc f) (suc g) m (b ∷ bs) h k = calls_next f g m b bs (λ n rest l. calls_enough f g n rest (omega arith) (omega arith))
