-- Where the records of a job end, and so the job.
use Rattle.std.specs.Prelude.{true, false, List, ℕ, zero, suc, ◌-◌, length, Result, Ok, Err, if◌then◌else◌}
use Rattle.std.proofs.Math.Option.{none, some}
use Rattle.rules.specs.Job.{next_record}
use Rattle.rules.specs.Session.{at_call}

-- what is behind the whole records of a job: it begins with a call, or is nothing, or begins with what is no whole record. Each record takes some
-- bytes, so their number is fuel enough.
unfoldable pub behind_records : ℕ → List ℕ → List ℕ
behind_records zero bytes = bytes
behind_records (suc f) bytes =
    elim (at_call bytes) [ true ↦ bytes | false ↦ elim (next_record bytes) [ none ↦ bytes | some r ↦ behind_records f r.1 ] ]

abbrev pub job_rest : List ℕ → List ℕ
job_rest bytes = behind_records (length bytes) bytes

-- where a job's records end
abbrev pub records_end : List ℕ → ℕ
records_end bytes = length bytes - length (job_rest bytes)

-- and whether the job ends there
abbrev pub job_end : List ℕ → Result ℕ ℕ
job_end bytes = if at_call (job_rest bytes) then Ok (records_end bytes) else Err (records_end bytes)
