-- Document 01, "Sessions": C1 to C10, each accepted delivery with its turn (document 02 (m)) and C7 as document 02 (a) has it, runs at fault
-- (document 02 (h)), ports full by their rows (document 02 (g)) and joins of one child (document 02 (k)), computed by the definitions.
use Rattle.std.specs.Prelude.{◌≡◌, refl, ℕ, ◌/◌, ◌%◌, replicate}
use mathlib.Core.List.{List, [], ◌∷◌, ◌++◌, map, flat_map}
use Prim.Native.String.{String}
use Rattle.rules.specs.Check
use Rattle.rules.specs.Drive
use Rattle.rules.specs.InletSet
use Rattle.rules.specs.Job
use Rattle.rules.specs.Lower
use Rattle.rules.specs.Machine
use Rattle.rules.specs.Operators
use Rattle.rules.specs.Pipelines
use Rattle.rules.specs.Plan
use Rattle.rules.specs.Port
use Rattle.rules.specs.Ports
use Rattle.rules.specs.Scan
use Rattle.rules.specs.Session
use Rattle.rules.specs.Shares
use Rattle.rules.specs.Table
use Rattle.rules.specs.Wake
use Rattle.rules.specs.Text.{ascii}

-- a field, low byte first
abbrev pub word_bytes : ℕ → List ℕ
word_bytes n = n % 256 ∷ n / 256 % 256 ∷ n / 65536 % 256 ∷ n / 16777216 % 256 ∷ []

-- a record or a call: a mark and its fields
abbrev pub written : List (String × List ℕ) → List ℕ
written [] = []
written (r ∷ rs) = ascii r.0 ++ flat_map word_bytes r.1 ++ written rs

-- what is read, and what must be printed
abbrev Case : Type 0
Case = List (String × List ℕ) × String

-- two segments joined, read from the newest pipeline on
abbrev c1 : Case
c1 = (("SC", 1 ∷ []) ∷ ("SG", 1 ∷ 3 ∷ []) ∷ ("SG", 2 ∷ 2 ∷ []) ∷ ("CC", 2 ∷ []) ∷ ("SP", 0 ∷ 5 ∷ 1 ∷ 0 ∷ 5 ∷ []) ∷ ("ST", []) ∷ ("ST", []) ∷ ("ST", []) ∷ ("DL", 0 ∷ 2 ∷ []) ∷ ("DL", 1 ∷ 3 ∷ []) ∷ ("ST", []) ∷ ("ST", []) ∷ [], "open\nread 0 2\nread 1 1\nwait\nwait\nout 0 3 1:0\nout 0 2 2:0\ndone\n")

-- a segment of which nothing is kept is never read
abbrev c2 : Case
c2 = (("SC", 1 ∷ []) ∷ ("SG", 1 ∷ 3 ∷ []) ∷ ("SG", 2 ∷ 2 ∷ []) ∷ ("SG", 3 ∷ 4 ∷ []) ∷ ("CC", 3 ∷ []) ∷ ("SP", 0 ∷ 9 ∷ 2 ∷ 0 ∷ 3 ∷ 5 ∷ 4 ∷ []) ∷ ("ST", []) ∷ ("ST", []) ∷ ("ST", []) ∷ ("DL", 0 ∷ 4 ∷ []) ∷ ("DL", 1 ∷ 3 ∷ []) ∷ ("ST", []) ∷ ("ST", []) ∷ [], "open\nread 0 3\nread 1 1\nwait\nwait\nout 0 3 1:0\nout 0 4 3:0\ndone\n")

-- a pack beside a concat
abbrev c3 : Case
c3 = (("SC", 1 ∷ []) ∷ ("SG", 1 ∷ 4 ∷ []) ∷ ("SG", 2 ∷ 1 ∷ []) ∷ ("SG", 3 ∷ 3 ∷ []) ∷ ("CC", 2 ∷ []) ∷ ("PK", 2 ∷ []) ∷ ("SP", 0 ∷ 4 ∷ 1 ∷ 0 ∷ 4 ∷ []) ∷ ("ST", []) ∷ ("ST", []) ∷ ("ST", []) ∷ ("ST", []) ∷ ("DL", 0 ∷ 4 ∷ []) ∷ ("DL", 1 ∷ 3 ∷ []) ∷ ("DL", 2 ∷ 1 ∷ []) ∷ ("ST", []) ∷ ("ST", []) ∷ [], "open\nread 0 1\nread 1 3\nread 2 2\nwait\nwait\nwait\nout 0 1 1:0 2:0\nout 0 3 1:1 3:0\ndone\n")

-- a segment shared by two splits is read once
abbrev c4 : Case
c4 = (("SC", 1 ∷ []) ∷ ("SG", 7 ∷ 6 ∷ []) ∷ ("SP", 0 ∷ 2 ∷ 1 ∷ 0 ∷ 2 ∷ []) ∷ ("SP", 2 ∷ 6 ∷ 1 ∷ 0 ∷ 4 ∷ []) ∷ ("ST", []) ∷ ("ST", []) ∷ ("DL", 0 ∷ 6 ∷ []) ∷ ("ST", []) ∷ ("ST", []) ∷ [], "open\nread 0 7\nwait\nout 0 2 7:0\nout 1 4 7:2\ndone\n")

-- no splits
abbrev c5 : Case
c5 = (("SC", 1 ∷ []) ∷ ("SG", 1 ∷ 4 ∷ []) ∷ ("ST", []) ∷ [], "open\ndone\n")

-- a split with no runs
abbrev c6 : Case
c6 = (("SC", 1 ∷ []) ∷ ("SG", 1 ∷ 4 ∷ []) ∷ ("SP", 0 ∷ 4 ∷ 0 ∷ []) ∷ ("ST", []) ∷ [], "open\ndone\n")

-- runs that meet are one
abbrev c7 : Case
c7 = (
  ("SC", 1 ∷ []) ∷ ("SG", 1 ∷ 4 ∷ []) ∷ ("SP", 0 ∷ 4 ∷ 2 ∷ 0 ∷ 2 ∷ 2 ∷ 1 ∷ []) ∷ ("ST", []) ∷ ("ST", []) ∷ ("DL", 0 ∷ 4 ∷ []) ∷ ("ST", []) ∷ [],
  "open\nread 0 1\nwait\nout 0 3 1:0\ndone\n",
)

-- runs with a gap
abbrev c8 : Case
c8 = (("SC", 1 ∷ []) ∷ ("SG", 1 ∷ 4 ∷ []) ∷ ("SP", 0 ∷ 4 ∷ 2 ∷ 0 ∷ 2 ∷ 3 ∷ 1 ∷ []) ∷ ("ST", []) ∷ ("ST", []) ∷ ("DL", 0 ∷ 4 ∷ []) ∷ ("ST", []) ∷ ("ST", []) ∷ [], "open\nread 0 1\nwait\nout 0 2 1:0\nout 0 1 1:3\ndone\n")

-- an empty job
abbrev c9 : Case
c9 = ([], "no 2\n")

-- a read delivered twice
abbrev c10 : Case
c10 = (("SC", 1 ∷ []) ∷ ("SG", 1 ∷ 4 ∷ []) ∷ ("SP", 0 ∷ 4 ∷ 1 ∷ 0 ∷ 4 ∷ []) ∷ ("ST", []) ∷ ("ST", []) ∷ ("DL", 0 ∷ 4 ∷ []) ∷ ("DL", 0 ∷ 4 ∷ []) ∷ ("ST", []) ∷ [], "open\nread 0 1\nwait\nout 0 4 1:0\nno 10\ndone\n")

-- an overlap
abbrev overlap : Case
overlap = (("SC", 1 ∷ []) ∷ ("SG", 1 ∷ 4 ∷ []) ∷ ("SP", 0 ∷ 4 ∷ 2 ∷ 0 ∷ 2 ∷ 1 ∷ 2 ∷ []) ∷ [], "no 18 1\n")

-- an overlap that passes the split's end: 18 comes before 19
abbrev overlap_past : Case
overlap_past = (("SC", 1 ∷ []) ∷ ("SG", 1 ∷ 4 ∷ []) ∷ ("SP", 0 ∷ 4 ∷ 2 ∷ 0 ∷ 2 ∷ 1 ∷ 9 ∷ []) ∷ [], "no 18 1\n")

-- the first run passes the split's end, the second is empty: a run comes before those behind it
abbrev past_first : Case
past_first = (("SC", 1 ∷ []) ∷ ("SG", 1 ∷ 4 ∷ []) ∷ ("SP", 0 ∷ 4 ∷ 2 ∷ 0 ∷ 9 ∷ 1 ∷ 0 ∷ []) ∷ [], "no 19 0\n")

-- two runs meet, the third is empty: runs are counted as they are written
abbrev empty_third : Case
empty_third = (("SC", 1 ∷ []) ∷ ("SG", 1 ∷ 4 ∷ []) ∷ ("SP", 0 ∷ 4 ∷ 3 ∷ 0 ∷ 1 ∷ 1 ∷ 1 ∷ 2 ∷ 0 ∷ []) ∷ [], "no 17 2\n")

-- 65,535 rows and one more fill a slot's port: the last row of split 1 comes behind that of split 0
abbrev slot_full : Case
slot_full = (
  ("SC", 2 ∷ []) ∷ ("SG", 1 ∷ 65535 ∷ []) ∷ ("SG", 2 ∷ 1 ∷ []) ∷ ("SG", 3 ∷ 1 ∷ []) ∷ ("CC", 3 ∷ []) ∷ ("SP", 65536 ∷ 65537 ∷ 1 ∷ 0 ∷ 1 ∷ [])
      ∷ ("SP", 0 ∷ 65537 ∷ 1 ∷ 0 ∷ 65537 ∷ []) ∷ ("ST", []) ∷ ("ST", []) ∷ ("DL", 0 ∷ 1 ∷ []) ∷ ("DL", 1 ∷ 65535 ∷ []) ∷ ("ST", [])
      ∷ ("DL", 2 ∷ 1 ∷ []) ∷ ("ST", []) ∷ ("ST", []) ∷ [],
  "open\nread 0 2\nread 1 1\nread 2 3\nout 1 65535 1:0\nout 1 1 2:0\nout 0 1 3:0\nout 1 1 3:0\ndone\n",
)

-- a pack takes one row of 65,536, and the writer of that port is woken; shared ports of more rows, which split 2 has not claimed, are not full
abbrev part_taken : Case
part_taken = (
  ("SC", 2 ∷ []) ∷ ("SG", 1 ∷ 1 ∷ []) ∷ ("SG", 2 ∷ 65537 ∷ []) ∷ ("CC", 2 ∷ []) ∷ ("SG", 3 ∷ 65538 ∷ []) ∷ ("PK", 2 ∷ [])
      ∷ ("SP", 1 ∷ 2 ∷ 1 ∷ 0 ∷ 1 ∷ []) ∷ ("SP", 0 ∷ 65538 ∷ 2 ∷ 0 ∷ 65536 ∷ 65537 ∷ 1 ∷ []) ∷ ("SP", 1 ∷ 2 ∷ 0 ∷ []) ∷ ("ST", []) ∷ ("ST", [])
      ∷ ("DL", 1 ∷ 65538 ∷ []) ∷ ("DL", 0 ∷ 1 ∷ []) ∷ ("DL", 2 ∷ 65537 ∷ []) ∷ ("ST", []) ∷ ("ST", []) ∷ ("ST", []) ∷ [],
  "open\nread 0 1\nread 1 3\nread 2 2\nout 1 1 1:0 3:0\nout 1 65535 2:0 3:1\nout 0 1 2:0 3:1\nout 1 1 2:65536 3:65537\ndone\n",
)

-- a concat and a pack of one child, one above the other: neither makes a pipeline, and the reads are numbered as without them
abbrev two_lone : Case
two_lone = (
  ("SC", 1 ∷ []) ∷ ("SG", 1 ∷ 1 ∷ []) ∷ ("CC", 1 ∷ []) ∷ ("PK", 1 ∷ []) ∷ ("SG", 2 ∷ 1 ∷ []) ∷ ("SG", 3 ∷ 1 ∷ []) ∷ ("CC", 2 ∷ []) ∷ ("CC", 2 ∷ [])
      ∷ ("SP", 0 ∷ 3 ∷ 1 ∷ 0 ∷ 3 ∷ []) ∷ ("ST", []) ∷ ("ST", []) ∷ ("ST", []) ∷ ("ST", []) ∷ [],
  "open\nread 0 1\nread 1 3\nread 2 2\nwait\n",
)

-- 24 such joins over one segment: "it still counts to the 24"
abbrev lone_counted : Case
lone_counted = (("SC", 1 ∷ []) ∷ ("SG", 1 ∷ 1 ∷ []) ∷ replicate 24 ("CC", 1 ∷ []), "no 3\n")

abbrev cases : List Case
cases =
    c1 ∷ c2 ∷ c3 ∷ c4 ∷ c5 ∷ c6 ∷ c7 ∷ c8 ∷ c9 ∷ c10 ∷ overlap ∷ overlap_past ∷ past_first ∷ empty_third ∷ slot_full ∷ part_taken ∷ two_lone ∷ lone_counted ∷ []

-- one name that opens all that a session computes with
unfoldable pub computing : Unit {0}
unfolding flat_map
    Check.restore_all Check.same_node Check.same_nodes Check.finishes Check.job_ok Check.set_ok Check.cell_ok Check.counts_ok Check.lists_ok
    Check.fed_below Check.fed_shared Check.has_source Check.inlets_live Check.pipe_ok Check.port_ok Check.queue_ok Check.check
    Drive.ask Drive.observe_all Drive.take_front Drive.take_each Drive.give_out Drive.source_out Drive.compute Drive.after_test Drive.round Drive.drive
    Drive.set_stopped Drive.run
    InletSet.insert_all InletSet.replace InletSet.remove
    Job.word Job.runs Job.fields Job.next_record Job.unless Job.width_of Job.rows_of Job.unequal Job.set_parents Job.runs_fault Job.read_faults Job.join_onto
    Job.accept Job.restore Job.kids_from Job.row_at Job.place_from Job.read_all Job.parse Job.accept_written Job.as_written
    Lower.join_from Lower.lower_leaf Lower.lower_node Lower.lower_list
    Machine.blank Machine.start
    Operators.emit Operators.concat_at Operators.pack_ready Operators.least
    Pipelines.lay Pipelines.take_number Pipelines.add Pipelines.retire Pipelines.inserted Pipelines.by_number Pipelines.retire_each
    Plan.one_of Plan.all_of Plan.row_in Plan.kept_rows Plan.kept Plan.span_start Plan.span_end
    Port.rows_from Port.is_full Port.taken Port.sees
    Ports.push_each Ports.free_each Ports.close_each Ports.drop_each
    Scan.end_split Scan.empty_slot Scan.activate Scan.serve Scan.advance Scan.run_next Scan.from_ready Scan.from_splits
    Scan.from_dirty Scan.from_reads Scan.inner Scan.stepping Scan.bring Scan.delivering Scan.«open» Scan.step Scan.deliver
    Session.digits Session.turn_line Session.next_call Session.answer Session.calls Session.at_call Session.behind_job Session.opened Session.session
    Shares.make_ports Shares.build Shares.claim
    Table.filter Table.find Table.any Table.all Table.each Table.sum_of Table.is_empty Table.given Table.up_from Table.has Table.is_some
    Wake.make_runnable Wake.wake_reader Wake.wake_writer Wake.wake_writers Wake.tell Wake.pass_mark Wake.pass_marks
computing = tt

pub sessions_alike : map (λ (c : Case). Session.session (written c.0)) cases ≡ map (λ (c : Case). ascii c.1) cases
unfolding computing
sessions_alike = refl

-- "An all-zero state gives 12.": by a step and by any delivery
pub zero_steps : Scan.step Machine.zeroed ≡ Scan.refuses 12 Machine.zeroed
unfolding computing
zero_steps = refl

pub zero_delivers : (r n : ℕ) → Scan.deliver r n Machine.zeroed ≡ Scan.refuses 12 Machine.zeroed
unfolding computing
zero_delivers r n = refl
