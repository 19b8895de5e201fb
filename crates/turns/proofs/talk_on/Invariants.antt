-- `turns::talk_on` keeps its place within the buffer; at every round what was said up to now and what is ahead are the session of what was read, the
-- reader handed over what was read, and the writer took what was said.
use Rattle.std.proofs.Common.{◌≡◌, true, length}
use Rattle.turns.specs.Place.{Within}
use Rattle.turns.specs.Told.{Heard}
use Rattle.turns.proofs.talk_on.Given as goal

abbrev pub invariant-loop-turns : goal.invariant-loop-turns
invariant-loop-turns g l = record {
  size : length l.buf ≡ length l.initial.buf;
  within : Within l.t.place (length l.buf);
  heard : Heard l.t l.turns true (g.R.Read.remaining l.initial.input) (g.R.Read.remaining l.input)
      (g.W.Write.contents l.initial.output) (g.W.Write.contents l.output) l.buf l.state;
}
