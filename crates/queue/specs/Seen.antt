-- What a reader sees, in the terms of the rules.
use Rattle.rules.specs.Port as rules
use Rattle.queue.specs.declared.seen.Seen.{Seen}
use Rattle.queue.specs.declared.seen.Seen.TheVariants.{Waiting, Ready, Ended}

abbrev pub seen_of : Seen → rules.Seen
seen_of Waiting = rules.waiting
seen_of Ready = rules.ready
seen_of Ended = rules.ended
