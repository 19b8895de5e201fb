-- `turns::talk::turn` meets its contract: a round that waits reads, and one that does not leaves the buffer as it is.
use native.Mathlib.Omega.{arith}
use Rattle.turns.specs.Round.{used_within, has_room, round_stays, round_reads}
use Rattle.turns.proofs.talk.turn.Goals as goal

pub overflow_add-q : goal.overflow_add-q
overflow_add-q g c =
    let low = used_within c.args.t c.args.buf.now c.args.state.now _ c.requires.within c.coming-c.result c.coming-c.ensures c.say-s.result c.say-s.ensures.says in
    omega (arith, low, c.requires.within.1)

pub refill-requires-clause-within : goal.refill-requires-clause-within
refill-requires-clause-within g c =
    let low = used_within c.args.t c.args.buf.now c.args.state.now _ c.requires.within c.coming-c.result c.coming-c.ensures c.say-s.result c.say-s.ensures.says in
    (low, c.requires.within.1)

pub refill-requires-clause-at_in_bounds : goal.refill-requires-clause-at_in_bounds
refill-requires-clause-at_in_bounds g c =
    let room = has_room c.args.t c.args.buf.now c.args.state.now _ c.requires.within c.coming-c.result c.coming-c.ensures c.say-s.result c.say-s.ensures.says in
    room c.if-s.true c.requires.in_bounds

pub returns-then-s-clause-round : goal.returns-then-s-clause-round
returns-then-s-clause-round g c =
    round_reads c.args.t c.args.buf.now c.args.state.now _ c.requires.within c.coming-c.result c.coming-c.ensures c.say-s.result c.say-s.ensures.says
    c.if-s.true _ c.refill.result c.refill.ensures.refilled

pub returns-clause-round : goal.returns-clause-round
returns-clause-round g c =
    round_stays c.args.t c.args.buf.now c.args.state.now _ c.requires.within c.coming-c.result c.coming-c.ensures c.say-s.result c.say-s.ensures.says
    c.if-s.false
