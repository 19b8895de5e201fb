-- `source_steps::noting::note` meets its contract.
use borrow.Author.Rules.{rules}
use Rattle.queue.specs.Seen.{seen_of}
use Rattle.tables.specs.View.{view}
use Rattle.source_steps.specs.Noting.{inlets_few, waits_few, note_is}
use Rattle.source_steps.proofs.noting.note.Goals as goal

pub store_pack-requires : goal.store_pack-requires
store_pack-requires c =
    record {
      waiting_len_bound = waits_few (view c.args.s.now) c.args.p.at c.args.i (seen_of c.args.seen) c.load_pack-pack.result c.unwrap_or.result c.observe.result
          c.requires.packing c.requires.i_in_bounds (inlets_few c.args.s.now c.args.p.at (search rules) c.args.p.below c.requires.packing)
          c.load_pack-pack.ensures c.observe.ensures c.unwrap_or.ensures;
    }

pub returns : goal.returns
returns c = (
  note_is (view c.args.s.now) c.args.p.at c.args.i (seen_of c.args.seen) c.load_pack-pack.result c.unwrap_or.result c.observe.result c.requires.packing c.requires.i_in_bounds
      (inlets_few c.args.s.now c.args.p.at (search rules) c.args.p.below c.requires.packing) c.load_pack-pack.ensures c.observe.ensures c.unwrap_or.ensures _
      c.store_pack.ensures.0,
  c.store_pack.ensures.1,
)
