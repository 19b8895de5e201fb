-- `check_sources::source::source_ok` meets its contract.
use Rattle.jobs.specs.Job.{node_of}
use Rattle.tables.specs.View.{view}
use Rattle.check_sources.specs.Source.{source_is}
use Rattle.check_sources.proofs.source.source_ok.Goals as goal

pub returns-in-Segment : goal.returns-in-Segment
returns-in-Segment c =
    source_is (view c.args.s.now) c.args.p.at (node_of c.load_node-k.result) c.load_source.result _ _ c.load_node-k.ensures
    c.load_source.ensures c.in-Segment.is
    c.segment_ok.ensures

pub returns-in-Concat : goal.returns-in-Concat
returns-in-Concat c =
    source_is (view c.args.s.now) c.args.p.at (node_of c.load_node-k.result) c.load_source.result _ _ c.load_node-k.ensures
    c.load_source.ensures c.in-Concat.is
    c.concat_ok.ensures

pub returns-in-Pack : goal.returns-in-Pack
returns-in-Pack c =
    source_is (view c.args.s.now) c.args.p.at (node_of c.load_node-k.result) c.load_source.result _ _ c.load_node-k.ensures c.load_source.ensures
    c.in-Pack.is c.pack_fits.ensures
