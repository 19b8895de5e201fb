-- `driver::source::source_ready` meets its contract.
use Rattle.order.specs.RangeFits.{fits}
use Rattle.tables.specs.View.{view}
use Rattle.driver.proofs.source.source_ready.Goals as goal

pub test_source-ready-requires : goal.test_source-ready-requires
test_source-ready-requires c =
    record {
      fits = fits (view c.args.s.now) c.requires.runs.ranged;
      live = c.requires.runs.live;
      s_len_bound = c.requires.runs.news;
    }
