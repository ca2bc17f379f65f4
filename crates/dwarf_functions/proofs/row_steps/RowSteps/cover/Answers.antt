use Rattle.std.proofs.Common.{arith}
use Rattle.dwarf_functions.proofs.CoverLemmas.{covers_more}
use Rattle.dwarf_functions.proofs.row_steps.RowSteps.cover.Goals as goal

pub starts-preserved : goal.starts-preserved
starts-preserved c =
    let i = c.starts.invariant in
    let more =
    covers_more c.args.first c.args.end c.starts.at c.first_from-at-in-starts.result c.args.row
    c.args.waiting.now.next.items c.starts.waiting.next.items c.end.new.self.next.items
    c.first_from-at-in-starts.new.self.next.items c.args.self.now.rows.items c.starts.self.rows.items
    (record {
      count = i.count;
      nexts = i.nexts;
      from = i.from;
      within = i.within;
      here = i.here;
      covered = i.covered;
      no_longer = i.no_longer;
      still_before = i.still_before;
      still_behind = i.still_behind;
      still_ahead =
          i.still_ahead;
      only = i.only;
      before_first = i.before_first;
      behind = i.behind;
      done = i.done;
    })
    (omega arith) c.requires.end c.requires.count c.end.ensures c.first_from-at-in-starts.ensures.found c.first_from-at-in-starts.ensures.same in
    record {
      starts = i.starts;
      count = more.count;
      nexts = more.nexts;
      from = more.from;
      within = more.within;
      here =
          more.here;
      covered = more.covered;
      no_longer = more.no_longer;
      still_before = more.still_before;
      still_behind =
          more.still_behind;
      still_ahead = more.still_ahead;
      only = more.only;
      before_first = more.before_first;
      behind =
          more.behind;
      done = more.done;
    }
