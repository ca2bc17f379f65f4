use Rattle.index_build.proofs.Stopped.{stopped_so}
use Rattle.index_build.proofs.indexing.index_input.Goals as goal

pub returns-in-Ok : goal.returns-in-Ok
returns-in-Ok g c =
    let m = c.in-Ok.ensures in
    record {
      content = m.content;
      is_content = m.whole.is;
      slices = m.slices;
      archive_is = m.text;
      unfailed = m.whole.unfailed;
      text = m.index;
      is_index = m.is_index;
      written_is = m.put;
    }

pub returns-in-Err : goal.returns-in-Err
returns-in-Err g c =
    stopped_so g.R.Source.left g.R.Source.failures c.args.archive.now _ g.W.Sink.held g.W.Sink.failures _ _ _ _ c.in-Err.ensures c.stop_of.ensures
