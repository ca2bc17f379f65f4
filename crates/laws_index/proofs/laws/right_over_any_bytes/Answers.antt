use Rattle.laws_index.proofs.OtherBytes.{frames_over, no_lines_over, symbols_over}
use Rattle.laws_index.proofs.laws.right_over_any_bytes.Goals as goal

pub returns-clause-symbols : goal.returns-clause-symbols
returns-clause-symbols c index text r entries asked own table tell bytes told =
    symbols_over index text r entries table tell bytes asked own told

pub returns-clause-frames : goal.returns-clause-frames
returns-clause-frames c index text r entries asked frames table tell bytes told =
    frames_over index text r entries table tell bytes asked frames told

pub returns-clause-lines : goal.returns-clause-lines
returns-clause-lines c index text r entries table tell bytes told =
    no_lines_over index text r entries table tell bytes told
