use Rattle.laws_index.proofs.ByTables.{frames_alone, frames_either, frames_untied}
use Rattle.laws_index.proofs.FrameKeys.{frame_keys}
use Rattle.laws_index.proofs.command_laws.framed_by_indexes.Goals as goal

pub returns : goal.returns
returns g c = record {
  untied = λ inputs archives os lines slices listed status text given tell keyed by. frames_untied inputs archives os
      lines slices listed status text given tell keyed by;
  alone = λ input archive o lines slices listed status text is keyed by. frames_alone input archive o is lines slices listed status text keyed by;
  either = λ inputs archives os lines slices listed status text are tell keyed by. frames_either inputs archives os
      lines slices listed status text are tell keyed by;
  keys = λ bytes listed frame is there. frame_keys bytes listed frame is there;
}
