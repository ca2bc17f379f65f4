use Rattle.std.proofs.Common.{◌≡◌, ◌+◌, length, take}
use Rattle.std.specs.List.{concat}
use Rattle.table_source_frames_build.specs.KeptViews.{kept_view}
use Rattle.table_source_frames_build.specs.PartBytes.{texts_at}
use Rattle.table_source_frames_build.proofs.kept.Kept.texts_len.Given as goal

abbrev pub invariant-loop-text : goal.invariant-loop-text
invariant-loop-text l = l.left + length (concat (texts_at (kept_view l.self) (take l.text-index l.texts))) ≡ l.most
