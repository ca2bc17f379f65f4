use Rattle.std.proofs.Common.{◌≡◌, ◌++◌, drop}
use Rattle.std.specs.List.{concat}
use Rattle.table_source_frames_build.specs.KeptViews.{kept_view}
use Rattle.table_source_frames_build.specs.PartBytes.{texts_at}
use Rattle.table_source_frames_build.proofs.kept.Kept.push_texts.Given as goal

abbrev pub invariant-loop-text : goal.invariant-loop-text
invariant-loop-text l = l.bytes.items ++ concat (texts_at (kept_view l.self) (drop l.text-index l.texts))
    ≡ l.fn.bytes.items ++ concat (texts_at (kept_view l.self) l.texts)
