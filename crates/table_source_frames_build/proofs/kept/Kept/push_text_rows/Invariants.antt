use Rattle.std.proofs.Common.{◌≡◌, ◌+◌, ◌++◌, length, drop}
use Rattle.std.specs.List.{concat}
use Rattle.table_source_frames.specs.LineText.{text_rows}
use Rattle.table_source_frames_build.specs.KeptViews.{kept_view}
use Rattle.table_source_frames_build.specs.PartBytes.{texts_at}
use Rattle.table_source_frames_build.proofs.kept.Kept.push_text_rows.Given as goal

abbrev pub invariant-loop-text : goal.invariant-loop-text
invariant-loop-text l = record {
  place : l.place + length (concat (texts_at (kept_view l.self) (drop l.text-index l.texts))) ≡ length (concat (texts_at (kept_view l.self) l.texts));
  rows : l.bytes.items ++ text_rows l.place (texts_at (kept_view l.self) (drop l.text-index l.texts)) ≡ l.fn.bytes.items
      ++ text_rows 0 (texts_at (kept_view l.self) l.texts);
}
