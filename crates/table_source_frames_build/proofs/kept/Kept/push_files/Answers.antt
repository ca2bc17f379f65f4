use Rattle.std.proofs.Common.{arith}
use Rattle.table_source_frames_build.specs.Kept.{file_key_at}
use Rattle.table_source_frames_build.specs.KeptViews.{kept_view}
use Rattle.table_source_frames_build.specs.PartBytes.{file_row, text_numbers}
use Rattle.table_source_frames_build.proofs.LoopLemmas.{rows_end, rows_more}
use Rattle.table_source_frames_build.proofs.kept.Kept.push_files.Goals as goal

pub loop-number-preserved : goal.loop-number-preserved
loop-number-preserved c =
    rows_more (λ n. file_row (text_numbers c.args.parts.now) (file_key_at (kept_view c.args.self.now) n))
    c.args.numbers.now c.loop-number.number-index 0 c.args.text.now.items c.loop-number.text.items
    c.push_file.new.text.items c.loop-number-test.true c.in_ok-push_file.ensures
    c.loop-number.invariant

pub returns : goal.returns
returns c =
    rows_end (λ n. file_row (text_numbers c.args.parts.now) (file_key_at (kept_view c.args.self.now) n))
    c.args.numbers.now c.loop-number.number-index c.args.text.now.items c.loop-number.text.items (omega arith)
    c.loop-number.invariant
