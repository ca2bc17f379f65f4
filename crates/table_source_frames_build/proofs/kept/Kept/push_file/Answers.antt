use Rattle.table_source_frames_build.specs.PartBytes.{text_numbers}
use Rattle.table_source_frames_build.proofs.LoopLemmas.{file_pushed, on_ok_weaker}
use Rattle.table_source_frames_build.proofs.kept.Kept.push_file.Goals as goal

pub returns : goal.returns
returns c =
    on_ok_weaker c.push_u32-3.result
    (file_pushed (text_numbers c.args.parts.now) c.file_key_of-key.result _ c.number_of.result c.number_of-2.result
    c.number_of-3.result c.args.text.now.items c.push_u32.new.text.items c.push_u32-2.new.text.items
    c.push_u32-3.new.text.items c.file_key_of-key.ensures c.number_of.ensures
    c.number_of-2.ensures c.number_of-3.ensures c.in_ok-push_u32.ensures c.in_ok-push_u32-2.ensures) c.push_u32-3.ensures
