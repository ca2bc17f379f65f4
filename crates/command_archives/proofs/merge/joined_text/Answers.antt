use Rattle.command_common.specs.Inputs.{readers}
use Rattle.command_archives.proofs.Joined.{text_of_join}
use Rattle.command_archives.proofs.merge.joined_text.Goals as goal

pub returns : goal.returns
returns g c =
    text_of_join _ c.text_in_memory.result (readers g.S.Source.left g.S.Source.failures c.args.files.now
    c.join_files.new.files) _ _ c.empty-joined.ensures c.in_ok-join_files.ensures
    c.text_in_memory.ensures.text c.text_in_memory.ensures.content c.text_in_memory.ensures.wanting
