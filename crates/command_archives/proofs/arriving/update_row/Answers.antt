use Rattle.std.proofs.Common.{ap, set, ◌∙◌}
use Rattle.std.proofs.lemmas.List.{get_or_default}
use Rattle.command_archives.specs.declared.file_rows.FileRow.{FileRow}
use Rattle.command_archives.specs.InnerArriving.{updated_row}
use Rattle.command_archives.proofs.arriving.update_row.Goals as goal

pub returns : goal.returns
returns c = λ none.
    let rows = c.args.rows.now in
    ap (λ (row : FileRow). set rows c.args.number row)
    (c.updated_row.ensures ∙ ap (updated_row c.args.new)
    (c.index-rows-number.is ∙ get_or_default rows c.args.number c.index-rows-number.result none c.requires))
