use Rattle.std.proofs.Common.{◌∙◌, ap}
use Rattle.std.specs.List.{flat_map}
use Rattle.std.proofs.lemmas.List.{take_all}
use Rattle.archive_core.specs.Names.{owned_name_view}
use Rattle.text_reports.specs.Names.{name_row_text}
use Rattle.text_reports.specs.Report.{line}
use Rattle.text_reports.proofs.Named.{lines_viewed}
use Rattle.text_reports.proofs.names.name_lines.Goals as goal

pub returns : goal.returns
returns c =
    c.rows.invariant
    ∙ ap (λ rows. flat_map (λ row. line (name_row_text (owned_name_view row))) rows) (take_all c.rows.row-index c.args.rows.now c.rows-test.false)
    ∙ lines_viewed c.args.rows.now
