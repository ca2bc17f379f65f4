use Rattle.std.proofs.Common.{◌∙◌, sym}
use Rattle.archive_records.specs.declared.format.Format.TheVariants.{Archive, Operations, Summary}
use Rattle.archive_records.proofs.Formats.{same_fronts}
use Rattle.archive_records.proofs.kind.TextKind.magic_begins_with.Goals as goal

pub returns-in-Archive : goal.returns-in-Archive
returns-in-Archive c = λ format is.
    let same = same_fronts Archive format (sym c.in-Archive.is ∙ sym is) _ c.requires in
    (λ t. c.magic_begins_with.ensures.0 t ∙ same, λ e. c.magic_begins_with.ensures.1 (e ∙ sym same))

pub returns-in-Operations : goal.returns-in-Operations
returns-in-Operations c = λ format is.
    let same = same_fronts Operations format (sym c.in-Operations.is ∙ sym is) _ c.requires in
    (λ t. c.magic_begins_with-in-Operations.ensures.0 t ∙ same, λ e. c.magic_begins_with-in-Operations.ensures.1 (e ∙ sym same))

pub returns-in-Summary : goal.returns-in-Summary
returns-in-Summary c = λ format is.
    let same = same_fronts Summary format (sym c.in-Summary.is ∙ sym is) _ c.requires in
    (λ t. c.magic_begins_with-in-Summary.ensures.0 t ∙ same, λ e. c.magic_begins_with-in-Summary.ensures.1 (e ∙ sym same))
