use Rattle.std.proofs.Common.{ap, sym, ◌∙◌}
use Rattle.archive_core.specs.Summary.{Entries}
use Rattle.index_format.proofs.Summarised.{summary_of_index}
use Rattle.archive_records.specs.Text.{summary_text}
use Rattle.command_common.specs.Outputs.{summary_report_of}
use Rattle.command_given_indexes.specs.Answered.{summary_in}
use Rattle.laws_index.proofs.Accepted.{entries_are}
use Rattle.laws_index.proofs.command_laws.summarized_by_index.Goals as goal

pub returns : goal.returns
returns g c = λ input archive o text report (index, given, file) makes.
    let told = makes.have in
    let is = entries_are input o told.entries (index, given, file) told.index_of.index_is in
    let same = told.is_true ∙ ap (λ (s : Entries). summary_in s) is ∙ sym (summary_of_index o file.content) in
    (makes.text_is ∙ ap summary_text same, makes.told_is ∙ ap summary_report_of same)
