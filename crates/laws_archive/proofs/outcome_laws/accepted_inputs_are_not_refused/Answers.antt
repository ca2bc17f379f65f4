use Rattle.std.proofs.Common.{◌≡◌, refl}
use Rattle.archive_records.specs.Text.{summary_text}
use Rattle.archive_records.specs.declared.kind.TextKind.TheVariants.{Operations as OperationsFile, Summary as SummaryFile}
use Rattle.archive_image_admission.specs.File.{IsAcceptedFile}
use Rattle.command_common.specs.declared.faults.InputName.TheVariants.{File, Ops, Summary}
use Rattle.command_common.specs.Inputs.{IsAccepted, IsFileRefused, IsGiven}
use Rattle.laws_archive.proofs.Accepted.{archive as archive_alone, listed_refused, merge_refused, text_refused}
use Rattle.laws_archive.proofs.Given.{gives}
use Rattle.laws_archive.proofs.Refusals.{file_accepted}
use Rattle.laws_archive.proofs.outcome_laws.accepted_inputs_are_not_refused.Goals as goal

pub returns : goal.returns
returns g c = record {
  admit = λ input files o texts content given files_given accepted at why.
      listed_refused input files o texts at why content given IsGiven IsAcceptedFile File IsAccepted IsFileRefused
      (λ file text fine is. file_accepted c.one_take_fault.ensures.none file file why (text, is, is)
      (text, fine, gives file text (λ bytes. bytes ≡ text) is refl))
      files_given accepted;
  retire = λ key digest input o at why content given refused. archive_alone input o why content given refused.1;
  merge = λ input files o contents content are given files_given at why. merge_refused input files o contents at why content are given files_given;
  migrate = λ input o at why content given refused. archive_alone input o why content given refused.1;
  apply = λ input ops o text operations content given ops_given is at why.
      text_refused OperationsFile Ops input ops o operations text at why content is.are given ops_given is;
  summary = λ input o at why content given refused. archive_alone input o why content given refused.1;
  delta = λ input named o entries content are given named_given at why.
      text_refused SummaryFile Summary input named o entries (summary_text entries) at why content are given named_given refl;
}
