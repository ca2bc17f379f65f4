use Rattle.archive_records.specs.declared.kind.TextKind.TheVariants.{Operations as OperationsFile, Summary as SummaryFile}
use Rattle.command_common.specs.declared.faults.InputName.TheVariants.{File, Ops, Summary}
use Rattle.command_common.specs.Archives.{further_name}
use Rattle.command_common.specs.Inputs.{IsAccepted, IsArchive, IsArchiveRefused, IsFileRefused, IsFirstRefused, IsRefusedOps, IsRefusedSummary}
use Rattle.laws_archive.proofs.Refusals.{archives_agree, files_agree, one_archive, one_at, one_first, one_in_turn}
use Rattle.laws_archive.proofs.refusal_laws.one_refusal.Goals as goal

pub returns : goal.returns
returns g c = record {
  admit = λ input other files others alike each.
      let agree = files_agree c.one_take_fault.ensures.one c.one_take_fault.ensures.none in
      let first = one_first IsAccepted IsFileRefused IsAccepted IsFileRefused agree File files others each in
      one_in_turn input other alike (IsFirstRefused File IsAccepted IsFileRefused files) (IsFirstRefused File IsAccepted IsFileRefused others) first;
  retire = λ input other key digest alike. one_archive input other alike;
  merge = λ input other files others alike each.
      let first = one_first IsArchive IsArchiveRefused IsArchive IsArchiveRefused archives_agree further_name files others each in
      one_in_turn input other alike (IsFirstRefused further_name IsArchive IsArchiveRefused files)
      (IsFirstRefused further_name IsArchive IsArchiveRefused others) first;
  migrate = λ input other alike. one_archive input other alike;
  apply = λ input other ops others alike each. one_in_turn input other alike (IsRefusedOps ops) (IsRefusedOps others)
      (one_at OperationsFile Ops ops others each);
  summary = λ archive other alike. one_archive archive other alike;
  delta = λ archive other named others alike each. one_in_turn archive other alike (IsRefusedSummary named)
      (IsRefusedSummary others) (one_at SummaryFile Summary named others each);
}
