use Rattle.archive_core.proofs.Picked.{part_alike}
use Rattle.archive_core.specs.Part.{part}
use Rattle.command_common.proofs.Parts.{joins_of_parts, merged_alike}
use Rattle.laws_archive.proofs.report_laws.joins_of_parts.Goals as goal

pub returns : goal.returns
returns c = record {
  two = λ o p picks prefix content other short picked. joins_of_parts o p picks prefix content other short picked;
  several = λ o contents picks prefix content are short picked.
      merged_alike prefix picks short picked o (part o picks) contents content are (part_alike o picks prefix picked);
}
