use Rattle.laws_archive.proofs.Viewed.{without_lines}
use Rattle.laws_archive.proofs.report_laws.told_without_lines.Goals as goal

pub returns : goal.returns
returns c = without_lines
